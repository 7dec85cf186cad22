-- Machines whose links come back: each link is opened first, and then its UPS's status is asked for.
use Rattle.std.proofs.Common.{◌≡◌, ◌⊎◌, ℕ, suc, ◌+◌, ◌*◌, ◌<◌, ◌≤◌, inl, inr, List, ◌∷◌, length, Bool, true, false, refl, subst, arith}
use Rattle.nut_monitor_spec.specs.Configuration.{Configuration, line_in}
use Rattle.nut_monitor_spec.specs.declared.Query.TheVariants.{Status}
use Rattle.nut_monitor_spec.specs.Event.{Event}
use Rattle.nut_monitor_spec.specs.Trace.{Entry, answer_of, clock, clock_after, critical, entry_of, has_begun, linked, status, trace}
use Rattle.nut_fleet.specs.Schedule.{Step}
use Rattle.nut_fleet.specs.World.{Setup, monitor_of, world}
use Rattle.nut_fleet.specs.Fleet.{IsSetup}
use Rattle.nut_fleet.proofs.Entries.{entry-answer, is_made, length-trace}
use Rattle.nut_fleet.proofs.Fronts.{front-self}
use Rattle.nut_fleet.proofs.Sound.{IsLawful}
use Rattle.nut_fleet.proofs.Worlds.{sound}
use Rattle.nut_in_time.specs.Pace.{Pace, IsPrompt, Says, seen_at}
use Rattle.nut_in_time.specs.InTime.{BeginsBy, has_fsd, is_low, turn}
use Rattle.nut_in_time.specs.Returning.{ReturningForcedStop, ReturningPrimariesStop, StopsLater, turn_again}
use Rattle.nut_in_time.proofs.Asking.{not-made, waits-soon}
use Rattle.nut_in_time.proofs.Beginning.{Knows, begin-as, fsd-critical, low-critical}
use Rattle.nut_in_time.proofs.Climbing.{front-of}
use Rattle.nut_in_time.proofs.Ending.{clock-entry, halted-by_then, if-not}
use Rattle.nut_in_time.proofs.Lasting.{Chosen, begun-before}
use Rattle.nut_in_time.proofs.Opening.{Opens, full, opened-polled, opens-early, opens-next, state-first, times, times-four, times-three}
use Rattle.nut_in_time.proofs.Polling.{Current, IsGiven, Polls, late-next, late-now, polls-next}
use Rattle.nut_in_time.proofs.Starting.{old-first}

-- at most four answers open a link
four-open : (primary : Bool) (delay : ℕ) → times (full primary) delay ≤ 4 * delay
four-open primary delay = grind (arith, times-four, times-three)

-- the link is opened, or the status is asked for
abbrev Comes : Configuration → ℕ → ℕ → ℕ → ℕ → Pace → (List (List ℕ) → Bool) → List Entry → Type 0
Comes configuration i n0 t0 turn pace Words past = Opens configuration i t0 pace past ⊎ Polls configuration i n0 t0 turn pace Words past

module _ (configuration : Configuration) (i n0 t0 turn : ℕ) (pace : Pace) (Words : List (List ℕ) → Bool) (turned : configuration.poll_freq + pace.skip ≤ turn)
    (soon : pace.delay ≤ turn) (opening : 4 * pace.delay ≤ turn) where
  abbrev Here : List Entry → Type 0
  Here past = Comes configuration i n0 t0 turn pace Words past

  -- while it is opened, the time for that isn't over
  early : (past : List Entry) → IsPrompt pace i past → Opens configuration i t0 pace past → clock past ≤ t0 + turn
  early past prompt opens =
      let le = opens-early configuration i t0 pace past prompt opens in
      let most = four-open (line_in configuration.lines i).primary pace.delay in
      omega (arith, le, most, opening)

  module _ (past : List Entry) (event : Event) where
    abbrev next : List Entry
    next = entry_of configuration past event ∷ past

    comes-next : is_made i event ≡ false → linked i next ≡ true → has_begun configuration next ≡ false → clock next ≤ clock past + suc pace.skip →
        IsPrompt pace i past → IsGiven i n0 Words (answer_of configuration past event) → n0 ≤ length past → Here past → Here next
    comes-next made there not_begun steady prompt given since (inr polls) =
        inr (polls-next configuration i n0 t0 turn pace Words past event turned soon made there not_begun steady prompt given since polls)
    comes-next made there not_begun steady prompt given since (inl opens) =
        elim (opens-next configuration i t0 pace past event made there not_begun prompt opens) [
          | inl on ↦ inl on
          | inr put ↦
              let le = put.1 in
              let most = four-open (line_in configuration.lines i).primary pace.delay in
              let now = clock-entry configuration past event in
              inr (inr (inl (record {
                last = record { query = Status; moment = clock_after event (clock past); event = suc (length past) };
                is_status = refl;
                after = omega (arith, since);
                known = omega (arith, now);
                soon = omega (arith, le, most, opening);
                waits = put.0;
              })))
        ]

    comes-late : is_made i event ≡ false → clock next ≤ clock past + suc pace.skip → IsPrompt pace i past → Here past → IsPrompt pace i next →
        t0 + turn + pace.delay < clock next → Current configuration i n0 t0 turn pace Words past
    comes-late made steady prompt (inr polls) prompt_next late = late-next configuration i n0 t0 turn pace Words past event turned made steady prompt polls prompt_next late
    comes-late made steady prompt (inl opens) prompt_next late =
        let in_time = waits-soon configuration i past event pace opens.last made opens.waits prompt prompt_next in
        let most = four-open (line_in configuration.lines i).primary pace.delay in
        absurd (omega (arith, opens.soon, most, opening, in_time, late))

  comes-now : (past : List Entry) → IsPrompt pace i past → Here past → t0 + turn + pace.delay < clock past → Current configuration i n0 t0 turn pace Words past
  comes-now past prompt (inr polls) late = late-now configuration i n0 t0 turn pace Words past turned polls prompt late
  comes-now past prompt (inl opens) late = let le = early past prompt opens in absurd (omega (arith, le, late))

module _ (configuration : Configuration) (n0 t0 turn : ℕ) (pace : Pace) (Words : List (List ℕ) → Bool) (low : ℕ → Bool) where
  record Return (told : List Event) : Type 0 where
    pub long : n0 ≤ length told
    pub comes : has_begun configuration (trace configuration told) ≡ false → Chosen configuration low (λ i. Comes configuration i n0 t0 turn pace Words (trace configuration told))

  returns-know : configuration.poll_freq + pace.skip ≤ turn → pace.delay ≤ turn → 4 * pace.delay ≤ turn → Knows configuration n0 t0 turn pace Words low Return
  returns-know turned soon opening = record {
    next = λ told event before now steady r.
        let past = trace configuration told in
        let count = length-trace configuration told in
        record {
          long = omega (arith, r.long);
          comes = λ not_begun i within is.
              let g = now i within is in
              let b = before i within is in
              comes-next configuration i n0 t0 turn pace Words turned soon opening past event
              (not-made configuration told event i within g.accepted.1 b.there) g.there not_begun steady b.prompt
              (subst (λ o. IsGiven i n0 Words o) (entry-answer configuration past event) g.given.0) (omega (arith, r.long, count))
              (r.comes (begun-before configuration past (entry_of configuration past event) not_begun) i within is);
        };
    before = λ told event before now steady not_begun r late i within is.
        let g = now i within is in
        let b = before i within is in
        comes-late configuration i n0 t0 turn pace Words turned soon opening (trace configuration told) event
        (not-made configuration told event i within g.accepted.1 b.there) steady b.prompt (r.comes not_begun i within is) g.prompt late;
    now = λ told good not_begun r late i within is.
        comes-now configuration i n0 t0 turn pace Words turned soon opening (trace configuration told) (good i within is).prompt (r.comes not_begun i within is) late;
  }

stops-later : (setup : Setup) → IsLawful setup.server → IsSetup setup → (pace : Pace) (m : ℕ) (Words : List (List ℕ) → Bool) (low : ℕ → Bool) (start middle schedule : List Step) →
    ((past : List Entry) → Chosen (monitor_of setup m) low (λ i. Says Words (status i past) → critical (monitor_of setup m) i past ≡ true)) →
    StopsLater setup pace m Words low start middle schedule
stops-later setup law fine pace m Words low start middle schedule urgent within returns steady =
    let config = monitor_of setup m in
    let n0 = length ((world setup start).monitor m) in
    let t0 = clock (seen_at setup m start) in
    let most = turn_again config pace in
    let late = clock (seen_at setup m start) + most + pace.delay in
    let begins : BeginsBy config late late (seen_at setup m middle) =
    begin-as setup law fine middle pace m Words low start most returns.front (λ step early inside since. steady step early (front-of (step ∷ early) middle schedule inside within) since)
    returns.needs returns.keeps returns.shows urgent
    (Return config n0 t0 most pace Words low) (returns-know config n0 t0 most pace Words low (omega arith) (omega arith) (omega arith)) first in (
      begins,
      λ over.
          let began : has_begun config (seen_at setup m middle) ≡ true =
          if-not (has_begun config (seen_at setup m middle)) (λ f. begins.begins (over f)) in
          halted-by_then setup schedule pace m start middle late returns.front within (omega arith) began (begins.began began),
    )
  where
    first : Return (monitor_of setup m) (length ((world setup start).monitor m)) (clock (seen_at setup m start)) (turn_again (monitor_of setup m) pace) pace Words low ((world setup start).monitor m)
    first = record {
      long = omega arith;
      comes = λ not_begun i less is.
          let config = monitor_of setup m in
          let told = (world setup start).monitor m in
          let k = returns.keeps i less is in
          let there = k.linked start returns.front (front-self start) in
          let accepted = ((sound setup law fine start).monitors m).accepted in
          elim (state-first config i (clock (seen_at setup m start)) pace told accepted there not_begun (omega arith)) [
            | inl opened ↦ inr (inl (old-first config i told (length told) (turn_again config pace) pace Words accepted there not_begun
                (opened-polled config i (clock (seen_at setup m start)) pace (trace config told) opened)))
            | inr opens ↦ inl opens
          ];
    }

pub returning-primaries : (setup : Setup) → IsLawful setup.server → IsSetup setup → (schedule : List Step) → ReturningPrimariesStop setup schedule
returning-primaries setup law fine schedule pace m low start middle primaries =
    stops-later setup law fine pace m is_low low start middle schedule (λ past i within is says. low-critical (monitor_of setup m) i past says (inl (primaries i within is)))

pub returning-forced : (setup : Setup) → IsLawful setup.server → IsSetup setup → (schedule : List Step) → ReturningForcedStop setup schedule
returning-forced setup law fine schedule pace m low start middle =
    stops-later setup law fine pace m has_fsd low start middle schedule (λ past i within is says. fsd-critical (monitor_of setup m) i past says)
