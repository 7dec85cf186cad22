-- On each link of a primary whose shutdown begins FSD is put: at once, or once the status that it waits for has come.
use Rattle.std.proofs.Common.{◌≡◌, ◌⊎◌, ℕ, ◌+◌, ◌<◌, ◌≤◌, inl, inr, List, ◌∷◌, length, true, false, Some, refl, arith}
use Rattle.std.proofs.lemmas.Bool.{cases_Bool}
use Rattle.nut_monitor_spec.specs.declared.Query.TheVariants.{Status, Fsd}
use Rattle.nut_monitor_spec.specs.Acceptance.{IsAccepted}
use Rattle.nut_monitor_spec.specs.Configuration.{Configuration, line_in}
use Rattle.nut_monitor_spec.specs.Decision.{is_alone}
use Rattle.nut_monitor_spec.specs.Event.{Event}
use Rattle.nut_monitor_spec.specs.Trace.{Asked, Answer, Entry, answer_of, came, clock, clock_after, entry_of, forced, has_begun, linked, logins, trace}
use Rattle.nut_fleet.proofs.Entries.{is_made}
use Rattle.nut_in_time.specs.Pace.{Pace, IsPolled, IsPrompt}
use Rattle.nut_in_time.proofs.Asking.{Rests, Waits, new, rest-stays, rests-next, wait-comes, waits-on}
use Rattle.nut_in_time.proofs.Awaiting.{FsdWaits, StatusWaits, fsd-first, fsd-next, status-first, status-next}
use Rattle.nut_in_time.proofs.Ending.{clock-entry, clock-grows}
use Rattle.nut_in_time.proofs.Starting.{old-first}

module _ (configuration : Configuration) (i n0 : ℕ) (pace : Pace) where
  -- the last query was for the status
  pub record Opened (past : List Entry) : Type 0 where
    pub last : Asked
    pub is_status : last.query ≡ Status
    pub known : last.moment ≤ clock past
    pub stage : Waits i past last ⊎ Rests i past last

  -- any status query, and FSD within `delay` of the beginning
  abbrev pub Whenever : Asked → List Entry → Type 0
  Whenever last front = Unit {0}

  abbrev pub Promptly : Asked → List Entry → Type 0
  Promptly asked front = asked.moment ≤ clock front + pace.delay

  abbrev pub Led : List Entry → Type 0
  Led past = ((has_begun configuration past ≡ false) × Opened past) ⊎ StatusWaits configuration i n0 Whenever Promptly past ⊎ FsdWaits configuration i n0 Whenever Promptly past

  turns : (last asked : Asked) (front : List Entry) → last.moment ≤ clock front → Whenever last front → asked.moment ≤ last.moment + pace.delay → Promptly asked front
  turns last asked front before any le = omega (arith, before, le)

  module _ (past : List Entry) (event : Event) (within : i < length configuration.lines) (primary : (line_in configuration.lines i).primary ≡ true)
      (long : pace.delay ≤ configuration.host_sync) (made : is_made i event ≡ false) (there : linked i (entry_of configuration past event ∷ past) ≡ true)
      (since : n0 ≤ length past) (prompt : IsPrompt pace i past) (prompt_next : IsPrompt pace i (entry_of configuration past event ∷ past))
      (not_alone : is_alone (logins i (entry_of configuration past event ∷ past)) ≡ true → ⊥)
      (not_forced : forced i (came configuration past event ∷ past) ≡ true → ⊥)
      (not_read : (a : Answer) → answer_of configuration past event ≡ Some a → a.link ≡ i → a.asked.query ≡ Fsd → n0 < a.asked.event → ⊥) where
    abbrev next : List Entry
    next = entry_of configuration past event ∷ past

    abbrev midway : List Entry
    midway = came configuration past event ∷ past

    time : clock (entry_of configuration past event ∷ past) ≡ clock_after event (clock past)
    time = clock-entry configuration past event

    -- while it watches
    rested : has_begun configuration next ≡ false → (last : Asked) → last.query ≡ Status → last.moment ≤ clock past → Rests i midway last → Opened next
    rested not_begun last is_status known r =
        let now = time in
        let grows = clock-grows event (clock past) in
        elim (rests-next configuration i past event last is_status there not_begun r) [
          | inl rests ↦ record { last = last; is_status = is_status; known = omega (arith, now, grows, known); stage = inr rests.0 }
          | inr waits ↦ record { last = new configuration i past event; is_status = refl; known = omega (arith, now); stage = inl waits.0 }
        ]

    opened-next : has_begun configuration next ≡ false → Opened past → Opened next
    opened-next not_begun o =
        let now = time in
        let grows = clock-grows event (clock past) in
        elim o.stage [
          | inl w ↦ elim (wait-comes configuration i past event o.last made w) [
            | inl on ↦ record {
              last = o.last;
              is_status = o.is_status;
              known = omega (arith, now, grows, o.known);
              stage = inl (waits-on configuration i past event o.last on.0);
            }
            | inr come ↦ rested not_begun o.last o.is_status o.known come.0
          ]
          | inr r ↦ let on = rest-stays configuration i past event o.last made r in rested not_begun o.last o.is_status o.known on.0
        ]

    -- the shutdown begins
    begins-next : has_begun configuration past ≡ false → has_begun configuration next ≡ true → Opened past → Led next
    begins-next not_begun began o =
        let now = time in
        let grows = clock-grows event (clock past) in
        let known = o.known in
        elim o.stage [
          | inl w ↦ elim (wait-comes configuration i past event o.last made w) [
            | inl on ↦
                inr (inl (status-first configuration i n0 Whenever Promptly pace turns past event within primary long made there since prompt prompt_next not_alone not_forced not_read
                o.last o.is_status (omega (arith, now, grows, known)) tt (waits-on configuration i past event o.last on.0) not_begun began))
            | inr come ↦ at-once o.last o.is_status come.0
          ]
          | inr r ↦ let on = rest-stays configuration i past event o.last made r in at-once o.last o.is_status on.0
        ]
      where
        at-once : (last : Asked) → last.query ≡ Status → Rests i midway last → Led next
        at-once last is_status r =
            let now = time in
            inr (inr (fsd-first configuration i n0 Whenever Promptly pace turns past event within primary long made there since prompt prompt_next not_alone not_forced not_read
            last is_status r (omega (arith, now)) not_begun began))

    pub led-next : Led past → Led next
    led-next (inl before) = elim (cases_Bool (has_begun configuration next)) [
      | inr f ↦ inl (f, opened-next f before.1)
      | inl t ↦ begins-next before.0 t before.1
    ]
    led-next (inr (inl w)) = inr (status-next configuration i n0 Whenever Promptly pace turns past event within primary long made there since prompt prompt_next not_alone not_forced not_read w)
    led-next (inr (inr a)) = inr (inr (fsd-next configuration i n0 Whenever Promptly pace turns past event within primary long made there since prompt prompt_next not_alone not_forced not_read a))

-- a link that was polled when the shutdown hadn't begun
pub opened-first : (configuration : Configuration) (i n0 : ℕ) (pace : Pace) (told : List Event) → IsAccepted configuration told → linked i (trace configuration told) ≡ true →
    has_begun configuration (trace configuration told) ≡ false → IsPolled i (trace configuration told) → Opened configuration i n0 pace (trace configuration told)
opened-first configuration i n0 pace told accepted there not_begun polled =
    let old = old-first configuration i told n0 0 pace (λ words. true) accepted there not_begun polled in
    record { last = old.last; is_status = old.is_status; known = old.early; stage = elim old.stage [ inl w ↦ inl w | inr r ↦ inr r.0 ] }
