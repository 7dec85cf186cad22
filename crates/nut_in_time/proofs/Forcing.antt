-- A primary whose shutdown has begun puts FSD once the status that it waits for has come.
use Rattle.std.proofs.Common.{◌≡◌, ◌⊎◌, ℕ, suc, ◌+◌, ◌<◌, ◌≤◌, inl, inr, List, ◌∷◌, length, Bool, true, false, Option, Some, arith}
use Rattle.std.proofs.lemmas.Bool.{cases_Bool, ltb-false, ltb-true}
use Rattle.nut_monitor_spec.specs.declared.Query.TheVariants.{Status, Fsd}
use Rattle.nut_monitor_spec.specs.declared.StatusFlags.{StatusFlags}
use Rattle.nut_monitor_spec.specs.Configuration.{Configuration, Line, line_in}
use Rattle.nut_monitor_spec.specs.Decision.{is_alone, is_critical}
use Rattle.nut_monitor_spec.specs.Event.{Event}
use Rattle.nut_monitor_spec.specs.Trace.{Asked, Answer, Entry, clock, clock_after, linked, at_status, calm, critical, polled, forced, logins, has_begun, answer_of, came, entry_of}
use Rattle.nut_fleet.proofs.Entries.{is_made}
use Rattle.nut_in_time.specs.Pace.{Pace, IsPrompt}
use Rattle.nut_in_time.proofs.Asking.{Waits, Rests, wait-comes, rest-stays, waits-on, read-soon}
use Rattle.nut_in_time.proofs.Ending.{clock-entry}
use Rattle.nut_in_time.proofs.Polling.{Polls, Current, status-unread}
use Rattle.nut_in_time.proofs.Awaiting.{FsdWaits, StatusWaits, fsd-first, fsd-next, status-first, status-next}

-- ---- a primary's UPS becomes critical though no status was read

-- more than DEADTIME had passed since the last status
abbrev pub IsGone : Configuration → ℕ → List Entry → Type 0
IsGone configuration i past = polled i past + configuration.dead_time < clock past

gone-flags : (configuration : Configuration) (line : Line) (time time' calm calm' polled : ℕ) (flags : Option StatusFlags) → line.primary ≡ true →
    is_critical configuration line time calm polled flags ≡ false → is_critical configuration line time' calm' polled flags ≡ true →
    (time ≤ polled + configuration.dead_time) × (polled + configuration.dead_time < time')
gone-flags configuration line time time' calm calm' polled flags primary a b = grind (arith, time, ltb-false, ltb-true)

-- It becomes so by the clock, which moves beyond DEADTIME.
pub gone-now : (configuration : Configuration) (i : ℕ) (past : List Entry) (event : Event) → (line_in configuration.lines i).primary ≡ true →
    at_status i (entry_of configuration past event ∷ past) ≡ at_status i past → critical configuration i past ≡ false →
    critical configuration i (entry_of configuration past event ∷ past) ≡ true →
    (clock past < clock (entry_of configuration past event ∷ past)) × IsGone configuration i (entry_of configuration past event ∷ past)
gone-now configuration i past event primary same tame now = grind (arith, gone-flags)

-- ---- from its last status query to its FSD

module _ (configuration : Configuration) (i n0 t0 turn : ℕ) (pace : Pace) (Words : List (List ℕ) → Bool) where
  -- The status query was put by t0 + `turn`, before the shutdown began, and that was since DEADTIME was over.
  abbrev pub Early : Asked → List Entry → Type 0
  Early last front = (last.moment ≤ t0 + turn) × (last.moment < clock front) × IsGone configuration i front

  -- FSD was put as the shutdown began, or, if that was since DEADTIME was over, within `delay`.
  abbrev pub Soon : Asked → List Entry → Type 0
  Soon asked front = (asked.moment ≤ t0 + turn + pace.delay)
      × ((asked.moment ≤ clock front) ⊎ (IsGone configuration i front × (asked.moment < clock front + pace.delay)))

  abbrev pub Track : List Entry → Type 0
  Track past = (has_begun configuration past ≡ false) ⊎ StatusWaits configuration i n0 Early Soon past ⊎ FsdWaits configuration i n0 Early Soon past

  turns : (last asked : Asked) (front : List Entry) → last.moment ≤ clock front → Early last front → asked.moment ≤ last.moment + pace.delay → Soon asked front
  turns last asked front before is le = let early = is.0 in let lt = is.1 in (omega (arith, early, le), inr (is.2, omega (arith, lt, le)))

  module _ (past : List Entry) (event : Event) (within : i < length configuration.lines) (primary : (line_in configuration.lines i).primary ≡ true)
      (turned : configuration.poll_freq + pace.skip ≤ turn) (long : pace.delay ≤ configuration.host_sync)
      (made : is_made i event ≡ false) (there : linked i (entry_of configuration past event ∷ past) ≡ true)
      (steady : clock (entry_of configuration past event ∷ past) ≤ clock past + suc pace.skip) (from : t0 ≤ clock past) (since : n0 ≤ length past)
      (prompt : IsPrompt pace i past) (prompt_next : IsPrompt pace i (entry_of configuration past event ∷ past))
      (not_alone : is_alone (logins i (entry_of configuration past event ∷ past)) ≡ true → ⊥)
      (not_forced : forced i (came configuration past event ∷ past) ≡ true → ⊥)
      (not_read : (a : Answer) → answer_of configuration past event ≡ Some a → a.link ≡ i → a.asked.query ≡ Fsd → n0 < a.asked.event → ⊥)
      (tame : has_begun configuration past ≡ false → critical configuration i past ≡ false)
      (wild : has_begun configuration past ≡ false → has_begun configuration (entry_of configuration past event ∷ past) ≡ true →
      critical configuration i (entry_of configuration past event ∷ past) ≡ true) where
    abbrev next : List Entry
    next = entry_of configuration past event ∷ past

    abbrev midway : List Entry
    midway = came configuration past event ∷ past

    time : clock (entry_of configuration past event ∷ past) ≡ clock_after event (clock past)
    time = clock-entry configuration past event

    -- FSD is put on a link that rests, in the second in which the shutdown begins
    at-once : (last : Asked) → last.query ≡ Status → Rests i midway last → has_begun configuration past ≡ false → has_begun configuration next ≡ true →
        clock_after event (clock past) ≤ t0 + turn + pace.delay → Track next
    at-once last is_status r not_begun began early =
        let now = time in
        inr (inr (fsd-first configuration i n0 Early Soon pace turns past event within primary long made there since prompt prompt_next not_alone not_forced not_read
        last is_status r (early, inl (omega (arith, now))) not_begun began))

    -- The shutdown begins while a status query waits: its answer comes just then, or DEADTIME is over.
    begins-waiting : (last : Asked) → last.query ≡ Status → last.moment ≤ t0 + turn → last.moment ≤ clock past → Waits i past last →
        has_begun configuration past ≡ false → has_begun configuration next ≡ true → Track next
    begins-waiting last is_status early known w not_begun began = elim (wait-comes configuration i past event last made w) [
      | inl on ↦
          let gone = gone-now configuration i past event primary (status-unread configuration i n0 t0 turn pace Words past event on.1) (tame not_begun) (wild not_begun began) in
          let moved = gone.0 in
          inr (inl (status-first configuration i n0 Early Soon pace turns past event within primary long made there since prompt prompt_next not_alone not_forced not_read
          last is_status (omega (arith, moved, known)) (early, omega (arith, moved, known), gone.1) (waits-on configuration i past event last on.0) not_begun began))
      | inr come ↦
          let in_time = read-soon configuration i past event pace last prompt w come.1 in
          at-once last is_status come.0 not_begun began (omega (arith, in_time, early))
    ]

    -- the shutdown begins
    begins-next : has_begun configuration past ≡ false → has_begun configuration next ≡ true → (Current configuration i n0 t0 turn pace Words past → ⊥) →
        Polls configuration i n0 t0 turn pace Words past → Track next
    begins-next not_begun began stale polls =
        let now = time in
        elim polls [
          | inl old ↦
              let early = old.early in
              elim old.stage [
                | inl w ↦ begins-waiting old.last old.is_status (omega (arith, early)) (omega (arith, early, from)) w not_begun began
                | inr r ↦
                    let lt = r.1 in
                    let on = rest-stays configuration i past event old.last made r.0 in
                    at-once old.last old.is_status on.0 not_begun began (omega (arith, now, steady, lt, early, turned))
              ]
          | inr (inl first) ↦ begins-waiting first.last first.is_status first.soon first.known first.waits not_begun began
          | inr (inr c) ↦ absurd (stale c)
        ]

    pub track-next : ((has_begun configuration past ≡ false) → (Current configuration i n0 t0 turn pace Words past → ⊥) × Polls configuration i n0 t0 turn pace Words past) →
        Track past → Track next
    track-next polls (inl not_begun) = elim (cases_Bool (has_begun configuration next)) [
      | inr f ↦ inl f
      | inl t ↦ let p = polls not_begun in begins-next not_begun t p.0 p.1
    ]
    track-next polls (inr (inl w)) =
        inr (status-next configuration i n0 Early Soon pace turns past event within primary long made there since prompt prompt_next not_alone not_forced not_read w)
    track-next polls (inr (inr a)) =
        inr (inr (fsd-next configuration i n0 Early Soon pace turns past event within primary long made there since prompt prompt_next not_alone not_forced not_read a))
