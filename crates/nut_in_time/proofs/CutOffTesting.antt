-- The tests of what a machine hears and a server shows prove it.
use Rattle.std.proofs.Common.{◌≡◌, ◌⊎◌, ◌==◌, ◌||◌, ℕ, ◌-◌, ◌<◌, ◌≤◌, inl, inr, List, [], ◌∷◌, ◌++◌, length, take, Bool, true, false, refl, sym, ◌∙◌, ap, arith}
use Rattle.std.proofs.lemmas.Bool.{and_parts, cases_Bool, eqb-true}
use Rattle.std.proofs.lemmas.List.{length-append}
use Rattle.std.proofs.Math.Seq.{take-append_seam}
use Rattle.nut_monitor_spec.specs.Configuration.{Configuration}
use Rattle.nut_monitor_spec.specs.Event.{Event}
use Rattle.nut_monitor_spec.specs.Trace.{Entry, answer_of, at_status, gives_status, status, trace}
use Rattle.nut_fleet.specs.Schedule.{Step}
use Rattle.nut_fleet.specs.World.{Setup}
use Rattle.nut_in_time.specs.Pace.{Says}
use Rattle.nut_in_time.specs.CutOff.{HearsOnly, ShowsOnly}
use Rattle.nut_in_time.specs.examples.CutOffExamples.{told, told_since}
use Rattle.nut_in_time.specs.Tests.{each_since, if_shown, says, shows_only}
use Rattle.nut_in_time.proofs.Climbing.{always-at}
use Rattle.nut_in_time.proofs.CutOff.{same-unread}
use Rattle.nut_in_time.proofs.Polling.{status-read}
use Rattle.nut_in_time.proofs.RoomSteps.{latest-shorter}
use Rattle.nut_in_time.proofs.Testing.{each-holds, front-append, says-holds}
use Rattle.nut_in_time.proofs.WorkedAnyServers.{always}

or-cases : (a b : Bool) → (a || b) ≡ true → (a ≡ true) ⊎ (b ≡ true)
or-cases true b is = inl refl
or-cases false b is = inr is

pub shows-holds : (setup : Setup) (m i : ℕ) (Words : List (List ℕ) → Bool) (start newest : List Step) → each_since (shows_only setup m i Words) start newest ≡ true →
    ShowsOnly Words setup m start (newest ++ start) i
shows-holds setup m i Words start newest is early within since words shown =
    sym (ap (if_shown Words) shown) ∙ each-holds (shows_only setup m i Words) start newest is early within since

-- The newest events of a monitor are behind those that it had been told before.
pub told-newest : (setup : Setup) (newest start : List Step) → told setup (newest ++ start) ≡ told_since setup newest start ++ told setup start
told-newest setup newest start =
    let all = told setup (newest ++ start) in
    let first = told setup start in
    let grown = always-at setup 0 start (newest ++ start) (λ past. Unit {0}) (λ t. Unit {0}) (front-append newest start) (λ t q. tt) (λ early within since. tt) (λ t q. tt) in
    let long = ap length grown.1 ∙ length-append grown.0 first in
    let count : length all - length first ≡ length grown.0 = omega (arith, long) in
    let same : told_since setup newest start ≡ grown.0 = ap (λ l. take (length all - length first) l) grown.1 ∙ ap (λ n. take n (grown.0 ++ first)) count ∙ take-append_seam grown.0 first in
    grown.1 ∙ ap (λ n. n ++ first) (sym same)

-- ---- the last status is the same if its event has the same number

module _ (configuration : Configuration) (Words : List (List ℕ) → Bool) (first : List Event) (i : ℕ) where
  -- the last status is that of `first`, by the number of its event, or passes the test
  abbrev pub hears_only : List Entry → Bool
  hears_only past = length (at_status i past) == length (at_status i (trace configuration first)) || says Words (status i past)

  same-or_later : (newest : List Event) → ((at_status i (trace configuration (newest ++ first)) ≡ at_status i (trace configuration first))
      ⊎ (length (at_status i (trace configuration first)) < length (at_status i (trace configuration (newest ++ first)))))
      × (length (trace configuration first) ≤ length (trace configuration (newest ++ first)))
  same-or_later [] = (inl refl, omega arith)
  same-or_later (event ∷ newest) =
      let past = trace configuration (newest ++ first) in
      let before = same-or_later newest in
      let long = before.1 in (
        elim (cases_Bool (gives_status i (answer_of configuration past event))) [
          | inl read ↦
              let front = ap length (status-read configuration i 0 0 0 (record { delay = 0; skip = 0 }) (λ words. true) past event read) in
              let short : length (at_status i (trace configuration first)) ≤ length (trace configuration first) = latest-shorter _ (trace configuration first) in
              inr (omega (arith, front, short, long))
          | inr unread ↦
              let same = same-unread configuration i past event unread in
              elim before.0 [
                | inl equal ↦ inl (same ∙ equal)
                | inr more ↦ let at = ap length same in inr (omega (arith, at, more))
              ]
        ],
        omega (arith, long),
      )

  hears-now : (newest : List Event) → hears_only (trace configuration (newest ++ first)) ≡ true →
      (at_status i (trace configuration (newest ++ first)) ≡ at_status i (trace configuration first)) ⊎ Says Words (status i (trace configuration (newest ++ first)))
  hears-now newest is =
      let past = trace configuration (newest ++ first) in
      let at = length (at_status i past) in
      let start = length (at_status i (trace configuration first)) in
      elim (or-cases (at == start) (says Words (status i past)) is) [
        | inr passes ↦ inr (says-holds Words (status i past) passes)
        | inl numbers ↦
            let same = eqb-true at start numbers in
            elim (same-or_later newest).0 [
              | inl equal ↦ inl equal
              | inr more ↦ absurd (omega (arith, same, more))
            ]
      ]

  pub hears-holds : (newest : List Event) → always configuration hears_only first newest ≡ true → HearsOnly configuration Words first newest i
  hears-holds [] is = inl refl
  hears-holds (event ∷ newest) is =
      let parts = and_parts (hears_only (trace configuration (event ∷ (newest ++ first)))) (always configuration hears_only first newest) is in
      (hears-now (event ∷ newest) parts.0, hears-holds newest parts.1)
