-- A machine whose UPSes may be at several servers stops by what it reads.
use Rattle.std.proofs.Common.{◌≡◌, ℕ, suc, ◌+◌, ◌≤◌, inl, List, [], ◌∷◌, ◌++◌, length, Bool, true, refl, ◌∙◌, ap, arith}
use Rattle.nut_monitor_spec.specs.Acceptance.{IsAccepted}
use Rattle.nut_monitor_spec.specs.Configuration.{Configuration}
use Rattle.nut_monitor_spec.specs.Event.{Event}
use Rattle.nut_monitor_spec.specs.Trace.{Entry, begun, clock, critical, entry_of, has_begun, is_any, is_over_at, is_short, linked, status, trace}
use Rattle.nut_in_time.specs.AnyServers.{Always, EachGiven, IsEven, IsTold, MachinesStopAsTold, StopsBy}
use Rattle.nut_in_time.specs.Pace.{Pace, IsPolled, IsPrompt, Says}
use Rattle.nut_in_time.specs.InTime.{BeginsBy, has_fsd, is_low, secondary_by, seen_by, turn}
use Rattle.nut_in_time.proofs.Beginning.{fsd-critical, lasts-know, low-critical, begins-by}
use Rattle.nut_in_time.proofs.Calming.{seen-first, late-by}
use Rattle.nut_in_time.proofs.Ending.{EndsInTime, earliest-sooner, earliest-stays, ends-next, halted-then}
use Rattle.nut_in_time.proofs.Lasting.{AllGood, Chosen, Lasts, Along}
use Rattle.nut_in_time.proofs.Starting.{old-first}

pub always-now : (configuration : Configuration) (Holds : List Entry → Type 0) (first newest : List Event) → Always configuration Holds first newest →
    Holds (trace configuration (newest ++ first))
always-now configuration Holds first [] h = h
always-now configuration Holds first (event ∷ newest) h = h.0

-- Final began in time, as long as the clock goes evenly.
ends-even : (configuration : Configuration) (pace : Pace) (t0 : ℕ) (first newest : List Event) → IsEven configuration pace first newest →
    EndsInTime configuration pace.skip t0 (trace configuration first) → EndsInTime configuration pace.skip t0 (trace configuration (newest ++ first))
ends-even configuration pace t0 first [] even before = before
ends-even configuration pace t0 first (event ∷ newest) even before =
    let past = trace configuration (newest ++ first) in
    ends-next configuration pace.skip t0 (entry_of configuration past event) past even.0 (ends-even configuration pace t0 first newest even.1 before)

-- A shutdown that has begun keeps its beginning.
pub begun-on : (configuration : Configuration) (told later : List Event) → has_begun configuration (trace configuration told) ≡ true →
    begun configuration (trace configuration (later ++ told)) ≡ begun configuration (trace configuration told)
begun-on configuration told [] any = refl
begun-on configuration told (event ∷ later) any =
    let past = trace configuration (later ++ told) in
    let same = begun-on configuration told later any in
    earliest-stays (is_short configuration) (entry_of configuration past event) past (ap is_any same ∙ any) ∙ same

-- A shutdown that begins in time continues to Halted.
pub stops-by : (configuration : Configuration) (pace : Pace) (by more : ℕ) (first newest later : List Event) → IsEven configuration pace first newest →
    clock (trace configuration first) ≤ by → BeginsBy configuration by (by + more) (trace configuration (newest ++ first)) →
    StopsBy configuration pace by more (newest ++ first) later
stops-by configuration pace by more first newest later even young b = (
  b,
  λ began still late.
      let told = newest ++ first in
      let t0 = clock (trace configuration first) in
      let same = begun-on configuration told later began in
      let at = ap clock same in
      let le = b.began began in
      let sooner = earliest-sooner (is_over_at configuration) (trace configuration first) in
      halted-then configuration pace (trace configuration (later ++ told)) t0 (by + more)
      (ends-even configuration pace t0 told later still (ends-even configuration pace t0 first newest even (λ any. inl sooner))) (omega (arith, young))
      (ap is_any same ∙ began) (omega (arith, at, le)) late,
)

module _ (configuration : Configuration) (pace : Pace) (Words : List (List ℕ) → Bool) (low : ℕ → Bool) (first : List Event) where
  abbrev Keeps : List Event → Type 0
  Keeps newest = Chosen configuration low (λ i. Always configuration (λ past. (linked i past ≡ true) × IsPrompt pace i past) first newest)

  abbrev Given : List Event → Type 0
  Given newest = Chosen configuration low (λ i. EachGiven i (length first) Words (trace configuration (newest ++ first)))

  good : (newest : List Event) → IsAccepted configuration (newest ++ first) → Keeps newest → Given newest → AllGood configuration (length first) pace Words low (newest ++ first)
  good newest accepted keeps says i less is = grind (arith, always-now)

  since : (newest : List Event) → IsAccepted configuration (newest ++ first) → IsEven configuration pace first newest → Keeps newest → Given newest →
      Along configuration (length first) pace Words low first (newest ++ first)
  since [] accepted even keeps says P base on = base
  since (event ∷ newest) accepted even keeps says P base on =
      let keeps' : Keeps newest = λ i less is. (keeps i less is).1 in
      let says' : Given newest = λ i less is. (says i less is).1 in
      on (newest ++ first) event (good newest accepted.0 keeps' says') (good (event ∷ newest) accepted keeps says) even.0 (since newest accepted.0 even.1 keeps' says' P base on)

  -- at the beginning
  lasts-at : (turn : ℕ) → AllGood configuration (length first) pace Words low first → Chosen configuration low (λ i. IsPolled i (trace configuration first)) →
      Lasts configuration (length first) (clock (trace configuration first)) turn pace Words low first
  lasts-at turn good_first polled = grind (arith, old-first)

-- the links of a machine that is told so, at the beginning and at the end
module _ (configuration : Configuration) (pace : Pace) (Words : List (List ℕ) → Bool) (low : ℕ → Bool) (first newest : List Event) (is : IsTold configuration pace Words low first newest) where
  all-keep : Keeps configuration pace Words low first newest
  all-keep i less l = (is.lines i less l).1

  all-given : Given configuration pace Words low first newest
  all-given i less l = (is.lines i less l).2

  good-now : AllGood configuration (length first) pace Words low (newest ++ first)
  good-now = good configuration pace Words low first newest is.accepted all-keep all-given

  good-first : AllGood configuration (length first) pace Words low first
  good-first = by newest is.accepted is.even all-keep all-given
    where
      by : (newest : List Event) → IsAccepted configuration (newest ++ first) → IsEven configuration pace first newest → Keeps configuration pace Words low first newest →
          Given configuration pace Words low first newest → AllGood configuration (length first) pace Words low first
      by [] accepted even keeps says = good configuration pace Words low first [] accepted keeps says
      by (event ∷ newest) accepted even keeps says = by newest accepted.0 even.1 (λ i less l. (keeps i less l).1) (λ i less l. (says i less l).1)

  lasts-first : (turn : ℕ) → Lasts configuration (length first) (clock (trace configuration first)) turn pace Words low first
  lasts-first turn = lasts-at configuration pace Words low first turn good-first (λ i less l. (is.lines i less l).0)

  along : Along configuration (length first) pace Words low first (newest ++ first)
  along = since configuration pace Words low first newest is.accepted is.even all-keep all-given

  -- lines whose words are critical at once
  at-once : ((past : List Entry) → Chosen configuration low (λ i. Says Words (status i past) → critical configuration i past ≡ true)) →
      BeginsBy configuration (seen_by configuration pace (clock (trace configuration first))) (seen_by configuration pace (clock (trace configuration first)) + 0) (trace configuration (newest ++ first))
  at-once urgent =
      let n0 = length first in
      let t0 = clock (trace configuration first) in
      let most = turn configuration pace in
      let b = begins-by configuration n0 t0 most pace Words low is.needs urgent (Lasts configuration n0 t0 most pace Words low) (lasts-know configuration n0 t0 most pace Words low (omega arith) (omega arith))
      first (newest ++ first) (omega arith) (lasts-first most) good-now along in
      record { begins = b.begins; began = λ any. let le = b.began any in omega (arith, le) }

pub machines-stop : (configuration : Configuration) (pace : Pace) (low : ℕ → Bool) → MachinesStopAsTold configuration pace low
machines-stop configuration pace low = record {
  primaries = λ first newest later is primary.
      stops-by configuration pace (seen_by configuration pace (clock (trace configuration first))) 0 first newest later is.even (omega arith)
      (at-once configuration pace is_low low first newest is (λ past i less l says. low-critical configuration i past says (inl (primary i less l))));
  secondaries = λ known first newest later is has_status.
      let seen = seen-first configuration pace known (clock (trace configuration first)) in
      stops-by configuration pace (secondary_by configuration pace known (clock (trace configuration first))) (suc pace.skip) first newest later is.even (omega (arith, seen))
      (late-by configuration pace known low first (newest ++ first) is.needs (lasts-first configuration pace is_low low first newest is (turn configuration pace)) has_status
      (good-now configuration pace is_low low first newest is) (along configuration pace is_low low first newest is));
  forced = λ first newest later is none.
      stops-by configuration pace (seen_by configuration pace (clock (trace configuration first))) 0 first newest later is.even (omega arith)
      (at-once configuration pace has_fsd low first newest is (λ past i less l says. fsd-critical configuration i past says));
}
