-- What proofs about rooms need of a step at which a shutdown is forced, of phases, and of links that are polled.
use Rattle.std.proofs.Common.{◌≡◌, ℕ, ◌≤◌, inl, inr, List, [], ◌∷◌, length, Bool, true, false, Some, sym, ◌∙◌, ap, arith}
use Rattle.std.proofs.lemmas.Bool.{cases_Bool}
use Rattle.nut_monitor_spec.specs.declared.LastQuery.{LastQuery}
use Rattle.nut_monitor_spec.specs.declared.Phase.{Phase}
use Rattle.nut_monitor_spec.specs.declared.Phase.TheVariants.{Halted}
use Rattle.nut_monitor_spec.specs.declared.Query.TheVariants.{Status}
use Rattle.nut_monitor_spec.specs.Configuration.{Configuration}
use Rattle.nut_monitor_spec.specs.Decision.{is_halted}
use Rattle.nut_monitor_spec.specs.Event.{Event}
use Rattle.nut_monitor_spec.specs.Trace.{Asked, Entry, clock, latest, earliest, last_in, queries, phase, begun, has_begun, is_short, ended, has_ended, is_over_at, entry_of, trace}
use Rattle.nut_fleet.specs.Schedule.{Step, IsFront}
use Rattle.nut_fleet.specs.World.{Setup, monitor_of}
use Rattle.nut_in_time.specs.Pace.{Pace, IsPolled, KeepsPace, seen_at}
use Rattle.nut_in_time.specs.Room.{KeepsStep, is_forced}
use Rattle.nut_in_time.proofs.Climbing.{each-event, front-of}
use Rattle.nut_in_time.proofs.Ending.{clock-entry, clock-grows, earliest-now, earliest-stays, ended-begun, latest-keeps, begun-by}
use Rattle.nut_in_time.proofs.Polling.{Polls}
use Rattle.nut_fleet.proofs.Shutdowns.{empty-any, earliest-keeps}

-- ---- a step at which a shutdown is forced

pub stood : (setup : Setup) (u m : ℕ) (step : Step) (early : List Step) → is_forced setup u early ≡ false → is_forced setup u (step ∷ early) ≡ true →
    clock (seen_at setup m (step ∷ early)) ≡ clock (seen_at setup m early)
stood setup u m step early none now = grind arith

-- ---- phases

pub is-halted : (now : Phase) (flag : Bool) → now ≡ Halted flag → is_halted now ≡ true
is-halted now flag is = ap is_halted is

pub not-ended : (configuration : Configuration) (past : List Entry) → has_ended configuration past ≡ false → is_halted (phase configuration past) ≡ false
not-ended configuration past none = grind (arith, empty-any)

-- the shutdown began at the same time by the past of Final
pub begun-ending : (configuration : Configuration) (past : List Entry) → has_ended configuration past ≡ true →
    begun configuration (ended configuration past) ≡ begun configuration past
begun-ending configuration [] any = cc
begun-ending configuration (e ∷ p) any = elim (cases_Bool (has_ended configuration p)) [
  | inl before ↦
      ap (begun configuration) (earliest-stays (is_over_at configuration) e p before)
      ∙ begun-ending configuration p before
      ∙ sym (earliest-stays (is_short configuration) e p (ended-begun configuration p before))
  | inr not_before ↦ ap (begun configuration) (earliest-now (is_over_at configuration) e p not_before any).0
]

-- a shutdown that hadn't begun at a time begins no earlier than that
pub begins-later : (setup : Setup) (m : ℕ) (early late : List Step) → IsFront early late → has_begun (monitor_of setup m) (seen_at setup m early) ≡ false →
    has_begun (monitor_of setup m) (seen_at setup m late) ≡ true → clock (seen_at setup m early) ≤ clock (begun (monitor_of setup m) (seen_at setup m late))
begins-later setup m early late front none any =
    (each-event setup m early late P front (omega arith, λ is. let bad : false ≡ true = sym none ∙ is in cc) on).1 any
  where
    P : List Event → Type 0
    P told = (clock (seen_at setup m early) ≤ clock (trace (monitor_of setup m) told))
        × (has_begun (monitor_of setup m) (trace (monitor_of setup m) told) ≡ true → clock (seen_at setup m early) ≤ clock (begun (monitor_of setup m) (trace (monitor_of setup m) told)))

    on : (told : List Event) (event : Event) → P told → P (event ∷ told)
    on told event x =
        let config = monitor_of setup m in
        let past = trace config told in
        let entry = entry_of config past event in
        let time = clock-entry config past event in
        let grows = clock-grows event (clock past) in
        let le = x.0 in (
          omega (arith, time, grows, le),
          begun-by config entry past (λ front. clock (seen_at setup m early) ≤ clock front) x.1 (λ was_not. omega (arith, time, grows, le)),
        )

pub latest-shorter : (test : Entry → List Entry → Bool) (past : List Entry) → length (latest test past) ≤ length past
latest-shorter test past = latest-keeps (λ front. length front ≤ length past) (λ x front le. omega (arith, le)) test past (omega arith)

pub earliest-shorter : (test : List Entry → Bool) (past : List Entry) → length (earliest test past) ≤ length past
earliest-shorter test past = earliest-keeps (λ front. length front ≤ length past) test (omega arith) (λ x front le. omega (arith, le)) past (omega arith)

-- ---- a link on which the last query was for the status

pub status-last : (i : ℕ) (past : List Entry) (last : Asked) (older : List Asked) → queries i past ≡ last ∷ older → last.query ≡ Status → IsPolled i past
status-last i past last older is status =
    (last.moment, ap last_in is ∙ ap (λ q. Some (let x : LastQuery = record { query = q; moment = last.moment } in x)) status)

pub polls-polled : (configuration : Configuration) (i n0 t0 most : ℕ) (pace : Pace) (Words : List (List ℕ) → Bool) (past : List Entry) →
    Polls configuration i n0 t0 most pace Words past → IsPolled i past
polls-polled configuration i n0 t0 most pace Words past is = grind (arith, status-last)

-- ---- up to an earlier time

pub pace-front : (setup : Setup) (pace : Pace) (m i : ℕ) (start early late : List Step) → IsFront early late → KeepsPace setup pace m i start late →
    KeepsPace setup pace m i start early
pace-front setup pace m i start early late inside k = grind (arith, front-of)

pub step-front : (setup : Setup) (pace : Pace) (drift p m : ℕ) (start early late : List Step) → IsFront early late → KeepsStep setup pace drift p m start late →
    KeepsStep setup pace drift p m start early
step-front setup pace drift p m start early late inside k = record {
  steady = λ step e within from. k.steady step e (front-of (step ∷ e) early late within inside) from;
  keeps = λ i less led. pace-front setup pace m i start early late inside (k.keeps i less led);
  both_ends = λ i less led e within from. k.both_ends i less led e (front-of e early late within inside) from;
  ahead = λ one other from to within. k.ahead one other from to (front-of other early late within inside);
  behind = λ one other from to within. k.behind one other from to (front-of other early late within inside);
}
