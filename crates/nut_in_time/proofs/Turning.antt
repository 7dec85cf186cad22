-- Written schedules in which a link goes round each time its monitor's clock moves on.
use Rattle.std.proofs.Common.{◌≡◌, ◌⊎◌, ℕ, zero, suc, ◌+◌, ◌≤◌, ◌==◌, ◌&&◌, nat_le, inl, inr, List, [], ◌∷◌, ◌++◌, Bool, true, false, sym, subst, arith}
use Rattle.std.specs.Prelude.{if◌then◌else◌}
use Rattle.std.proofs.lemmas.Bool.{cases_Bool, and_parts, eqb-true, leb-true, ltb-false}
use Rattle.nut_monitor_spec.specs.Trace.{clock, outstanding}
use Rattle.nut_fleet.specs.Schedule.{Step, IsFront}
use Rattle.nut_fleet.specs.World.{Setup, is_open, is_linked, monitor_waits, to_server, server_waits, to_monitor, world}
use Rattle.nut_fleet.specs.Fleet.{IsSetup}
use Rattle.nut_fleet.proofs.Fronts.{front-self}
use Rattle.nut_fleet.proofs.Sound.{IsLawful}
use Rattle.nut_in_time.specs.Pace.{Pace, FromOn, seen_at}
use Rattle.nut_in_time.specs.Round.{WentRound, goes_on, further, is_tick, round_in, goes_round, RoundedLinksKeepPace}
use Rattle.nut_in_time.specs.Tests.{each_since, is_prompt, is_steady}
use Rattle.nut_in_time.proofs.Rounding.{rounds-keep_pace}
use Rattle.nut_in_time.proofs.Testing.{front-append, front-same, each-holds, prompt-holds}

module _ (setup : Setup) (m i : ℕ) where
  -- what has to hold at each place of a round
  abbrev Holds : ℕ → List Step → Type 0
  Holds zero e = monitor_waits setup (world setup e) m i ≡ []
  Holds (suc zero) e = (is_open setup (world setup e) m i ≡ true) × (to_server setup (world setup e) m i ≡ [])
  Holds (suc (suc zero)) e = server_waits setup (world setup e) m i ≡ []
  Holds (suc (suc (suc zero))) e = to_monitor setup (world setup e) m i ≡ []
  Holds (suc (suc (suc (suc k)))) e = Unit {0}

  -- the link has come this far since then
  abbrev Far : List Step → ℕ → List Step → Type 0
  Far since zero e = IsFront since e
  Far since (suc k) e = (x : List Step) × (Far since k x × Holds k x) × IsFront x e

  far-on : (since : List Step) (k : ℕ) (step : Step) (e : List Step) → Far since k e → Far since k (step ∷ e)
  far-on since k step e far = grind arith

  goes-on : (since : List Step) (holds : Bool) (place far : ℕ) (e : List Step) → (holds ≡ true → Holds place e) → Far since far e → Far since (goes_on holds place far) e
  goes-on since holds place far e gives before = grind (arith, cases_Bool, and_parts, eqb-true, front-self)

  further-far : (since : List Step) (far : ℕ) (e : List Step) → Far since far e → Far since (further setup m i e far) e
  further-far since far e before = grind (arith, goes-on, and_parts)

  went : (since e : List Step) → Far since 4 e → WentRound setup m i since e
  went since e far = grind arith

  module _ (pace : Pace) (start : List Step) where
    -- a step that is no tick doesn't move the clock
    stands : (step : Step) (e : List Step) → is_tick setup m step e ≡ false → clock (seen_at setup m (step ∷ e)) ≤ clock (seen_at setup m e)
    stands step e is = ltb-false (clock (seen_at setup m e)) (clock (seen_at setup m (step ∷ e))) is

    -- since the last tick, or `start`
    pub record Since (newest : List Step) : Type 0 where
      pub since : List Step
      pub front : IsFront start since
      pub still : clock (seen_at setup m (newest ++ start)) ≤ clock (seen_at setup m since)
      pub far : Far since (round_in setup m i start newest) (newest ++ start)

    since-is : (newest : List Step) → Since newest
    since-is [] = record { since = start; front = front-self start; still = omega arith; far = further-far start 0 start (front-self start) }
    since-is (step ∷ newest) =
        let e = newest ++ start in
        let before = since-is newest in
        elim (cases_Bool (is_tick setup m step e)) [
          | inl t ↦ record {
            since = step ∷ e;
            front = inr (front-append newest start);
            still = omega arith;
            far = rw t (further-far (step ∷ e) 0 (step ∷ e) (front-self (step ∷ e)));
          }
          | inr f ↦ record {
            since = before.since;
            front = before.front;
            still = let a = stands step e f in let b = before.still in omega (arith, a, b);
            far = rw f (further-far before.since (round_in setup m i start newest) (step ∷ e) (far-on before.since (round_in setup m i start newest) step e before.far));
          }
        ]

    -- since at most a step of the clock ago
    pub record Went (e : List Step) : Type 0 where
      pub since : List Step
      pub front : IsFront start since
      pub soon : clock (seen_at setup m e) ≤ clock (seen_at setup m since) + suc pace.skip
      pub far : Far since 4 e

    top : (newest : List Step) → goes_round setup m i start newest ≡ true → is_steady setup pace m start newest ≡ true →
        (clock (seen_at setup m (newest ++ start)) ≤ clock (seen_at setup m start)) ⊎ Went (newest ++ start)
    top [] goes steady = inl (omega arith)
    top (step ∷ newest) goes steady =
        let e = newest ++ start in
        let both = and_parts (if is_tick setup m step e then round_in setup m i start newest == 4 else true) (goes_round setup m i start newest) goes in
        let little = and_parts (nat_le (clock (seen_at setup m (step ∷ e))) (clock (seen_at setup m e) + suc pace.skip)) (is_steady setup pace m start newest) steady in
        elim (cases_Bool (is_tick setup m step e)) [
          | inl t ↦
              let s = since-is newest in
              let all : (round_in setup m i start newest == 4) ≡ true = rw t at both.0 in
              let far : Far s.since 4 e = subst (λ k. Far s.since k e) (eqb-true (round_in setup m i start newest) 4 all) s.far in
              let a = leb-true (clock (seen_at setup m (step ∷ e))) (clock (seen_at setup m e) + suc pace.skip) little.0 in
              inr (record { since = s.since; front = s.front; soon = omega (arith, a, s.still); far = far-on s.since 4 step e far })
          | inr f ↦
              let a = stands step e f in
              elim (top newest both.1 little.1) [
                | inl le ↦ inl (omega (arith, a, le))
                | inr w ↦ inr (let b = w.soon in record { since = w.since; front = w.front; soon = omega (arith, a, b); far = far-on w.since 4 step e w.far })
              ]
        ]

    each : (newest : List Step) → goes_round setup m i start newest ≡ true → is_steady setup pace m start newest ≡ true →
        FromOn start (newest ++ start) (λ early. (clock (seen_at setup m early) ≤ clock (seen_at setup m start)) ⊎ Went early)
    each [] goes steady early within since =
        subst (λ e. (clock (seen_at setup m e) ≤ clock (seen_at setup m start)) ⊎ Went e) (sym (front-same early start within since)) (inl (omega arith))
    each (step ∷ newest) goes steady early (inl within) since =
        subst (λ e. (clock (seen_at setup m e) ≤ clock (seen_at setup m start)) ⊎ Went e) (sym within) (top (step ∷ newest) goes steady)
    each (step ∷ newest) goes steady early (inr within) since =
        let e = newest ++ start in
        let both = and_parts (if is_tick setup m step e then round_in setup m i start newest == 4 else true) (goes_round setup m i start newest) goes in
        let little = and_parts (nat_le (clock (seen_at setup m (step ∷ e))) (clock (seen_at setup m e) + suc pace.skip)) (is_steady setup pace m start newest) steady in
        each newest both.1 little.1 early within since

pub rounded-keep_pace : (setup : Setup) → IsLawful setup.server → IsSetup setup → RoundedLinksKeepPace setup
rounded-keep_pace setup law fine pace m i start newest there is steady slow =
    let up = each_since (λ early. is_linked setup (world setup early) m i) start newest in
    let fresh = is_prompt 0 (clock (seen_at setup m start)) (outstanding i (seen_at setup m start)) in
    let goes = goes_round setup m i start newest in
    let parts = and_parts up (fresh && goes) is in
    let more = and_parts fresh goes parts.1 in
    rounds-keep_pace setup law fine (newest ++ start) pace m i start there
    (each-holds (λ early. is_linked setup (world setup early) m i) start newest parts.0)
    (λ asked waits. let le = prompt-holds 0 (clock (seen_at setup m start)) (outstanding i (seen_at setup m start)) more.0 asked waits in omega (arith, le))
    (λ early within since. elim (each setup m i pace start newest more.1 steady early within since) [
      | inl le ↦ inl (omega (arith, le))
      | inr w ↦ inr (let soon = w.soon in record { since = w.since; front = w.front; soon = omega (arith, soon, slow); round = went setup m i w.since early w.far })
    ])
