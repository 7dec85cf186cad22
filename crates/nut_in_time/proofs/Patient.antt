-- The shutdown of a primary whose DEADTIME is long enough doesn't begin since DEADTIME is over.
use Rattle.std.proofs.Common.{◌≡◌, ℕ, ◌+◌, ◌<◌, ◌≤◌, inl, inr, List, ◌∷◌, length, true, refl, subst, arith}
use Rattle.nut_monitor_spec.specs.Trace.{clock, begun, has_begun, is_short}
use Rattle.nut_fleet.specs.Schedule.{Step, IsFront}
use Rattle.nut_fleet.specs.World.{Setup, line_of, monitor_of, world}
use Rattle.nut_fleet.specs.Fleet.{IsSetup}
use Rattle.nut_fleet.proofs.Fronts.{front-self, fronts-compare}
use Rattle.nut_fleet.proofs.Sound.{IsLawful}
use Rattle.nut_in_time.specs.Pace.{Pace, FromOn, IsSteady, IsWatched, KeepsPace, Says, seen_at, shown_at}
use Rattle.nut_in_time.specs.InTime.{turn}
use Rattle.nut_in_time.specs.Room.{IsPatient}
use Rattle.nut_in_time.proofs.Bearing.{Borne, borne-next}
use Rattle.nut_in_time.proofs.Climbing.{front-of}
use Rattle.nut_in_time.proofs.Ending.{earliest-sooner}
use Rattle.nut_in_time.proofs.Forcing.{IsGone}
use Rattle.nut_in_time.proofs.Lasting.{Chosen, event-by-event, lasts-first}
use Rattle.nut_in_time.proofs.Stopping.{every, lines-watched}

module _ (setup : Setup) (pace : Pace) (p : ℕ) (start e : List Step) (since : IsFront start e) (is : IsPatient setup pace p start) where
  steady-both : IsSteady setup pace p start e → IsSteady setup pace p is.early e
  steady-both steady step earlier inside from = elim (fronts-compare start (step ∷ earlier) e since inside) [
    | inr older ↦ is.steady step earlier older from
    | inl (inr newer) ↦ steady step earlier inside newer
    | inl (inl same) ↦ is.steady step earlier (subst (λ s. IsFront s start) same (front-self start)) from
  ]

  watched-both : KeepsPace setup pace p 0 start e → FromOn start e (λ x. Says (λ words. true) (shown_at setup x (line_of setup p 0).ups)) →
      IsWatched setup pace p 0 (λ words. true) is.early e
  watched-both keeps shown = record {
    keeps = record {
      linked = λ x inside from. elim (fronts-compare start x e since inside) [
        | inl newer ↦ keeps.linked x inside newer
        | inr older ↦ is.watched.keeps.linked x older from
      ];
      prompt = λ x inside from. elim (fronts-compare start x e since inside) [
        | inl newer ↦ keeps.prompt x inside newer
        | inr older ↦ is.watched.keeps.prompt x older from
      ];
    };
    polled = is.watched.polled;
    shows = λ x inside from. elim (fronts-compare start x e since inside) [
      | inl newer ↦ shown x inside newer
      | inr older ↦ is.watched.shows x older from
    ];
  }

  pub not-gone : IsLawful setup.server → IsSetup setup → length (monitor_of setup p).lines ≡ 1 → 0 < (monitor_of setup p).min_supplies →
      IsSteady setup pace p start e → KeepsPace setup pace p 0 start e → FromOn start e (λ x. Says (λ words. true) (shown_at setup x (line_of setup p 0).ups)) →
      has_begun (monitor_of setup p) (seen_at setup p e) ≡ true →
      clock (seen_at setup p start) ≤ clock (begun (monitor_of setup p) (seen_at setup p e)) → IsGone (monitor_of setup p) 0 (begun (monitor_of setup p) (seen_at setup p e)) → ⊥
  not-gone law fine one needed steady0 keeps shown any later gone =
      let config = monitor_of setup p in
      let n0 = length ((world setup is.early).monitor p) in
      let t0 = clock (seen_at setup p is.early) in
      let most = turn config pace in
      let turned : config.poll_freq + pace.skip ≤ most = omega arith in
      let soon : pace.delay ≤ most = omega arith in
      let front : IsFront is.early e = front-of is.early start e is.front since in
      let steady = steady-both steady0 in
      let lines : Chosen config every (λ i. IsWatched setup pace p i (λ words. true) is.early e) =
      lines-watched setup pace p (λ words. true) is.early e front steady one needed (watched-both keeps shown) in
      let sooner = earliest-sooner (is_short config) (seen_at setup p is.early) in
      let b : Borne config n0 t0 most pace (λ words. true) every turned soon ((world setup e).monitor p) =
      event-by-event setup law fine pace p is.early e front (λ words. true) every lines steady
      (Borne config n0 t0 most pace (λ words. true) every turned soon)
      (record { lasts = lasts-first setup law fine pace p is.early e front (λ words. true) every lines most; began = λ any late. absurd (omega (arith, sooner, late)) })
      (borne-next config n0 t0 most pace (λ words. true) every turned soon) in
      let young = (b.began any (omega (arith, is.long, later)) 0 (omega (arith, one)) refl).young in
      omega (arith, young, is.patient, gone)
