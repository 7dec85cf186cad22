-- A room in which nobody calls for a shutdown stands.
use Rattle.std.proofs.Common.{◌≡◌, ℕ, ◌≤◌, inl, inr, List, [], ◌∷◌, length, Bool, true, false, not, refl, sym, ◌∙◌, ap, subst, arith}
use Rattle.std.specs.Prelude.{if◌then◌else◌}
use Rattle.std.proofs.lemmas.Bool.{cases_Bool}
use Rattle.nut_proto.specs.declared.request.Request.TheVariants as requests
use Rattle.nut_server_spec.specs.Configuration.{Configuration as ServerConfiguration}
use Rattle.nut_server_spec.specs.Content.{past}
use Rattle.nut_server_spec.specs.Trace as server
use Rattle.nut_server_spec.specs.laws.Rights.{AtSome, Gets}
use Rattle.nut_monitor_spec.specs.Decision.{power_where}
use Rattle.nut_monitor_spec.specs.Trace.{Entry, begun, earliest, gives_status, has_begun, is_short, latest, or_else}
use Rattle.nut_fleet.specs.Fleet.{Cause, IsSetup}
use Rattle.nut_fleet.specs.Halting.{CalledFor, NobodyCalls, NobodyStops, UserForced}
use Rattle.nut_fleet.specs.Schedule.{Step, IsFront}
use Rattle.nut_fleet.specs.World.{Setup, line_of, monitor_of, seen, world}
use Rattle.nut_fleet.proofs.Entries.{length-trace}
use Rattle.nut_fleet.proofs.Following.{begun-later, fsds-follow, step-keeps}
use Rattle.nut_fleet.proofs.Fronts.{from-front}
use Rattle.nut_fleet.proofs.Halting.{nobody-else}
use Rattle.nut_fleet.proofs.Shutdowns.{earliest-keeps, power-more}
use Rattle.nut_fleet.proofs.Sound.{IsLawful}

latest-shorter : (test : Entry → List Entry → Bool) (trace : List Entry) → length (latest test trace) ≤ length trace
latest-shorter test [] = omega arith
latest-shorter test (entry ∷ past) = elim (cases_Bool (test entry past)) [
  | inl here ↦ rw here (omega arith)
  | inr older ↦ rw older (let rest = latest-shorter test past in omega (arith, rest))
]

-- ---- what a monitor knew

tail-empty : (trace : List Entry) → IsFront [] trace
tail-empty [] = refl
tail-empty (entry ∷ past) = inr (tail-empty past)

begun-tail : (test : List Entry → Bool) (trace : List Entry) → IsFront (earliest test trace) trace
begun-tail test [] = refl
begun-tail test (entry ∷ past) = by (earliest test past) (begun-tail test past)
  where
    here : (b : Bool) → IsFront (if b then entry ∷ past else []) (entry ∷ past)
    here true = inl refl
    here false = inr (tail-empty past)

    by : (older : List Entry) → IsFront older past → IsFront (or_else older (if test (entry ∷ past) then entry ∷ past else [])) (entry ∷ past)
    by (x ∷ older) is = inr is
    by [] is = here (test (entry ∷ past))

-- ---- who forced a shutdown

-- FSD was said on that connection
said-on : (first : ServerConfiguration) (c : ℕ) (ups : List ℕ) (t : List server.Entry) → UserForced first ups c t →
    AtSome (λ e before. Gets c (requests.Fsd ups) e.answer e) t
said-on first c ups [] h = absurd h
said-on first c ups (e ∷ before) (inl h) = inl (h.0.0, h.0.1, h.0.2, refl)
said-on first c ups (e ∷ before) (inr older) = inr (said-on first c ups before older)

module _ (setup : Setup) (law : IsLawful setup.server) (fine : IsSetup setup)
    (enough : (m : ℕ) → (monitor_of setup m).min_supplies ≤ power_where (λ i. true) (monitor_of setup m).lines) where
  -- no monitor has begun its shutdown
  abbrev Calm : List Step → Type 0
  Calm schedule = (m : ℕ) → has_begun (monitor_of setup m) (seen setup (world setup schedule) m) ≡ false

  begun-front : (k : ℕ) (early schedule : List Step) → IsFront early schedule →
      has_begun (monitor_of setup k) (seen setup (world setup early) k) ≡ true → has_begun (monitor_of setup k) (seen setup (world setup schedule) k) ≡ true
  begun-front k early schedule front is =
      from-front (λ s. has_begun (monitor_of setup k) (seen setup (world setup s) k) ≡ true) early schedule front is
      (λ step s from before. begun-later setup k step s before)

  abbrev cause-later : (m i : ℕ) (step : Step) (s : List Step) (known : List Entry) → Cause setup s m i known → Cause setup (step ∷ s) m i known
  cause-later m i step s known cause = record {
    words = cause.words;
    status_is = cause.status_is;
    shown = record {
      early = cause.shown.early;
      between = record { front = inr cause.shown.between.front; asked = cause.shown.between.asked; unread = cause.shown.between.unread };
      shown = cause.shown.shown;
    };
    reason = cause.reason;
  }

  -- a line calls for a shutdown only by what was shown before the last step
  older-front : (m i : ℕ) (step : Step) (s : List Step) (called : CalledFor setup (step ∷ s) m i (begun (monitor_of setup m) (seen setup (world setup (step ∷ s)) m))) →
      IsFront called.cause.shown.early s
  older-front m i step s called = by called.cause.shown.between.front
    where
      by : IsFront called.cause.shown.early (step ∷ s) → IsFront called.cause.shown.early s
      by (inr older) = older
      by (inl same) =
          let config = monitor_of setup m in
          let trace = seen setup (world setup (step ∷ s)) m in
          let few : length (begun config trace) ≤ length trace =
          earliest-keeps (λ u. length u ≤ length trace) (is_short config) (omega arith) (λ x past le. omega (arith, le)) trace (omega arith) in
          let fewer = latest-shorter (λ entry before. gives_status i entry.answer) (begun config trace) in
          let as_many = length-trace config ((world setup (step ∷ s)).monitor m) in
          let unread = called.cause.shown.between.unread in
          let now : length ((world setup called.cause.shown.early).monitor m) ≡ length ((world setup (step ∷ s)).monitor m) =
          ap (λ x. length ((world setup x).monitor m)) same in
          absurd (omega (arith, few, fewer, as_many, unread, now))

  nobody-called : (m i : ℕ) (step : Step) (s : List Step) → NobodyCalls setup (step ∷ s) → Calm s →
      CalledFor setup (step ∷ s) m i (begun (monitor_of setup m) (seen setup (world setup (step ∷ s)) m)) → ⊥
  nobody-called m i step s none calm called =
      let early = called.cause.shown.early in
      elim called.by_whom [
        | inl driver ↦ none.drivers m i (begun (monitor_of setup m) (seen setup (world setup (step ∷ s)) m)) called.cause
            (begun-tail (is_short (monitor_of setup m)) (seen setup (world setup (step ∷ s)) m)) driver
        | inr user ↦
            none.users user.0 (line_of setup m i).ups early (inr (older-front m i step s called))
            (λ k j e there front same.
            let says = said-on setup.server user.0 (line_of setup m i).ups (past setup.server (world setup early).server) user.1 in
            let begun_then = fsds-follow setup law fine early k j e (line_of setup m i).ups there front
            (subst (λ c. AtSome (λ x before. Gets c (requests.Fsd (line_of setup m i).ups) x.answer x) (past setup.server (world setup early).server)) (sym same) says) in
            let begun_now = begun-front k early s (older-front m i step s called) begun_then in
            let bad : false ≡ true = sym (calm k) ∙ begun_now in cc)
            user.1
      ]

  stays-calm : (schedule : List Step) → NobodyCalls setup schedule → Calm schedule
  stays-calm [] none m = refl
  stays-calm (step ∷ s) none m = by (stays-calm s (record {
    drivers = λ m i known cause is. none.drivers m i known (cause-later m i step s known cause)
        (step-keeps setup m (IsFront known) (λ entry past tail. inr tail) step s is);
    users = λ c ups early front. none.users c ups early (inr front);
  }))
    where
      by : Calm s → has_begun (monitor_of setup m) (seen setup (world setup (step ∷ s)) m) ≡ false
      by calm = elim (cases_Bool (has_begun (monitor_of setup m) (seen setup (world setup (step ∷ s)) m))) [
        | inr no_shutdown ↦ no_shutdown
        | inl over ↦
            let called = nobody-else setup law fine (step ∷ s) m over in
            let all : power_where (λ i. true) (monitor_of setup m).lines ≤ power_where (λ i. not (called.0 i)) (monitor_of setup m).lines =
            power-more (λ i. true) (λ i. not (called.0 i)) (monitor_of setup m).lines (λ i less true_is.
            elim (cases_Bool (called.0 i)) [
              | inl calls ↦ absurd (nobody-called m i step s none calm (called.1 i calls))
              | inr tame ↦ ap not tame
            ]) in
            let few = enough m in
            let short = called.2 in
            absurd (omega (arith, all, few, short))
      ]

pub nobody-stops : (setup : Setup) → IsLawful setup.server → IsSetup setup → (schedule : List Step) → NobodyStops setup schedule
nobody-stops setup law fine schedule enough none m = stays-calm setup law fine enough schedule none m
