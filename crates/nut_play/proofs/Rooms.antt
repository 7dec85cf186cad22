-- The result of a call of a fleet that is that of a world.
use Rattle.std.proofs.Common.{◌≡◌, ◌<◌, ◌≤◌, ◌++◌, ℕ, zero, suc, Bool, true, false, List, [], ◌∷◌, length, map, take, reverse, slice_get, Some, Result, Ok, Err, IfOk, IfErr, OnOk, refl, sym, ◌∙◌, ap, subst, arith}
use Rattle.std.specs.Prelude.{not}
use Rattle.std.proofs.lemmas.List.{map-append, length-map, reverse-append}
use Rattle.nut_fleet.specs.Schedule as S
use Rattle.nut_fleet.specs.World.{Setup, world}
use Rattle.nut_fleet.specs.Fleet.{EventsAreAccepted}
use Rattle.nut_fleet.specs.Log.{Logged}
use Rattle.nut_fleet.specs.machine.Going.{FleetsGoOn}
use Rattle.nut_play.specs.declared.types.Step.{Step}
use Rattle.nut_play.specs.declared.types.FleetFault.{FleetFault}
use Rattle.nut_play.specs.declared.types.FleetFault.TheVariants.{BadStep, Memory, Failed}
use Rattle.nut_play.specs.Kept.{Kept}
use Rattle.nut_play.specs.machine.Next.{fits}
use Rattle.nut_play.specs.Steps.{step_of, steps_of}
use Rattle.nut_play.specs.machine.Play.{firsts, before_all, run, run_log, MayRunOut, IsPlayed, IsStopped, IsLacking, IsLog, IsFault}
use Rattle.nut_play.specs.machine.Play as machine
use Rattle.nut_play.specs.Room.{HasPlayed, WerePlayed, StopsBehind, LacksBehind, IsFaultOf}
use Rattle.nut_play.proofs.Runs.{some-get, get-map}
use Rattle.nut_play.proofs.Standing.{run-stands, run-tells, run-fits, same-fit}
use Rattle.nut_play.proofs.Lacking.{may-lack}

-- ---- the steps of a call, the newest first

take-more : {A : Type 0} (xs : List A) (n : ℕ) (x : A) → slice_get xs n ≡ Some x → take (suc n) xs ≡ take n xs ++ x ∷ []
take-more [] n x is = cc
take-more (y ∷ xs) zero x is = let same : y ≡ x = cc in ap (λ z. z ∷ []) same
take-more (y ∷ xs) (suc n) x is = ap (λ ys. y ∷ ys) (take-more xs n x is)

take-whole : {A : Type 0} (xs : List A) → take (length xs) xs ≡ xs
take-whole [] = refl
take-whole (x ∷ xs) = ap (λ ys. x ∷ ys) (take-whole xs)

steps-more : (xs : List Step) (x : Step) → steps_of (xs ++ x ∷ []) ≡ step_of x ∷ steps_of xs
steps-more xs x = ap reverse (map-append step_of xs (x ∷ [])) ∙ reverse-append (map step_of xs) (step_of x ∷ [])

firsts-are : (schedule : List Step) (n : ℕ) → n ≤ length schedule → firsts n (map step_of schedule) ≡ steps_of (take n schedule)
firsts-are schedule zero le = refl
firsts-are schedule (suc n) le =
    let x = some-get schedule n (omega arith) in
    ap (λ o. before_all o (firsts n (map step_of schedule))) (get-map step_of schedule n x.0 x.1)
    ∙ ap (λ ys. step_of x.0 ∷ ys) (firsts-are schedule n (omega arith))
    ∙ sym (steps-more (take n schedule) x.0)
    ∙ ap steps_of (sym (take-more schedule n x.0 x.1))

firsts-all : (schedule : List Step) → firsts (length (map step_of schedule)) (map step_of schedule) ≡ steps_of schedule
firsts-all schedule =
    ap (λ n. firsts n (map step_of schedule)) (length-map schedule step_of)
    ∙ firsts-are schedule (length schedule) (omega arith)
    ∙ ap steps_of (take-whole schedule)

-- ---- a call

not-fits : (b : Bool) → not b ≡ true → b ≡ false
not-fits true e = cc
not-fits false e = refl

module _ (setup : Setup) (before : List S.Step) (k : Kept) (go : (schedule : List S.Step) → FleetsGoOn setup schedule) (is : HasPlayed setup before k) where
  stands-at : (steps : List S.Step) (new : Kept) → machine.AreFit k steps → new ≡ run k steps → HasPlayed setup (steps ++ before) new
  stands-at steps new fit same = subst (HasPlayed setup (steps ++ before)) (sym same) (run-stands setup before k go is steps fit)

  pub were-played : (schedule : List Step) (told : List Logged) (new : Kept) → IsLog k (map step_of schedule) told new →
      WerePlayed setup before (steps_of schedule) told new
  were-played schedule told new l =
      let fit : machine.AreFit k (steps_of schedule) = subst (machine.AreFit k) (firsts-all schedule) l.played.fit in
      record {
        fit = run-fits setup before k go is (steps_of schedule) fit;
        fleet = stands-at (steps_of schedule) new fit (l.played.fleet ∙ ap (run k) (firsts-all schedule));
        log = l.log ∙ ap (run_log k) (firsts-all schedule) ∙ run-tells setup before k go is (steps_of schedule) fit;
      }

  stops-behind : (schedule : List Step) (n at : ℕ) (new : Kept) → IsStopped k (map step_of schedule) n at new → StopsBehind setup before schedule n new
  stops-behind schedule n at new s =
      let within : n < length schedule = subst (λ j. n < j) (length-map schedule step_of) s.within in
      let same : firsts n (map step_of schedule) ≡ steps_of (take n schedule) = firsts-are schedule n (omega arith) in
      let fit : machine.AreFit k (steps_of (take n schedule)) = subst (machine.AreFit k) same s.played.fit in
      let fleet : HasPlayed setup (steps_of (take n schedule) ++ before) new =
      stands-at (steps_of (take n schedule)) new fit (s.played.fleet ∙ ap (run k) same) in
      let x = some-get (map step_of schedule) n s.within in
      let unfit : fits new x.0 ≡ false = not-fits (fits new x.0) (sym (ap (machine.is_bad new) x.1) ∙ s.bad) in
      record {
        fit = run-fits setup before k go is (steps_of (take n schedule)) fit;
        fleet = fleet;
        bad = (x.0, x.1, sym (same-fit setup (steps_of (take n schedule) ++ before) new fleet x.0) ∙ unfit);
      }

  module _ (accepted : (schedule : List S.Step) (new : Kept) → HasPlayed setup schedule new → EventsAreAccepted setup (world setup schedule)) where
    lacks-behind : (schedule : List Step) (n at : ℕ) (last : Kept) → IsLacking k (map step_of schedule) n at last → LacksBehind setup before schedule n
    lacks-behind schedule n at last s =
        let within : n < length schedule = subst (λ j. n < j) (length-map schedule step_of) s.within in
        let same : firsts n (map step_of schedule) ≡ steps_of (take n schedule) = firsts-are schedule n (omega arith) in
        let fit : machine.AreFit k (steps_of (take n schedule)) = subst (machine.AreFit k) same s.played.fit in
        let earlier : List S.Step = steps_of (take n schedule) ++ before in
        let fleet : HasPlayed setup earlier last = stands-at (steps_of (take n schedule)) last fit (s.played.fleet ∙ ap (run k) same) in
        let x = some-get (map step_of schedule) n s.within in
        let why : MayRunOut last (Some x.0) = subst (MayRunOut last) x.1 s.lacks in
        record {
          fit = run-fits setup before k go is (steps_of (take n schedule)) fit;
          lacks = (
            x.0,
            x.1,
            sym (same-fit setup earlier last fleet x.0) ∙ why.0,
            may-lack setup earlier last (go earlier) (accepted earlier last fleet) fleet x.0 why.0 why.1,
          );
        }

    pub fault-of : (schedule : List Step) (fault : FleetFault) (new : Kept) → IsFault k (map step_of schedule) fault new → IsFaultOf setup before schedule fault new
    fault-of schedule (BadStep at) new s = (s.0, s.1.number, stops-behind schedule s.0 at new s.1)
    fault-of schedule (Memory at) new s = (s.0, s.1, s.3.number, lacks-behind schedule s.1 at s.2 s.3)
    fault-of schedule Failed new s = s

-- ---- the answer of a call

pub if-err : {T E : Type 0} (P Q : E → Type 0) (r : Result T E) → ((e : E) → P e → Q e) → IfErr r P → IfErr r Q
if-err P Q (Ok x) f p = p
if-err P Q (Err e) f p = f e p

pub on-played : {T E : Type 0} (P : T → Type 0) (Q : Type 0) (r : Result T E) → ((x : T) → P x → Q) → IfOk r P → OnOk r Q
on-played P Q (Ok x) f p = f x p
on-played P Q (Err e) f p = p
