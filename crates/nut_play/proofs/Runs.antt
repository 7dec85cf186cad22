-- The result of a run of steps.
use Rattle.std.proofs.Common.{◌≡◌, ◌<◌, ◌≤◌, ◌++◌, ◌+◌, ℕ, zero, suc, true, List, [], ◌∷◌, length, map, slice_get, Some, not, refl, sym, ◌∙◌, ap, subst, arith}
use Rattle.nut_fleet.specs.Schedule.{Step}
use Rattle.nut_fleet.specs.Log.{Logged, logged}
use Rattle.nut_play.specs.Kept.{Kept}
use Rattle.nut_play.specs.machine.Next.{next, fits}
use Rattle.nut_play.specs.machine.Play.{firsts, before_all, run, run_log, told_at, is_bad, LacksAt, MayRunOut, AreFit, IsPlayed, IsLacking, IsFault, IsFaultAt}
use Rattle.nut_play.specs.declared.types.FleetFault.{FleetFault}
use Rattle.nut_play.specs.declared.types.FleetFault.TheVariants.{BadStep, Memory, Failed}

pub get-map : {A B : Type 0} (f : A → B) (xs : List A) (n : ℕ) (x : A) → slice_get xs n ≡ Some x → slice_get (map f xs) n ≡ Some (f x)
get-map f [] n x is = cc
get-map f (y ∷ xs) zero x is = let same : y ≡ x = cc in ap (λ z. Some (f z)) same
get-map f (y ∷ xs) (suc n) x is = get-map f xs n x is

pub some-get : {A : Type 0} (xs : List A) (n : ℕ) → n < length xs → (x : A) × (slice_get xs n ≡ Some x)
some-get [] n lt = absurd (omega arith)
some-get (x ∷ xs) zero lt = (x, refl)
some-get (x ∷ xs) (suc n) lt = some-get xs n (omega arith)

length-firsts : (n : ℕ) (steps : List Step) → n ≤ length steps → length (firsts n steps) ≡ n
length-firsts zero steps le = refl
length-firsts (suc n) steps le =
    let x = some-get steps n (omega arith) in
    ap (λ o. length (before_all o (firsts n steps))) x.1 ∙ ap suc (length-firsts n steps (omega arith))

module _ (k : Kept) (steps : List Step) (n : ℕ) (old new : Kept) (x : Step) (is : slice_get steps n ≡ Some x) where
  pub played-more : IsPlayed k steps n old → fits old x ≡ true → new ≡ next old x → IsPlayed k steps (suc n) new
  played-more before ok goes = record {
    fit = subst (λ o. AreFit k (before_all o (firsts n steps))) (sym is) (before.fit, ap (λ y. fits y x) (sym before.fleet) ∙ ok);
    fleet = goes ∙ ap (λ y. next y x) before.fleet ∙ sym (ap (λ o. run k (before_all o (firsts n steps))) is);
  }

  pub log-more : (l m : List Logged) → n < length steps → IsPlayed k steps n old → l ≡ run_log k (firsts n steps) →
      m ≡ l ++ logged (suc n) (told_at old x) → m ≡ run_log k (firsts (suc n) steps)
  log-more l m lt before was goes =
      goes ∙ ap (λ ls. ls ++ logged (suc n) (told_at old x)) was
      ∙ ap (λ j. run_log k (firsts n steps) ++ logged (suc j) (told_at old x)) (sym (length-firsts n steps (omega arith)))
      ∙ ap (λ y. run_log k (firsts n steps) ++ logged (suc (length (firsts n steps))) (told_at y x)) before.fleet
      ∙ sym (ap (λ o. run_log k (before_all o (firsts n steps))) is)

pub lacking : (k : Kept) (steps : List Step) (n at : ℕ) (last : Kept) (x : Step) → slice_get steps n ≡ Some x → at ≡ n + 1 → n < length steps →
    IsPlayed k steps n last → fits last x ≡ true → LacksAt last x → IsLacking k steps n at last
lacking k steps n at last x is number within played ok lack = record {
  number = number;
  within = within;
  played = played;
  lacks = subst (MayRunOut last) (sym is) (ok, lack);
}

-- A fault of the next step is one of the call.
module _ (k : Kept) (steps : List Step) (n at : ℕ) (last new : Kept) (x : Step) (is : slice_get steps n ≡ Some x) (number : at ≡ n + 1) (within : n < length steps) (played : IsPlayed k steps n last) where
  pub stopped : (fault : FleetFault) → IsFaultAt last x at fault new → IsFault k steps fault new
  stopped (BadStep m) why = (
    n,
    record {
      number = why.0 ∙ number;
      within = within;
      played = record { fit = played.fit; fleet = why.2 ∙ played.fleet };
      bad = ap (is_bad new) is ∙ ap (λ y. not (fits y x)) why.2 ∙ ap not why.1;
    },
  )
  stopped (Memory m) why = (why.3, n, last, lacking k steps n m last x is (why.0 ∙ number) within played why.1 why.2)
  stopped Failed why = why
