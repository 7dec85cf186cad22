-- Finding the value that was due last, step by step.
use Rattle.std.proofs.Common.{◌≡◌, ℕ, zero, suc, ◌+◌, ◌*◌, ◌<◌, ◌≤◌, Bool, true, false, cond, List, [], ◌∷◌, ◌++◌, Option, Some, None, nat_lt, nat_le, refl, sym, ap, ◌∙◌, arith, inl, inr, ◌⊎◌}
use Rattle.std.specs.Option.{option_or}
use Rattle.std.proofs.Math.Nat.{mul-le-mul_left}
use Rattle.std.proofs.lemmas.Bool.Decides.{nat_tests}
use Rattle.std.proofs.lemmas.Bool.{and_from, and_left, and_right, cases_lt, ne_eqb}
use Rattle.nut_dummy.specs.Script.{Step}
use Rattle.nut_dummy.specs.Due.{is_due, newest, newest_up_to, latest}

or_assoc : (a b c : Option (List ℕ)) → option_or (option_or a b) c ≡ option_or a (option_or b c)
or_assoc None b c = refl
or_assoc (Some x) b c = refl

or_none : (a : Option (List ℕ)) → option_or a None ≡ a
or_none None = refl
or_none (Some x) = refl

abbrev passed : (Step → Bool) → Step → Option (List ℕ)
passed test step = cond (test step) (Some step.value) None

newest_more : (test : Step → Bool) (steps : List Step) (step : Step) → newest test (steps ++ step ∷ []) ≡ option_or (passed test step) (newest test steps)
newest_more test [] step = sym (or_none (passed test step))
newest_more test (s ∷ steps) step =
    ap (λ o. option_or o (passed test s)) (newest_more test steps step) ∙ or_assoc (passed test step) (newest test steps) (passed test s)

-- a step that doesn't pass changes nothing, and one that does is the newest
pub newest_same : (test : Step → Bool) (steps : List Step) (step : Step) → test step ≡ false → newest test (steps ++ step ∷ []) ≡ newest test steps
newest_same test steps step fails = newest_more test steps step ∙ ap (λ b. option_or (cond b (Some step.value) None) (newest test steps)) fails

pub newest_new : (test : Step → Bool) (steps : List Step) (step : Step) → test step ≡ true → newest test (steps ++ step ∷ []) ≡ Some step.value
newest_new test steps step passes = newest_more test steps step ∙ ap (λ b. option_or (cond b (Some step.value) None) (newest test steps)) passes

module _ (round after until : ℕ) where
  pub due : (k : ℕ) (step : Step) → after < step.at + k * round → step.at + k * round ≤ until → is_due round after until k step ≡ true
  due k step p q =
      let a : nat_lt after (step.at + k * round) ≡ true = grind (arith, nat_tests) in
      let b : nat_le (step.at + k * round) until ≡ true = grind (arith, nat_tests) in
      and_from _ _ a b

  pub not_due : (k : ℕ) (step : Step) → (step.at + k * round ≤ until → step.at + k * round ≤ after) → is_due round after until k step ≡ false
  not_due k step h = by_time (cases_lt until (step.at + k * round)) where
    by_time : (until < step.at + k * round) ⊎ (step.at + k * round ≤ until) → is_due round after until k step ≡ false
    by_time (inr in_time) =
        let early : step.at + k * round ≤ after = h in_time in
        let a : nat_lt after (step.at + k * round) ≡ false = grind (arith, nat_tests) in
        and_left _ _ a
    by_time (inl late) =
        let b : nat_le (step.at + k * round) until ≡ false = grind (arith, nat_tests) in
        and_right (nat_lt after (step.at + k * round)) _ b

  module _ (steps : List Step) where
    -- if none is due in any round, there is none
    pub none_up_to : (n : ℕ) → ((k : ℕ) → newest (is_due round after until k) steps ≡ None) → newest_up_to round after until steps n ≡ None
    none_up_to zero none = none 0
    none_up_to (suc n) none = rw (none (suc n)) (none_up_to n none)

    -- if none is due in a round after b, that of round b is the last
    pub last_up_to : (n b : ℕ) (value : List ℕ) → b ≤ n → newest (is_due round after until b) steps ≡ Some value
        → ((k : ℕ) → b < k → newest (is_due round after until k) steps ≡ None) → newest_up_to round after until steps n ≡ Some value
    last_up_to zero b value le is later =
        let at : b ≡ 0 = omega arith in
        ap (λ k. newest (is_due round after until k) steps) (sym at) ∙ is
    last_up_to (suc n) b value le is later = by_last (cases b (suc n) le) (λ below. last_up_to n b value below is later) where
      cases : (b m : ℕ) → b ≤ m → (b ≡ m) ⊎ (b < m)
      cases b m h = grind arith

      by_last : (b ≡ suc n) ⊎ (b < suc n) → (b ≤ n → newest_up_to round after until steps n ≡ Some value) → newest_up_to round after until steps (suc n) ≡ Some value
      by_last (inl at) before = rw (ap (λ k. newest (is_due round after until k) steps) (sym at) ∙ is) refl
      by_last (inr below) before = rw (later (suc n) below) (before (omega arith))

-- without timers nothing is due after the start
pub no_round : (round after until : ℕ) (steps : List Step) → round ≡ 0 → latest round after until steps ≡ None
unfolding latest
no_round round after until steps is = rw is refl

-- what is known after some steps: the best so far is the newest of its round, and no later round has one
abbrev pub Known : (round after until : ℕ) (steps : List Step) → ℕ → Option (List ℕ) → Type 0
Known round after until steps b best =
    (newest (is_due round after until b) steps ≡ best) × ((k : ℕ) → b < k → newest (is_due round after until k) steps ≡ None) × (b ≤ until) × (best ≡ None → b ≡ 0)

-- what is known after all steps is the latest
pub latest_known : (round after until : ℕ) (steps : List Step) (b : ℕ) (best : Option (List ℕ)) → 0 < round → Known round after until steps b best
    → best ≡ latest round after until steps
unfolding latest
latest_known round after until steps b (Some value) h (is, later, reached, only) =
    rw (ne_eqb round 0 (λ none. omega (arith, none))) (sym (last_up_to round after until steps until b value reached is later))
latest_known round after until steps b None h (is, later, reached, only) =
    rw (ne_eqb round 0 (λ none. omega (arith, none))) (sym (none_up_to round after until steps until (λ k. by_round k (cases k b)))) where
      cases : (k b : ℕ) → (k ≡ 0) ⊎ (0 < k)
      cases k b = grind arith

      by_round : (k : ℕ) → (k ≡ 0) ⊎ (0 < k) → newest (is_due round after until k) steps ≡ None
      by_round k (inl at) = ap (λ k. newest (is_due round after until k) steps) (at ∙ sym (only refl)) ∙ is
      by_round k (inr above) = later k (omega (arith, only refl))

module _ (round after until : ℕ) (steps : List Step) (b : ℕ) (best : Option (List ℕ)) (known : Known round after until steps b best) (step : Step) where
  unchanged : (j : ℕ) → is_due round after until j step ≡ false → newest (is_due round after until j) (steps ++ step ∷ []) ≡ newest (is_due round after until j) steps
  unchanged j fails = newest_same (is_due round after until j) steps step fails

  -- a step that is never due in time
  pub known_none : ((j : ℕ) → step.at + j * round ≤ until → step.at + j * round ≤ after) → Known round after until (steps ++ step ∷ []) b best
  known_none never =
      let off : (j : ℕ) → newest (is_due round after until j) (steps ++ step ∷ []) ≡ newest (is_due round after until j) steps = λ j. unchanged j (not_due round after until j step (never j)) in
      (off b ∙ known.0, λ j above. off j ∙ known.1 j above, known.2, known.3)

  module _ (k : ℕ) (positive : 0 < round) (in_time : after < step.at + k * round) (reached : step.at + k * round ≤ until) (most : (j : ℕ) → step.at + j * round ≤ until → j ≤ k) where
    past : (j : ℕ) → k < j → is_due round after until j step ≡ false
    past j above = not_due round after until j step (λ h. let le : j ≤ k = most j h in absurd (omega arith))

    -- a step whose last round is not before that of the best
    pub known_new : b ≤ k → Known round after until (steps ++ step ∷ []) k (Some step.value)
    known_new le =
        let within : k ≤ until = omega (arith, mul-le-mul_left k positive) in (
          newest_new (is_due round after until k) steps step (due round after until k step in_time reached),
          λ j above. unchanged j (past j above) ∙ known.1 j (omega arith),
          within,
          λ is. absurd (cc),
        )

    -- a step whose last round is before that of the best
    pub known_old : k < b → Known round after until (steps ++ step ∷ []) b best
    known_old lt =
        (unchanged b (past b lt) ∙ known.0, λ j above. unchanged j (past j (omega arith)) ∙ known.1 j above, known.2, known.3)
