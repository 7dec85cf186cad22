-- If something holds of each request that a form makes, it holds of what words make.
use Rattle.std.proofs.Common.{ℕ, List, [], ◌∷◌, inl, inr, Option, Some, None}
use Rattle.std.specs.List.{AllByRecursion}
use Rattle.std.specs.Option.{option_map}
use Rattle.std.proofs.lemmas.Bool.{cases_Bool}
use Rattle.nut_proto.specs.declared.request.Request.{Request}
use Rattle.nut_proto.specs.declared.request.Request.TheVariants as requests
use Rattle.nut_proto.specs.Keywords.{is_named}
use Rattle.nut_proto.specs.Requests.{Form, Rule, about, first_named, get_tracking}
use Rattle.nut_proto.specs.Rules.{none, number_word, one, three, two}

module _ (P : Request → Type 0) where
  abbrev pub IfMade : Option Request → Type 0
  IfMade None = Unit {0}
  IfMade (Some request) = P request

  abbrev pub Makes : Rule Request → Type 0
  Makes rule = (words : List (List ℕ)) → IfMade (rule words)

  pub of_none : (made : Request) → P made → Makes (none made)
  of_none made is [] = is
  of_none made is (x ∷ xs) = tt

  pub of_one : (made : List ℕ → Request) → ((x : List ℕ) → P (made x)) → Makes (one made)
  of_one made is (x ∷ []) = is x
  of_one made is _ = tt

  pub of_two : (made : List ℕ → List ℕ → Request) → ((x y : List ℕ) → P (made x y)) → Makes (two made)
  of_two made is (x ∷ y ∷ []) = is x y
  of_two made is _ = tt

  pub of_three : (made : List ℕ → List ℕ → List ℕ → Request) → ((x y z : List ℕ) → P (made x y z)) → Makes (three made)
  of_three made is (x ∷ y ∷ z ∷ []) = is x y z
  of_three made is _ = tt

  pub of_map : {A : Type 0} (made : A → Request) → ((x : A) → P (made x)) → (o : Option A) → IfMade (option_map (λ x. made x) o)
  of_map made is None = tt
  of_map made is (Some x) = is x

  pub of_tracking : P requests.GetTracking → ((n : ℕ) → P (requests.GetTrackingOf n)) → Makes get_tracking
  of_tracking is each [] = is
  of_tracking is each (word ∷ words) = of_map requests.GetTrackingOf each (number_word (word ∷ words))

  pub of_about : (forms : List (Form Request)) → AllByRecursion (λ form. Makes form.1) forms → Makes (about forms)
  of_about forms all [] = tt
  of_about forms all (word ∷ words) = go forms all where
    go : (forms : List (Form Request)) → AllByRecursion (λ form. Makes form.1) forms → IfMade (first_named forms word words)
    go [] all = tt
    go (form ∷ forms) all = elim (cases_Bool (is_named word form.0)) [ inl e ↦ rw e (all.0 words) | inr e ↦ rw e (go forms all.1) ]
