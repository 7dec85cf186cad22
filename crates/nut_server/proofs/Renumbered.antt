-- The numbers of UPSes at a reload, found one by one.
use Rattle.std.proofs.Common.{◌≡◌, ℕ, zero, suc, ◌+◌, ◌-◌, ◌<◌, ◌≤◌, true, false, ◌||◌, eqb, List, [], ◌∷◌, ◌++◌, length, drop, refl, sym, ◌∙◌, ap, ap₂, arith, inl, inr, Option, Some, None, slice_get, length-append}
use Rattle.std.specs.Prelude.{if◌then◌else◌}
use Rattle.std.specs.Option.{option_and_then, option_map_or}
use Rattle.std.proofs.lemmas.Bool.{cases_Bool}
use Rattle.std.proofs.lemmas.List.{append_assoc, length-drop}
use Rattle.nut_server_spec.specs.Configuration.{Ups}
use Rattle.nut_server.proofs.Elements.{drop_here, some_there}
use Rattle.nut_server_spec.specs.Numbering.{Numbering, number_of, is_taken, first_free, least_free, kept_numbers, given_numbers}

-- ---- the least free number

-- a number that is taken is passed over
pub free_on : (n end : ℕ) (taken : List ℕ) → n < end → is_taken n taken ≡ true → first_free (end - n) n taken ≡ first_free (end - (n + 1)) (n + 1) taken
free_on n end taken lt is =
    let more : end - n ≡ suc (end - (n + 1)) = omega (arith, lt) in
    ap (λ k. first_free k n taken) more ∙ rw is refl

-- one that isn't is the least
pub free_here : (n end : ℕ) (taken : List ℕ) → n < end → is_taken n taken ≡ false → first_free (end - n) n taken ≡ n
free_here n end taken lt is =
    let more : end - n ≡ suc (end - (n + 1)) = omega (arith, lt) in
    ap (λ k. first_free k n taken) more ∙ rw is refl

-- ---- the order of the taken numbers makes no difference

-- Both hold the same numbers, equally many.
pub record AreAlike (a b : List ℕ) : Type 0 where
  pub same : (n : ℕ) → is_taken n a ≡ is_taken n b
  pub long : length a ≡ length b

taken_last : (n x : ℕ) (taken : List ℕ) → is_taken n (taken ++ x ∷ []) ≡ is_taken n (x ∷ taken)
taken_last n x [] = refl
taken_last n x (k ∷ taken) =
    let rest : is_taken n (taken ++ x ∷ []) ≡ is_taken n (x ∷ taken) = taken_last n x taken in
    elim (cases_Bool (eqb k n)) [
      | inl e ↦ elim (cases_Bool (eqb x n)) [ inl f ↦ rw (e, f) refl | inr f ↦ rw (e, f) refl ]
      | inr e ↦ elim (cases_Bool (eqb x n)) [ inl f ↦ rw (e, f) (rest ∙ rw f refl) | inr f ↦ rw (e, f) (rest ∙ rw f refl) ]
    ]

last_first : (x : ℕ) (taken : List ℕ) → AreAlike (taken ++ x ∷ []) (x ∷ taken)
last_first x taken = record { same = λ n. taken_last n x taken; long = omega (arith, length-append taken (x ∷ [])) }

same_free : (more n : ℕ) (a b : List ℕ) → AreAlike a b → first_free more n a ≡ first_free more n b
same_free zero n a b alike = refl
same_free (suc more) n a b alike = ap₂ (λ t rest. if t then rest else n) (alike.same n) (same_free more (n + 1) a b alike)

same_least : (a b : List ℕ) → AreAlike a b → least_free a ≡ least_free b
same_least a b alike = ap (λ k. first_free k 0 a) alike.long ∙ same_free (length b) 0 a b alike

alike_more : (x : ℕ) (a b : List ℕ) → AreAlike a b → AreAlike (x ∷ a) (x ∷ b)
alike_more x a b alike = record { same = λ n. ap (λ t. eqb x n || t) (alike.same n); long = ap suc alike.long }

same_given : (before : Numbering) (upses : List Ups) (a b : List ℕ) → AreAlike a b → given_numbers before a upses ≡ given_numbers before b upses
same_given before [] a b alike = refl
same_given before (ups ∷ upses) a b alike =
    let least : least_free a ≡ least_free b = same_least a b alike in
    let rest : given_numbers before a upses ≡ given_numbers before b upses = same_given before upses a b alike in
    let more : given_numbers before (least_free a ∷ a) upses ≡ given_numbers before (least_free b ∷ b) upses =
    ap (λ x. given_numbers before (x ∷ a) upses) least ∙ same_given before upses (least_free b ∷ a) (least_free b ∷ b) (alike_more (least_free b) a b alike)
    in
    ap₂ (λ kept fresh. option_map_or (λ n. n ∷ kept) (number_of ups.name before) fresh) rest (ap₂ (λ x ns. x ∷ ns) least more)

-- ---- the numbers that are kept

-- the UPS at a place, and those from there on
there : {A : Type 0} (xs : List A) (i : ℕ) → i < length xs → (x : A) × (slice_get xs i ≡ Some x) × (drop i xs ≡ x ∷ drop (i + 1) xs)
there xs i lt = let it = some_there xs i lt in (it.0, it.1, drop_here xs i it.0 it.1)

-- the number that the UPS at a place keeps
abbrev pub kept_at : Numbering → List Ups → ℕ → Option ℕ
kept_at before upses i = option_and_then (λ ups. number_of ups.name before) (slice_get upses i)

module _ (before : Numbering) (upses : List Ups) (i : ℕ) (lt : i < length upses) where
  is_at : (o : Option ℕ) → o ≡ kept_at before upses i → number_of (there upses i lt).0.name before ≡ o
  is_at o is = sym (is ∙ ap (option_and_then (λ ups. number_of ups.name before)) (there upses i lt).1)

  -- the UPS at the place keeps a number
  pub kept_more : (n : ℕ) (kept : List ℕ) → Some n ≡ kept_at before upses i → (kept ++ n ∷ []) ++ kept_numbers before (drop (i + 1) upses) ≡ kept ++ kept_numbers before (drop i upses)
  kept_more n kept is =
      append_assoc kept (n ∷ []) (kept_numbers before (drop (i + 1) upses))
      ∙ ap (λ ns. kept ++ ns) (sym (ap (kept_numbers before) (there upses i lt).2 ∙ rw (is_at (Some n) is) refl))

  -- it keeps none
  pub kept_same : (kept : List ℕ) → None ≡ kept_at before upses i → kept ++ kept_numbers before (drop (i + 1) upses) ≡ kept ++ kept_numbers before (drop i upses)
  kept_same kept is = ap (λ ns. kept ++ ns) (sym (ap (kept_numbers before) (there upses i lt).2 ∙ rw (is_at None is) refl))

  -- the UPS at the place keeps a number, so no number is taken for it
  pub given_more : (n : ℕ) (taken given : List ℕ) → Some n ≡ kept_at before upses i
      → (given ++ n ∷ []) ++ given_numbers before taken (drop (i + 1) upses) ≡ given ++ given_numbers before taken (drop i upses)
  given_more n taken given is =
      append_assoc given (n ∷ []) (given_numbers before taken (drop (i + 1) upses))
      ∙ ap (λ ns. given ++ ns) (sym (ap (given_numbers before taken) (there upses i lt).2 ∙ rw (is_at (Some n) is) refl))

  -- it keeps none, so it takes the least that is free
  pub given_new : (taken given : List ℕ) → None ≡ kept_at before upses i
      → (given ++ least_free taken ∷ []) ++ given_numbers before (taken ++ least_free taken ∷ []) (drop (i + 1) upses) ≡ given ++ given_numbers before taken (drop i upses)
  given_new taken given is =
      append_assoc given (least_free taken ∷ []) (given_numbers before (taken ++ least_free taken ∷ []) (drop (i + 1) upses))
      ∙ ap (λ ns. given ++ least_free taken ∷ ns) (same_given before (drop (i + 1) upses) (taken ++ least_free taken ∷ []) (least_free taken ∷ taken) (last_first (least_free taken) taken))
      ∙ ap (λ ns. given ++ ns) (sym (ap (given_numbers before taken) (there upses i lt).2 ∙ rw (is_at None is) refl))

  -- how many numbers are kept from the place on
  pub one_kept : (n : ℕ) → Some n ≡ kept_at before upses i → length (kept_numbers before (drop i upses)) ≡ suc (length (kept_numbers before (drop (i + 1) upses)))
  one_kept n is = ap (λ us. length (kept_numbers before us)) (there upses i lt).2 ∙ rw (is_at (Some n) is) refl

  pub none_kept : None ≡ kept_at before upses i → length (kept_numbers before (drop i upses)) ≡ length (kept_numbers before (drop (i + 1) upses))
  none_kept is = ap (λ us. length (kept_numbers before us)) (there upses i lt).2 ∙ rw (is_at None is) refl

kept_few : (before : Numbering) (upses : List Ups) → length (kept_numbers before upses) ≤ length upses
kept_few before [] = omega arith
kept_few before (ups ∷ upses) = by (number_of ups.name before) refl (kept_few before upses) where
  by : (o : Option ℕ) → number_of ups.name before ≡ o → length (kept_numbers before upses) ≤ length upses → length (kept_numbers before (ups ∷ upses)) ≤ suc (length upses)
  by None e rest = rw e (omega (arith, rest))
  by (Some n) e rest = rw e (omega (arith, rest))

-- no more numbers are kept than UPSes come
pub kept_after : (before : Numbering) (upses : List Ups) (i : ℕ) → length (kept_numbers before (drop i upses)) ≤ length upses - i
kept_after before upses i = omega (arith, kept_few before (drop i upses), length-drop i upses)
