-- What an edit by name does to look-ups, to the order, to the length, and to what holds of each element.
use Rattle.std.proofs.Common.{◌≡◌, ◌≢◌, ℕ, suc, ◌+◌, ◌-◌, ◌≤◌, List, [], ◌∷◌, ◌++◌, Bool, true, false, cond, Option, Some, None, length, map, refl, sym, ap, subst, ◌∙◌, arith, inl, inr, length-append}
use Rattle.std.specs.Prelude.{filter, is_some}
use Rattle.std.specs.List.{find, AllByRecursion, All}
use Rattle.std.proofs.lemmas.List.Elements.{recursion_from_All, All-weaker, filter_passes, All-append, All-filter}
use Rattle.std.specs.Option.{option_or, option_to_list}
use Rattle.std.specs.Ordering.{is_lt, is_gt, is_eq}
use Rattle.std.specs.declared.cmp.Ordering.{Ordering}
use Rattle.std.specs.declared.cmp.Ordering.TheVariants.{Less, Equal, Greater}
use Rattle.std.proofs.lemmas.List.Folds.{find-append}
use Rattle.std.proofs.lemmas.Bool.{cases_Bool, false_from_ne_true}
use Rattle.nut_state.specs.Sorted.{name_cmp, IsAscending, named, put}
use Rattle.nut_state.proofs.SortedLemmas.{same_name, name_itself, name_earlier, name_trans, lower, higher, equal, Each, one_at_most}

module _ {X : Type 0} where
  find_kept : (p q : X → Bool) → ((x : X) → p x ≡ true → q x ≡ true) → (xs : List X) → find p (filter q xs) ≡ find p xs
  find_kept p q h [] = refl
  find_kept p q h (x ∷ xs) = grind (arith, find_kept p q h xs, h x)

  find_dropped : (p q : X → Bool) → ((x : X) → p x ≡ true → q x ≡ false) → (xs : List X) → find p (filter q xs) ≡ None
  find_dropped p q h [] = refl
  find_dropped p q h (x ∷ xs) = grind (arith, find_dropped p q h xs, h x)

  find_past : (p : X → Bool) (xs ys : List X) → find p xs ≡ None → find p (xs ++ ys) ≡ find p ys
  find_past p xs ys h = find-append p xs ys ∙ ap (λ o. option_or o (find p ys)) h

  find_first : (p : X → Bool) (xs ys : List X) → find p ys ≡ None → find p (xs ++ ys) ≡ find p xs
  find_first p [] ys h = h
  find_first p (x ∷ xs) ys h = ap (λ o. cond (p x) (Some x) o) (find_first p xs ys h)

-- what tests say of an order
lt_is : (o : Ordering) → is_lt o ≡ true → o ≡ Less
lt_is Less h = refl
lt_is _ h = cc

gt_is : (o : Ordering) → is_gt o ≡ true → o ≡ Greater
gt_is Greater h = refl
gt_is _ h = cc

eq_is : (o : Ordering) → is_eq o ≡ true → o ≡ Equal
eq_is Equal h = refl
eq_is _ h = cc

module _ {X : Type 0} (name_of : X → List ℕ) where
  -- The entry has this name, or there is no entry.
  abbrev pub HasName : List ℕ → Option X → Type 0
  HasName name None = Unit {0}
  HasName name (Some x) = name_of x ≡ name

  -- the look-up of the name that was put
  pub named-put_same : (name : List ℕ) (new : Option X) (xs : List X) → HasName name new → named name_of name (put name_of name new xs) ≡ new
  unfolding named put
  named-put_same name new xs h =
      find_past (equal name_of name) (filter (lower name_of name) xs) (option_to_list new ++ filter (higher name_of name) xs)
      (find_dropped (equal name_of name) (lower name_of name) (λ x h. ap is_lt (eq_is _ h)) xs)
      ∙ by new h
    where
      by : (o : Option X) → HasName name o → find (equal name_of name) (option_to_list o ++ filter (higher name_of name) xs) ≡ o
      by None h = find_dropped (equal name_of name) (higher name_of name) (λ x h. ap is_gt (eq_is _ h)) xs
      by (Some x) h = rw (h, name_itself name) refl

  -- An entry with another name isn't the one looked for.
  not_found : (other name : List ℕ) (new : Option X) → HasName name new → name ≢ other → find (equal name_of other) (option_to_list new) ≡ None
  not_found other name None h n = refl
  not_found other name (Some x) h n = rw (h, false_from_ne_true _ (λ e. n (same_name name other (eq_is _ e)))) refl

  same_as : (other : List ℕ) (x : X) → equal name_of other x ≡ true → name_of x ≡ other
  same_as other x h = same_name (name_of x) other (eq_is _ h)

  -- the look-up of any other name
  pub named-put_other : (name other : List ℕ) (new : Option X) (xs : List X) → HasName name new → name ≢ other
      → named name_of other (put name_of name new xs) ≡ named name_of other xs
  unfolding named put
  named-put_other name other new xs h n = by (name_cmp other name) refl
    where
      by : (o : Ordering) → name_cmp other name ≡ o
          → find (equal name_of other) (filter (lower name_of name) xs ++ (option_to_list new ++ filter (higher name_of name) xs)) ≡ find (equal name_of other) xs
      by Less e =
          find_first (equal name_of other) _ _
          (find_past (equal name_of other) (option_to_list new) (filter (higher name_of name) xs) (not_found other name new h n)
          ∙ find_dropped (equal name_of other) (higher name_of name) (λ x eq. rw (same_as other x eq, e) refl) xs)
          ∙ find_kept (equal name_of other) (lower name_of name) (λ x eq. rw (same_as other x eq, e) refl) xs
      by Equal e = absurd (n (sym (same_name other name e)))
      by Greater e =
          find_past (equal name_of other) (filter (lower name_of name) xs) (option_to_list new ++ filter (higher name_of name) xs)
          (find_dropped (equal name_of other) (lower name_of name) (λ x eq. rw (same_as other x eq, e) refl) xs)
          ∙ find_past (equal name_of other) (option_to_list new) (filter (higher name_of name) xs) (not_found other name new h n)
          ∙ find_kept (equal name_of other) (higher name_of name) (λ x eq. rw (same_as other x eq, e) refl) xs

  -- ---- order

  abbrev After : List ℕ → List X → Type 0
  After name xs = AllByRecursion (λ other. name_cmp name other ≡ Less) (map name_of xs)

  after_filter : (p : X → Bool) (name : List ℕ) (xs : List X) → After name xs → After name (filter p xs)
  after_filter p name [] h = tt
  after_filter p name (x ∷ xs) h =
      elim (p x) as (λ b. After name (cond b (x ∷ filter p xs) (filter p xs))) [ true ↦ (h.0, after_filter p name xs h.1) | false ↦ after_filter p name xs h.1 ]

  ascending_filter : (p : X → Bool) (xs : List X) → IsAscending (map name_of xs) → IsAscending (map name_of (filter p xs))
  ascending_filter p [] up = tt
  ascending_filter p (x ∷ xs) up =
      elim (p x) as (λ b. IsAscending (map name_of (cond b (x ∷ filter p xs) (filter p xs))))
      [ true ↦ (after_filter p (name_of x) xs up.0, ascending_filter p xs up.1) | false ↦ ascending_filter p xs up.1 ]

  each_filter : (P : X → Type 0) (p : X → Bool) → ((x : X) → p x ≡ true → P x) → (xs : List X) → AllByRecursion P (filter p xs)
  each_filter P p h xs = recursion_from_All P (filter p xs) (All-weaker (λ x. p x ≡ true) P h (filter p xs) (filter_passes p xs))

  after_each : (name : List ℕ) (xs : List X) → AllByRecursion (λ x. name_cmp name (name_of x) ≡ Less) xs → After name xs
  after_each name [] h = tt
  after_each name (x ∷ xs) h = (h.0, after_each name xs h.1)

  after_append : (name : List ℕ) (xs ys : List X) → After name xs → After name ys → After name (xs ++ ys)
  after_append name [] ys h g = g
  after_append name (x ∷ xs) ys h g = (h.0, after_append name xs ys h.1 g)

  after_trans : (low high : List ℕ) (xs : List X) → name_cmp low high ≡ Less → After high xs → After low xs
  after_trans low high [] e h = tt
  after_trans low high (x ∷ xs) e h = (name_trans low high (name_of x) e h.0, after_trans low high xs e h.1)

  -- the elements before a name, then an entry with that name or none, then the elements after it
  joined : (name : List ℕ) (xs : List X) (new : Option X) (ys : List X) → IsAscending (map name_of xs) → Each name_of Less name xs
      → HasName name new → IsAscending (map name_of ys) → After name ys → IsAscending (map name_of (xs ++ (option_to_list new ++ ys)))
  joined name [] None ys up each h more after = more
  joined name [] (Some x) ys up each h more after = (subst (λ n. After n ys) (sym h) after, more)
  joined name (x ∷ xs) new ys up each h more after =
      (after_append (name_of x) xs (option_to_list new ++ ys) up.0 (by new h), joined name xs new ys up.1 each.1 h more after)
    where
      by : (o : Option X) → HasName name o → After (name_of x) (option_to_list o ++ ys)
      by None h = after_trans (name_of x) name ys each.0 after
      by (Some y) h = (subst (λ n. name_cmp (name_of x) n ≡ Less) (sym h) each.0, after_trans (name_of x) name ys each.0 after)

  pub ascending-put : (name : List ℕ) (new : Option X) (xs : List X) → HasName name new → IsAscending (map name_of xs)
      → IsAscending (map name_of (put name_of name new xs))
  unfolding put
  ascending-put name new xs h up =
      joined name (filter (lower name_of name) xs) new (filter (higher name_of name) xs) (ascending_filter (lower name_of name) xs up)
      (each_filter (λ x. name_cmp (name_of x) name ≡ Less) (lower name_of name) (λ x. lt_is (name_cmp (name_of x) name)) xs) h
      (ascending_filter (higher name_of name) xs up)
      (after_each name _ (each_filter (λ x. name_cmp name (name_of x) ≡ Less) (higher name_of name) (λ x h. name_earlier (name_of x) name (gt_is _ h)) xs))

  -- ---- length

  counts : (name : List ℕ) (xs : List X)
      → length (filter (lower name_of name) xs) + (length (filter (equal name_of name) xs) + length (filter (higher name_of name) xs)) ≡ length xs
  counts name [] = refl
  counts name (x ∷ xs) = by (name_cmp (name_of x) name) refl (counts name xs)
    where
      by : (o : Ordering) → name_cmp (name_of x) name ≡ o
          → length (filter (lower name_of name) xs) + (length (filter (equal name_of name) xs) + length (filter (higher name_of name) xs)) ≡ length xs
          → length (filter (lower name_of name) (x ∷ xs)) + (length (filter (equal name_of name) (x ∷ xs)) + length (filter (higher name_of name) (x ∷ xs))) ≡ suc (length xs)
      by Less e h = rw e (omega arith)
      by _ e h = rw e (omega arith)

  count_found : (p : X → Bool) (xs : List X) → is_some (find p xs) ≡ true → 1 ≤ length (filter p xs)
  count_found p [] h = cc
  count_found p (x ∷ xs) h = grind (arith, count_found p xs)

  at_most_one : (new : Option X) → length (option_to_list new) ≤ 1
  at_most_one None = omega arith
  at_most_one (Some x) = omega arith

  length-put_parts : (name : List ℕ) (new : Option X) (xs : List X)
      → length (put name_of name new xs) + length (filter (equal name_of name) xs) ≡ length xs + length (option_to_list new)
  unfolding put
  length-put_parts name new xs =
      omega (
        arith,
        counts name xs,
        length-append (filter (lower name_of name) xs) (option_to_list new ++ filter (higher name_of name) xs),
        length-append (option_to_list new) (filter (higher name_of name) xs),
      )

  -- A put makes the list no longer if an element had this name, and at most one longer if none had.
  pub length-put_found : (name : List ℕ) (new : Option X) (xs : List X) → is_some (named name_of name xs) ≡ true → length (put name_of name new xs) ≤ length xs
  unfolding named
  length-put_found name new xs h =
      let one : 1 ≤ length (filter (equal name_of name) xs) = count_found (equal name_of name) xs h in
      omega (arith, length-put_parts name new xs, at_most_one new)

  -- If an element had this name: a put of another keeps the length, and a put of none makes it one less.
  pub length-put_again : (name : List ℕ) (x : X) (xs : List X) → IsAscending (map name_of xs) → is_some (named name_of name xs) ≡ true
      → length (put name_of name (Some x) xs) ≡ length xs
  unfolding named
  length-put_again name x xs up h =
      omega (arith, length-put_parts name (Some x) xs, count_found (equal name_of name) xs h, one_at_most name_of name xs up)

  pub length-put_away : (name : List ℕ) (xs : List X) → IsAscending (map name_of xs) → is_some (named name_of name xs) ≡ true
      → length (put name_of name None xs) ≡ length xs - 1
  unfolding named
  length-put_away name xs up h =
      omega (arith, length-put_parts name None xs, count_found (equal name_of name) xs h, one_at_most name_of name xs up)

  count_absent : (p : X → Bool) (xs : List X) → find p xs ≡ None → length (filter p xs) ≡ 0
  count_absent p [] h = refl
  count_absent p (x ∷ xs) h = grind (arith, count_absent p xs)

  -- If no element had this name: a put of one makes the list one longer, and a put of none keeps the length.
  pub length-put_new : (name : List ℕ) (x : X) (xs : List X) → named name_of name xs ≡ None → length (put name_of name (Some x) xs) ≡ suc (length xs)
  unfolding named
  length-put_new name x xs h = omega (arith, length-put_parts name (Some x) xs, count_absent (equal name_of name) xs h)

  pub length-put_nothing : (name : List ℕ) (xs : List X) → named name_of name xs ≡ None → length (put name_of name None xs) ≡ length xs
  unfolding named
  length-put_nothing name xs h = omega (arith, length-put_parts name None xs, count_absent (equal name_of name) xs h)

  pub length-put : (name : List ℕ) (new : Option X) (xs : List X) → length (put name_of name new xs) ≤ length xs + 1
  length-put name new xs = omega (arith, length-put_parts name new xs, at_most_one new)

  pub length-put_none : (name : List ℕ) (xs : List X) → length (put name_of name None xs) ≤ length xs
  length-put_none name xs = omega (arith, length-put_parts name None xs)

  pub All-put : (P : X → Type 0) (name : List ℕ) (new : Option X) (xs : List X) → All P (option_to_list new) → All P xs → All P (put name_of name new xs)
  unfolding put
  All-put P name new xs h all =
      All-append P _ _ (All-filter (lower name_of name) P xs all) (All-append P _ _ h (All-filter (higher name_of name) P xs all))

  -- ---- what was looked up

  find_passes : (p : X → Bool) (xs : List X) (x : X) → find p xs ≡ Some x → p x ≡ true
  find_passes p [] x h = cc
  find_passes p (y ∷ ys) x h = grind (arith, find_passes p ys x)

  find_holds : (P : X → Type 0) (p : X → Bool) (xs : List X) (x : X) → AllByRecursion P xs → find p xs ≡ Some x → P x
  find_holds P p [] x all h = cc
  find_holds P p (y ∷ ys) x all h = elim (cases_Bool (p y)) [
    | inl e ↦ let same : y ≡ x = grind arith in subst P same all.0
    | inr e ↦ find_holds P p ys x all.1 (grind arith)
  ]

  pub name-named : (name : List ℕ) (xs : List X) (x : X) → named name_of name xs ≡ Some x → name_of x ≡ name
  unfolding named
  name-named name xs x h = same_as name x (find_passes (equal name_of name) xs x h)

  pub All-named : (P : X → Type 0) (name : List ℕ) (xs : List X) (x : X) → All P xs → named name_of name xs ≡ Some x → P x
  unfolding named
  All-named P name xs x all h = find_holds P (equal name_of name) xs x (recursion_from_All P xs all) h
