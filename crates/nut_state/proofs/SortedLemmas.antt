-- What a search by name, and an edit at its place, do to a list that ascends by name.
use Rattle.std.proofs.Common.{◌≡◌, ℕ, zero, suc, ◌<◌, ◌≤◌, List, [], ◌∷◌, ◌++◌, Bool, true, Some, None, Ok, Err, Result, length, get_or, take, drop, map, refl, sym, ap, subst, ◌∙◌, arith, add-one}
use Rattle.std.specs.Prelude.{filter, MatchResult}
use Rattle.std.specs.List.{find, AllByRecursion}
use Rattle.std.specs.List.Sorted.{IsBinarySearchResult, IsSortedBy}
use Rattle.std.specs.Ordering.{is_lt, is_gt, is_eq, ordering_reverse}
use Rattle.std.specs.FinMap.{slice_cmp-IsAntisymmetric, nat_cmp-IsAntisymmetric}
use Rattle.std.specs.declared.cmp.Ordering.{Ordering}
use Rattle.std.specs.declared.cmp.Ordering.TheVariants.{Less, Equal, Greater}
use Rattle.std.proofs.lemmas.Cmp.{nat_list_cmp_total, tied_itself}
use Rattle.std.proofs.lemmas.List.Sorted.{searchable_from_sorted}
use Rattle.std.proofs.lemmas.List.{set_split}
use Rattle.nut_state.specs.Sorted.{name_cmp, IsAscending, IsFound, IsFree, IsPlace, named, put}

-- ---- the order of names

pub same_name : (a b : List ℕ) → name_cmp a b ≡ Equal → a ≡ b
same_name a b e = slice_cmp-IsAntisymmetric nat_cmp-IsAntisymmetric a b e

-- Names that were compared and found equal are the same.
pub names_equal : (a b : List ℕ) (o : Ordering) → o ≡ name_cmp a b → is_eq o ≡ true → a ≡ b
names_equal a b Less is equal = absurd (cc)
names_equal a b Equal is equal = same_name a b (sym is)
names_equal a b Greater is equal = absurd (cc)

pub name_itself : (a : List ℕ) → name_cmp a a ≡ Equal
name_itself a = tied_itself nat_list_cmp_total a

pub name_later : (a b : List ℕ) → name_cmp a b ≡ Less → name_cmp b a ≡ Greater
name_later a b e = nat_list_cmp_total.antisymm b a ∙ ap ordering_reverse e

pub name_trans : (a b c : List ℕ) → name_cmp a b ≡ Less → name_cmp b c ≡ Less → name_cmp a c ≡ Less
name_trans a b c = nat_list_cmp_total.trans a b c

pub name_earlier : (a b : List ℕ) → name_cmp a b ≡ Greater → name_cmp b a ≡ Less
name_earlier a b e = nat_list_cmp_total.antisymm b a ∙ ap ordering_reverse e

-- ---- a list of anything with a name

module _ {X : Type 0} (name_of : X → List ℕ) where
  abbrev pub lower : List ℕ → X → Bool
  lower name x = is_lt (name_cmp (name_of x) name)

  abbrev pub higher : List ℕ → X → Bool
  higher name x = is_gt (name_cmp (name_of x) name)

  abbrev pub equal : List ℕ → X → Bool
  equal name x = is_eq (name_cmp (name_of x) name)

  -- Each element compares so with the name.
  abbrev pub Each : Ordering → List ℕ → List X → Type 0
  Each o name = AllByRecursion (λ x. name_cmp (name_of x) name ≡ o)

  each_from_within : (o : Ordering) (name : List ℕ) (xs : List X) → ((k : ℕ) (d : X) → k < length xs → name_cmp (name_of (get_or xs k d)) name ≡ o) → Each o name xs
  each_from_within o name [] h = tt
  each_from_within o name (x ∷ xs) h = (h 0 x (omega arith), each_from_within o name xs (λ k d l. h (suc k) d (omega arith)))

  higher_lower : (name : List ℕ) (xs : List X) → Each Greater name xs → filter (lower name) xs ≡ []
  higher_lower name [] h = refl
  higher_lower name (x ∷ xs) h = rw h.0 (higher_lower name xs h.1)

  higher_higher : (name : List ℕ) (xs : List X) → Each Greater name xs → filter (higher name) xs ≡ xs
  higher_higher name [] h = refl
  higher_higher name (x ∷ xs) h = rw h.0 (ap (λ ys. x ∷ ys) (higher_higher name xs h.1))

  higher_equal : (name : List ℕ) (xs : List X) → Each Greater name xs → find (equal name) xs ≡ None
  higher_equal name [] h = refl
  higher_equal name (x ∷ xs) h = rw h.0 (higher_equal name xs h.1)

  -- what a search that found nothing says
  pub parts_if_free : (name : List ℕ) (xs : List X) (i : ℕ) → i ≤ length xs
      → ((k : ℕ) (d : X) → k < i → name_cmp (name_of (get_or xs k d)) name ≡ Less)
      → ((k : ℕ) (d : X) → i ≤ k → k < length xs → name_cmp (name_of (get_or xs k d)) name ≡ Greater)
      → (filter (lower name) xs ≡ take i xs) × (filter (higher name) xs ≡ drop i xs) × (find (equal name) xs ≡ None)
  parts_if_free name xs zero le below above =
      let each : Each Greater name xs = each_from_within Greater name xs (λ k d l. above k d (omega arith) l) in
      (higher_lower name xs each, higher_higher name xs each, higher_equal name xs each)
  parts_if_free name [] (suc i) le below above = absurd (omega arith)
  parts_if_free name (x ∷ xs) (suc i) le below above =
      let h : name_cmp (name_of x) name ≡ Less = below 0 x (omega arith) in
      let rest = parts_if_free name xs i (omega arith) (λ k d l. below (suc k) d (omega arith)) (λ k d l m. above (suc k) d (omega arith) (omega arith)) in
      rw h (ap (λ ys. x ∷ ys) rest.0, rest.1, rest.2)

  abbrev NamesAfter : List ℕ → List X → Type 0
  NamesAfter name xs = AllByRecursion (λ other. name_cmp name other ≡ Less) (map name_of xs)

  names_after_at : (name : List ℕ) (xs : List X) (i : ℕ) (d : X) → i < length xs → NamesAfter name xs → name_cmp name (name_of (get_or xs i d)) ≡ Less
  names_after_at name [] i d l h = absurd (omega arith)
  names_after_at name (x ∷ xs) zero d l h = h.0
  names_after_at name (x ∷ xs) (suc i) d l h = names_after_at name xs i d (omega arith) h.1

  all_higher : (name : List ℕ) (xs : List X) → NamesAfter name xs → Each Greater name xs
  all_higher name [] h = tt
  all_higher name (x ∷ xs) h = (name_later name (name_of x) h.0, all_higher name xs h.1)

  higher_none : (name : List ℕ) (xs : List X) → Each Greater name xs → filter (equal name) xs ≡ []
  higher_none name [] h = refl
  higher_none name (x ∷ xs) h = rw h.0 (higher_none name xs h.1)

  -- No name comes twice.
  pub one_at_most : (name : List ℕ) (xs : List X) → IsAscending (map name_of xs) → length (filter (equal name) xs) ≤ 1
  one_at_most name [] up = omega arith
  one_at_most name (x ∷ xs) up = by (name_cmp (name_of x) name) refl (one_at_most name xs up.1)
    where
      by : (o : Ordering) → name_cmp (name_of x) name ≡ o → length (filter (equal name) xs) ≤ 1 → length (filter (equal name) (x ∷ xs)) ≤ 1
      by Equal e rest =
          let each : Each Greater name xs = all_higher name xs (subst (λ n. NamesAfter n xs) (same_name (name_of x) name e) up.0) in
          rw (e, higher_none name xs each) (omega arith)
      by _ e rest = rw e rest

  -- what a search that found an element says
  pub parts_if_found : (name : List ℕ) (xs : List X) (i : ℕ) → IsAscending (map name_of xs) → i < length xs
      → ((d : X) → name_cmp (name_of (get_or xs i d)) name ≡ Equal)
      → (filter (lower name) xs ≡ take i xs) × (filter (higher name) xs ≡ drop (suc i) xs) × ((d : X) → find (equal name) xs ≡ Some (get_or xs i d))
  parts_if_found name [] i up l here = absurd (omega arith)
  parts_if_found name (x ∷ xs) zero up l here =
      let h : name_cmp (name_of x) name ≡ Equal = here x in
      let each : Each Greater name xs = all_higher name xs (subst (λ n. NamesAfter n xs) (same_name (name_of x) name h) up.0) in
      rw h (higher_lower name xs each, higher_higher name xs each, λ d. refl)
  parts_if_found name (x ∷ xs) (suc i) up l here =
      let h : name_cmp (name_of x) name ≡ Less =
      subst (λ n. name_cmp (name_of x) n ≡ Less) (same_name (name_of (get_or xs i x)) name (here x)) (names_after_at (name_of x) xs i x (omega arith) up.0) in
      let rest = parts_if_found name xs i up.1 (omega arith) here in
      rw h (ap (λ ys. x ∷ ys) rest.0, rest.1, rest.2)

  pub found : (name : List ℕ) (xs : List X) (i : ℕ) → IsAscending (map name_of xs) → i < length xs
      → ((d : X) → name_cmp (name_of (get_or xs i d)) name ≡ Equal) → IsFound name_of name xs i
  unfolding named put
  found name xs i up l here =
      let parts = parts_if_found name xs i up l here in
      record {
        within = l;
        is = parts.2;
        replaced = λ new. (λ j. parts.0 j ++ (new ∷ parts.1 j)) ∙ sym (set_split xs i new l);
        removed = λ j. parts.0 j ++ parts.1 j;
      }

  -- The element at this place has the name.
  pub found_there : (name : List ℕ) (xs : List X) (i : ℕ) (x : X) → IsAscending (map name_of xs) → (i < length xs) × ((d : X) → x ≡ get_or xs i d) → name_of x ≡ name → IsFound name_of name xs i
  found_there name xs i x up there is =
      found name xs i up there.0 (λ d. ap (λ y. name_cmp (name_of y) name) (sym (there.1 d)) ∙ ap (λ n. name_cmp n name) is ∙ name_itself name)

  pub free : (name : List ℕ) (xs : List X) (i : ℕ) → i ≤ length xs
      → ((k : ℕ) (d : X) → k < i → name_cmp (name_of (get_or xs k d)) name ≡ Less)
      → ((k : ℕ) (d : X) → i ≤ k → k < length xs → name_cmp (name_of (get_or xs k d)) name ≡ Greater)
      → IsFree name_of name xs i
  unfolding named put
  free name xs i le below above =
      let parts = parts_if_free name xs i le below above in
      record { within = le; is = parts.2; inserted = λ new. λ j. parts.0 j ++ (new ∷ parts.1 j) }

  -- what `binary_search_by` answers for an ascending list
  adjacent : (xs : List X) → IsAscending (map name_of xs) → (k : ℕ) (d : X) → suc k < length xs
      → name_cmp (name_of (get_or xs k d)) (name_of (get_or xs (suc k) d)) ≡ Less
  adjacent [] up k d l = absurd (omega arith)
  adjacent (x ∷ xs) up zero d l = names_after_at (name_of x) xs 0 d (omega arith) up.0
  adjacent (x ∷ xs) up (suc k) d l = adjacent xs up.1 k d (omega arith)

  sorted : (xs : List X) → IsAscending (map name_of xs) → IsSortedBy (λ a b. is_lt (name_cmp (name_of a) (name_of b))) xs
  sorted xs up k d low high = rw add-one (ap is_lt (name_later (name_of (get_or xs k d)) (name_of (get_or xs (suc k) d)) (adjacent xs up k d (omega arith))))

  pub searched_place : (name : List ℕ) (xs : List X) (r : Result ℕ ℕ) → IsAscending (map name_of xs)
      → MatchResult r (λ i. i < length xs) (λ i. i ≤ length xs)
      → IsBinarySearchResult (λ x. name_cmp (name_of x) name) xs r → IsPlace name_of name xs r
  searched_place name xs (Ok i) up bound at = found name xs i up bound at
  searched_place name xs (Err i) up bound at =
      let parts = at (searchable_from_sorted nat_list_cmp_total name_of xs name (sorted xs up)) in
      free name xs i bound (λ k d l. parts.0 k d (omega arith) l) (λ k d l m. parts.1 k d l m)
