-- UPSes with one number have one name, whatever reloads came; and a UPS that a reload keeps has its number again.
use Rattle.std.proofs.Common.{◌≡◌, ℕ, zero, suc, ◌+◌, ◌<◌, ◌≤◌, Bool, true, false, eqb, ltb, List, [], ◌∷◌, ◌⊎◌, length, refl, sym, ◌∙◌, ap, subst, arith, inl, inr, Option, Some, None}
use Rattle.std.specs.Prelude.{if◌then◌else◌, option_map, position, slice_get}
use Rattle.std.specs.List.{AllByRecursion, position_or_len}
use Rattle.std.specs.Option.{option_and_then}
use Rattle.std.specs.Str.{bytes_eq}
use Rattle.std.proofs.lemmas.Bool.{cases_Bool, eq-eqb, eqb-true, le-ltb, lt-ltb, ltb-false, ltb-true, ne_eqb, true≢false}
use Rattle.std.proofs.lemmas.Slice.Eq.{bytes_eq-Decides}
use Rattle.nut_server_spec.specs.Configuration.{Ups}
use Rattle.nut_server_spec.specs.Numbering.{Numbering, first_free, given_numbers, is_taken, kept_numbers, least_free, number_of, renumbered, ups_with, with_numbers}
use Rattle.nut_server_spec.proofs.Places.{IsCount}
use Rattle.nut_server_spec.proofs.Renumbered.{AreTaken, are_among}

-- ---- UPS by UPS

abbrev number_by : List ℕ → List Ups → List ℕ → Option ℕ
number_by name [] ns = None
number_by name (x ∷ xs) [] = None
number_by name (x ∷ xs) (n ∷ ns) = if bytes_eq x.name name then Some n else number_by name xs ns

abbrev ups_by : ℕ → List Ups → List ℕ → Option Ups
ups_by u [] ns = None
ups_by u (x ∷ xs) [] = None
ups_by u (x ∷ xs) (n ∷ ns) = if eqb n u then Some x else ups_by u xs ns

ltb-suc : (a b : ℕ) → ltb (1 + a) (suc b) ≡ ltb a b
ltb-suc a b = grind (arith, cases_Bool, ltb, lt-ltb, ltb-true, le-ltb, ltb-false)

position-cons : {A : Type 0} (p : A → Bool) (x : A) (xs : List A) → position p (x ∷ xs) ≡ (if p x then Some 0 else option_map suc (position p xs))
position-cons p x xs = elim (cases_Bool (p x)) [
  | inl e ↦ rw (e, lt-ltb 0 (suc (length xs)) (omega arith)) refl
  | inr e ↦ rw e (ap (λ b. if b then Some (1 + position_or_len p xs) else None) (ltb-suc (position_or_len p xs) (length xs)) ∙ both (ltb (position_or_len p xs) (length xs)))
]
  where
    both : (b : Bool) → (if b then Some (1 + position_or_len p xs) else None) ≡ option_map suc (if b then Some (position_or_len p xs) else None)
    both true = ap (λ n. Some n) (let next : 1 + position_or_len p xs ≡ suc (position_or_len p xs) = omega arith in next)
    both false = refl

get-none : {A : Type 0} (o : Option ℕ) → option_and_then (slice_get (let none : List A = [] in none)) o ≡ None
get-none None = refl
get-none (Some i) = refl

get-later : {A : Type 0} (x : A) (xs : List A) (b : Bool) (o : Option ℕ) →
    option_and_then (slice_get (x ∷ xs)) (if b then Some 0 else option_map suc o) ≡ (if b then Some x else option_and_then (slice_get xs) o)
get-later x xs b o = grind (arith, cases_Bool)

number-by : (name : List ℕ) (xs : List Ups) (ns : List ℕ) → number_of name (with_numbers xs ns) ≡ number_by name xs ns
number-by name [] ns = refl
number-by name (x ∷ xs) [] = get-none (position (λ (u : Ups). bytes_eq u.name name) (x ∷ xs))
number-by name (x ∷ xs) (n ∷ ns) =
    let p : Ups → Bool = λ u. bytes_eq u.name name in
    ap (option_and_then (slice_get (n ∷ ns))) (position-cons p x xs) ∙ get-later n ns (p x) (position p xs)
    ∙ ap (λ o. if bytes_eq x.name name then Some n else o) (number-by name xs ns)

ups-by : (u : ℕ) (xs : List Ups) (ns : List ℕ) → ups_with u (with_numbers xs ns) ≡ ups_by u xs ns
ups-by u [] ns = get-none (position (λ m. eqb m u) ns)
ups-by u (x ∷ xs) [] = refl
ups-by u (x ∷ xs) (n ∷ ns) =
    let p : ℕ → Bool = λ m. eqb m u in
    ap (option_and_then (slice_get (x ∷ xs))) (position-cons p n ns) ∙ get-later x xs (p n) (position p ns)
    ∙ ap (λ o. if eqb n u then Some x else o) (ups-by u xs ns)

-- ---- places with one number have one name

-- each place with the number n has this name
abbrev pub Named : List ℕ → ℕ → List Ups → List ℕ → Type 0
Named name n [] ms = Unit {0}
Named name n (x ∷ xs) [] = Unit {0}
Named name n (x ∷ xs) (m ∷ ms) = (m ≡ n → x.name ≡ name) × Named name n xs ms

abbrev pub HaveOneName : List Ups → List ℕ → Type 0
HaveOneName [] ns = Unit {0}
HaveOneName (x ∷ xs) [] = Unit {0}
HaveOneName (x ∷ xs) (n ∷ ns) = Named x.name n xs ns × HaveOneName xs ns

named-is : (name other : List ℕ) (n : ℕ) (xs : List Ups) (ms : List ℕ) → Named name n xs ms → number_by other xs ms ≡ Some n → other ≡ name
named-is name other n [] ms all is = cc
named-is name other n (x ∷ xs) [] all is = cc
named-is name other n (x ∷ xs) (m ∷ ms) all is = elim (cases_Bool (bytes_eq x.name other)) [
  | inl e ↦
      let here : Some m ≡ Some n = rw e at is in
      let same : m ≡ n = cc in
      sym ((bytes_eq-Decides x.name other).0 e) ∙ all.0 same
  | inr e ↦ named-is name other n xs ms all.1 (rw e at is)
]

one-name : (a b : List ℕ) (u : ℕ) (xs : List Ups) (ns : List ℕ) → HaveOneName xs ns → number_by a xs ns ≡ Some u → number_by b xs ns ≡ Some u → a ≡ b
one-name a b u [] ns all is is' = cc
one-name a b u (x ∷ xs) [] all is is' = cc
one-name a b u (x ∷ xs) (n ∷ ns) all is is' = by (cases_Bool (bytes_eq x.name a)) (cases_Bool (bytes_eq x.name b)) (one-name a b u xs ns all.1)
  where
    here : (c : List ℕ) → number_by c (x ∷ xs) (n ∷ ns) ≡ Some u → bytes_eq x.name c ≡ true → n ≡ u
    here c at e = let this : Some n ≡ Some u = rw e at at in cc

    other : (c d : List ℕ) → number_by c (x ∷ xs) (n ∷ ns) ≡ Some u → number_by d (x ∷ xs) (n ∷ ns) ≡ Some u → bytes_eq x.name c ≡ true → bytes_eq x.name d ≡ false → c ≡ d
    other c d one two e f =
        let same = here c one e in
        let later : number_by d xs ns ≡ Some u = rw f at two in
        sym ((bytes_eq-Decides x.name c).0 e) ∙ sym (named-is x.name d n xs ns all.0 (later ∙ ap (λ k. Some k) (sym same)))

    by : (bytes_eq x.name a ≡ true) ⊎ (bytes_eq x.name a ≡ false) → (bytes_eq x.name b ≡ true) ⊎ (bytes_eq x.name b ≡ false) →
        (number_by a xs ns ≡ Some u → number_by b xs ns ≡ Some u → a ≡ b) → a ≡ b
    by (inl e) (inl f) rest = sym ((bytes_eq-Decides x.name a).0 e) ∙ (bytes_eq-Decides x.name b).0 f
    by (inl e) (inr f) rest = other a b is is' e f
    by (inr e) (inl f) rest = sym (other b a is' is f e)
    by (inr e) (inr f) rest = rest (rw e at is) (rw f at is')

-- the UPS with the number of a name has that name
ups-named : (name : List ℕ) (u : ℕ) (x : Ups) (xs : List Ups) (ns : List ℕ) → HaveOneName xs ns → number_by name xs ns ≡ Some u → ups_by u xs ns ≡ Some x → x.name ≡ name
ups-named name u x [] ns all is found = cc
ups-named name u x (y ∷ ys) [] all is found = cc
ups-named name u x (y ∷ ys) (n ∷ ns) all is found = elim (cases_Bool (eqb n u)) [
  | inl e ↦
      let here : Some y ≡ Some x = rw e at found in
      let same : y ≡ x = cc in
      let number : n ≡ u = eqb-true n u e in
      elim (cases_Bool (bytes_eq y.name name)) [
        | inl f ↦ ap (λ (z : Ups). z.name) (sym same) ∙ (bytes_eq-Decides y.name name).0 f
        | inr f ↦
            let later : number_by name ys ns ≡ Some u = rw f at is in
            ap (λ (z : Ups). z.name) (sym same) ∙ sym (named-is y.name name n ys ns all.0 (later ∙ ap (λ k. Some k) (sym number)))
      ]
  | inr e ↦ elim (cases_Bool (bytes_eq y.name name)) [
    | inl f ↦
        let here : Some n ≡ Some u = rw f at is in
        let same : n ≡ u = cc in
        absurd (true≢false (sym (eq-eqb n u same) ∙ e))
    | inr f ↦ ups-named name u x ys ns all.1 (rw f at is) (rw e at found)
  ]
]

-- the name of a UPS with a number has some number
name-numbered : (name : List ℕ) (u : ℕ) (x : Ups) (xs : List Ups) (ns : List ℕ) → ups_by u xs ns ≡ Some x → x.name ≡ name → (v : ℕ) × (number_by name xs ns ≡ Some v)
name-numbered name u x [] ns found same = cc
name-numbered name u x (y ∷ ys) [] found same = cc
name-numbered name u x (y ∷ ys) (n ∷ ns) found same = elim (cases_Bool (bytes_eq y.name name)) [
  | inl f ↦ (n, rw f refl)
  | inr f ↦ elim (cases_Bool (eqb n u)) [
    | inl e ↦
        let here : Some y ≡ Some x = rw e at found in
        let this : y ≡ x = cc in
        absurd (true≢false (sym ((bytes_eq-Decides y.name name).1 (ap (λ (z : Ups). z.name) this ∙ same)) ∙ f))
    | inr e ↦ let rest = name-numbered name u x ys ns (rw e at found) same in (rest.0, rw f rest.1)
  ]
]

-- ---- before any reload

named-above : (name : List ℕ) (n k : ℕ) (xs : List Ups) (ms : List ℕ) → n < k → IsCount k ms → Named name n xs ms
named-above name n k [] ms less counts = tt
named-above name n k (x ∷ xs) [] less counts = tt
named-above name n k (x ∷ xs) (m ∷ ms) less counts =
    ((λ e. absurd (omega (arith, e, less, counts.0))), named-above name n (suc k) xs ms (omega (arith, less)) counts.1)

pub counted-one : (k : ℕ) (xs : List Ups) (ns : List ℕ) → IsCount k ns → HaveOneName xs ns
counted-one k [] ns counts = tt
counted-one k (x ∷ xs) [] counts = tt
counted-one k (x ∷ xs) (n ∷ ns) counts = (named-above x.name n (suc k) xs ns (omega (arith, counts.0)) counts.1, counted-one (suc k) xs ns counts.1)

-- ---- the least free number is free

-- how many of these numbers are at least n
abbrev from : ℕ → List ℕ → ℕ
from n [] = 0
from n (m ∷ ms) = if ltb m n then from n ms else suc (from n ms)

from-most : (n : ℕ) (ms : List ℕ) → from n ms ≤ length ms
from-most n [] = omega arith
from-most n (m ∷ ms) = elim (cases_Bool (ltb m n)) [ inl e ↦ rw e (omega (arith, from-most n ms)) | inr e ↦ rw e (omega (arith, from-most n ms)) ]

from-fewer : (n : ℕ) (ms : List ℕ) → from (n + 1) ms ≤ from n ms
from-fewer n [] = omega arith
from-fewer n (m ∷ ms) = elim (cases_Bool (ltb m n)) [
  | inl e ↦ rw (e, lt-ltb m (n + 1) (omega (arith, ltb-true m n e))) (from-fewer n ms)
  | inr e ↦ elim (cases_Bool (ltb m (n + 1))) [ inl f ↦ rw (e, f) (omega (arith, from-fewer n ms)) | inr f ↦ rw (e, f) (omega (arith, from-fewer n ms)) ]
]

from-taken : (n : ℕ) (ms : List ℕ) → is_taken n ms ≡ true → from (n + 1) ms < from n ms
from-taken n [] taken = absurd (cc)
from-taken n (m ∷ ms) taken = elim (cases_Bool (eqb m n)) [
  | inl e ↦
      let same : m ≡ n = eqb-true m n e in
      rw (le-ltb m n (omega (arith, same)), lt-ltb m (n + 1) (omega (arith, same))) (omega (arith, from-fewer n ms))
  | inr e ↦
      let rest = from-taken n ms (rw e at taken) in
      elim (cases_Bool (ltb m n)) [
        | inl f ↦ rw (f, lt-ltb m (n + 1) (omega (arith, ltb-true m n f))) rest
        | inr f ↦ elim (cases_Bool (ltb m (n + 1))) [ inl g ↦ rw (f, g) (omega (arith, rest)) | inr g ↦ rw (f, g) (omega (arith, rest)) ]
      ]
]

from-none : (n : ℕ) (ms : List ℕ) → from n ms ≤ 0 → is_taken n ms ≡ false
from-none n [] none = refl
from-none n (m ∷ ms) none = elim (cases_Bool (ltb m n)) [
  | inl e ↦ let rest : from n ms ≤ 0 = rw e at none in rw (ne_eqb m n (λ f. omega (arith, f, ltb-true m n e))) (from-none n ms rest)
  | inr e ↦ absurd (let bad : suc (from n ms) ≤ 0 = rw e at none in omega (arith, bad))
]

first-free : (more n : ℕ) (taken : List ℕ) → from n taken ≤ more → is_taken (first_free more n taken) taken ≡ false
first-free zero n taken few = from-none n taken few
first-free (suc more) n taken few = elim (cases_Bool (is_taken n taken)) [
  | inl e ↦ rw e (first-free more (n + 1) taken (omega (arith, few, from-taken n taken e)))
  | inr e ↦ rw e e
]

least-free : (taken : List ℕ) (n : ℕ) → is_taken n taken ≡ true → least_free taken ≡ n → ⊥
least-free taken n is same = true≢false (sym is ∙ ap (λ k. is_taken k taken) (sym same) ∙ first-free (length taken) 0 taken (from-most 0 taken))

-- ---- numbers that a reload gives

taken-more : (m n : ℕ) (taken : List ℕ) → is_taken n taken ≡ true → is_taken n (m ∷ taken) ≡ true
taken-more m n taken is = elim (cases_Bool (eqb m n)) [ inl e ↦ rw e refl | inr e ↦ rw e is ]

all-more : (m : ℕ) (ns taken : List ℕ) → AreTaken ns taken → AreTaken ns (m ∷ taken)
all-more m [] taken all = tt
all-more m (n ∷ ns) taken all = (taken-more m n taken all.0, all-more m ns taken all.1)

-- A number that a name keeps goes to no other name.
named-kept : (before : Numbering) → ((a b : List ℕ) (u : ℕ) → number_of a before ≡ Some u → number_of b before ≡ Some u → a ≡ b) → (name : List ℕ) (n : ℕ) →
    number_of name before ≡ Some n → (taken : List ℕ) (xs : List Ups) → is_taken n taken ≡ true → Named name n xs (given_numbers before taken xs)
named-kept before one name n is taken [] among = tt
named-kept before one name n is taken (x ∷ xs) among = by (number_of x.name before) refl (λ taken' among'. named-kept before one name n is taken' xs among')
  where
    by : (o : Option ℕ) → number_of x.name before ≡ o → ((taken' : List ℕ) → is_taken n taken' ≡ true → Named name n xs (given_numbers before taken' xs)) →
        Named name n (x ∷ xs) (given_numbers before taken (x ∷ xs))
    by (Some m) e later = rw e ((λ same. one x.name name n (e ∙ ap (λ k. Some k) same) is), later taken among)
    by None e later = rw e ((λ same. absurd (least-free taken n among same)), later (least_free taken ∷ taken) (taken-more (least_free taken) n taken among))

-- A number that no name keeps, and that is taken, is given to no name.
named-free : (before : Numbering) (name : List ℕ) (n : ℕ) (taken : List ℕ) (xs : List Ups) → is_taken n taken ≡ true → AllByRecursion (λ m. m ≡ n → ⊥) (kept_numbers before xs) →
    Named name n xs (given_numbers before taken xs)
named-free before name n taken [] among apart = tt
named-free before name n taken (x ∷ xs) among apart = by (number_of x.name before) refl (λ taken' among' apart'. named-free before name n taken' xs among' apart')
  where
    by : (o : Option ℕ) → number_of x.name before ≡ o →
        ((taken' : List ℕ) → is_taken n taken' ≡ true → AllByRecursion (λ m. m ≡ n → ⊥) (kept_numbers before xs) → Named name n xs (given_numbers before taken' xs)) →
        Named name n (x ∷ xs) (given_numbers before taken (x ∷ xs))
    by (Some m) e later =
        let both : AllByRecursion (λ k. k ≡ n → ⊥) (m ∷ kept_numbers before xs) = rw e at apart in
        rw e ((λ same. absurd (both.0 same)), later taken among both.1)
    by None e later =
        let rest : AllByRecursion (λ k. k ≡ n → ⊥) (kept_numbers before xs) = rw e at apart in
        rw e ((λ same. absurd (least-free taken n among same)), later (least_free taken ∷ taken) (taken-more (least_free taken) n taken among) rest)

free-apart : (ns taken : List ℕ) → AreTaken ns taken → AllByRecursion (λ m. m ≡ least_free taken → ⊥) ns
free-apart [] taken all = tt
free-apart (n ∷ ns) taken all = ((λ same. least-free taken n all.0 (sym same)), free-apart ns taken all.1)

given-one : (before : Numbering) → ((a b : List ℕ) (u : ℕ) → number_of a before ≡ Some u → number_of b before ≡ Some u → a ≡ b) → (taken : List ℕ) (xs : List Ups) →
    AreTaken (kept_numbers before xs) taken → HaveOneName xs (given_numbers before taken xs)
given-one before one taken [] all = tt
given-one before one taken (x ∷ xs) all = by (number_of x.name before) refl (λ taken' all'. given-one before one taken' xs all')
  where
    by : (o : Option ℕ) → number_of x.name before ≡ o → ((taken' : List ℕ) → AreTaken (kept_numbers before xs) taken' → HaveOneName xs (given_numbers before taken' xs)) →
        HaveOneName (x ∷ xs) (given_numbers before taken (x ∷ xs))
    by (Some n) e later =
        let both : AreTaken (n ∷ kept_numbers before xs) taken = rw e at all in
        rw e (named-kept before one x.name n e taken xs both.0, later taken both.1)
    by None e later =
        let rest : AreTaken (kept_numbers before xs) taken = rw e at all in
        let free = least_free taken in
        rw e (
          named-free before x.name free (free ∷ taken) xs (rw (eq-eqb free free refl) refl) (free-apart (kept_numbers before xs) taken rest),
          later (free ∷ taken) (all-more free (kept_numbers before xs) taken rest),
        )

-- A name that a UPS has has its number again.
given-again : (before : Numbering) (name : List ℕ) (u : ℕ) (x : Ups) → number_of name before ≡ Some u → x.name ≡ name → (taken : List ℕ) (xs : List Ups) →
    ups_by u xs (given_numbers before taken xs) ≡ Some x → number_by name xs (given_numbers before taken xs) ≡ Some u
given-again before name u x had same taken [] found = cc
given-again before name u x had same taken (y ∷ ys) found =
    by (cases_Bool (bytes_eq y.name name)) (number_of y.name before) refl (λ taken' found'. given-again before name u x had same taken' ys found')
  where
    later : (n : ℕ) (ns : List ℕ) → bytes_eq y.name name ≡ false → ups_by u (y ∷ ys) (n ∷ ns) ≡ Some x → ups_by u ys ns ≡ Some x
    later n ns f at = elim (cases_Bool (eqb n u)) [
      | inl e ↦
          let here : Some y ≡ Some x = rw e at at in
          let this : y ≡ x = cc in
          absurd (true≢false (sym ((bytes_eq-Decides y.name name).1 (ap (λ (z : Ups). z.name) this ∙ same)) ∙ f))
      | inr e ↦ rw e at at
    ]

    by : (bytes_eq y.name name ≡ true) ⊎ (bytes_eq y.name name ≡ false) → (o : Option ℕ) → number_of y.name before ≡ o →
        ((taken' : List ℕ) → ups_by u ys (given_numbers before taken' ys) ≡ Some x → number_by name ys (given_numbers before taken' ys) ≡ Some u) →
        number_by name (y ∷ ys) (given_numbers before taken (y ∷ ys)) ≡ Some u
    by (inl e) o is rest =
        let own : number_of y.name before ≡ Some u = ap (λ n. number_of n before) ((bytes_eq-Decides y.name name).0 e) ∙ had in
        rw (own, e) refl
    by (inr f) (Some n) is rest =
        let there : ups_by u (y ∷ ys) (n ∷ given_numbers before taken ys) ≡ Some x = rw is at found in
        rw (is, f) (rest taken (later n (given_numbers before taken ys) f there))
    by (inr f) None is rest =
        let free = least_free taken in
        let there : ups_by u (y ∷ ys) (free ∷ given_numbers before (free ∷ taken) ys) ≡ Some x = rw is at found in
        rw (is, f) (rest (free ∷ taken) (later free (given_numbers before (free ∷ taken) ys) f there))

-- ---- the same of a numbering

pub one-number : (now : Numbering) (a b : List ℕ) (u : ℕ) → HaveOneName now.upses now.numbers → number_of a now ≡ Some u → number_of b now ≡ Some u → a ≡ b
one-number now a b u all is is' = one-name a b u now.upses now.numbers all (sym (number-by a now.upses now.numbers) ∙ is) (sym (number-by b now.upses now.numbers) ∙ is')

pub name-of : (now : Numbering) (name : List ℕ) (u : ℕ) (x : Ups) → HaveOneName now.upses now.numbers → number_of name now ≡ Some u → ups_with u now ≡ Some x → x.name ≡ name
name-of now name u x all is found = ups-named name u x now.upses now.numbers all (sym (number-by name now.upses now.numbers) ∙ is) (sym (ups-by u now.upses now.numbers) ∙ found)

pub has-number : (now : Numbering) (name : List ℕ) (u : ℕ) (x : Ups) → ups_with u now ≡ Some x → x.name ≡ name → (v : ℕ) × (number_of name now ≡ Some v)
has-number now name u x found same =
    let some = name-numbered name u x now.upses now.numbers (sym (ups-by u now.upses now.numbers) ∙ found) same in
    (some.0, number-by name now.upses now.numbers ∙ some.1)

pub renumbered-one : (before : Numbering) (upses : List Ups) → HaveOneName before.upses before.numbers → HaveOneName upses (renumbered upses before)
renumbered-one before upses all = given-one before (λ a b u. one-number before a b u all) (kept_numbers before upses) upses (are_among (kept_numbers before upses))

pub number-again : (before : Numbering) (upses : List Ups) (name : List ℕ) (u : ℕ) (x : Ups) → number_of name before ≡ Some u → ups_with u (with_numbers upses (renumbered upses before)) ≡ Some x →
    x.name ≡ name → number_of name (with_numbers upses (renumbered upses before)) ≡ Some u
number-again before upses name u x had found same =
    number-by name upses (renumbered upses before)
    ∙ given-again before name u x had same (kept_numbers before upses) upses (sym (ups-by u upses (renumbered upses before)) ∙ found)

-- the number of a name is among the numbers
pub number-among : (now : Numbering) (name : List ℕ) (u : ℕ) (P : ℕ → Type 0) → AllByRecursion P now.numbers → number_of name now ≡ Some u → P u
number-among now name u P all is = by now.upses now.numbers all (sym (number-by name now.upses now.numbers) ∙ is)
  where
    by : (xs : List Ups) (ns : List ℕ) → AllByRecursion P ns → number_by name xs ns ≡ Some u → P u
    by [] ns all is = cc
    by (x ∷ xs) [] all is = cc
    by (x ∷ xs) (n ∷ ns) all is = elim (cases_Bool (bytes_eq x.name name)) [
      | inl e ↦ let here : Some n ≡ Some u = rw e at is in let same : n ≡ u = cc in subst P same all.0
      | inr e ↦ by xs ns all.1 (rw e at is)
    ]
