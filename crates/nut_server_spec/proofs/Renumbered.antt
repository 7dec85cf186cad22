-- The number of a name: a UPS keeps it, and no two UPSes have the same.
use Rattle.std.proofs.Common.{◌≡◌, ℕ, zero, suc, ◌+◌, ◌<◌, ◌≤◌, Bool, true, false, eqb, ltb, List, [], ◌∷◌, ◌++◌, length, map, ◌⊎◌, refl, sym, ◌∙◌, ap, subst, arith, inl, inr, Option, Some, None}
use Rattle.std.specs.Prelude.{if◌then◌else◌, find, option_map, position, slice_get}
use Rattle.std.specs.List.{AllByRecursion, IsDistinct, position_or_len}
use Rattle.std.specs.Option.{option_and_then}
use Rattle.std.specs.Str.{bytes_eq}
use Rattle.std.proofs.lemmas.Bool.{cases_Bool, eq-eqb, eqb-true, le-ltb, lt-ltb, ltb-false, ltb-true, ne_eqb, true≢false}
use Rattle.std.proofs.lemmas.Map.Keys.{IsDistinct-head, IsDistinct-tail}
use Rattle.std.proofs.lemmas.Option.{option_and_then_some}
use Rattle.std.proofs.lemmas.Slice.Eq.{bytes_eq-Decides}
use Rattle.nut_server_spec.specs.Configuration.{Configuration, Ups, number_of_ups, ups_named}
use Rattle.nut_server_spec.specs.Content.{past}
use Rattle.nut_server_spec.specs.Event.{Event, Bytes, DriverBytes, Reload, brought, driver_input, input, steps, Step}
use Rattle.nut_server_spec.specs.Numbering.{Numbering, with_numbers, below, first_free, given_numbers, is_taken, kept_numbers, least_free, number_of, renumbered, ups_with}
use Rattle.nut_server_spec.specs.Trace.{Entry, configuration, numbering, numbers, reconfigured, renumbered_by}
use Rattle.nut_server_spec.specs.laws.Reloads.{AreNamedApart, KeepsItsNumber, NamesAreDistinct, NumbersAreDistinct}
use Rattle.nut_server_spec.proofs.Alls.{all_append}
use Rattle.nut_server_spec.proofs.Numbering.{AreBelow, below_are}
use Rattle.nut_server_spec.proofs.Places.{below-length}
use Rattle.nut_server_spec.proofs.Others.{configuration_lines, configuration_reports, numbers_lines, numbers_reports}

-- ---- the first place that passes a test

ltb_suc : (a b : ℕ) → ltb (1 + a) (suc b) ≡ ltb a b
ltb_suc a b = grind (arith, cases_Bool, ltb, lt-ltb, ltb-true, le-ltb, ltb-false)

position_here : {A : Type 0} (p : A → Bool) (x : A) (xs : List A) → p x ≡ true → position p (x ∷ xs) ≡ Some 0
position_here p x xs passes = rw (passes, lt-ltb 0 (suc (length xs)) (omega arith)) refl

position_next : {A : Type 0} (p : A → Bool) (x : A) (xs : List A) → p x ≡ false → position p (x ∷ xs) ≡ option_map suc (position p xs)
position_next p x xs fails = rw fails (ap (λ b. if b then Some (1 + position_or_len p xs) else None) (ltb_suc (position_or_len p xs) (length xs)) ∙ both (ltb (position_or_len p xs) (length xs))) where
  both : (b : Bool) → (if b then Some (1 + position_or_len p xs) else None) ≡ option_map suc (if b then Some (position_or_len p xs) else None)
  both true = ap (λ n. Some n) (let next : 1 + position_or_len p xs ≡ suc (position_or_len p xs) = omega arith in next)
  both false = refl

found_next : {A : Type 0} (x : A) (xs : List A) (o : Option ℕ) → option_and_then (slice_get (x ∷ xs)) (option_map suc o) ≡ option_and_then (slice_get xs) o
found_next x xs o = grind arith

-- ---- the number of a name, and the UPS of a number, UPS by UPS

number_here : (name : List ℕ) (ups : Ups) (upses : List Ups) (n : ℕ) (ns : List ℕ) → bytes_eq ups.name name ≡ true → number_of name (with_numbers (ups ∷ upses) (n ∷ ns)) ≡ Some n
number_here name ups upses n ns same = rw (position_here (λ u. bytes_eq u.name name) ups upses same) refl

number_next : (name : List ℕ) (ups : Ups) (upses : List Ups) (n : ℕ) (ns : List ℕ) → bytes_eq ups.name name ≡ false → number_of name (with_numbers (ups ∷ upses) (n ∷ ns)) ≡ number_of name (with_numbers upses ns)
number_next name ups upses n ns differ = rw (position_next (λ u. bytes_eq u.name name) ups upses differ) (found_next n ns (number_of_ups name upses))

ups_here : (u : ℕ) (ups : Ups) (upses : List Ups) (n : ℕ) (ns : List ℕ) → eqb n u ≡ true → ups_with u (with_numbers (ups ∷ upses) (n ∷ ns)) ≡ Some ups
ups_here u ups upses n ns same = rw (position_here (λ m. eqb m u) n ns same) refl

ups_next : (u : ℕ) (ups : Ups) (upses : List Ups) (n : ℕ) (ns : List ℕ) → eqb n u ≡ false → ups_with u (with_numbers (ups ∷ upses) (n ∷ ns)) ≡ ups_with u (with_numbers upses ns)
ups_next u ups upses n ns differ = rw (position_next (λ m. eqb m u) n ns differ) (found_next ups upses (position (λ m. eqb m u) ns))

-- without numbers no name has one
no_numbers : (name : List ℕ) (upses : List Ups) (u : ℕ) → number_of name (with_numbers upses []) ≡ Some u → ⊥
no_numbers name upses u is = option_and_then_some (slice_get []) (number_of_ups name upses) u is (λ place there found. cc)

found_taken : (ns : List ℕ) (i u : ℕ) → slice_get ns i ≡ Some u → is_taken u ns ≡ true
found_taken [] i u found = cc
found_taken (n ∷ ns) zero u found = let same : n ≡ u = cc in rw (eq-eqb n u same) refl
found_taken (n ∷ ns) (suc i) u found = elim (cases_Bool (eqb n u)) [ inl e ↦ rw e refl | inr e ↦ rw e (found_taken ns i u found) ]

-- the number of a name is taken
number_taken : (name : List ℕ) (now : Numbering) (u : ℕ) → number_of name now ≡ Some u → is_taken u now.numbers ≡ true
number_taken name now u is = option_and_then_some (slice_get now.numbers) (number_of_ups name now.upses) u is (λ place there found. found_taken now.numbers place u found)

-- ---- numbers that differ

-- The number n isn't among these.
abbrev IsApart : ℕ → List ℕ → Type 0
IsApart n ns = AllByRecursion (λ m. eqb n m ≡ false) ns

apart_taken : (n u : ℕ) (ns : List ℕ) → IsApart n ns → is_taken u ns ≡ true → eqb n u ≡ false
apart_taken n u [] apart taken = absurd (cc)
apart_taken n u (m ∷ ns) apart taken =
    elim (cases_Bool (eqb m u)) [
      | inl e ↦ let same : m ≡ u = eqb-true m u e in sym (ap (λ x. eqb n x) same) ∙ apart.0
      | inr e ↦ apart_taken n u ns apart.1 (rw e at taken)
    ]

-- the UPS of a name has the number of the name
pub number_is_of : (name : List ℕ) (u : ℕ) (x : Ups) (upses : List Ups) (ns : List ℕ) → IsDistinct eqb ns → number_of name (with_numbers upses ns) ≡ Some u → ups_named name upses ≡ Some x
    → ups_with u (with_numbers upses ns) ≡ Some x
number_is_of name u x [] ns distinct is found = cc
number_is_of name u x (ups ∷ upses) [] distinct is found = absurd (no_numbers name (ups ∷ upses) u is)
number_is_of name u x (ups ∷ upses) (n ∷ ns) distinct is found =
    elim (cases_Bool (bytes_eq ups.name name)) [
      | inl e ↦
          let this : Some n ≡ Some u = sym (number_here name ups upses n ns e) ∙ is in
          let same : n ≡ u = cc in
          let here : Some ups ≡ Some x = rw e at found in
          ups_here u ups upses n ns (eq-eqb n u same) ∙ here
      | inr e ↦
          let later : number_of name (with_numbers upses ns) ≡ Some u = sym (number_next name ups upses n ns e) ∙ is in
          let rest : ups_named name upses ≡ Some x = rw e at found in
          let differ = apart_taken n u ns (IsDistinct-head eqb n ns distinct) (number_taken name (with_numbers upses ns) u later) in
          ups_next u ups upses n ns differ ∙ number_is_of name u x upses ns (IsDistinct-tail eqb n ns distinct) later rest
    ]

-- a name that has a number has a UPS
pub number_named : (name : List ℕ) (u : ℕ) (upses : List Ups) (ns : List ℕ) → number_of name (with_numbers upses ns) ≡ Some u → (x : Ups) × (ups_named name upses ≡ Some x)
number_named name u [] ns is = cc
number_named name u (ups ∷ upses) [] is = absurd (no_numbers name (ups ∷ upses) u is)
number_named name u (ups ∷ upses) (n ∷ ns) is =
    elim (cases_Bool (bytes_eq ups.name name)) [
      | inl e ↦ (ups, rw e refl)
      | inr e ↦
          let later = number_named name u upses ns (sym (number_next name ups upses n ns e) ∙ is) in
          let skipped : ups_named name (ups ∷ upses) ≡ ups_named name upses = rw e refl in
          (later.0, skipped ∙ later.1)
    ]

-- the UPS of a number is one of the UPSes
pub ups_passes : (p : Ups → Bool) (u : ℕ) (x : Ups) (upses : List Ups) (ns : List ℕ) → find p upses ≡ None → ups_with u (with_numbers upses ns) ≡ Some x → p x ≡ false
ups_passes p u x upses ns none is = option_and_then_some (slice_get upses) (position (λ m. eqb m u) ns) x is (λ place there found. at upses place none found) where
  at : (upses : List Ups) (i : ℕ) → find p upses ≡ None → slice_get upses i ≡ Some x → p x ≡ false
  at [] i none found = cc
  at (ups ∷ upses) zero none found =
      let this : ups ≡ x = cc in
      elim (cases_Bool (p ups)) [ inl e ↦ absurd (let bad : Some ups ≡ None = rw e at none in cc) | inr e ↦ sym (ap p this) ∙ e ]
  at (ups ∷ upses) (suc i) none found =
      elim (cases_Bool (p ups)) [ inl e ↦ absurd (let bad : Some ups ≡ None = rw e at none in cc) | inr e ↦ at upses i (rw e at none) found ]

-- No two names have the same number.
one_name : (a b : List ℕ) (u : ℕ) (upses : List Ups) (ns : List ℕ) → IsDistinct eqb ns → number_of a (with_numbers upses ns) ≡ Some u → number_of b (with_numbers upses ns) ≡ Some u → a ≡ b
one_name a b u [] ns distinct first second = cc
one_name a b u (ups ∷ upses) [] distinct first second = absurd (no_numbers a (ups ∷ upses) u first)
one_name a b u (ups ∷ upses) (n ∷ ns) distinct first second =
    by (cases_Bool (bytes_eq ups.name a)) (cases_Bool (bytes_eq ups.name b)) (one_name a b u upses ns (IsDistinct-tail eqb n ns distinct)) where
      here : (x : List ℕ) → number_of x (with_numbers (ups ∷ upses) (n ∷ ns)) ≡ Some u → bytes_eq ups.name x ≡ true → eqb n u ≡ true
      here x is e =
          let this : Some n ≡ Some u = sym (number_here x ups upses n ns e) ∙ is in
          let same : n ≡ u = cc in
          eq-eqb n u same

      next : (x : List ℕ) → number_of x (with_numbers (ups ∷ upses) (n ∷ ns)) ≡ Some u → bytes_eq ups.name x ≡ false → number_of x (with_numbers upses ns) ≡ Some u
      next x is e = sym (number_next x ups upses n ns e) ∙ is

      later : (x : List ℕ) → number_of x (with_numbers (ups ∷ upses) (n ∷ ns)) ≡ Some u → bytes_eq ups.name x ≡ false → eqb n u ≡ false
      later x is e = apart_taken n u ns (IsDistinct-head eqb n ns distinct) (number_taken x (with_numbers upses ns) u (next x is e))

      by : ((bytes_eq ups.name a ≡ true) ⊎ (bytes_eq ups.name a ≡ false)) → ((bytes_eq ups.name b ≡ true) ⊎ (bytes_eq ups.name b ≡ false))
          → (number_of a (with_numbers upses ns) ≡ Some u → number_of b (with_numbers upses ns) ≡ Some u → a ≡ b) → a ≡ b
      by is given rest = grind (arith, bytes_eq-Decides, here, later, next)

-- ---- a number that a reload keeps

-- A name that had a number has it again.
kept_number : (before : Numbering) (name : List ℕ) (u : ℕ) (x : Ups) → number_of name before ≡ Some u → (taken : List ℕ) (upses : List Ups) → ups_named name upses ≡ Some x
    → number_of name (with_numbers upses (given_numbers before taken upses)) ≡ Some u
kept_number before name u x had taken [] found = cc
kept_number before name u x had taken (ups ∷ upses) found =
    by (cases_Bool (bytes_eq ups.name name)) (number_of ups.name before) refl (λ taken' rest. kept_number before name u x had taken' upses rest) where
      by : ((bytes_eq ups.name name ≡ true) ⊎ (bytes_eq ups.name name ≡ false)) → (o : Option ℕ) → number_of ups.name before ≡ o
          → ((taken' : List ℕ) → ups_named name upses ≡ Some x → number_of name (with_numbers upses (given_numbers before taken' upses)) ≡ Some u)
          → number_of name (with_numbers (ups ∷ upses) (given_numbers before taken (ups ∷ upses))) ≡ Some u
      by (inl e) o is later =
          let own : number_of ups.name before ≡ Some u = ap (λ n. number_of n before) ((bytes_eq-Decides ups.name name).0 e) ∙ had in
          rw own (number_here name ups upses u (given_numbers before taken upses) e)
      by (inr e) (Some n) is later =
          let rest : ups_named name upses ≡ Some x = rw e at found in
          rw is (number_next name ups upses n (given_numbers before taken upses) e ∙ later taken rest)
      by (inr e) None is later =
          let rest : ups_named name upses ≡ Some x = rw e at found in
          rw is (number_next name ups upses (least_free taken) (given_numbers before (least_free taken ∷ taken) upses) e ∙ later (least_free taken ∷ taken) rest)

-- If neither the UPSes nor their numbers change, the number of a name stays.
same_number : (before after : Numbering) (name : List ℕ) (u : ℕ) → after.upses ≡ before.upses → after.numbers ≡ before.numbers → number_of name before ≡ Some u → number_of name after ≡ Some u
same_number before after name u upses numbers is = ap (λ x. number_of name (with_numbers x after.numbers)) upses ∙ ap (λ ns. number_of name (with_numbers before.upses ns)) numbers ∙ is

pub keeps-number : KeepsItsNumber
keeps-number first h (Bytes c piece) name u x had found =
    let ls = brought (input c h) piece in
    same_number (numbering first (past first h)) (numbering first (past first (Bytes c piece ∷ h))) name u
    (ap (λ k. k.upses) (configuration_lines first c ls (steps h))) (numbers_lines first c ls (steps h)) had
keeps-number first h (DriverBytes v piece) name u x had found =
    let ls = brought (driver_input v h) piece in
    same_number (numbering first (past first h)) (numbering first (past first (DriverBytes v piece ∷ h))) name u
    (ap (λ k. k.upses) (configuration_reports first v ls (steps h))) (numbers_reports first v ls (steps h)) had
keeps-number first h (Reload k) name u x had found =
    let before = numbering first (past first h) in
    kept_number before name u x had (kept_numbers before k.upses) k.upses found
keeps-number first h e name u x had found = had

-- ---- the least free number is free

-- how many of these numbers are at least n
abbrev from : ℕ → List ℕ → ℕ
from n [] = 0
from n (m ∷ ms) = if ltb m n then from n ms else suc (from n ms)

from_most : (n : ℕ) (ms : List ℕ) → from n ms ≤ length ms
from_most n [] = omega arith
from_most n (m ∷ ms) = elim (cases_Bool (ltb m n)) [ inl e ↦ rw e (omega (arith, from_most n ms)) | inr e ↦ rw e (omega (arith, from_most n ms)) ]

from_fewer : (n : ℕ) (ms : List ℕ) → from (n + 1) ms ≤ from n ms
from_fewer n [] = omega arith
from_fewer n (m ∷ ms) =
    elim (cases_Bool (ltb m n)) [
      | inl e ↦ rw (e, lt-ltb m (n + 1) (omega (arith, ltb-true m n e))) (from_fewer n ms)
      | inr e ↦ elim (cases_Bool (ltb m (n + 1))) [ inl f ↦ rw (e, f) (omega (arith, from_fewer n ms)) | inr f ↦ rw (e, f) (omega (arith, from_fewer n ms)) ]
    ]

from_taken : (n : ℕ) (ms : List ℕ) → is_taken n ms ≡ true → from (n + 1) ms < from n ms
from_taken n [] taken = absurd (cc)
from_taken n (m ∷ ms) taken =
    elim (cases_Bool (eqb m n)) [
      | inl e ↦
          let same : m ≡ n = eqb-true m n e in
          rw (le-ltb m n (omega (arith, same)), lt-ltb m (n + 1) (omega (arith, same))) (omega (arith, from_fewer n ms))
      | inr e ↦
          let rest = from_taken n ms (rw e at taken) in
          elim (cases_Bool (ltb m n)) [
            | inl f ↦ rw (f, lt-ltb m (n + 1) (omega (arith, ltb-true m n f))) rest
            | inr f ↦ elim (cases_Bool (ltb m (n + 1))) [ inl g ↦ rw (f, g) (omega (arith, rest)) | inr g ↦ rw (f, g) (omega (arith, rest)) ]
          ]
    ]

from_none : (n : ℕ) (ms : List ℕ) → from n ms ≤ 0 → is_taken n ms ≡ false
from_none n [] none = refl
from_none n (m ∷ ms) none =
    elim (cases_Bool (ltb m n)) [
      | inl e ↦ let rest : from n ms ≤ 0 = rw e at none in rw (ne_eqb m n (λ f. omega (arith, f, ltb-true m n e))) (from_none n ms rest)
      | inr e ↦ absurd (let bad : suc (from n ms) ≤ 0 = rw e at none in omega (arith, bad))
    ]

first_is_free : (more n : ℕ) (taken : List ℕ) → from n taken ≤ more → is_taken (first_free more n taken) taken ≡ false
first_is_free zero n taken few = from_none n taken few
first_is_free (suc more) n taken few =
    elim (cases_Bool (is_taken n taken)) [
      | inl e ↦ rw e (first_is_free more (n + 1) taken (omega (arith, few, from_taken n taken e)))
      | inr e ↦ rw e e
    ]

least_is_free : (taken : List ℕ) → is_taken (least_free taken) taken ≡ false
least_is_free taken = first_is_free (length taken) 0 taken (from_most 0 taken)

-- ---- numbers that are given differ

-- Each of the first numbers is among the second.
abbrev pub AreTaken : List ℕ → List ℕ → Type 0
AreTaken ns taken = AllByRecursion (λ n. is_taken n taken ≡ true) ns

taken_more : (m n : ℕ) (taken : List ℕ) → is_taken n taken ≡ true → is_taken n (m ∷ taken) ≡ true
taken_more m n taken is = elim (cases_Bool (eqb m n)) [ inl e ↦ rw e refl | inr e ↦ rw e is ]

are_taken_more : (m : ℕ) (ns taken : List ℕ) → AreTaken ns taken → AreTaken ns (m ∷ taken)
are_taken_more m [] taken all = tt
are_taken_more m (n ∷ ns) taken all = (taken_more m n taken all.0, are_taken_more m ns taken all.1)

pub are_among : (ns : List ℕ) → AreTaken ns ns
are_among [] = tt
are_among (n ∷ ns) = (rw (eq-eqb n n refl) refl, are_taken_more n ns ns (are_among ns))

free_apart : (f : ℕ) (ns taken : List ℕ) → is_taken f taken ≡ false → AreTaken ns taken → IsApart f ns
free_apart f [] taken free all = tt
free_apart f (n ∷ ns) taken free all =
    (ne_eqb f n (λ e. true≢false (sym (ap (λ x. is_taken x taken) e ∙ all.0) ∙ free)), free_apart f ns taken free all.1)

-- The number of a name isn't among those that other names keep.
kept_apart : (before : Numbering) (name : List ℕ) (n : ℕ) → IsDistinct eqb before.numbers → number_of name before ≡ Some n → (upses : List Ups)
    → AllByRecursion (λ x. bytes_eq name x ≡ false) (map (λ ups. ups.name) upses) → IsApart n (kept_numbers before upses)
kept_apart before name n distinct is [] others = tt
kept_apart before name n distinct is (ups ∷ upses) others = by (number_of ups.name before) refl (kept_apart before name n distinct is upses others.1) where
  by : (o : Option ℕ) → number_of ups.name before ≡ o → IsApart n (kept_numbers before upses) → IsApart n (kept_numbers before (ups ∷ upses))
  by None e rest = rw e rest
  by (Some m) e rest =
      let differ : eqb n m ≡ false =
      ne_eqb n m (λ same.
      let one : name ≡ ups.name = one_name name ups.name n before.upses before.numbers distinct is (e ∙ ap (λ x. Some x) (sym same)) in
      true≢false (sym ((bytes_eq-Decides name ups.name).1 one) ∙ others.0)) in
      rw e (differ, rest)

-- A number that is taken is given to a name only if the name had it.
given_apart : (before : Numbering) (n : ℕ) (taken : List ℕ) (upses : List Ups) → is_taken n taken ≡ true → IsApart n (kept_numbers before upses) → IsApart n (given_numbers before taken upses)
given_apart before n taken [] is apart = tt
given_apart before n taken (ups ∷ upses) is apart =
    by (number_of ups.name before) refl (λ taken' is' apart'. given_apart before n taken' upses is' apart') where
      by : (o : Option ℕ) → number_of ups.name before ≡ o
          → ((taken' : List ℕ) → is_taken n taken' ≡ true → IsApart n (kept_numbers before upses) → IsApart n (given_numbers before taken' upses))
          → IsApart n (given_numbers before taken (ups ∷ upses))
      by None e later =
          let rest : IsApart n (kept_numbers before upses) = rw e at apart in
          let differ : eqb n (least_free taken) ≡ false =
          ne_eqb n (least_free taken) (λ same. true≢false (sym is ∙ ap (λ x. is_taken x taken) same ∙ least_is_free taken)) in
          rw e (differ, later (least_free taken ∷ taken) (taken_more (least_free taken) n taken is) rest)
      by (Some m) e later =
          let both : IsApart n (m ∷ kept_numbers before upses) = rw e at apart in
          rw e (both.0, later taken is both.1)

given_distinct : (before : Numbering) (taken : List ℕ) (upses : List Ups) → IsDistinct eqb before.numbers → AreNamedApart upses → AreTaken (kept_numbers before upses) taken
    → IsDistinct eqb (given_numbers before taken upses)
unfolding IsDistinct
given_distinct before taken [] distinct names all = tt
given_distinct before taken (ups ∷ upses) distinct names all =
    by (number_of ups.name before) refl (λ taken' all'. given_distinct before taken' upses distinct names.1 all') where
      by : (o : Option ℕ) → number_of ups.name before ≡ o
          → ((taken' : List ℕ) → AreTaken (kept_numbers before upses) taken' → IsDistinct eqb (given_numbers before taken' upses))
          → IsDistinct eqb (given_numbers before taken (ups ∷ upses))
      by None e later =
          let kept : AreTaken (kept_numbers before upses) taken = rw e at all in
          let free = least_free taken in
          rw e (
            given_apart before free (free ∷ taken) upses (rw (eq-eqb free free refl) refl) (free_apart free (kept_numbers before upses) taken (least_is_free taken) kept),
            later (free ∷ taken) (are_taken_more free (kept_numbers before upses) taken kept),
          )
      by (Some n) e later =
          let kept : AreTaken (n ∷ kept_numbers before upses) taken = rw e at all in
          rw e (given_apart before n taken upses kept.0 (kept_apart before ups.name n distinct e upses names.0), later taken kept.1)

renumbered_distinct : (before : Numbering) (upses : List Ups) → IsDistinct eqb before.numbers → AreNamedApart upses → IsDistinct eqb (renumbered upses before)
renumbered_distinct before upses distinct names = given_distinct before (kept_numbers before upses) upses distinct names (are_among (kept_numbers before upses))

-- ---- after every history

distinct_push : (m : ℕ) (ns : List ℕ) → AreBelow m ns → IsDistinct eqb ns → IsDistinct eqb (ns ++ m ∷ [])
unfolding IsDistinct
distinct_push m [] all distinct = (tt, tt)
distinct_push m (n ∷ ns) all distinct =
    (all_append (λ y. eqb n y ≡ false) ns (m ∷ []) distinct.0 (ne_eqb n m (λ e. omega (arith, e, all.0)), tt), distinct_push m ns all.1 distinct.1)

below_distinct : (n : ℕ) → IsDistinct eqb (below n)
unfolding IsDistinct
below_distinct zero = tt
below_distinct (suc n) = distinct_push n (below n) (below_are n) (below_distinct n)

pub distinct_numbers : (first : Configuration) (h : List Event) → NamesAreDistinct first h → IsDistinct eqb (numbers first (past first h))
distinct_numbers first [] names = below_distinct (length first.upses)
distinct_numbers first (Bytes c piece ∷ h) names = subst (λ ns. IsDistinct eqb ns) (sym (numbers_lines first c (brought (input c h) piece) (steps h))) (distinct_numbers first h names)
distinct_numbers first (DriverBytes u piece ∷ h) names = subst (λ ns. IsDistinct eqb ns) (sym (numbers_reports first u (brought (driver_input u h) piece) (steps h))) (distinct_numbers first h names)
distinct_numbers first (Reload k ∷ h) names = renumbered_distinct (numbering first (past first h)) k.upses (distinct_numbers first h names.1) names.0
distinct_numbers first (e ∷ h) names = distinct_numbers first h names

given_length : (before : Numbering) (taken : List ℕ) (upses : List Ups) → length (given_numbers before taken upses) ≡ length upses
given_length before taken [] = refl
given_length before taken (ups ∷ upses) = by (number_of ups.name before) refl (λ taken'. given_length before taken' upses) where
  by : (o : Option ℕ) → number_of ups.name before ≡ o → ((taken' : List ℕ) → length (given_numbers before taken' upses) ≡ length upses)
      → length (given_numbers before taken (ups ∷ upses)) ≡ suc (length upses)
  by None e later = rw e (ap suc (later (least_free taken ∷ taken)))
  by (Some n) e later = rw e (ap suc (later taken))

step_length : (step : Step) (now : Numbering) → length now.numbers ≡ length now.upses → (k : Configuration) → k.upses ≡ now.upses → length (renumbered_by step now) ≡ length (reconfigured step k).upses
step_length step now same k is = grind (arith, given_length)

one_each : (first : Configuration) (t : List Entry) → length (numbers first t) ≡ length (configuration first t).upses
one_each first [] = below-length (length first.upses)
one_each first (e ∷ t) = step_length e.step (numbering first t) (one_each first t) (configuration first t) refl

pub numbers-distinct : NumbersAreDistinct
numbers-distinct = record { each = λ first h. one_each first (past first h); distinct = distinct_numbers }
