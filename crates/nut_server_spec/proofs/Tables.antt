-- A table that lines have filled is within its limits.
use Rattle.std.proofs.Common.{◌≡◌, ℕ, ◌<◌, ◌≤◌, ◌^◌, Bool, true, List, [], ◌∷◌, ◌++◌, length, reverse, refl, sym, subst, ◌∙◌, ap, arith, rules, inl, inr, Option, Some, None}
use Rattle.std.specs.Prelude.{ℤ, pos, neg_ℤ, ◌==◌, if◌then◌else◌, filter, find, not, option_map, is_some}
use Rattle.std.specs.Int.Signed.{mag}
use Rattle.std.specs.List.{AllByRecursion, list_any}
use Rattle.std.specs.Option.{option_and_then, option_map_or, option_to_list}
use Rattle.std.specs.Result.{result_ok}
use Rattle.std.specs.Str.{bytes_eq}
use Rattle.std.proofs.lemmas.Bool.{cases_Bool}
use Rattle.nut_words.specs.Reader.{spelled}
use Rattle.nut_words.specs.declared.limits.TheConstants.{NAME_MAX}
use Rattle.nut_state.specs.declared.number.Range.{Range}
use Rattle.nut_state.specs.Change.{Change, add_range, asked_by, asked, heard, word}
use Rattle.nut_state.specs.laws.Holds.{EveryTableHolds, IsTable, IsWithinLimits}
use Rattle.nut_state.specs.LookBack.{accepted, accepted_after, deletes, era, is_accepted, range_added, removes_range, standing, standing_ranges}
use Rattle.nut_words.specs.Number.{natural}
use Rattle.nut_state.specs.Number.{whole_number, range_of}
use Rattle.nut_state.specs.Step.{table_of}
use Rattle.nut_state.specs.Sorted.{named}
use Rattle.nut_state.specs.Table.{Table, Entry, variable, has_command}
use Rattle.nut_state.specs.Text.{is_name}
use Rattle.nut_state.proofs.PutLemmas.{All-named, name-named}
use Rattle.nut_proto.specs.laws.Bounds.{IsName}
use Rattle.nut_proto.proofs.Numbers.{natural_below}
use Rattle.nut_server_spec.proofs.Alls.{all_append, all_filter, all_reverse}
use Rattle.nut_server_spec.proofs.Lengths.{name_within}
use Rattle.nut_state.specs.Verb.{all_verbs, says, takes, verb_of, word_of}

-- ---- numbers of at most nine digits

is_below : (text : List ℕ) (n : ℕ) → natural text ≡ Some n → n < 10 ^ 9
is_below text n is = grind (arith, cases_Bool, natural_below)

mag_neg : (n : ℕ) → mag (neg_ℤ (pos n)) ≤ n
mag_neg n = grind arith

by_natural : (o : Option ℕ) (f : ℕ → ℤ) (z : ℤ) → ((n : ℕ) → mag (f n) ≤ n) → ((n : ℕ) → o ≡ Some n → n < 10 ^ 9) → option_map f o ≡ Some z → mag z < 10 ^ 9
by_natural o f z size small is = grind arith

whole_below : (text : List ℕ) (z : ℤ) → whole_number text ≡ Some z → mag z < 10 ^ 9
whole_below [] z is = absurd (cc)
whole_below (c ∷ cs) z is =
    elim (cases_Bool (c == 45)) [
      | inl e ↦ by_natural (natural cs) (λ n. neg_ℤ (pos n)) z mag_neg (is_below cs) (rw e at is)
      | inr e ↦ by_natural (natural (c ∷ cs)) pos z (λ n. omega arith) (is_below (c ∷ cs)) (rw e at is)
    ]

-- Both numbers of a range have at most nine digits.
pub record IsShortRange (r : Range) : Type 0 where
  pub minimum : mag r.minimum < 10 ^ 9
  pub maximum : mag r.maximum < 10 ^ 9

short_range : (low high : List ℕ) (r : Range) → range_of low high ≡ Some r → IsShortRange r
short_range low high r is = grind (arith, whole_below, cases_Bool)

-- ---- the ranges that lines add

-- Each range that a change adds is short.
abbrev AddsShort : Change → Type 0
AddsShort change = (name : List ℕ) (r : Range) → range_added name change ≡ Some r → IsShortRange r

range_short : (ws : List (List ℕ)) (name : List ℕ) (r : Range) → range_added name (add_range (word ws 1) (range_of (word ws 2) (word ws 3))) ≡ Some r → IsShortRange r
range_short ws name r is =
    elim (cases_Bool (bytes_eq (word ws 1) name)) [
      | inl e ↦ short_range (word ws 2) (word ws 3) r (rw e at is)
      | inr e ↦ absurd (let bad : None ≡ Some r = rw e at is in cc)
    ]

-- what each verb asks for
verbs_short : AllByRecursion (λ verb. (ws : List (List ℕ)) → AddsShort (asked_by verb ws)) all_verbs
verbs_short = (search rules, (search rules, (search rules, (search rules, (range_short, (search rules, (search rules, (search rules, (search rules, (search rules, (search rules, (search rules, (search rules, (search rules, (search rules, tt)))))))))))))))

found_passes : {X : Type 0} (P : X → Type 0) (p : X → Bool) (xs : List X) (x : X) → AllByRecursion P xs → find p xs ≡ Some x → P x
found_passes P p [] x all is = absurd (cc)
found_passes P p (y ∷ ys) x all is =
    elim (cases_Bool (p y)) [
      | inl e ↦ let here : Some y ≡ Some x = rw e at is in let same : y ≡ x = cc in subst P same all.0
      | inr e ↦ found_passes P p ys x all.1 (rw e at is)
    ]

by_choice : {V : Type 0} (f : V → Change) (t : V → Bool) (o : Option V) (change : Change) → ((v : V) → o ≡ Some v → AddsShort (f v))
    → option_and_then (λ v. if t v then Some (f v) else None) o ≡ Some change → AddsShort change
by_choice f t None change short is = absurd (cc)
by_choice f t (Some v) change short is =
    elim (cases_Bool (t v)) [
      | inl e ↦ let here : Some (f v) ≡ Some change = rw e at is in let same : f v ≡ change = cc in subst AddsShort same (short v refl)
      | inr e ↦ absurd (let bad : None ≡ Some change = rw e at is in cc)
    ]

asked_short : (ws : List (List ℕ)) (change : Change) → asked ws ≡ Some change → AddsShort change
unfolding asked verb_of
asked_short ws change is =
    by_choice (λ verb. asked_by verb ws) (λ verb. takes verb (length ws)) (verb_of (word ws 0)) change
    (λ verb found. found_passes (λ verb. (ws : List (List ℕ)) → AddsShort (asked_by verb ws)) (λ verb. says (word_of verb) (word ws 0)) all_verbs verb verbs_short found ws) is

heard_short : (line : List ℕ) (change : Change) → heard line ≡ Some change → AddsShort change
unfolding heard
heard_short line change is = by_words (result_ok (spelled line)) is where
  by_words : (o : Option (List (List ℕ))) → option_and_then asked o ≡ Some change → AddsShort change
  by_words None is = absurd (cc)
  by_words (Some ws) is = asked_short ws change is

by_heard : (earlier : List Change) (o : Option Change) → AllByRecursion AddsShort earlier → ((change : Change) → o ≡ Some change → AddsShort change)
    → AllByRecursion AddsShort (accepted_after earlier o ++ earlier)
by_heard earlier None all short = all
by_heard earlier (Some change) all short =
    elim (cases_Bool (is_accepted earlier change)) [
      | inl e ↦ rw e (short change refl, all)
      | inr e ↦ rw e all
    ]

accepted_short : (lines : List (List ℕ)) → AllByRecursion AddsShort (accepted lines)
accepted_short [] = tt
accepted_short (line ∷ earlier) = by_heard (accepted earlier) (heard line) (accepted_short earlier) (heard_short line)

era_short : (name : List ℕ) (changes : List Change) → AllByRecursion AddsShort changes → AllByRecursion AddsShort (era name changes)
era_short name [] all = tt
era_short name (change ∷ earlier) all =
    elim (cases_Bool (deletes name change)) [
      | inl e ↦ rw e tt
      | inr e ↦ rw e (all.0, era_short name earlier all.1)
    ]

-- What is in the table was added.
standing_short : (name : List ℕ) (changes : List Change) → AllByRecursion AddsShort changes → AllByRecursion IsShortRange (standing (range_added name) (removes_range name) changes)
standing_short name [] all = tt
standing_short name (change ∷ later) all =
    all_append IsShortRange (filter (λ x. not (list_any (removes_range name x) later)) (option_to_list (range_added name change))) (standing (range_added name) (removes_range name) later)
    (all_filter IsShortRange (λ x. not (list_any (removes_range name x) later)) (option_to_list (range_added name change)) (by_option (range_added name change) (all.0 name)))
    (standing_short name later all.1) where
      by_option : (o : Option Range) → ((r : Range) → o ≡ Some r → IsShortRange r) → AllByRecursion IsShortRange (option_to_list o)
      by_option None short = tt
      by_option (Some r) short = (short r refl, tt)

-- ---- a table that lines have filled

pub record IsShortTable (t : Table) : Type 0 where
  pub in_order : IsTable t
  pub ranges : (name : List ℕ) (v : Entry) → variable t name ≡ Some v → AllByRecursion IsShortRange v.ranges

pub table_short : EveryTableHolds → (lines : List (List ℕ)) → IsShortTable (table_of lines)
table_short every lines =
    let holds = every lines in
    record {
      in_order = holds.in_order;
      ranges = λ name v is.
          let same : v.ranges ≡ standing_ranges name (accepted lines) = ap (λ o. option_map_or (λ (v : Entry). v.ranges) o []) (sym is) ∙ holds.looks_back.ranges name in
          subst (AllByRecursion IsShortRange) (sym same) (standing_short name (reverse (era name (accepted lines))) (all_reverse AddsShort (era name (accepted lines)) (era_short name (accepted lines) (accepted_short lines))));
    }

pub variable_within : (t : Table) (name : List ℕ) (v : Entry) → IsShortTable t → variable t name ≡ Some v → IsWithinLimits v
variable_within t name v short is = All-named (λ (v : Entry). v.name) IsWithinLimits name t.variables v short.in_order.each_within is

-- the names of the variables and of the commands of a table
pub variable_named : (t : Table) (name : List ℕ) (v : Entry) → IsShortTable t → variable t name ≡ Some v → IsName NAME_MAX name
variable_named t name v short is =
    let own : v.name ≡ name = name-named (λ (v : Entry). v.name) name t.variables v is in
    subst (IsName NAME_MAX) own (name_within NAME_MAX v.name (variable_within t name v short is).name)

pub command_named : (t : Table) (name : List ℕ) → IsShortTable t → has_command t name ≡ true → IsName NAME_MAX name
command_named t name short is = by_found (named (λ (command : List ℕ). command) name t.commands) refl is where
  by_found : (o : Option (List ℕ)) → named (λ (command : List ℕ). command) name t.commands ≡ o → is_some o ≡ true → IsName NAME_MAX name
  by_found None found some = absurd (cc)
  by_found (Some x) found some =
      let own : x ≡ name = name-named (λ (command : List ℕ). command) name t.commands x found in
      subst (IsName NAME_MAX) own (name_within NAME_MAX x (All-named (λ (command : List ℕ). command) (λ (command : List ℕ). is_name command ≡ true) name t.commands x short.in_order.each_command found))
