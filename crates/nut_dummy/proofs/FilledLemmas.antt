-- How the changes of a dump fill an empty table: each variable is inserted behind those before it.
use Rattle.std.proofs.Common.{◌≡◌, ℕ, ◌+◌, ◌<◌, ◌≤◌, Bool, true, false, List, [], ◌∷◌, ◌++◌, Option, Some, None, length, map, nat_lt, nat_le, refl, sym, ap, subst, ◌∙◌, arith, append_assoc, length-append, codes, ℤ, pos}
use Rattle.std.specs.Prelude.{filter}
use Rattle.std.specs.List.{AllByRecursion, find, flat_map}
use Rattle.std.specs.Option.{option_map_or}
use Rattle.std.specs.Str.{bytes_eq}
use Rattle.std.specs.declared.cmp.Ordering.TheVariants.{Less}
use Rattle.std.proofs.lemmas.Bool.Decides.{nat_tests}
use Rattle.std.proofs.lemmas.List.{append-nil}
use Rattle.std.proofs.lemmas.Slice.Eq.{bytes_eq-Decides}
use Rattle.std.proofs.lemmas.Bool.{and_parts}
use Rattle.nut_words.specs.declared.limits.TheConstants.{VALUE_MAX}
use Rattle.nut_state.specs.declared.limits.TheConstants.{VARIABLES_MAX}
use Rattle.nut_state.specs.declared.number.Range.{Range}
use Rattle.nut_state.specs.declared.variable.Flags.{Flags}
use Rattle.nut_state.specs.Attribute.{takes_enum, takes_range}
use Rattle.nut_state.specs.Change.{Change, set_info, set_flags, set_aux, add_enum, add_range, add_command, data_ok, dump_done}
use Rattle.nut_state.specs.Sorted.{name_cmp, named, put, IsAscending}
use Rattle.nut_state.specs.Step.{accepts, after, changed, fresh}
use Rattle.nut_state.specs.Table.{Table, Entry, empty}
use Rattle.nut_state.specs.Text.{is_name}
use Rattle.nut_state.proofs.SortedLemmas.{Each, lower, higher, equal, name_itself}
use Rattle.nut_dummy.specs.declared.writable.Writable.{Writable}
use Rattle.nut_dummy.specs.declared.writable.Writable.TheVariants.{ChargeLow, RuntimeLow, Sensitivity, ShutdownDelay, Id}
use Rattle.nut_dummy.specs.Command.{command_name, all_commands}
use Rattle.nut_dummy.specs.Heard.{attribute_changes}
use Rattle.nut_dummy.specs.Table.{entries, table_of}
use Rattle.nut_dummy.specs.Teller.{Variable}
use Rattle.nut_dummy.specs.Writable.{Attributes, all_writable, attributes, name_of, attributes_of, number_up_to, text_of, writable_of}
use Rattle.nut_dummy.proofs.LimitLemmas.{AreSound, IsSound, IsValued}

-- ---- a list with one more behind it

module _ {X : Type 0} (name_of : X → List ℕ) (name : List ℕ) where
  lower_all : (xs : List X) → Each name_of Less name xs → filter (lower name_of name) xs ≡ xs
  lower_all [] low = refl
  lower_all (x ∷ xs) low = rw low.0 (ap (λ ys. x ∷ ys) (lower_all xs low.1))

  higher_none : (xs : List X) → Each name_of Less name xs → filter (higher name_of name) xs ≡ []
  higher_none [] low = refl
  higher_none (x ∷ xs) low = rw low.0 (higher_none xs low.1)

  equal_none : (xs : List X) → Each name_of Less name xs → find (equal name_of name) xs ≡ None
  equal_none [] low = refl
  equal_none (x ∷ xs) low = rw low.0 (equal_none xs low.1)

  lower_but_last : (xs : List X) (e : X) → Each name_of Less name xs → name_of e ≡ name → filter (lower name_of name) (xs ++ e ∷ []) ≡ xs
  lower_but_last [] e low own = rw (own, name_itself name) refl
  lower_but_last (x ∷ xs) e low own = rw low.0 (ap (λ ys. x ∷ ys) (lower_but_last xs e low.1 own))

  higher_but_last : (xs : List X) (e : X) → Each name_of Less name xs → name_of e ≡ name → filter (higher name_of name) (xs ++ e ∷ []) ≡ []
  higher_but_last [] e low own = rw (own, name_itself name) refl
  higher_but_last (x ∷ xs) e low own = rw low.0 (higher_but_last xs e low.1 own)

  equal_last : (xs : List X) (e : X) → Each name_of Less name xs → name_of e ≡ name → find (equal name_of name) (xs ++ e ∷ []) ≡ Some e
  equal_last [] e low own = rw (own, name_itself name) refl
  equal_last (x ∷ xs) e low own = rw low.0 (equal_last xs e low.1 own)

  named_none : (xs : List X) → Each name_of Less name xs → named name_of name xs ≡ None
  unfolding named
  named_none xs low = equal_none xs low

  named_last : (xs : List X) (e : X) → Each name_of Less name xs → name_of e ≡ name → named name_of name (xs ++ e ∷ []) ≡ Some e
  unfolding named
  named_last xs e low own = equal_last xs e low own

  put_last : (xs : List X) (new : X) → Each name_of Less name xs → put name_of name (Some new) xs ≡ xs ++ new ∷ []
  unfolding put
  put_last xs new low = λ i. lower_all xs low i ++ (new ∷ higher_none xs low i)

  put_again : (xs : List X) (e new : X) → Each name_of Less name xs → name_of e ≡ name → put name_of name (Some new) (xs ++ e ∷ []) ≡ xs ++ new ∷ []
  unfolding put
  put_again xs e new low own = λ i. lower_but_last xs e low own i ++ (new ∷ higher_but_last xs e low own i)

-- ---- a table with one variable more

-- a variable with its attributes
abbrev with_attributes : List ℕ → List ℕ → Attributes → Entry
with_attributes name value a = record { name = name; value = value; flags = a.flags; aux = a.aux; enums = a.enums; ranges = a.ranges }

abbrev entry : List ℕ → List ℕ → Entry
entry name value = with_attributes name value (attributes_of (writable_of name))

abbrev pub filled : List Entry → Table
filled xs = record { variables = xs; commands = []; dump_done = false; data_ok = false }

abbrev entry_name : Entry → List ℕ
entry_name v = v.name

-- the changes in turn
abbrev pub followed : List Change → Table → Table
followed [] t = t
followed (change ∷ changes) t = followed changes (after t change)

pub followed-append : (a b : List Change) (t : Table) → followed (a ++ b) t ≡ followed b (followed a t)
followed-append [] b t = refl
followed-append (change ∷ a) b t = followed-append a b (after t change)

module _ (name : List ℕ) (xs : List Entry) (low : Each entry_name Less name xs) where
  set_last : (value : List ℕ) → is_name name ≡ true → nat_le (length value) VALUE_MAX ≡ true → nat_lt (length xs) VARIABLES_MAX ≡ true
      → after (filled xs) (set_info name value) ≡ filled (xs ++ fresh name value ∷ [])
  unfolding after accepts changed
  set_last value named_so short room =
      rw (named_so, short, named_none entry_name name xs low, room) (ap filled (put_last entry_name name xs (fresh name value) low))

  module _ (e : Entry) (own : e.name ≡ name) where
    flags_last : (flags : Flags) → after (filled (xs ++ e ∷ [])) (set_flags name flags) ≡ filled (xs ++ (record e { flags = flags }) ∷ [])
    unfolding after accepts changed
    flags_last flags = rw (named_last entry_name name xs e low own) (ap filled (put_again entry_name name xs e (record e { flags = flags }) low own))

    aux_last : (aux : ℕ) → nat_le aux VALUE_MAX ≡ true → after (filled (xs ++ e ∷ [])) (set_aux name (Some aux)) ≡ filled (xs ++ (record e { aux = aux }) ∷ [])
    unfolding after accepts changed
    aux_last aux fits = rw (named_last entry_name name xs e low own, fits) (ap filled (put_again entry_name name xs e (record e { aux = aux }) low own))

    enum_last : (value : List ℕ) → takes_enum value e.enums ≡ true → after (filled (xs ++ e ∷ [])) (add_enum name value) ≡ filled (xs ++ (record e { enums = e.enums ++ value ∷ [] }) ∷ [])
    unfolding after accepts changed
    enum_last value takes = rw (named_last entry_name name xs e low own, takes) (ap filled (put_again entry_name name xs e (record e { enums = e.enums ++ value ∷ [] }) low own))

    range_last : (range : Range) → takes_range range e.ranges ≡ true → after (filled (xs ++ e ∷ [])) (add_range name (Some range)) ≡ filled (xs ++ (record e { ranges = e.ranges ++ range ∷ [] }) ∷ [])
    unfolding after accepts changed
    range_last range takes = rw (named_last entry_name name xs e low own, takes) (ap filled (put_again entry_name name xs e (record e { ranges = e.ranges ++ range ∷ [] }) low own))

-- ---- the lines of one variable

-- the limits of a number
number_last : (name value : List ℕ) (most : ℤ) (xs : List Entry) → Each entry_name Less name xs
    → followed (attribute_changes name (number_up_to most)) (filled (xs ++ fresh name value ∷ [])) ≡ filled (xs ++ with_attributes name value (number_up_to most) ∷ [])
number_last name value most xs low =
    let a = number_up_to most in
    let range : Range = record { minimum = pos 0; maximum = most } in
    ap (λ t. after t (add_range name (Some range))) (flags_last name xs low (fresh name value) refl a.flags)
    ∙ range_last name xs low (record { name = name; value = value; flags = a.flags; aux = 0; enums = []; ranges = [] }) refl range refl

-- the largest length of a text
text_last : (name value : List ℕ) (most : ℕ) (xs : List Entry) → Each entry_name Less name xs → nat_le most VALUE_MAX ≡ true
    → after (after (filled (xs ++ fresh name value ∷ [])) (set_flags name (text_of 0 []).flags)) (set_aux name (Some most)) ≡ filled (xs ++ with_attributes name value (text_of most []) ∷ [])
text_last name value most xs low fits =
    let flags = (text_of 0 []).flags in
    ap (λ t. after t (set_aux name (Some most))) (flags_last name xs low (fresh name value) refl flags)
    ∙ aux_last name xs low (record { name = name; value = value; flags = flags; aux = 0; enums = []; ranges = [] }) refl most fits

limits_last : (w : Writable) (value : List ℕ) (xs : List Entry) → Each entry_name Less (name_of w) xs
    → followed (attribute_changes (name_of w) (attributes w)) (filled (xs ++ fresh (name_of w) value ∷ [])) ≡ filled (xs ++ with_attributes (name_of w) value (attributes w) ∷ [])
limits_last ChargeLow value xs low = number_last (name_of ChargeLow) value (pos 100) xs low
limits_last RuntimeLow value xs low = number_last (name_of RuntimeLow) value (pos 86400) xs low
limits_last ShutdownDelay value xs low = number_last (name_of ShutdownDelay) value (pos 600) xs low
limits_last Id value xs low = text_last (name_of Id) value 16 xs low refl
limits_last Sensitivity value xs low =
    let name = name_of Sensitivity in
    let listing = λ (enums : List (List ℕ)). with_attributes name value (text_of 8 enums) in
    ap (followed (add_enum name (codes "low") ∷ add_enum name (codes "medium") ∷ add_enum name (codes "high") ∷ [])) (text_last name value 8 xs low refl)
    ∙ ap (followed (add_enum name (codes "medium") ∷ add_enum name (codes "high") ∷ [])) (enum_last name xs low (listing []) refl (codes "low") refl)
    ∙ ap (followed (add_enum name (codes "high") ∷ [])) (enum_last name xs low (listing (codes "low" ∷ [])) refl (codes "medium") refl)
    ∙ enum_last name xs low (listing (codes "low" ∷ codes "medium" ∷ [])) refl (codes "high") refl

-- the changes that limit the variable of a name
abbrev pub limiting : List ℕ → Option Writable → List Change
limiting name w = option_map_or (λ w. attribute_changes name (attributes w)) w []

find_passes : (p : Writable → Bool) (ws : List Writable) (w : Writable) → find p ws ≡ Some w → p w ≡ true
find_passes p [] w h = cc
find_passes p (v ∷ ws) w h = grind (arith, find_passes p ws w)

pub writable_named : (name : List ℕ) (w : Writable) → writable_of name ≡ Some w → name_of w ≡ name
unfolding writable_of
writable_named name w h = (bytes_eq-Decides (name_of w) name).0 (find_passes (λ v. bytes_eq (name_of v) name) all_writable w h)

limiting_last : (name value : List ℕ) (xs : List Entry) → Each entry_name Less name xs
    → followed (limiting name (writable_of name)) (filled (xs ++ fresh name value ∷ [])) ≡ filled (xs ++ entry name value ∷ [])
limiting_last name value xs low = by (writable_of name) refl where
  by : (w : Option Writable) → writable_of name ≡ w → followed (limiting name w) (filled (xs ++ fresh name value ∷ [])) ≡ filled (xs ++ with_attributes name value (attributes_of w) ∷ [])
  by None is = refl
  by (Some w) is =
      subst (λ n. Each entry_name Less n xs → followed (limiting n (Some w)) (filled (xs ++ fresh n value ∷ [])) ≡ filled (xs ++ with_attributes n value (attributes_of (Some w)) ∷ [])) (writable_named name w is)
      (limits_last w value xs) low

-- what a dump says of a variable
abbrev pub changes_of : List ℕ → Option (List ℕ) → List Change
changes_of name value = option_map_or (λ x. set_info name x ∷ limiting name (writable_of name)) value []

variable_last : (name : List ℕ) (value : Option (List ℕ)) (xs : List Entry) → is_name name ≡ true → IsValued value → length xs < VARIABLES_MAX → Each entry_name Less name xs
    → followed (changes_of name value) (filled xs) ≡ filled (xs ++ entries name value)
variable_last name None xs named_so valued room low = ap filled (sym (append-nil xs))
variable_last name (Some value) xs named_so valued room low =
    let short : nat_le (length value) VALUE_MAX ≡ true = (and_parts _ _ valued).0 in
    let few : nat_lt (length xs) VARIABLES_MAX ≡ true = grind (arith, nat_tests) in
    ap (followed (limiting name (writable_of name))) (set_last name xs low value named_so short few) ∙ limiting_last name value xs low

-- ---- all of them

module _ (name : List ℕ) (other : List ℕ) (before : name_cmp name other ≡ Less) where
  low_more : (xs : List Entry) (value : Option (List ℕ)) → Each entry_name Less other xs → Each entry_name Less other (xs ++ entries name value)
  low_more [] None low = tt
  low_more [] (Some value) low = (before, tt)
  low_more (x ∷ xs) value low = (low.0, low_more xs value low.1)

abbrev AllLow : List Entry → List Variable → Type 0
AllLow xs variables = AllByRecursion (λ (v : Variable). Each entry_name Less v.name xs) variables

all_low_more : (name : List ℕ) (value : Option (List ℕ)) (xs : List Entry) (variables : List Variable) → AllByRecursion (λ other. name_cmp name other ≡ Less) (map (λ v. v.name) variables) → AllLow xs variables
    → AllLow (xs ++ entries name value) variables
all_low_more name value xs [] before low = tt
all_low_more name value xs (v ∷ variables) before low = (low_more name v.name before.0 xs value low.0, all_low_more name value xs variables before.1 low.1)

few_more : (name : List ℕ) (value : Option (List ℕ)) (xs : List Entry) → length (xs ++ entries name value) ≤ length xs + 1
few_more name None xs = omega (arith, length-append xs [])
few_more name (Some value) xs = omega (arith, length-append xs (entry name value ∷ []))

-- Variables that ascend are inserted one behind the other.
fills : (variables : List Variable) (xs : List Entry) → AllLow xs variables → IsAscending (map (λ v. v.name) variables) → AllByRecursion IsSound variables → length xs + length variables ≤ VARIABLES_MAX
    → followed (flat_map (λ v. changes_of v.name v.value) variables) (filled xs) ≡ filled (xs ++ flat_map (λ v. entries v.name v.value) variables)
fills [] xs low up sound few = ap filled (sym (append-nil xs))
fills (v ∷ variables) xs low up sound few =
    let rest = flat_map (λ v. changes_of v.name v.value) variables in
    followed-append (changes_of v.name v.value) rest (filled xs)
    ∙ ap (followed rest) (variable_last v.name v.value xs sound.0.0 sound.0.2 (omega (arith, few)) low.0)
    ∙ fills variables (xs ++ entries v.name v.value) (all_low_more v.name v.value xs variables up.0 low.1) up.1 sound.1 (omega (arith, few, few_more v.name v.value xs))
    ∙ ap filled (append_assoc xs (entries v.name v.value) (flat_map (λ v. entries v.name v.value) variables))

-- the changes at the end of a dump
abbrev pub closing_changes : List Change
closing_changes = map (λ c. add_command (command_name c)) all_commands ++ data_ok ∷ dump_done ∷ []

closes : (xs : List Entry) → followed closing_changes (filled xs) ≡ record { variables = xs; commands = map command_name all_commands; dump_done = true; data_ok = true }
unfolding after accepts changed named put
closes xs = refl

all_low_first : (variables : List Variable) → AllLow [] variables
all_low_first [] = tt
all_low_first (v ∷ variables) = (tt, all_low_first variables)

-- The changes of a dump lead an empty table to the driver's own.
pub dump_fills : (variables : List Variable) → AreSound variables
    → followed (flat_map (λ v. changes_of v.name v.value) variables ++ closing_changes) empty ≡ table_of variables
dump_fills variables h =
    followed-append (flat_map (λ v. changes_of v.name v.value) variables) closing_changes empty
    ∙ ap (followed closing_changes) (fills variables [] (all_low_first variables) h.ascending h.each (omega (arith, h.few)))
    ∙ closes (flat_map (λ v. entries v.name v.value) variables)
