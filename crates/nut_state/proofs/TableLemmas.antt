-- Each line leaves a table that is in order and within its limits.
use Rattle.std.proofs.Common.{◌≡◌, ℕ, ◌≤◌, List, [], ◌∷◌, ◌++◌, Bool, true, false, not, ◌&&◌, ◌||◌, ◌⊎◌, inl, inr, Option, Some, None, length, refl, ap, ◌∙◌, arith, length-append}
use Rattle.std.specs.Prelude.{filter, is_some, nat_lt, nat_le, unwrap_or}
use Rattle.std.specs.List.{All}
use Rattle.std.specs.Option.{option_to_list}
use Rattle.std.specs.Str.{bytes_eq}
use Rattle.std.proofs.lemmas.List.Filters.{length-filter_both}
use Rattle.std.proofs.lemmas.List.Elements.{All-nil, All-cons, All-append, All-filter}
use Rattle.std.proofs.lemmas.Bool.{and_parts, leb-true, ltb-true, cases_Bool}
use Rattle.nut_words.specs.declared.limits.TheConstants.{VALUE_MAX}
use Rattle.nut_state.specs.declared.limits.TheConstants.{VARIABLES_MAX, COMMANDS_MAX, ENUMS_MAX, RANGES_MAX}
use Rattle.nut_state.specs.Sorted.{put}
use Rattle.nut_state.specs.Table.{Table, Entry, variable}
use Rattle.nut_state.specs.Step.{fresh, with_value, without_enum, without_range, passes, with_variable, with_command, revised, accepts, changed, after}
use Rattle.nut_state.specs.Attribute.{same_range, takes_enum, takes_range}
use Rattle.nut_state.specs.Change.{Change, set_info, del_info, add_enum, del_enum, add_range, del_range, set_aux, set_flags, add_command, del_command, dump_done, data_ok, data_stale}
use Rattle.nut_state.specs.Text.{is_name}
use Rattle.nut_state.specs.laws.Holds.{IsTable, IsWithinLimits}
use Rattle.nut_state.proofs.PutLemmas.{HasName, ascending-put, length-put, length-put_found, length-put_none, All-put, name-named, All-named}

-- An option is `None`, or there is a value that it holds.
pub either : {X : Type 0} (o : Option X) → (o ≡ None) ⊎ ((x : X) × (o ≡ Some x))
either None = inl refl
either (Some x) = inr (x, refl)

pub IsTable-with_variable : (t : Table) (name : List ℕ) (new : Option Entry) → HasName (λ v. v.name) name new → All IsWithinLimits (option_to_list new)
    → length (put (λ v. v.name) name new t.variables) ≤ VARIABLES_MAX → IsTable t → IsTable (with_variable t name new)
IsTable-with_variable t name new named_so limits short h = record {
  variables_ascend = ascending-put (λ v. v.name) name new t.variables named_so h.variables_ascend;
  variables_within = short;
  each_within = All-put (λ v. v.name) IsWithinLimits name new t.variables limits h.each_within;
  commands_ascend = h.commands_ascend;
  commands_within = h.commands_within;
  each_command = h.each_command;
}

IsTable-with_command : (t : Table) (name : List ℕ) (new : Option (List ℕ)) → HasName (λ c. c) name new → All (λ c. is_name c ≡ true) (option_to_list new)
    → length (put (λ c. c) name new t.commands) ≤ COMMANDS_MAX → IsTable t → IsTable (with_command t name new)
IsTable-with_command t name new named_so good short h = record {
  variables_ascend = h.variables_ascend;
  variables_within = h.variables_within;
  each_within = h.each_within;
  commands_ascend = ascending-put (λ c. c) name new t.commands named_so h.commands_ascend;
  commands_within = short;
  each_command = All-put (λ c. c) (λ c. is_name c ≡ true) name new t.commands good h.each_command;
}

-- an edit that keeps the name and the limits
IsTable-revised : (t : Table) (name : List ℕ) (edit : Entry → Entry) → ((v : Entry) → (edit v).name ≡ v.name)
    → ((v : Entry) → variable t name ≡ Some v → IsWithinLimits v → IsWithinLimits (edit v)) → IsTable t → IsTable (revised t name edit)
IsTable-revised t name edit same limits h = by (either (variable t name))
  where
    by : (variable t name ≡ None) ⊎ ((v : Entry) × (variable t name ≡ Some v)) → IsTable (revised t name edit)
    by (inl e) = rw e (IsTable-with_variable t name None tt (All-nil IsWithinLimits) (omega (arith, length-put_none (λ v. v.name) name t.variables, h.variables_within)) h)
    by (inr (v, e)) =
        let some : is_some (variable t name) ≡ true = ap is_some e in
        rw e (IsTable-with_variable t name (Some (edit v)) (same v ∙ name-named (λ v. v.name) name t.variables v e)
        (All-cons IsWithinLimits (edit v) [] (limits v e (All-named (λ v. v.name) IsWithinLimits name t.variables v h.each_within e)) (All-nil IsWithinLimits))
        (omega (arith, length-put_found (λ v. v.name) name (Some (edit v)) t.variables some, h.variables_within)) h)

-- the two marks of a table
IsTable-marked : (t : Table) (dumped ok : Bool) → IsTable t → IsTable (record t { dump_done = dumped; data_ok = ok })
IsTable-marked t dumped ok h = record {
  variables_ascend = h.variables_ascend;
  variables_within = h.variables_within;
  each_within = h.each_within;
  commands_ascend = h.commands_ascend;
  commands_within = h.commands_within;
  each_command = h.each_command;
}

length-filter_le : {X : Type 0} (p : X → Bool) (xs : List X) → length (filter p xs) ≤ length xs
length-filter_le p xs = omega (arith, length-filter_both p (λ x. not (p x)) (λ x. refl) xs)

-- the test at the variable that `passes` has found
passes_at : (t : Table) (name : List ℕ) (test : Entry → Bool) (v : Entry) → variable t name ≡ Some v → passes t name test ≡ true → test v ≡ true
passes_at t name test v e h = rw e at h

IsTable-changed : (t : Table) (change : Change) → accepts t change ≡ true → IsTable t → IsTable (changed t change)
unfolding accepts changed
IsTable-changed t (set_info name value) ok h = by (either (variable t name))
  where
    good : is_name name ≡ true
    good = (and_parts _ _ (and_parts _ _ ok).0).0

    short : length value ≤ VALUE_MAX
    short = leb-true _ _ (and_parts (is_name name) (nat_le (length value) VALUE_MAX) ((and_parts _ _ ok).0)).1

    by : (variable t name ≡ None) ⊎ ((v : Entry) × (variable t name ≡ Some v))
        → IsTable (with_variable t name (Some (with_value value (unwrap_or (variable t name) (fresh name value)))))
    by (inl e) =
        let test : (is_some (variable t name) || nat_lt (length t.variables) VARIABLES_MAX) ≡ true =
        (and_parts (is_name name && nat_le (length value) VALUE_MAX) (is_some (variable t name) || nat_lt (length t.variables) VARIABLES_MAX) ok).1 in
        let room : nat_lt (length t.variables) VARIABLES_MAX ≡ true = rw e at test in
        rw e (IsTable-with_variable t name (Some (with_value value (fresh name value))) refl
        (All-cons IsWithinLimits _ [] (record {
          name = good;
          value = short;
          aux = omega arith;
          enums = omega arith;
          each_enum = All-nil (λ text. length text ≤ VALUE_MAX);
          ranges = omega arith;
        }) (All-nil IsWithinLimits))
        (omega (arith, ltb-true _ _ room, length-put (λ v. v.name) name (Some (with_value value (fresh name value))) t.variables)) h)
    by (inr (v, e)) =
        let some : is_some (variable t name) ≡ true = ap is_some e in
        let within = All-named (λ v. v.name) IsWithinLimits name t.variables v h.each_within e in
        rw e (IsTable-with_variable t name (Some (with_value value v)) (name-named (λ v. v.name) name t.variables v e)
        (All-cons IsWithinLimits (with_value value v) [] (record {
          name = within.name;
          value = short;
          aux = within.aux;
          enums = within.enums;
          each_enum = within.each_enum;
          ranges = within.ranges;
        }) (All-nil IsWithinLimits))
        (omega (arith, length-put_found (λ v. v.name) name (Some (with_value value v)) t.variables some, h.variables_within)) h)
IsTable-changed t (del_info name) ok h =
    IsTable-with_variable t name None tt (All-nil IsWithinLimits) (omega (arith, length-put_none (λ v. v.name) name t.variables, h.variables_within)) h
IsTable-changed t (add_enum name value) ok h =
    IsTable-revised t name (λ v. record v { enums = v.enums ++ value ∷ [] }) (λ v. refl)
    (λ v e within.
    let takes : takes_enum value v.enums ≡ true = passes_at t name (λ w. takes_enum value w.enums) v e ok in
    let fits = (and_parts _ _ takes).0 in
    let room : nat_lt (length v.enums) ENUMS_MAX ≡ true = (and_parts (nat_le (length value) VALUE_MAX) (nat_lt (length v.enums) ENUMS_MAX) fits).1 in
    let short : nat_le (length value) VALUE_MAX ≡ true = (and_parts _ _ fits).0 in
    record {
      name = within.name;
      value = within.value;
      aux = within.aux;
      enums = omega (arith, ltb-true _ _ room, length-append v.enums (value ∷ []));
      each_enum = All-append (λ text. length text ≤ VALUE_MAX) v.enums (value ∷ []) within.each_enum
          (All-cons (λ text. length text ≤ VALUE_MAX) value [] (leb-true _ _ short) (All-nil (λ text. length text ≤ VALUE_MAX)));
      ranges = within.ranges;
    }) h
IsTable-changed t (del_enum name value) ok h =
    IsTable-revised t name (without_enum value) (λ v. refl)
    (λ v e within. record {
      name = within.name;
      value = within.value;
      aux = within.aux;
      enums = omega (arith, length-filter_le (λ listed. not (bytes_eq listed value)) v.enums, within.enums);
      each_enum = All-filter (λ listed. not (bytes_eq listed value)) (λ text. length text ≤ VALUE_MAX) v.enums within.each_enum;
      ranges = within.ranges;
    }) h
IsTable-changed t (add_range name None) ok h = cc
IsTable-changed t (add_range name (Some range)) ok h =
    IsTable-revised t name (λ v. record v { ranges = v.ranges ++ range ∷ [] }) (λ v. refl)
    (λ v e within.
    let takes : takes_range range v.ranges ≡ true = passes_at t name (λ w. takes_range range w.ranges) v e ok in
    let room : nat_lt (length v.ranges) RANGES_MAX ≡ true = (and_parts _ _ takes).0 in
    record {
      name = within.name;
      value = within.value;
      aux = within.aux;
      enums = within.enums;
      each_enum = within.each_enum;
      ranges = omega (arith, ltb-true _ _ room, length-append v.ranges (range ∷ []));
    }) h
IsTable-changed t (del_range name (Some range)) ok h =
    IsTable-revised t name (without_range range) (λ v. refl)
    (λ v e within. record {
      name = within.name;
      value = within.value;
      aux = within.aux;
      enums = within.enums;
      each_enum = within.each_enum;
      ranges = omega (arith, length-filter_le (λ listed. not (same_range listed range)) v.ranges, within.ranges);
    }) h
IsTable-changed t (set_aux name None) ok h = cc
IsTable-changed t (set_aux name (Some aux)) ok h =
    IsTable-revised t name (λ v. record v { aux = aux }) (λ v. refl)
    (λ v e within. record {
      name = within.name;
      value = within.value;
      aux = leb-true _ _ (and_parts (is_some (variable t name)) (nat_le aux VALUE_MAX) ok).1;
      enums = within.enums;
      each_enum = within.each_enum;
      ranges = within.ranges;
    }) h
IsTable-changed t (set_flags name flags) ok h =
    IsTable-revised t name (λ v. record v { flags = flags }) (λ v. refl)
    (λ v e within. record {
      name = within.name;
      value = within.value;
      aux = within.aux;
      enums = within.enums;
      each_enum = within.each_enum;
      ranges = within.ranges;
    }) h
IsTable-changed t (add_command name) ok h =
    let fits = (and_parts _ _ ok).0 in
    let room : nat_lt (length t.commands) COMMANDS_MAX ≡ true = (and_parts (is_name name) (nat_lt (length t.commands) COMMANDS_MAX) fits).1 in
    let good : is_name name ≡ true = (and_parts _ _ fits).0 in
    IsTable-with_command t name (Some name) refl (All-cons (λ c. is_name c ≡ true) name [] good (All-nil (λ c. is_name c ≡ true)))
    (omega (arith, ltb-true _ _ room, length-put (λ c. c) name (Some name) t.commands)) h
IsTable-changed t (del_command name) ok h =
    IsTable-with_command t name None tt (All-nil (λ c. is_name c ≡ true))
    (omega (arith, length-put_none (λ c. c) name t.commands, h.commands_within)) h
IsTable-changed t dump_done ok h = IsTable-marked t true t.data_ok h
IsTable-changed t data_ok ok h = IsTable-marked t t.dump_done true h
IsTable-changed t data_stale ok h = IsTable-marked t t.dump_done false h
IsTable-changed t _ ok h = h

pub after_accepted : (t : Table) (change : Change) → accepts t change ≡ true → after t change ≡ changed t change
unfolding after
after_accepted t change ok = rw ok refl

pub after_refused : (t : Table) (change : Change) → accepts t change ≡ false → after t change ≡ t
unfolding after
after_refused t change denied = rw denied refl

pub IsTable-after : (t : Table) (change : Change) → IsTable t → IsTable (after t change)
IsTable-after t change h = elim (cases_Bool (accepts t change)) [
  | inl ok ↦ rw (after_accepted t change ok) (IsTable-changed t change ok h)
  | inr denied ↦ rw (after_refused t change denied) h
]
