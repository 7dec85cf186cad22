-- What each change does, if a search by name has found its variable or command, and if it has found none.
use Rattle.std.proofs.Common.{◌≡◌, ℕ, List, [], ◌∷◌, ◌++◌, Bool, true, false, not, ◌&&◌, Some, None, Ok, Err, Result, length, refl, sym, ap, subst, ◌∙◌, arith, inl, inr}
use Rattle.std.specs.Prelude.{if◌then◌else◌, filter, is_some, nat_lt, nat_le, unwrap_or, slice_set, slice_index_or}
use Rattle.std.specs.List.{insert, remove, list_any}
use Rattle.std.specs.Result.{OnOk, OnErr, is_ok}
use Rattle.std.specs.Str.{bytes_eq}
use Rattle.std.proofs.lemmas.Bool.{and_left, and_right, cases_Bool}
use Rattle.std.proofs.lemmas.List.{set-get_or}
use Rattle.nut_words.specs.declared.limits.TheConstants.{VALUE_MAX}
use Rattle.nut_state.specs.declared.limits.TheConstants.{VARIABLES_MAX, COMMANDS_MAX}
use Rattle.nut_state.specs.declared.number.Range.{Range}
use Rattle.nut_state.specs.declared.variable.Flags.{Flags}
use Rattle.nut_state.specs.Sorted.{IsFound, IsFree}
use Rattle.nut_state.specs.Text.{is_name}
use Rattle.nut_state.specs.Table.{Table, Entry, variable}
use Rattle.nut_state.specs.Step.{fresh, with_value, without_enum, without_range, with_variable, revised, accepts, changed, after, adds}
use Rattle.nut_state.specs.Attribute.{same_range, takes_enum, takes_range, lists_enum, lists_range}
use Rattle.nut_state.specs.Change.{Change, set_info, del_info, add_enum, del_enum, add_range, del_range, set_aux, set_flags, add_command, del_command}
use Rattle.nut_state.specs.laws.Holds.{IsTable}
use Rattle.nut_state.proofs.TableLemmas.{IsTable-after, after_accepted, after_refused}

abbrev pub name_of : Entry → List ℕ
name_of v = v.name

abbrev pub itself : List ℕ → List ℕ
itself command = command

-- commands, of which an insertion that lacked memory left all as they were
pub commands_kept : {T E : Type 0} (r : Result T E) (t : Table) (xs ys : List (List ℕ)) → xs ≡ (if is_ok r then ys else t.commands) → OnErr r (record t { commands = xs } ≡ t)
commands_kept (Ok x) t xs ys to = tt
commands_kept (Err e) t xs ys to = ap (λ cs. record t { commands = cs }) to

-- ---- the variable is v, at place i

module _ (t : Table) (name : List ℕ) (i : ℕ) (v : Entry) (f : IsFound name_of name t.variables i) (at : v ≡ slice_index_or t.variables i v) where
  pub variable_is : variable t name ≡ Some v
  variable_is = f.is v ∙ ap Some (sym at)

  revised_is : (edit : Entry → Entry) → revised t name edit ≡ record t { variables = slice_set t.variables i (edit v) }
  revised_is edit = rw variable_is (ap (λ vs. record t { variables = vs }) (f.replaced (edit v)))

  by_edit : (change : Change) (edit : Entry → Entry) (new : Entry) → accepts t change ≡ true → changed t change ≡ revised t name edit → new ≡ edit v
      → record t { variables = slice_set t.variables i new } ≡ after t change
  by_edit change edit new ok is to =
      ap (λ w. record t { variables = slice_set t.variables i w }) to ∙ sym (revised_is edit) ∙ sym is ∙ sym (after_accepted t change ok)

  same_set : slice_set t.variables i v ≡ t.variables
  same_set = ap (slice_set t.variables i) at ∙ set-get_or t.variables i v

  -- a variable that is put back as it was
  pub put_back : (new : Entry) → new ≡ v → record t { variables = slice_set t.variables i new } ≡ t
  put_back new to =
      ap (λ w. record t { variables = slice_set t.variables i w }) to ∙ ap (λ vs. record t { variables = vs }) same_set

  untouched : (change : Change) (new : Entry) → accepts t change ≡ false → new ≡ v → record t { variables = slice_set t.variables i new } ≡ after t change
  untouched change new denied to =
      ap (λ w. record t { variables = slice_set t.variables i w }) to ∙ ap (λ vs. record t { variables = vs }) same_set
      ∙ sym (after_refused t change denied)

  pub set_flags_found : (flags : Flags) (new : Entry) → new ≡ record v { flags = flags }
      → record t { variables = slice_set t.variables i new } ≡ after t (set_flags name flags)
  unfolding accepts changed
  set_flags_found flags new to = by_edit (set_flags name flags) (λ w. record w { flags = flags }) new (ap is_some variable_is) refl to

  pub set_aux_found : (aux : ℕ) (new : Entry) → nat_le aux VALUE_MAX ≡ true → new ≡ record v { aux = aux }
      → record t { variables = slice_set t.variables i new } ≡ after t (set_aux name (Some aux))
  unfolding accepts changed
  set_aux_found aux new fits to = by_edit (set_aux name (Some aux)) (λ w. record w { aux = aux }) new (rw variable_is fits) refl to

  pub add_enum_found : (value : List ℕ) (new : Entry) → takes_enum value v.enums ≡ true → new ≡ record v { enums = v.enums ++ value ∷ [] }
      → record t { variables = slice_set t.variables i new } ≡ after t (add_enum name value)
  unfolding accepts changed
  add_enum_found value new takes to =
      by_edit (add_enum name value) (λ w. record w { enums = w.enums ++ value ∷ [] }) new (rw variable_is takes) refl to

  pub add_enum_full : (value : List ℕ) → takes_enum value v.enums ≡ false → record t { variables = slice_set t.variables i v } ≡ after t (add_enum name value)
  unfolding accepts
  add_enum_full value full = untouched (add_enum name value) v (rw variable_is full) refl

  pub add_range_found : (range : Range) (new : Entry) → takes_range range v.ranges ≡ true → new ≡ record v { ranges = v.ranges ++ range ∷ [] }
      → record t { variables = slice_set t.variables i new } ≡ after t (add_range name (Some range))
  unfolding accepts changed
  add_range_found range new takes to =
      by_edit (add_range name (Some range)) (λ w. record w { ranges = w.ranges ++ range ∷ [] }) new (rw variable_is takes) refl to

  pub add_range_full : (range : Range) → takes_range range v.ranges ≡ false → record t { variables = slice_set t.variables i v } ≡ after t (add_range name (Some range))
  unfolding accepts
  add_range_full range full = untouched (add_range name (Some range)) v (rw variable_is full) refl

  keeps_all : {X : Type 0} (p : X → Bool) (xs : List X) → list_any p xs ≡ false → filter (λ x. not (p x)) xs ≡ xs
  keeps_all p [] none = refl
  keeps_all p (x ∷ xs) none = grind (arith, keeps_all p xs)

  pub del_enum_found : (value : List ℕ) (new : Entry) → new ≡ without_enum value v
      → record t { variables = slice_set t.variables i new } ≡ after t (del_enum name value)
  unfolding accepts changed
  del_enum_found value new to = elim (cases_Bool (lists_enum value v.enums)) [
    | inl listed ↦ by_edit (del_enum name value) (without_enum value) new (rw variable_is listed) refl to
    | inr none ↦
        untouched (del_enum name value) new (rw variable_is none) (to ∙ ap (λ xs. record v { enums = xs }) (keeps_all (λ listed. bytes_eq listed value) v.enums none))
  ]

  pub del_range_found : (range : Range) (new : Entry) → new ≡ without_range range v
      → record t { variables = slice_set t.variables i new } ≡ after t (del_range name (Some range))
  unfolding accepts changed
  del_range_found range new to = elim (cases_Bool (lists_range range v.ranges)) [
    | inl listed ↦ by_edit (del_range name (Some range)) (without_range range) new (rw variable_is listed) refl to
    | inr none ↦
        untouched (del_range name (Some range)) new (rw variable_is none) (to ∙ ap (λ xs. record v { ranges = xs }) (keeps_all (λ listed. same_range listed range) v.ranges none))
  ]

  pub set_info_found : (value : List ℕ) (new : Entry) → is_name name ≡ true → nat_le (length value) VALUE_MAX ≡ true → new ≡ with_value value v
      → record t { variables = slice_set t.variables i new } ≡ after t (set_info name value)
  unfolding accepts changed
  set_info_found value new good fits to =
      ap (λ w. record t { variables = slice_set t.variables i w }) to
      ∙ ap (λ vs. record t { variables = vs }) (sym (f.replaced (with_value value v)))
      ∙ ap (λ o. with_variable t name (Some (with_value value (unwrap_or o (fresh name value))))) (sym variable_is)
      ∙ sym (after_accepted t (set_info name value) (rw (good, fits, variable_is) refl))

  pub add_enum_adds : (value : List ℕ) → takes_enum value v.enums ≡ true → adds t (add_enum name value) ≡ true
  unfolding accepts adds
  add_enum_adds value takes = rw variable_is takes

  pub add_range_adds : (range : Range) → takes_range range v.ranges ≡ true → adds t (add_range name (Some range)) ≡ true
  unfolding accepts adds
  add_range_adds range takes = rw variable_is takes

  pub del_info_found : (xs : List Entry) → xs ≡ remove t.variables i → record t { variables = xs } ≡ after t (del_info name)
  unfolding accepts changed
  del_info_found xs to =
      ap (λ vs. record t { variables = vs }) (to ∙ sym f.removed) ∙ sym (after_accepted t (del_info name) (ap is_some variable_is))

-- ---- no variable has this name

module _ (t : Table) (name : List ℕ) (gone : variable t name ≡ None) where
  pub del_info_absent : t ≡ after t (del_info name)
  unfolding accepts
  del_info_absent = sym (after_refused t (del_info name) (ap is_some gone))

  pub add_enum_absent : (value : List ℕ) → t ≡ after t (add_enum name value)
  unfolding accepts
  add_enum_absent value = sym (after_refused t (add_enum name value) (rw gone refl))

  pub del_enum_absent : (value : List ℕ) → t ≡ after t (del_enum name value)
  unfolding accepts
  del_enum_absent value = sym (after_refused t (del_enum name value) (rw gone refl))

  pub add_range_absent : (range : Range) → t ≡ after t (add_range name (Some range))
  unfolding accepts
  add_range_absent range = sym (after_refused t (add_range name (Some range)) (rw gone refl))

  pub del_range_absent : (range : Range) → t ≡ after t (del_range name (Some range))
  unfolding accepts
  del_range_absent range = sym (after_refused t (del_range name (Some range)) (rw gone refl))

  pub set_aux_absent : (aux : ℕ) → t ≡ after t (set_aux name (Some aux))
  unfolding accepts
  set_aux_absent aux = sym (after_refused t (set_aux name (Some aux)) (rw gone refl))

  pub set_flags_absent : (flags : Flags) → t ≡ after t (set_flags name flags)
  unfolding accepts
  set_flags_absent flags = sym (after_refused t (set_flags name flags) (ap is_some gone))

-- ---- a line that is not well formed

pub add_range_unread : (t : Table) (name : List ℕ) → t ≡ after t (add_range name None)
unfolding accepts
add_range_unread t name = sym (after_refused t (add_range name None) refl)

pub del_range_unread : (t : Table) (name : List ℕ) → t ≡ after t (del_range name None)
unfolding accepts
del_range_unread t name = sym (after_refused t (del_range name None) refl)

pub set_aux_unread : (t : Table) (name : List ℕ) → t ≡ after t (set_aux name None)
unfolding accepts
set_aux_unread t name = sym (after_refused t (set_aux name None) refl)

-- ---- a variable that is added, or not

pub set_aux_long : (t : Table) (name : List ℕ) (aux : ℕ) → nat_le aux VALUE_MAX ≡ false → t ≡ after t (set_aux name (Some aux))
unfolding accepts
set_aux_long t name aux long = sym (after_refused t (set_aux name (Some aux)) (and_right (is_some (variable t name)) _ long))

pub set_info_refused : (t : Table) (name value : List ℕ) → (is_name name && nat_le (length value) VALUE_MAX) ≡ false → t ≡ after t (set_info name value)
unfolding accepts
set_info_refused t name value bad = sym (after_refused t (set_info name value) (and_left _ _ bad))

pub set_info_full : (t : Table) (name value : List ℕ) → variable t name ≡ None → nat_lt (length t.variables) VARIABLES_MAX ≡ false → t ≡ after t (set_info name value)
unfolding accepts
set_info_full t name value gone full =
    sym (after_refused t (set_info name value) (and_right (is_name name && nat_le (length value) VALUE_MAX) _ (rw (gone, full) refl)))

module _ (t : Table) (name value : List ℕ) (i : ℕ) (f : IsFree name_of name t.variables i) (good : is_name name ≡ true)
    (fits : nat_le (length value) VALUE_MAX ≡ true) (room : nat_lt (length t.variables) VARIABLES_MAX ≡ true) where
  accepted : accepts t (set_info name value) ≡ true
  unfolding accepts
  accepted = rw (good, fits, f.is, room) refl

  pub set_info_adds : adds t (set_info name value) ≡ true
  unfolding adds
  set_info_adds = rw (accepted, f.is) refl

  pub set_info_added : (xs : List Entry) → xs ≡ insert t.variables i (fresh name value) → record t { variables = xs } ≡ after t (set_info name value)
  unfolding changed
  set_info_added xs to =
      ap (λ vs. record t { variables = vs }) (to ∙ sym (f.inserted (fresh name value)))
      ∙ ap (λ o. with_variable t name (Some (with_value value (unwrap_or o (fresh name value))))) (sym f.is)
      ∙ sym (after_accepted t (set_info name value) accepted)

  -- an insertion that may lack memory
  pub set_info_tried : {T E : Type 0} (r : Result T E) (xs : List Entry) → xs ≡ (if is_ok r then insert t.variables i (fresh name value) else t.variables)
      → OnOk r (record t { variables = xs } ≡ after t (set_info name value))
  set_info_tried (Ok x) xs to = set_info_added xs to
  set_info_tried (Err e) xs to = tt

  pub set_info_keeps : {T E : Type 0} (r : Result T E) (xs : List Entry) → xs ≡ (if is_ok r then insert t.variables i (fresh name value) else t.variables)
      → IsTable t → IsTable (record t { variables = xs })
  set_info_keeps (Ok x) xs to h = subst IsTable (sym (set_info_added xs to)) (IsTable-after t (set_info name value) h)
  set_info_keeps (Err e) xs to h = subst (λ vs. IsTable (record t { variables = vs })) (sym to) h

-- ---- commands

pub add_command_refused : (t : Table) (name : List ℕ) → (is_name name && nat_lt (length t.commands) COMMANDS_MAX) ≡ false → t ≡ after t (add_command name)
unfolding accepts
add_command_refused t name bad = sym (after_refused t (add_command name) (and_left _ _ bad))

pub add_command_listed : (t : Table) (name : List ℕ) (i : ℕ) → IsFound itself name t.commands i → t ≡ after t (add_command name)
unfolding accepts
add_command_listed t name i f =
    sym (after_refused t (add_command name) (and_right (is_name name && nat_lt (length t.commands) COMMANDS_MAX) _ (rw (f.is name) refl)))

module _ (t : Table) (name : List ℕ) (i : ℕ) (f : IsFree itself name t.commands i) (good : is_name name ≡ true)
    (room : nat_lt (length t.commands) COMMANDS_MAX ≡ true) where
  command_accepted : accepts t (add_command name) ≡ true
  unfolding accepts
  command_accepted = rw (good, room, f.is) refl

  pub add_command_adds : adds t (add_command name) ≡ true
  unfolding adds
  add_command_adds = command_accepted

  pub add_command_added : (xs : List (List ℕ)) → xs ≡ insert t.commands i name → record t { commands = xs } ≡ after t (add_command name)
  unfolding changed
  add_command_added xs to =
      ap (λ cs. record t { commands = cs }) (to ∙ sym (f.inserted name)) ∙ sym (after_accepted t (add_command name) command_accepted)

  -- an insertion that may lack memory
  pub add_command_tried : {T E : Type 0} (r : Result T E) (xs : List (List ℕ)) → xs ≡ (if is_ok r then insert t.commands i name else t.commands)
      → OnOk r (record t { commands = xs } ≡ after t (add_command name))
  add_command_tried (Ok x) xs to = add_command_added xs to
  add_command_tried (Err e) xs to = tt

  pub add_command_keeps : {T E : Type 0} (r : Result T E) (xs : List (List ℕ)) → xs ≡ (if is_ok r then insert t.commands i name else t.commands)
      → IsTable t → IsTable (record t { commands = xs })
  add_command_keeps (Ok x) xs to h = subst IsTable (sym (add_command_added xs to)) (IsTable-after t (add_command name) h)
  add_command_keeps (Err e) xs to h = subst (λ cs. IsTable (record t { commands = cs })) (sym to) h

pub del_command_found : (t : Table) (name : List ℕ) (i : ℕ) (xs : List (List ℕ)) → IsFound itself name t.commands i → xs ≡ remove t.commands i
    → record t { commands = xs } ≡ after t (del_command name)
unfolding accepts changed
del_command_found t name i xs f to =
    ap (λ cs. record t { commands = cs }) (to ∙ sym f.removed) ∙ sym (after_accepted t (del_command name) (rw (f.is name) refl))

pub del_command_absent : (t : Table) (name : List ℕ) (i : ℕ) → IsFree itself name t.commands i → t ≡ after t (del_command name)
unfolding accepts
del_command_absent t name i f = sym (after_refused t (del_command name) (rw f.is refl))
