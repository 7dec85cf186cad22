-- What an accepted change does to what a table says of each name.
use Rattle.std.proofs.Common.{◌≡◌, ◌≢◌, ℕ, List, [], ◌∷◌, ◌++◌, Bool, true, false, not, ◌||◌, ◌⊎◌, inl, inr, cond, Option, Some, None, refl, sym, ap, ◌∙◌, append-nil}
use Rattle.std.specs.Prelude.{filter, is_some, nat_le, unwrap_or}
use Rattle.std.specs.Option.{option_or, option_to_list}
use Rattle.std.specs.Str.{bytes_eq}
use Rattle.std.proofs.lemmas.Slice.Eq.{bytes_eq-Decides}
use Rattle.std.proofs.lemmas.Bool.{and_parts, cases_Bool}
use Rattle.nut_words.specs.declared.limits.TheConstants.{VALUE_MAX}
use Rattle.nut_state.specs.declared.number.Range.{Range}
use Rattle.nut_state.specs.Sorted.{named}
use Rattle.nut_state.specs.Table.{Table, Entry, variable, has_command, value_of, flags_of, aux_of, enums_of, ranges_of}
use Rattle.nut_state.specs.Step.{fresh, with_value, without_enum, without_range, passes, with_variable, with_command, revised, accepts, changed}
use Rattle.nut_state.specs.Attribute.{same_range}
use Rattle.nut_state.specs.Change.{Change, set_info, del_info, add_enum, del_enum, add_range, del_range, set_aux, set_flags, add_command, del_command}
use Rattle.nut_state.specs.LookBack.{deletes, value_set, flags_set, aux_set, enum_added, removes_enum, range_added, removes_range, command_set, dumps, data_set}
use Rattle.nut_state.proofs.PutLemmas.{HasName, named-put_same, named-put_other, name-named}
use Rattle.nut_state.proofs.TableLemmas.{either}

-- What a change says of a name, against the variable before and after it.
pub record FieldEffects (name : List ℕ) (change : Change) (v w : Entry) : Type 0 where
  pub value : Some w.value ≡ option_or (value_set name change) (Some v.value)
  pub flags : w.flags ≡ unwrap_or (flags_set name change) v.flags
  pub aux : w.aux ≡ unwrap_or (aux_set name change) v.aux
  pub enums : w.enums ≡ filter (λ x. not (removes_enum name x change)) v.enums ++ option_to_list (enum_added name change)
  pub ranges : w.ranges ≡ filter (λ x. not (removes_range name x change)) v.ranges ++ option_to_list (range_added name change)

-- What a change says of a name, against the table's look-ups before and after it.
pub record Effects (name : List ℕ) (change : Change) (t u : Table) : Type 0 where
  pub value : value_of u name ≡ option_or (value_set name change) (value_of t name)
  pub flags : flags_of u name ≡ unwrap_or (flags_set name change) (flags_of t name)
  pub aux : aux_of u name ≡ unwrap_or (aux_set name change) (aux_of t name)
  pub enums : enums_of u name ≡ filter (λ x. not (removes_enum name x change)) (enums_of t name) ++ option_to_list (enum_added name change)
  pub ranges : ranges_of u name ≡ filter (λ x. not (removes_range name x change)) (ranges_of t name) ++ option_to_list (range_added name change)

-- A change that says nothing of a name.
pub record SaysNothing (name : List ℕ) (change : Change) : Type 0 where
  pub value : value_set name change ≡ None
  pub flags : flags_set name change ≡ None
  pub aux : aux_set name change ≡ None
  pub enum_in : enum_added name change ≡ None
  pub enum_out : (x : List ℕ) → removes_enum name x change ≡ false
  pub range_in : range_added name change ≡ None
  pub range_out : (x : Range) → removes_range name x change ≡ false

module _ {X : Type 0} where
  pub stay : (removes : X → Bool) (xs : List X) → ((x : X) → removes x ≡ false) → xs ≡ filter (λ x. not (removes x)) xs
  stay removes [] h = refl
  stay removes (x ∷ xs) h = rw (h x) (ap (λ ys. x ∷ ys) (stay removes xs h))

  pub all_stay : (removes : X → Bool) (xs : List X) → ((x : X) → removes x ≡ false) → xs ≡ filter (λ x. not (removes x)) xs ++ []
  all_stay removes xs h = stay removes xs h ∙ sym (append-nil (filter (λ x. not (removes x)) xs))

names : (n name : List ℕ) → ((bytes_eq n name ≡ true) × (n ≡ name)) ⊎ ((bytes_eq n name ≡ false) × (n ≢ name))
names n name = elim (cases_Bool (bytes_eq n name)) [
  | inl e ↦ inl (e, (bytes_eq-Decides n name).0 e)
  | inr e ↦ inr (e, λ same. cc (sym e ∙ (bytes_eq-Decides n name).1 same))
]

idle : (t u : Table) (name : List ℕ) (change : Change) → variable u name ≡ variable t name → SaysNothing name change → Effects name change t u
idle t u name change same nothing = record {
  value = rw (nothing.value, same) refl;
  flags = rw (nothing.flags, same) refl;
  aux = rw (nothing.aux, same) refl;
  enums = rw (nothing.enum_in, same) (all_stay (λ x. removes_enum name x change) (enums_of t name) nothing.enum_out);
  ranges = rw (nothing.range_in, same) (all_stay (λ x. removes_range name x change) (ranges_of t name) nothing.range_out);
}

touched : (t u : Table) (name : List ℕ) (change : Change) (v w : Entry) → variable t name ≡ Some v → variable u name ≡ Some w → FieldEffects name change v w
    → Effects name change t u
touched t u name change v w before now fields = record {
  value = rw (before, now) fields.value;
  flags = rw (before, now) fields.flags;
  aux = rw (before, now) fields.aux;
  enums = rw (before, now) fields.enums;
  ranges = rw (before, now) fields.ranges;
}

there : (t : Table) (n : List ℕ) → is_some (variable t n) ≡ true → (v : Entry) × (variable t n ≡ Some v)
there t n some = by (either (variable t n))
  where
    by : (variable t n ≡ None) ⊎ ((v : Entry) × (variable t n ≡ Some v)) → (v : Entry) × (variable t n ≡ Some v)
    by (inl e) = cc (sym some ∙ ap is_some e)
    by (inr found) = found

-- an edit of the variable n
by_edit : (t : Table) (n name : List ℕ) (change : Change) (edit : Entry → Entry) → ((v : Entry) → (edit v).name ≡ v.name) → is_some (variable t n) ≡ true
    → (bytes_eq n name ≡ true → (v : Entry) → FieldEffects name change v (edit v)) → (bytes_eq n name ≡ false → SaysNothing name change)
    → Effects name change t (revised t n edit)
by_edit t n name change edit keeps some same other = by (there t n some) (names n name)
  where
    by : (v : Entry) × (variable t n ≡ Some v) → ((bytes_eq n name ≡ true) × (n ≡ name)) ⊎ ((bytes_eq n name ≡ false) × (n ≢ name))
        → Effects name change t (revised t n edit)
    by (v, e) (inl (b, is)) =
        let now : variable (revised t n edit) n ≡ Some (edit v) =
        rw e (named-put_same (λ x. x.name) n (Some (edit v)) t.variables (keeps v ∙ name-named (λ x. x.name) n t.variables v e)) in
        touched t (revised t n edit) name change v (edit v) (ap (variable t) (sym is) ∙ e) (ap (variable (revised t n edit)) (sym is) ∙ now) (same b v)
    by (v, e) (inr (b, apart)) =
        let now : variable (revised t n edit) name ≡ variable t name =
        rw e (named-put_other (λ x. x.name) n name (Some (edit v)) t.variables (keeps v ∙ name-named (λ x. x.name) n t.variables v e) apart) in
        idle t (revised t n edit) name change now (other b)

some_if_passes : (t : Table) (n : List ℕ) (test : Entry → Bool) → passes t n test ≡ true → is_some (variable t n) ≡ true
some_if_passes t n test h = by (either (variable t n))
  where
    by : (variable t n ≡ None) ⊎ ((v : Entry) × (variable t n ≡ Some v)) → is_some (variable t n) ≡ true
    by (inl e) = let bad : false ≡ true = rw e at h in cc
    by (inr (v, e)) = ap is_some e

nothing_said : (name : List ℕ) (change : Change) → value_set name change ≡ None → flags_set name change ≡ None → aux_set name change ≡ None
    → enum_added name change ≡ None → ((x : List ℕ) → removes_enum name x change ≡ false) → range_added name change ≡ None
    → ((x : Range) → removes_range name x change ≡ false) → SaysNothing name change
nothing_said name change a b c d e f g = record { value = a; flags = b; aux = c; enum_in = d; enum_out = e; range_in = f; range_out = g }

-- A value that is set, for a variable that exists or a new one.
set_effects : (t : Table) (n name value : List ℕ) → (variable t n ≡ None) ⊎ ((v : Entry) × (variable t n ≡ Some v))
    → ((bytes_eq n name ≡ true) × (n ≡ name)) ⊎ ((bytes_eq n name ≡ false) × (n ≢ name))
    → Effects name (set_info n value) t (with_variable t n (Some (with_value value (unwrap_or (variable t n) (fresh n value)))))
set_effects t n name value (inl e) (inr (b, apart)) =
    rw e (idle t (with_variable t n (Some (with_value value (fresh n value)))) name (set_info n value)
    (named-put_other (λ x. x.name) n name (Some (with_value value (fresh n value))) t.variables refl apart)
    (nothing_said name (set_info n value) (rw b refl) refl refl refl (λ _. refl) refl (λ _. refl)))
set_effects t n name value (inr (v, e)) (inr (b, apart)) =
    rw e (idle t (with_variable t n (Some (with_value value v))) name (set_info n value)
    (named-put_other (λ x. x.name) n name (Some (with_value value v)) t.variables (name-named (λ x. x.name) n t.variables v e) apart)
    (nothing_said name (set_info n value) (rw b refl) refl refl refl (λ _. refl) refl (λ _. refl)))
set_effects t n name value (inl e) (inl (b, is)) =
    let now : variable (with_variable t n (Some (with_value value (fresh n value)))) name ≡ Some (with_value value (fresh n value)) =
    ap (variable (with_variable t n (Some (with_value value (fresh n value))))) (sym is)
    ∙ named-put_same (λ x. x.name) n (Some (with_value value (fresh n value))) t.variables refl in
    let before : variable t name ≡ None = ap (variable t) (sym is) ∙ e in
    rw e (record {
      value = rw (now, b) refl;
      flags = rw (now, before) refl;
      aux = rw (now, before) refl;
      enums = rw (now, before) refl;
      ranges = rw (now, before) refl;
    })
set_effects t n name value (inr (v, e)) (inl (b, is)) =
    let now : variable (with_variable t n (Some (with_value value v))) name ≡ Some (with_value value v) =
    ap (variable (with_variable t n (Some (with_value value v)))) (sym is)
    ∙ named-put_same (λ x. x.name) n (Some (with_value value v)) t.variables (name-named (λ x. x.name) n t.variables v e) in
    rw e (touched t (with_variable t n (Some (with_value value v))) name (set_info n value) v (with_value value v) (ap (variable t) (sym is) ∙ e) now (record {
      value = rw b refl;
      flags = refl;
      aux = refl;
      enums = all_stay (λ _. false) v.enums (λ _. refl);
      ranges = all_stay (λ _. false) v.ranges (λ _. refl);
    }))

pub effects : (t : Table) (name : List ℕ) (change : Change) → accepts t change ≡ true → deletes name change ≡ false → Effects name change t (changed t change)
unfolding accepts changed
effects t name (set_info n value) ok stays = set_effects t n name value (either (variable t n)) (names n name)
effects t name (del_info n) ok stays = by (names n name)
  where
    by : ((bytes_eq n name ≡ true) × (n ≡ name)) ⊎ ((bytes_eq n name ≡ false) × (n ≢ name)) → Effects name (del_info n) t (with_variable t n None)
    by (inl (b, is)) = cc (sym stays ∙ b)
    by (inr (b, apart)) =
        idle t (with_variable t n None) name (del_info n) (named-put_other (λ x. x.name) n name None t.variables tt apart)
        (nothing_said name (del_info n) refl refl refl refl (λ _. refl) refl (λ _. refl))
effects t name (add_enum n value) ok stays =
    by_edit t n name (add_enum n value) (λ v. record v { enums = v.enums ++ value ∷ [] }) (λ v. refl) (some_if_passes t n _ ok)
    (λ b v. record { value = refl; flags = refl; aux = refl; enums = rw b (ap (λ xs. xs ++ value ∷ []) (stay (λ _. false) v.enums (λ _. refl))); ranges = all_stay (λ _. false) v.ranges (λ _. refl) })
    (λ b. nothing_said name (add_enum n value) refl refl refl (rw b refl) (λ _. refl) refl (λ _. refl))
effects t name (del_enum n value) ok stays =
    by_edit t n name (del_enum n value) (without_enum value) (λ v. refl) (some_if_passes t n _ ok)
    (λ b v. record { value = refl; flags = refl; aux = refl; enums = rw b (sym (append-nil (filter (λ listed. not (bytes_eq listed value)) v.enums))); ranges = all_stay (λ _. false) v.ranges (λ _. refl) })
    (λ b. nothing_said name (del_enum n value) refl refl refl refl (λ _. rw b refl) refl (λ _. refl))
effects t name (add_range n (Some range)) ok stays =
    by_edit t n name (add_range n (Some range)) (λ v. record v { ranges = v.ranges ++ range ∷ [] }) (λ v. refl) (some_if_passes t n _ ok)
    (λ b v. record { value = refl; flags = refl; aux = refl; enums = all_stay (λ _. false) v.enums (λ _. refl); ranges = rw b (ap (λ xs. xs ++ range ∷ []) (stay (λ _. false) v.ranges (λ _. refl))) })
    (λ b. nothing_said name (add_range n (Some range)) refl refl refl refl (λ _. refl) (rw b refl) (λ _. refl))
effects t name (del_range n (Some range)) ok stays =
    by_edit t n name (del_range n (Some range)) (without_range range) (λ v. refl) (some_if_passes t n _ ok)
    (λ b v. record { value = refl; flags = refl; aux = refl; enums = all_stay (λ _. false) v.enums (λ _. refl); ranges = rw b (sym (append-nil (filter (λ listed. not (same_range listed range)) v.ranges))) })
    (λ b. nothing_said name (del_range n (Some range)) refl refl refl refl (λ _. refl) refl (λ _. rw b refl))
effects t name (set_aux n (Some aux)) ok stays =
    by_edit t n name (set_aux n (Some aux)) (λ v. record v { aux = aux }) (λ v. refl) (and_parts (is_some (variable t n)) (nat_le aux VALUE_MAX) ok).0
    (λ b v. record { value = refl; flags = refl; aux = rw b refl; enums = all_stay (λ _. false) v.enums (λ _. refl); ranges = all_stay (λ _. false) v.ranges (λ _. refl) })
    (λ b. nothing_said name (set_aux n (Some aux)) refl refl (rw b refl) refl (λ _. refl) refl (λ _. refl))
effects t name (set_flags n flags) ok stays =
    by_edit t n name (set_flags n flags) (λ v. record v { flags = flags }) (λ v. refl) ok
    (λ b v. record { value = refl; flags = rw b refl; aux = refl; enums = all_stay (λ _. false) v.enums (λ _. refl); ranges = all_stay (λ _. false) v.ranges (λ _. refl) })
    (λ b. nothing_said name (set_flags n flags) refl (rw b refl) refl refl (λ _. refl) refl (λ _. refl))
effects t name (add_range n None) ok stays = cc
effects t name (del_range n None) ok stays = cc
effects t name (set_aux n None) ok stays = cc
effects t name k ok stays = idle t _ name k refl (nothing_said name k refl refl refl refl (λ _. refl) refl (λ _. refl))

-- a variable that is deleted is gone
pub gone : (t : Table) (name : List ℕ) (change : Change) → deletes name change ≡ true → variable (changed t change) name ≡ None
unfolding changed
gone t name (del_info n) out =
    let is : n ≡ name = (bytes_eq-Decides n name).0 out in
    ap (variable (with_variable t n None)) (sym is) ∙ named-put_same (λ x. x.name) n None t.variables tt
gone t name other out = cc

-- what an accepted change does to the commands and the marks
pub record RestEffects (name : List ℕ) (change : Change) (t u : Table) : Type 0 where
  pub command : has_command u name ≡ unwrap_or (command_set name change) (has_command t name)
  pub dumped : u.dump_done ≡ (dumps change || t.dump_done)
  pub current : u.data_ok ≡ unwrap_or (data_set change) t.data_ok

same_rest : (t u : Table) (name : List ℕ) (change : Change) → u.commands ≡ t.commands → command_set name change ≡ None
    → u.dump_done ≡ (dumps change || t.dump_done) → u.data_ok ≡ unwrap_or (data_set change) t.data_ok → RestEffects name change t u
same_rest t u name change same none dumped current = record {
  command = rw none (ap (λ cs. is_some (named (λ c. c) name cs)) same);
  dumped = dumped;
  current = current;
}

put_command : (t : Table) (n name : List ℕ) (new : Option (List ℕ)) → HasName (λ c. c) n new
    → ((bytes_eq n name ≡ true) × (n ≡ name)) ⊎ ((bytes_eq n name ≡ false) × (n ≢ name))
    → has_command (with_command t n new) name ≡ unwrap_or (cond (bytes_eq n name) (Some (is_some new)) None) (has_command t name)
put_command t n name new h (inl (b, is)) =
    rw b (ap (λ m. has_command (with_command t n new) m) (sym is) ∙ ap is_some (named-put_same (λ c. c) n new t.commands h))
put_command t n name new h (inr (b, apart)) = rw b (ap is_some (named-put_other (λ c. c) n name new t.commands h apart))

pub rest_effects : (t : Table) (name : List ℕ) (change : Change) → accepts t change ≡ true → RestEffects name change t (changed t change)
unfolding accepts changed
rest_effects t name (del_range n None) ok = cc
rest_effects t name (add_command n) ok = record { command = put_command t n name (Some n) refl (names n name); dumped = refl; current = refl }
rest_effects t name (del_command n) ok = record { command = put_command t n name None tt (names n name); dumped = refl; current = refl }
rest_effects t name k ok = same_rest t _ name k refl refl refl refl
