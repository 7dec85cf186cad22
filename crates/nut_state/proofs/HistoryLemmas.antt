-- What one more change does to a look back, and the law on every list of lines.
use Rattle.std.proofs.Common.{◌≡◌, ℕ, suc, ◌-◌, List, [], ◌∷◌, ◌++◌, Bool, true, false, not, ◌&&◌, ◌||◌, ◌⊎◌, inl, inr, cond, Option, Some, None, Ok, length, refl, sym, ap, subst, ◌∙◌, arith, append_assoc}
use Rattle.std.specs.Prelude.{filter, is_some, nat_le, nat_lt, option_map, unwrap_or, reverse}
use Rattle.std.specs.List.{list_any}
use Rattle.std.specs.Option.{option_and_then, option_or, option_map_or, option_to_list}
use Rattle.std.specs.Result.{result_ok}
use Rattle.nut_words.specs.Reader.{spelled}
use Rattle.nut_words.specs.declared.limits.TheConstants.{VALUE_MAX}
use Rattle.std.proofs.lemmas.List.Elements.{All-nil, filter-append}
use Rattle.std.proofs.lemmas.List.{reverse-append}
use Rattle.std.proofs.lemmas.Bool.{and_parts, not-true}
use Rattle.std.proofs.lemmas.List.Folds.{list_any-append}
use Rattle.nut_state.specs.declared.limits.TheConstants.{VARIABLES_MAX, COMMANDS_MAX}
use Rattle.nut_state.specs.Attribute.{no_flags, takes_enum, lists_enum, takes_range, lists_range}
use Rattle.nut_state.specs.Change.{Change, set_info, del_info, add_enum, del_enum, add_range, del_range, set_aux, set_flags, add_command, del_command, asked, heard}
use Rattle.nut_state.specs.laws.Holds.{FollowsAlike, Holds, IsTable, IsWithinLimits, LooksBack}
use Rattle.nut_state.specs.LookBack.{deletes, value_set, flags_set, aux_set, enum_added, removes_enum, range_added, removes_range, command_set, dumps, data_set, latest, standing, era, is_there, is_command, variable_count, command_count, is_accepted, adds_to, accepted_after, accepted}
use Rattle.nut_state.specs.Sorted.{named}
use Rattle.nut_state.specs.Step.{accepts, adds, changed, after, applied, line_adds, table_of, fresh, with_value, with_variable, revised}
use Rattle.nut_state.specs.Table.{Table, Entry, empty, variable, has_command, value_of, flags_of, aux_of, enums_of, ranges_of}
use Rattle.nut_state.specs.Text.{is_name}
use Rattle.nut_state.proofs.EffectLemmas.{effects, gone, rest_effects}
use Rattle.nut_state.proofs.ListLemmas.{lists_agree}
use Rattle.nut_state.proofs.PutLemmas.{length-put_again, length-put_away, length-put_new, length-put_nothing}
use Rattle.nut_state.proofs.TableLemmas.{IsTable-after, after_accepted, after_refused, either}

or_false : (a : Bool) → (a || false) ≡ a
or_false true = refl
or_false false = refl

any-push : {X : Type 0} (p : X → Bool) (xs : List X) (c : X) → list_any p (xs ++ c ∷ []) ≡ (list_any p xs || p c)
any-push p xs c = list_any-append p xs (c ∷ []) ∙ ap (λ b. list_any p xs || b) (or_false (p c))

-- One more change at the end: what it removes is gone, and what it adds is there.
standing-push : {X : Type 0} (added : Change → Option X) (removes : X → Change → Bool) (xs : List Change) (c : Change)
    → standing added removes (xs ++ c ∷ []) ≡ filter (λ x. not (removes x c)) (standing added removes xs) ++ option_to_list (added c)
standing-push added removes [] c = by (added c)
  where
    by : (o : Option _) → filter (λ x. not (list_any (removes x) [])) (option_to_list o) ++ [] ≡ option_to_list o
    by None = refl
    by (Some x) = refl
standing-push {X = X} added removes (y ∷ ys) c =
    (λ j. head (added y) j ++ standing-push added removes ys c j)
    ∙ sym (append_assoc _ (filter (λ x. not (removes x c)) (standing added removes ys)) (option_to_list (added c)))
    ∙ ap (λ l. l ++ option_to_list (added c))
    (sym (filter-append (λ x. not (removes x c)) (filter (λ x. not (list_any (removes x) ys)) (option_to_list (added y))) (standing added removes ys)))
  where
    by : (x : X) (a b : Bool) → removes x c ≡ b → cond (not (a || b)) (x ∷ []) [] ≡ filter (λ z. not (removes z c)) (cond (not a) (x ∷ []) [])
    by x true b e = refl
    by x false true e = rw e refl
    by x false false e = rw e refl

    head : (o : Option X) → filter (λ x. not (list_any (removes x) (ys ++ c ∷ []))) (option_to_list o)
        ≡ filter (λ x. not (removes x c)) (filter (λ x. not (list_any (removes x) ys)) (option_to_list o))
    head None = refl
    head (Some x) = rw (any-push (removes x) ys c) (by x (list_any (removes x) ys) (removes x c) refl)

unwrap-or : {X : Type 0} (o p : Option X) (d : X) → unwrap_or (option_or o p) d ≡ unwrap_or o (unwrap_or p d)
unwrap-or None p d = refl
unwrap-or (Some x) p d = refl

-- one more change, for one name
module _ (t : Table) (changes : List Change) (change : Change) (ok : accepts t change ≡ true) (h : LooksBack t changes) (name : List ℕ) where
  value_more : (b : Bool) → deletes name change ≡ b → value_of (changed t change) name ≡ latest (value_set name) (era name (change ∷ changes))
  value_more true out = rw (gone t name change out, out) refl
  value_more false stays = rw stays ((effects t name change ok stays).value ∙ ap (option_or (value_set name change)) (h.value name))

  flags_more : (b : Bool) → deletes name change ≡ b → flags_of (changed t change) name ≡ unwrap_or (latest (flags_set name) (era name (change ∷ changes))) no_flags
  flags_more true out = rw (gone t name change out, out) refl
  flags_more false stays =
      rw stays ((effects t name change ok stays).flags ∙ ap (unwrap_or (flags_set name change)) (h.flags name) ∙ sym (unwrap-or (flags_set name change) (latest (flags_set name) (era name changes)) no_flags))

  aux_more : (b : Bool) → deletes name change ≡ b → aux_of (changed t change) name ≡ unwrap_or (latest (aux_set name) (era name (change ∷ changes))) 0
  aux_more true out = rw (gone t name change out, out) refl
  aux_more false stays =
      rw stays ((effects t name change ok stays).aux ∙ ap (unwrap_or (aux_set name change)) (h.aux name) ∙ sym (unwrap-or (aux_set name change) (latest (aux_set name) (era name changes)) 0))

  enums_more : (b : Bool) → deletes name change ≡ b
      → enums_of (changed t change) name ≡ standing (enum_added name) (removes_enum name) (reverse (era name (change ∷ changes)))
  enums_more true out = rw (gone t name change out, out) refl
  enums_more false stays =
      rw stays ((effects t name change ok stays).enums
      ∙ ap (λ xs. filter (λ x. not (removes_enum name x change)) xs ++ option_to_list (enum_added name change)) (h.enums name)
      ∙ sym (standing-push (enum_added name) (removes_enum name) (reverse (era name changes)) change)
      ∙ ap (standing (enum_added name) (removes_enum name)) (sym (reverse-append (change ∷ []) (era name changes))))

  ranges_more : (b : Bool) → deletes name change ≡ b
      → ranges_of (changed t change) name ≡ standing (range_added name) (removes_range name) (reverse (era name (change ∷ changes)))
  ranges_more true out = rw (gone t name change out, out) refl
  ranges_more false stays =
      rw stays ((effects t name change ok stays).ranges
      ∙ ap (λ xs. filter (λ x. not (removes_range name x change)) xs ++ option_to_list (range_added name change)) (h.ranges name)
      ∙ sym (standing-push (range_added name) (removes_range name) (reverse (era name changes)) change)
      ∙ ap (standing (range_added name) (removes_range name)) (sym (reverse-append (change ∷ []) (era name changes))))

  command_more : has_command (changed t change) name ≡ is_command name (change ∷ changes)
  command_more =
      (rest_effects t name change ok).command ∙ ap (unwrap_or (command_set name change)) (h.command name) ∙ sym (unwrap-or (command_set name change) (latest (command_set name) changes) false)

-- ---- how many there are

some_value : (o : Option Entry) → is_some (option_map (λ v. v.value) o) ≡ is_some o
some_value None = refl
some_value (Some v) = refl

-- an edit of a variable changes no count
length-revised : (t : Table) (name : List ℕ) (edit : Entry → Entry) → IsTable t → length (revised t name edit).variables ≡ length t.variables
length-revised t name edit table = by (either (variable t name))
  where
    by : (variable t name ≡ None) ⊎ ((v : Entry) × (variable t name ≡ Some v)) → length (revised t name edit).variables ≡ length t.variables
    by (inl e) = rw e (length-put_nothing (λ v. v.name) name t.variables e)
    by (inr (v, e)) = rw e (length-put_again (λ v. v.name) name (edit v) t.variables table.variables_ascend (ap is_some e))

none_there : {X : Type 0} (o : Option X) → is_some o ≡ false → o ≡ None
none_there None h = refl
none_there (Some x) h = cc

module _ (t : Table) (changes : List Change) (table : IsTable t) (h : LooksBack t changes) where
  there_is : (name : List ℕ) → is_some (variable t name) ≡ is_there name changes
  there_is name = sym (some_value (variable t name)) ∙ ap is_some (h.value name)

  set_info_count : (name value : List ℕ) → (variable t name ≡ None) ⊎ ((v : Entry) × (variable t name ≡ Some v))
      → length (with_variable t name (Some (with_value value (unwrap_or (variable t name) (fresh name value))))).variables
      ≡ variable_count (set_info name value ∷ changes)
  set_info_count name value (inl e) =
      let out : is_there name changes ≡ false = sym (there_is name) ∙ ap is_some e in
      rw (e, out) (length-put_new (λ v. v.name) name (with_value value (fresh name value)) t.variables e ∙ ap suc h.variables)
  set_info_count name value (inr (v, e)) =
      let in_there : is_there name changes ≡ true = sym (there_is name) ∙ ap is_some e in
      rw (e, in_there) (length-put_again (λ v. v.name) name (with_value value v) t.variables table.variables_ascend (ap is_some e) ∙ h.variables)

  variables_more : (change : Change) → accepts t change ≡ true → length (changed t change).variables ≡ variable_count (change ∷ changes)
  unfolding accepts changed
  variables_more (set_info name value) ok = set_info_count name value (either (variable t name))
  variables_more (del_info name) ok = length-put_away (λ v. v.name) name t.variables table.variables_ascend ok ∙ ap (λ n. n - 1) h.variables
  variables_more (add_enum name value) ok = length-revised t name _ table ∙ h.variables
  variables_more (del_enum name value) ok = length-revised t name _ table ∙ h.variables
  variables_more (add_range name range) ok = length-revised t name _ table ∙ h.variables
  variables_more (del_range name (Some range)) ok = length-revised t name _ table ∙ h.variables
  variables_more (set_aux name aux) ok = length-revised t name _ table ∙ h.variables
  variables_more (set_flags name flags) ok = length-revised t name _ table ∙ h.variables
  variables_more _ ok = h.variables

  commands_more : (change : Change) → accepts t change ≡ true → length (changed t change).commands ≡ command_count (change ∷ changes)
  unfolding accepts changed
  commands_more (add_command name) ok =
      let absent : has_command t name ≡ false = not-true _ (and_parts (is_name name && nat_lt (length t.commands) COMMANDS_MAX) (not (has_command t name)) ok).1 in
      length-put_new (λ c. c) name name t.commands (none_there _ absent) ∙ ap suc h.commands
  commands_more (del_command name) ok = length-put_away (λ c. c) name t.commands table.commands_ascend ok ∙ ap (λ n. n - 1) h.commands
  commands_more (del_range name None) ok = cc
  commands_more _ ok = h.commands

  pub more : (change : Change) → accepts t change ≡ true → LooksBack (changed t change) (change ∷ changes)
  more change ok = record {
    value = λ name. value_more t changes change ok h name (deletes name change) refl;
    flags = λ name. flags_more t changes change ok h name (deletes name change) refl;
    aux = λ name. aux_more t changes change ok h name (deletes name change) refl;
    enums = λ name. enums_more t changes change ok h name (deletes name change) refl;
    ranges = λ name. ranges_more t changes change ok h name (deletes name change) refl;
    command = command_more t changes change ok h;
    dumped = (rest_effects t [] change ok).dumped ∙ ap (λ b. dumps change || b) h.dumped;
    current = (rest_effects t [] change ok).current ∙ ap (unwrap_or (data_set change)) h.current ∙ sym (unwrap-or (data_set change) (latest data_set changes) false);
    variables = variables_more change ok;
    commands = commands_more change ok;
  }

  -- ---- the table accepts what is accepted after the changes

  passes_is : {X : Type 0} (field : Entry → List X) (test : List X → Bool) (o : Option Entry)
      → option_map_or (λ v. test (field v)) o false ≡ (is_some o && test (option_map_or field o []))
  passes_is field test None = refl
  passes_is field test (Some v) = refl

  pub accepts_same : (change : Change) → accepts t change ≡ is_accepted changes change
  unfolding accepts is_accepted
  accepts_same (set_info name value) =
      λ j. is_name name && nat_le (length value) VALUE_MAX && (there_is name j || nat_lt (h.variables j) VARIABLES_MAX)
  accepts_same (del_info name) = there_is name
  accepts_same (add_enum name value) =
      passes_is (λ v. v.enums) (takes_enum value) (variable t name) ∙ (λ j. there_is name j && takes_enum value (h.enums name j))
  accepts_same (del_enum name value) =
      passes_is (λ v. v.enums) (lists_enum value) (variable t name) ∙ (λ j. there_is name j && lists_enum value (h.enums name j))
  accepts_same (add_range name (Some range)) =
      passes_is (λ v. v.ranges) (takes_range range) (variable t name) ∙ (λ j. there_is name j && takes_range range (h.ranges name j))
  accepts_same (del_range name (Some range)) =
      passes_is (λ v. v.ranges) (lists_range range) (variable t name) ∙ (λ j. there_is name j && lists_range range (h.ranges name j))
  accepts_same (set_aux name (Some aux)) = λ j. there_is name j && nat_le aux VALUE_MAX
  accepts_same (set_flags name flags) = there_is name
  accepts_same (add_command name) = λ j. is_name name && nat_lt (h.commands j) COMMANDS_MAX && not (h.command name j)
  accepts_same (del_command name) = h.command name
  accepts_same _ = refl

  adds_same : (change : Change) → adds t change ≡ adds_to changes change
  unfolding adds adds_to
  adds_same (set_info name value) = λ j. accepts_same (set_info name value) j && not (there_is name j)
  adds_same (add_enum name value) = accepts_same (add_enum name value)
  adds_same (add_range name range) = accepts_same (add_range name range)
  adds_same (add_command name) = accepts_same (add_command name)
  adds_same _ = refl

  follows_alike : FollowsAlike t changes
  follows_alike = record { accepted_alike = accepts_same; added_alike = adds_same }

-- An empty table holds what no lines say.
nothing : LooksBack empty []
unfolding named
nothing = record {
  value = λ _. refl;
  flags = λ _. refl;
  aux = λ _. refl;
  enums = λ _. refl;
  ranges = λ _. refl;
  command = λ _. refl;
  dumped = refl;
  current = refl;
  variables = refl;
  commands = refl;
}

nothing_is_table : IsTable empty
nothing_is_table = record {
  variables_ascend = tt;
  variables_within = omega arith;
  each_within = All-nil IsWithinLimits;
  commands_ascend = tt;
  commands_within = omega arith;
  each_command = All-nil (λ c. is_name c ≡ true);
}

pub empty_holds : Holds empty []
empty_holds = record {
  in_order = nothing_is_table;
  agrees = lists_agree empty nothing_is_table;
  looks_back = nothing;
  goes_on = follows_alike empty [] nothing_is_table nothing;
}

-- A table without variables and commands, and with neither mark, is the empty one.
module _ (variables : List Entry) (commands : List (List ℕ)) (no_variable : variables ≡ []) (no_command : commands ≡ []) where
  pub emptied : record { variables = variables; commands = commands; dump_done = false; data_ok = false } ≡ empty
  emptied = rw (no_variable, no_command) refl

  pub emptied_is_table : IsTable (record { variables = variables; commands = commands; dump_done = false; data_ok = false })
  emptied_is_table = subst IsTable (sym emptied) nothing_is_table

  pub emptied_holds : Holds (record { variables = variables; commands = commands; dump_done = false; data_ok = false }) []
  emptied_holds = subst (λ t. Holds t []) (sym emptied) empty_holds

-- one more line
module _ (t : Table) (line : List ℕ) (lines : List (List ℕ)) (h : Holds t lines) where
  judged : (change : Change) (b : Bool) → accepts t change ≡ b
      → IsTable (after t change) × LooksBack (after t change) (accepted_after (accepted lines) (Some change) ++ accepted lines)
  judged change true ok =
      let same : is_accepted (accepted lines) change ≡ true = sym (accepts_same t (accepted lines) h.in_order h.looks_back change) ∙ ok in
      (IsTable-after t change h.in_order, rw (after_accepted t change ok, same) (more t (accepted lines) h.in_order h.looks_back change ok))
  judged change false denied =
      let same : is_accepted (accepted lines) change ≡ false = sym (accepts_same t (accepted lines) h.in_order h.looks_back change) ∙ denied in
      (IsTable-after t change h.in_order, rw (after_refused t change denied, same) h.looks_back)

  moved : (o : Option Change) → heard line ≡ o → IsTable (applied t line) × LooksBack (applied t line) (accepted (line ∷ lines))
  unfolding applied
  moved None e = rw e (h.in_order, h.looks_back)
  moved (Some change) e = rw e (judged change (accepts t change) refl)

  pub applied_holds : Holds (applied t line) (line ∷ lines)
  applied_holds =
      let both = moved (heard line) refl in
      record {
        in_order = both.0;
        agrees = lists_agree (applied t line) both.0;
        looks_back = both.1;
        goes_on = follows_alike (applied t line) (accepted (line ∷ lines)) both.0 both.1;
      }

pub every_table : (lines : List (List ℕ)) → Holds (table_of lines) lines
every_table [] = empty_holds
every_table (line ∷ earlier) = applied_holds (table_of earlier) line earlier (every_table earlier)

-- A line asks for what its words ask for.
pub heard_words : (line : List ℕ) (words : List (List ℕ)) → spelled line ≡ Ok words → heard line ≡ asked words
unfolding heard
heard_words line words reads = ap (λ r. option_and_then asked (result_ok r)) reads

-- The table after a line is the table after its words.
pub applied_words : (t : Table) (line : List ℕ) (words : List (List ℕ)) → spelled line ≡ Ok words
    → option_map_or (after t) (asked words) t ≡ applied t line
unfolding applied
applied_words t line words reads = ap (λ o. option_map_or (after t) o t) (sym (heard_words line words reads))

-- A line may add to the table if its words may.
pub line_adds_words : (t : Table) (line : List ℕ) (words : List (List ℕ)) → spelled line ≡ Ok words
    → option_map_or (adds t) (asked words) false ≡ line_adds t line
unfolding line_adds
line_adds_words t line words reads = ap (λ o. option_map_or (adds t) o false) (sym (heard_words line words reads))

-- The table after a line that asks for this change.
pub applied_change : (t : Table) (line : List ℕ) (change : Change) → heard line ≡ Some change → after t change ≡ applied t line
unfolding applied
applied_change t line change is = ap (λ o. option_map_or (after t) o t) (sym is)
