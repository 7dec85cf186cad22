-- A script that was read, and a driver that tells it, stay within the limits of a table.
use Rattle.std.proofs.Common.{◌≡◌, ℕ, zero, suc, ◌+◌, ◌-◌, ◌==◌, ◌<◌, ◌≤◌, ◌&&◌, ◌||◌, Bool, true, false, not, cond, List, [], ◌∷◌, ◌++◌, Option, Some, None, Result, Ok, Err, drop, length, map, max, take, nat_lt, nat_le, refl, sym, ap, subst, arith}
use Rattle.std.specs.Prelude.{is_some, if◌then◌else◌}
use Rattle.std.specs.List.{All, AllByRecursion, list_all, position}
use Rattle.std.specs.Option.{option_map_or, option_or}
use Rattle.std.specs.Str.{bytes_eq}
use Rattle.std.proofs.lemmas.Bool.Decides.{nat_tests}
use Rattle.std.proofs.lemmas.List.{length-map}
use Rattle.std.proofs.lemmas.List.Elements.{All-nil, All-cons, recursion_from_All}
use Rattle.std.proofs.lemmas.Bool.{and_parts, cond_both}
use Rattle.nut_words.specs.declared.words.WordFault.{WordFault}
use Rattle.nut_words.specs.Lines.{LineText, lines_after, rest}
use Rattle.nut_words.specs.Name.{is_name_byte}
use Rattle.nut_words.specs.Reader.{spelled}
use Rattle.nut_words.specs.Spelling.{is_comment, is_printing}
use Rattle.nut_words.specs.declared.limits.TheConstants.{NAME_MAX, VALUE_MAX}
use Rattle.nut_proto.specs.declared.driver_ask.DriverAsk.{DriverAsk}
use Rattle.nut_proto.specs.declared.driver_ask.DriverAsk.TheVariants as asks
use Rattle.nut_words.specs.Number.{natural}
use Rattle.nut_state.specs.Sorted.{put, IsAscending}
use Rattle.nut_state.specs.Text.{is_name}
use Rattle.nut_state.proofs.PutLemmas.{All-put, All-named, ascending-put, length-put, length-put_found}
use Rattle.nut_state.specs.declared.limits.TheConstants.{VARIABLES_MAX}
use Rattle.nut_dummy.specs.declared.command.KnownCommand.{KnownCommand}
use Rattle.nut_dummy.specs.declared.command.KnownCommand.TheVariants.{BeeperDisable}
use Rattle.nut_dummy.specs.declared.fault.ScriptFaultKind.{ScriptFaultKind}
use Rattle.nut_dummy.specs.declared.fault.ScriptFaultKind.TheVariants as kinds
use Rattle.nut_dummy.specs.declared.item.ScriptKind.{ScriptKind}
use Rattle.nut_dummy.specs.declared.item.ScriptKind.TheVariants.{Dev, Seq}
use Rattle.nut_dummy.specs.declared.writable.Writable.{Writable}
use Rattle.nut_dummy.specs.declared.limits.TheConstants.{SCRIPT_LINE_MAX, SCRIPT_VARIABLES_MAX}
use Rattle.nut_dummy.specs.Command.{command_of, command_variables, variable_set, value_set}
use Rattle.nut_dummy.specs.Dummy.{all_declared, declared, timelines}
use Rattle.nut_dummy.specs.Due.{is_due, latest, newest, newest_up_to}
use Rattle.nut_dummy.specs.History.{Deed, Fresh, Changes, Fails, Dumps, Call, Linked, Moment, Bytes, Lost, Took, by_ask, by_lines, clock, deeds, input, seen, value}
use Rattle.nut_dummy.specs.Item.{Item, Timer, Setting, is_skipped, is_value, item, parted, setting, timed, timer, timer_in, trimmed}
use Rattle.nut_dummy.specs.Script.{Script, Step, Timeline, at_line, extended, has_room, no_script, read_lines, read_script, steps_of, taken_in, timeline, whole, with_line, with_step}
use Rattle.nut_dummy.specs.Teller.{Change, Passing, Assigning, Doing, Variable, asked_by, is_assigned, value_after}
use Rattle.nut_dummy.specs.Writable.{attributes, fits, may_be, writable_of}

-- ---- tests

-- a test that refuses, before a result and behind it
module _ {X E : Type 0} where
  behind : (b : Bool) (e : E) (r : Result X E) (x : X) → cond b (Err e) r ≡ Ok x → (b ≡ false) × (r ≡ Ok x)
  behind true e r x h = cc
  behind false e r x h = (refl, h)

  before : (b : Bool) (e : E) (r : Result X E) (x : X) → cond b r (Err e) ≡ Ok x → (b ≡ true) × (r ≡ Ok x)
  before true e r x h = (refl, h)
  before false e r x h = cc

-- ---- one line of a script

is_name_from : (n : ℕ) (named_so : Bool) → not (nat_lt 0 n && named_so) ≡ false → nat_lt NAME_MAX n ≡ false → (nat_le 1 n && nat_le n NAME_MAX && named_so) ≡ true
is_name_from n true some few = grind (arith, nat_tests)
is_name_from n false some few = grind (arith, nat_tests)

is_value_from : (n : ℕ) (printing : Bool) → not printing ≡ false → nat_lt VALUE_MAX n ≡ false → (nat_le n VALUE_MAX && printing) ≡ true
is_value_from n true some few = grind (arith, nat_tests)
is_value_from n false some few = cc

abbrev IsSetting : List ℕ → List ℕ → Type 0
IsSetting name value = (is_name name ≡ true) × (is_value value ≡ true)

setting_good : (a b name value : List ℕ) → setting a b ≡ Ok (Setting name value) → IsSetting name value
setting_good a b name value h =
    let some = behind _ _ _ _ h in
    let few = behind _ _ _ _ some.1 in
    let printing = behind _ _ _ _ few.1 in
    let short = behind _ _ _ _ printing.1 in
    let own : a ≡ name = cc (short.1) in
    let given : b ≡ value = cc (short.1) in (
      subst (λ n. is_name n ≡ true) own (is_name_from (length a) (list_all is_name_byte a) some.0 few.0),
      subst (λ v. is_value v ≡ true) given (is_value_from (length b) (list_all is_printing b) printing.0 short.0),
    )

no_setting_in : (kind : ScriptKind) (seconds : ℕ) (name value : List ℕ) → timer_in kind seconds ≡ Ok (Setting name value) → ⊥
no_setting_in Dev seconds name value h = cc
no_setting_in Seq seconds name value h = cc

no_timer_setting : (kind : ScriptKind) (seconds : Option ℕ) (name value : List ℕ) → timer kind seconds ≡ Ok (Setting name value) → ⊥
no_timer_setting kind None name value h = cc
no_timer_setting kind (Some seconds) name value h = no_setting_in kind seconds name value (before _ _ _ _ h).1

no_timed_setting : (kind : ScriptKind) (words : Result (List (List ℕ)) WordFault) (name value : List ℕ) → timed kind words ≡ Ok (Setting name value) → ⊥
no_timed_setting kind (Ok (first ∷ second ∷ [])) name value h = no_timer_setting kind (natural second) name value (before _ _ _ _ h).1
no_timed_setting kind _ name value h = cc

parted_good : (kind : ScriptKind) (line : List ℕ) (at : Option ℕ) (name value : List ℕ) → parted kind line at ≡ Ok (Setting name value) → IsSetting name value
parted_good kind line None name value h = absurd (no_timed_setting kind (spelled line) name value h)
parted_good kind line (Some at) name value h = setting_good (trimmed (take at line)) (trimmed (drop (at + 1) line)) name value h

item_good : (kind : ScriptKind) (line name value : List ℕ) → item kind line ≡ Ok (Setting name value) → IsSetting name value
item_good kind line name value h =
    let at = position (λ c. c == 58) line in
    let short = behind (nat_lt SCRIPT_LINE_MAX (length line)) kinds.PastLimit (if not (list_all is_comment line) then Err kinds.BadLine else parted kind line at) (Setting name value) h in
    parted_good kind line at name value (behind (not (list_all is_comment line)) kinds.BadLine (parted kind line at) (Setting name value) short.1).1

-- ---- a script

abbrev AreValues : List Step → Type 0
AreValues steps = AllByRecursion (λ (s : Step). is_value s.value ≡ true) steps

abbrev IsGood : Timeline → Type 0
IsGood t = (is_name t.name ≡ true) × AreValues t.steps

record AreGood (variables : List Timeline) : Type 0 where
  ascending : IsAscending (map (λ t. t.name) variables)
  each : All IsGood variables

values_more : (steps : List Step) (step : Step) → AreValues steps → is_value step.value ≡ true → AreValues (steps ++ step ∷ [])
values_more [] step h is = (is, tt)
values_more (s ∷ steps) step h is = (h.0, values_more steps step h.1 is)

steps_good : (found : Option Timeline) → ((t : Timeline) → found ≡ Some t → IsGood t) → AreValues (steps_of found)
steps_good None h = tt
steps_good (Some t) h = (h t refl).1

abbrev name_of : Timeline → List ℕ
name_of t = t.name

-- a variable more, or another in place of one with the same name
put_good : (t : Timeline) (variables : List Timeline) → IsGood t → AreGood variables → AreGood (put name_of t.name (Some t) variables)
put_good t variables good h = record {
  ascending = ascending-put name_of t.name (Some t) variables refl h.ascending;
  each = All-put name_of IsGood t.name (Some t) variables (All-cons IsGood t [] good (All-nil IsGood)) h.each;
}

with_step_good : (name : List ℕ) (step : Step) (variables : List Timeline) → is_name name ≡ true → is_value step.value ≡ true → AreGood variables → AreGood (with_step name step variables)
with_step_good name step variables named_so valued h =
    put_good (record { name = name; steps = steps_of (timeline name variables) ++ step ∷ [] }) variables
    (named_so, values_more (steps_of (timeline name variables)) step (steps_good (timeline name variables) (λ t is. All-named name_of IsGood name variables t h.each is)) valued) h

room_for : (name : List ℕ) (t : Timeline) (variables : List Timeline) (most : ℕ) → (is_some (timeline name variables) || nat_lt (length variables) most) ≡ true → length variables ≤ most
    → length (put name_of name (Some t) variables) ≤ most
room_for name t variables most room h = by (is_some (timeline name variables)) refl room where
  by : (b : Bool) → is_some (timeline name variables) ≡ b → (b || nat_lt (length variables) most) ≡ true → length (put name_of name (Some t) variables) ≤ most
  by true is room = omega (arith, length-put_found name_of name (Some t) variables is, h)
  by false is room = let few : length variables < most = grind (arith, nat_tests) in omega (arith, length-put name_of name (Some t) variables, few)

record IsGoodScript (s : Script) : Type 0 where
  good : AreGood s.variables
  few : length s.variables ≤ SCRIPT_VARIABLES_MAX

taken_in_good : (s more : Script) (said : Result Item ScriptFaultKind) → ((name value : List ℕ) → said ≡ Ok (Setting name value) → IsSetting name value)
    → taken_in s said ≡ Ok more → IsGoodScript s → IsGoodScript more
taken_in_good s more (Err fault) proper is h = cc
taken_in_good s more (Ok (Timer seconds)) proper is h =
    let same : extended s (Timer seconds) ≡ more = cc is in
    subst IsGoodScript same (record { good = h.good; few = h.few })
taken_in_good s more (Ok (Setting name value)) proper is h =
    let fits = before (has_room s (Setting name value)) kinds.PastLimit (Ok (extended s (Setting name value))) more is in
    let same : extended s (Setting name value) ≡ more = cc (fits.1) in
    let own = proper name value refl in
    subst IsGoodScript same (record {
      good = with_step_good name (record { at = s.round; value = value }) s.variables own.0 own.1 h.good;
      few = room_for name (record { name = name; steps = steps_of (timeline name s.variables) ++ (record { at = s.round; value = value }) ∷ [] }) s.variables SCRIPT_VARIABLES_MAX (and_parts _ _ fits.0).1 h.few;
    })

with_line_good : (kind : ScriptKind) (s more : Script) (line : List ℕ) → with_line kind s line ≡ Ok more → IsGoodScript s → IsGoodScript more
with_line_good kind s more line is h = by (is_skipped line) is where
  by : (b : Bool) → cond b (Ok s) (taken_in s (item kind line)) ≡ Ok more → IsGoodScript more
  by true is = let same : s ≡ more = cc is in subst IsGoodScript same h
  by false is = taken_in_good s more (item kind line) (item_good kind line) is h

whole_good : (kind : ScriptKind) (s script : Script) → whole kind s ≡ Ok script → IsGoodScript s → IsGoodScript script
whole_good Dev s script is h = let same : s ≡ script = cc is in subst IsGoodScript same h
whole_good Seq s script is h = let same : s ≡ script = cc ((behind (s.round == 0) (0, kinds.NoTimer) (Ok s) script is).1) in subst IsGoodScript same h

lines_good : (kind : ScriptKind) (s script : Script) (n : ℕ) (lines : List (List ℕ)) → read_lines kind s n lines ≡ Ok script → IsGoodScript s → IsGoodScript script
unfolding read_lines
lines_good kind s script n [] is h = whole_good kind s script is h
lines_good kind s script n (line ∷ lines) is h = by (with_line kind s line) refl is (λ more. lines_good kind more script (n + 1) lines) where
  by : (r : Result Script ScriptFaultKind) → with_line kind s line ≡ r → at_line n r (λ more. read_lines kind more (n + 1) lines) ≡ Ok script
      → ((more : Script) → read_lines kind more (n + 1) lines ≡ Ok script → IsGoodScript more → IsGoodScript script) → IsGoodScript script
  by (Ok more) so is rest = rest more is (with_line_good kind s more line so h)
  by (Err fault) so is rest = cc

script_good : (kind : ScriptKind) (text : List ℕ) (script : Script) → read_script kind text ≡ Ok script → IsGoodScript script
script_good kind text script is =
    lines_good kind no_script script 1 _ is (record { good = record { ascending = tt; each = All-nil IsGood }; few = omega arith })

-- ---- the variables that commands set

declared_good : (name : List ℕ) (variables : List Timeline) → is_name name ≡ true → AreGood variables → AreGood (declared name variables)
declared_good name variables named_so h =
    cond_both (is_some (timeline name variables)) _ _ AreGood (λ _. h) (λ _. put_good (record { name = name; steps = [] }) variables (named_so, tt) h)

declared_few : (name : List ℕ) (variables : List Timeline) → length (declared name variables) ≤ length variables + 1
declared_few name variables =
    cond_both (is_some (timeline name variables)) _ _ (λ more. length more ≤ length variables + 1)
    (λ _. omega arith) (λ _. length-put name_of name (Some (record { name = name; steps = [] })) variables)

all_declared_good : (names : List (List ℕ)) (variables : List Timeline) → AllByRecursion (λ name. is_name name ≡ true) names → AreGood variables
    → AreGood (all_declared names variables) × (length (all_declared names variables) ≤ length variables + length names)
all_declared_good [] variables named_so h = (h, omega arith)
all_declared_good (name ∷ names) variables named_so h =
    let more = all_declared_good names (declared name variables) named_so.1 (declared_good name variables named_so.0 h) in
    (more.0, omega (arith, more.1, declared_few name variables))

-- ---- what a driver holds

abbrev pub IsValued : Option (List ℕ) → Type 0
IsValued None = Unit {0}
IsValued (Some value) = is_value value ≡ true

-- A variable has a name. Its value, if it has one, and those that it gets are values.
abbrev pub IsSound : Variable → Type 0
IsSound v = (is_name v.name ≡ true) × AreValues v.steps × IsValued v.value

-- Variables ascend by name, are no more than a table holds, and each is sound.
pub record AreSound (variables : List Variable) : Type 0 where
  pub ascending : IsAscending (map (λ v. v.name) variables)
  pub few : length variables ≤ VARIABLES_MAX
  pub each : AllByRecursion IsSound variables

or_valued : (a b : Option (List ℕ)) → IsValued a → IsValued b → IsValued (option_or a b)
or_valued None b h k = k
or_valued (Some x) b h k = h

newest_valued : (test : Step → Bool) (steps : List Step) → AreValues steps → IsValued (newest test steps)
newest_valued test [] h = tt
newest_valued test (step ∷ steps) h =
    or_valued (newest test steps) _ (newest_valued test steps h.1) (cond_both (test step) (Some step.value) None IsValued (λ _. h.0) (λ _. tt))

newest_up_to_valued : (round after until : ℕ) (steps : List Step) (k : ℕ) → AreValues steps → IsValued (newest_up_to round after until steps k)
newest_up_to_valued round after until steps zero h = newest_valued (is_due round after until 0) steps h
newest_up_to_valued round after until steps (suc k) h =
    or_valued (newest (is_due round after until (suc k)) steps) _ (newest_valued (is_due round after until (suc k)) steps h) (newest_up_to_valued round after until steps k h)

latest_valued : (round after until : ℕ) (steps : List Step) → AreValues steps → IsValued (latest round after until steps)
unfolding latest
latest_valued round after until steps h =
    cond_both (round == 0) None (newest_up_to round after until steps until) IsValued (λ _. tt) (λ _. newest_up_to_valued round after until steps until h)

may_be_valued : (name value : List ℕ) → may_be name value ≡ true → is_value value ≡ true
may_be_valued name value h = by (writable_of name) h where
  by : (w : Option Writable) → option_map_or (λ w. fits (attributes w) value) w false ≡ true → is_value value ≡ true
  by None h = cc
  by (Some w) h = (and_parts _ _ h).0

-- a change that sets a value
abbrev IsProper : Change → Type 0
IsProper (Doing name value) = is_value value ≡ true
IsProper _ = Unit {0}

after_valued : (change : Change) (own : List ℕ) (steps : List Step) (before : Option (List ℕ)) → IsProper change → AreValues steps → IsValued before
    → IsValued (value_after change own steps before)
after_valued (Passing round after until) own steps before proper h k = or_valued (latest round after until steps) before (latest_valued round after until steps h) k
after_valued (Assigning name value) own steps before proper h k =
    cond_both (is_assigned name value own before) (Some value) before IsValued
    (λ is. may_be_valued own value (and_parts (bytes_eq own name && is_some before) (may_be own value) is).1) (λ _. k)
after_valued (Doing name value) own steps before proper h k = cond_both (bytes_eq own name) (Some value) before IsValued (λ _. proper) (λ _. k)

-- two views of variables, the second of which has the names of the first and is sound where the first is
module _ {X : Type 0} (a b : X → Variable) (same_name : (x : X) → (b x).name ≡ (a x).name) (same : (x : X) → IsSound (a x) → IsSound (b x)) where
  names_kept : (xs : List X) → map (λ v. v.name) (map b xs) ≡ map (λ v. v.name) (map a xs)
  names_kept [] = refl
  names_kept (x ∷ xs) = (λ i. same_name x i ∷ names_kept xs i)

  each_kept : (xs : List X) → AllByRecursion IsSound (map a xs) → AllByRecursion IsSound (map b xs)
  each_kept [] h = tt
  each_kept (x ∷ xs) h = (same x h.0, each_kept xs h.1)

  kept : (xs : List X) → AreSound (map a xs) → AreSound (map b xs)
  kept xs h = record {
    ascending = subst IsAscending (sym (names_kept xs)) h.ascending;
    few = omega (arith, h.few, length-map xs a, length-map xs b);
    each = each_kept xs h.each;
  }

proper_command : (c : KnownCommand) → is_value (value_set c) ≡ true
proper_command BeeperDisable = refl
proper_command _ = refl

-- ---- what deeds leave

module _ (ts : List Timeline) where
  abbrev StaySound : List Deed → Type 0
  StaySound past = AreSound (map (seen past) ts)

  changes_sound : (number : Option ℕ) (change : Change) (past : List Deed) → IsProper change → StaySound past → StaySound (Changes number change ∷ past)
  changes_sound number change past proper h =
      kept (seen past) (seen (Changes number change ∷ past)) (λ t. refl)
      (λ t s. (s.0, s.1, after_valued change t.name t.steps (value t past) proper s.1 s.2)) ts h

  fresh_sound : (past : List Deed) → StaySound past → StaySound (Fresh ∷ past)
  fresh_sound past h = kept (seen past) (seen (Fresh ∷ past)) (λ t. refl) (λ t s. s) ts h

  command_sound : (number : Option ℕ) (command : Option KnownCommand) (past : List Deed) → StaySound past
      → StaySound (option_map_or (λ c. Changes number (Doing (variable_set c) (value_set c))) command (Fails number) ∷ past)
  command_sound number None past h = h
  command_sound number (Some c) past h = changes_sound number (Doing (variable_set c) (value_set c)) past (proper_command c) h

  ask_sound : (ask : Option DriverAsk) (past : List Deed) → StaySound past → StaySound (by_ask ask past)
  ask_sound (Some asks.DumpAll) past h = kept (seen past) (seen (Dumps ∷ past)) (λ t. refl) (λ t s. s) ts h
  ask_sound (Some (asks.Set name text number)) past h = changes_sound number (Assigning name text) past tt h
  ask_sound (Some (asks.InstCmd name parameter number)) past h = command_sound number (command_of name) past h
  ask_sound _ past h = h

  pub lines_sound : (lines : List LineText) (past : List Deed) → StaySound past → StaySound (by_lines lines past)
  lines_sound [] past h = h
  lines_sound (line ∷ lines) past h = lines_sound lines (by_ask (asked_by line) past) (ask_sound (asked_by line) past h)

begun_each : (variables : List Timeline) → AllByRecursion IsGood variables → AllByRecursion IsSound (map (seen []) variables)
begun_each [] h = tt
begun_each (t ∷ variables) h = ((h.0.0, h.0.1, newest_valued _ t.steps h.0.1), begun_each variables h.1)

begun_names : (variables : List Timeline) → map (λ v. v.name) (map (seen []) variables) ≡ map (λ t. t.name) variables
begun_names [] = refl
begun_names (t ∷ variables) = ap (λ names. t.name ∷ names) (begun_names variables)

beginning_sound : (script : Script) → IsGoodScript script → StaySound (timelines script) []
beginning_sound script h =
    let all = all_declared_good command_variables script.variables (refl, (refl, (refl, tt))) h.good in
    let variables = timelines script in
    record {
      ascending = subst IsAscending (sym (begun_names variables)) all.0.ascending;
      few = omega (arith, all.1, h.few, length-map variables (seen []));
      each = begun_each variables (recursion_from_All IsGood variables all.0.each);
    }

-- Whatever calls are made, the variables of a driver are sound.
pub deeds_sound : (kind : ScriptKind) (text : List ℕ) (script : Script) (start : ℕ) (h : List Call) → read_script kind text ≡ Ok script
    → AreSound (map (seen (deeds script.round start h)) (timelines script))
deeds_sound kind text script start [] is = beginning_sound script (script_good kind text script is)
deeds_sound kind text script start (Linked ∷ h) is = fresh_sound (timelines script) (deeds script.round start h) (deeds_sound kind text script start h is)
deeds_sound kind text script start (Moment t ∷ h) is =
    changes_sound (timelines script) None (Passing script.round (clock start h - start) (max (clock start h) t - start)) (deeds script.round start h) tt
    (deeds_sound kind text script start h is)
deeds_sound kind text script start (Bytes piece ∷ h) is =
    lines_sound (timelines script) (lines_after (rest (input h)) piece) (deeds script.round start h) (deeds_sound kind text script start h is)
deeds_sound kind text script start (Lost k piece ∷ h) is =
    let ls = take k (lines_after (rest (input h)) piece) in
    fresh_sound (timelines script) (by_lines ls (deeds script.round start h))
    (lines_sound (timelines script) ls (deeds script.round start h) (deeds_sound kind text script start h is))
deeds_sound kind text script start (Took n ∷ h) is = deeds_sound kind text script start h is
