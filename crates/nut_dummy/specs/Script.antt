-- What a script means: the values that each variable gets and when, and how long a round takes.
use Rattle.std.specs.Prelude.{◌≡◌, ℕ, ◌+◌, ◌==◌, ◌&&◌, ◌||◌, Bool, true, List, [], ◌∷◌, ◌++◌, Option, Some, Result, Ok, Err, if◌then◌else◌, is_some, length, nat_lt}
use Rattle.std.specs.Option.{option_map_or}
use Rattle.nut_words.specs.Lines.{parts}
use Rattle.nut_state.specs.Sorted.{named, put}
use Rattle.nut_dummy.specs.declared.fault.ScriptFault.{ScriptFault}
use Rattle.nut_dummy.specs.declared.fault.ScriptFaultKind.{ScriptFaultKind}
use Rattle.nut_dummy.specs.declared.fault.ScriptFaultKind.TheVariants.{PastLimit, NoTimer}
use Rattle.nut_dummy.specs.declared.fault.ScriptFaultKind.TheVariants as kinds
use Rattle.nut_dummy.specs.declared.item.ScriptKind.{ScriptKind}
use Rattle.nut_dummy.specs.declared.item.ScriptKind.TheVariants.{Dev, Seq}
use Rattle.nut_dummy.specs.declared.limits.TheConstants.{STEPS_MAX, SCRIPT_VARIABLES_MAX}
use Rattle.nut_dummy.specs.Item.{Item, Timer, Setting, is_skipped, item}

-- a value, and how many seconds after the beginning of a round it is due: the sum of the timers before it
pub record Step : Type 0 where
  pub at : ℕ
  pub value : List ℕ

-- a variable, and the values that it gets in a round, in the order of their lines
pub record Timeline : Type 0 where
  pub name : List ℕ
  pub steps : List Step

-- The variables of a script, ascending by name; how many values they get together; and the seconds of a round, which
-- are the sum of all its timers.
pub record Script : Type 0 where
  pub variables : List Timeline
  pub count : ℕ
  pub round : ℕ

abbrev pub no_script : Script
no_script = record { variables = []; count = 0; round = 0 }

-- ---- a script with one more line

abbrev pub timeline : List ℕ → List Timeline → Option Timeline
timeline name variables = named (λ t. t.name) name variables

-- the values of a variable so far
abbrev pub steps_of : Option Timeline → List Step
steps_of found = option_map_or (λ t. t.steps) found []

-- the variables with one more value for this one
abbrev pub with_step : List ℕ → Step → List Timeline → List Timeline
with_step name step variables =
    put (λ t. t.name) name (Some (record { name = name; steps = steps_of (timeline name variables) ++ step ∷ [] })) variables

-- Whether there is room for what a line says.
abbrev pub has_room : Script → Item → Bool
has_room s (Timer seconds) = true
has_room s (Setting name value) =
    nat_lt s.count STEPS_MAX && (is_some (timeline name s.variables) || nat_lt (length s.variables) SCRIPT_VARIABLES_MAX)

-- The script with what one more line says.
abbrev pub extended : Script → Item → Script
extended s (Timer seconds) = record s { round = s.round + seconds }
extended s (Setting name value) =
    record { variables = with_step name (record { at = s.round; value = value }) s.variables; count = s.count + 1; round = s.round }

-- ---- reading a script

-- what a line says is added if there is room
abbrev pub taken_in : Script → Result Item ScriptFaultKind → Result Script ScriptFaultKind
taken_in s (Ok said) = if has_room s said then Ok (extended s said) else Err PastLimit
taken_in s (Err fault) = Err fault

-- the script with one more line, which may be one to skip
abbrev pub with_line : ScriptKind → Script → List ℕ → Result Script ScriptFaultKind
with_line kind s line = if is_skipped line then Ok s else taken_in s (item kind line)

-- continues after line n, or returns its number with its fault
abbrev pub at_line : {X Y : Type 0} → ℕ → Result X ScriptFaultKind → (X → Result Y (ℕ × ScriptFaultKind)) → Result Y (ℕ × ScriptFaultKind)
at_line n (Ok x) f = f x
at_line n (Err fault) f = Err (n, fault)

-- A `.seq` script has a timer. If it has none, the fault is that of the script as a whole, at line 0.
abbrev pub whole : ScriptKind → Script → Result Script (ℕ × ScriptFaultKind)
whole Dev s = Ok s
whole Seq s = if s.round == 0 then Err (0, NoTimer) else Ok s

-- The script s with these lines, of which the first has number n; or the number and kind of the first fault.
unfoldable pub read_lines : ScriptKind → Script → ℕ → List (List ℕ) → Result Script (ℕ × ScriptFaultKind)
read_lines kind s n [] = whole kind s
read_lines kind s n (line ∷ lines) = at_line n (with_line kind s line) (λ more. read_lines kind more (n + 1) lines)

-- What a text says. Its lines are the parts between line feeds, and the part after the last.
abbrev pub read_script : ScriptKind → List ℕ → Result Script (ℕ × ScriptFaultKind)
read_script kind bytes = read_lines kind no_script 1 (parts bytes)

-- ---- what a call returns of it

-- The returned fault is that of the reading, unless it is a lack of memory.
abbrev pub IsFaultOf : {Y : Type 0} → ℕ → ScriptFaultKind → Result Y (ℕ × ScriptFaultKind) → Type 0
IsFaultOf {Y} line kinds.Memory reading = Unit {0}
IsFaultOf {Y} line k reading = reading ≡ Err (line, k)

-- The result is the script or its fault, unless memory ran out.
abbrev pub Means : Result Script ScriptFault → Result Script (ℕ × ScriptFaultKind) → Type 0
Means (Ok script) reading = reading ≡ Ok script
Means (Err f) reading = IsFaultOf f.line f.kind reading

-- the same as `IsFaultOf`, for the fault of one line
abbrev pub Fails : {Y : Type 0} → ScriptFaultKind → Result Y ScriptFaultKind → Type 0
Fails kinds.Memory reading = Unit {0}
Fails k reading = reading ≡ Err k

abbrev pub Gives : {X Y : Type 0} → (X → Y) → Result X ScriptFaultKind → Result Y ScriptFaultKind → Type 0
Gives view (Ok x) reading = reading ≡ Ok (view x)
Gives view (Err k) reading = Fails k reading
