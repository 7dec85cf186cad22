-- At which lines memory may run out while a script is read.
use Rattle.std.specs.Prelude.{◌≡◌, ◌⊎◌, ◌==◌, ℕ, ◌+◌, ◌≤◌, Bool, false, List, ◌∷◌, ◌++◌, length, IsTrue, None, Result, Ok}
use Rattle.std.specs.List.{position}
use Rattle.nut_words.specs.Lines.{parts}
use Rattle.nut_words.specs.Reader.{has_backslash}
use Rattle.nut_dummy.specs.declared.fault.ScriptFaultKind.{ScriptFaultKind}
use Rattle.nut_dummy.specs.declared.item.ScriptKind.{ScriptKind}
use Rattle.nut_dummy.specs.declared.limits.TheConstants.{SCRIPT_LINE_MAX}
use Rattle.nut_dummy.specs.Item.{Item, Setting, is_skipped, item}
use Rattle.nut_dummy.specs.Script.{Script, has_room, no_script, read_lines}

-- Splitting a line into words may allocate only if the line isn't too long, and has a backslash and no colon.
abbrev pub IsEscaped : List ℕ → Type 0
IsEscaped line = (length line ≤ SCRIPT_LINE_MAX) × (position (λ c. c == 58) line ≡ None) × IsTrue (has_backslash line)

-- whether a line sets a value for which there is room
abbrev pub grows : Script → Result Item ScriptFaultKind → Bool
grows s (Ok (Setting name value)) = has_room s (Setting name value)
grows s said = false

-- Taking in a line may allocate only if the line isn't skipped, and either splitting it may allocate or it sets a value
-- for which there is room.
abbrev pub MayTake : ScriptKind → Script → List ℕ → Type 0
MayTake kind s line = (is_skipped line ≡ false) × (IsEscaped line ⊎ IsTrue (grows s (item kind line)))

-- The first lines make this script: whatever lines follow are read on from it.
abbrev pub Makes : ScriptKind → List (List ℕ) → Script → Type 0
Makes kind front s = (more : List (List ℕ)) → read_lines kind no_script 1 (front ++ more) ≡ read_lines kind s (length front + 1) more

-- Memory may run out at line n of a text: the text has this line, the lines before it make a script, and taking in the
-- line may allocate.
pub record MayRunOut (kind : ScriptKind) (bytes : List ℕ) (n : ℕ) : Type 0 where
  pub front : List (List ℕ)
  pub line : List ℕ
  pub rest : List (List ℕ)
  pub before : Script
  pub parted : parts bytes ≡ front ++ line ∷ rest
  pub number : n ≡ length front + 1
  pub makes : Makes kind front before
  pub takes : MayTake kind before line
