-- What a line of a script says, or the first of its tests that it fails (NUT manual page dummy-ups(8): `name: value`,
-- and TIMER).
use Rattle.std.specs.Prelude.{ℕ, ◌==◌, ◌+◌, ◌&&◌, Bool, true, not, List, [], ◌∷◌, Option, Some, None, Result, Ok, Err, if◌then◌else◌, codes, drop, take, length, nat_le, nat_lt, reverse}
use Rattle.std.specs.List.{list_all, position}
use Rattle.std.specs.Str.{bytes_eq}
use Rattle.nut_words.specs.Bytes.{hash}
use Rattle.nut_words.specs.declared.words.WordFault.{WordFault}
use Rattle.nut_words.specs.Reader.{spelled}
use Rattle.nut_words.specs.Spelling.{is_blank, is_comment, is_printing}
use Rattle.nut_words.specs.Number.{natural}
use Rattle.nut_words.specs.Name.{is_name_byte}
use Rattle.nut_words.specs.declared.limits.TheConstants.{NAME_MAX, VALUE_MAX}
use Rattle.nut_dummy.specs.declared.fault.ScriptFaultKind.{ScriptFaultKind}
use Rattle.nut_dummy.specs.declared.fault.ScriptFaultKind.TheVariants.{BadLine, BadName, BadTimer, TimerInDev, PastLimit}
use Rattle.nut_dummy.specs.declared.item.ScriptKind.{ScriptKind}
use Rattle.nut_dummy.specs.declared.item.ScriptKind.TheVariants.{Dev, Seq}
use Rattle.nut_dummy.specs.declared.limits.TheConstants.{SCRIPT_LINE_MAX, TIMER_MAX}

-- a wait, or a value for a variable
pub data Item : Type 0 where
  Timer : (seconds : ℕ) → Item
  Setting : (name value : List ℕ) → Item

-- a text without the blanks at its beginning, at its end, and at both ends
abbrev pub skip_blanks : List ℕ → List ℕ
skip_blanks [] = []
skip_blanks (c ∷ cs) = if is_blank c then skip_blanks cs else c ∷ cs

abbrev pub skip_last_blanks : List ℕ → List ℕ
skip_last_blanks text = reverse (skip_blanks (reverse text))

abbrev pub trimmed : List ℕ → List ℕ
trimmed text = skip_last_blanks (skip_blanks text)

-- whether a text is empty or begins with `#`
abbrev pub is_remark : List ℕ → Bool
is_remark [] = true
is_remark (c ∷ cs) = c == hash

-- Skipped lines are blank, or their first byte after blanks is `#`.
abbrev pub is_skipped : List ℕ → Bool
is_skipped line = is_remark (skip_blanks line)

-- A value has at most VALUE_MAX printing bytes.
abbrev pub is_value : List ℕ → Bool
is_value text = nat_le (length text) VALUE_MAX && list_all is_printing text

-- Only a `.seq` script, which is repeated, has timers.
abbrev pub timer_in : ScriptKind → ℕ → Result Item ScriptFaultKind
timer_in Dev seconds = Err TimerInDev
timer_in Seq seconds = Ok (Timer seconds)

-- A timer has 1 to TIMER_MAX seconds. `natural` reads one to nine digits.
abbrev pub timer : ScriptKind → Option ℕ → Result Item ScriptFaultKind
timer kind None = Err BadTimer
timer kind (Some seconds) = if nat_lt 0 seconds && nat_le seconds TIMER_MAX then timer_in kind seconds else Err BadTimer

-- what a line without a colon says: a timer, if its words are `TIMER` and one more
abbrev pub timed : ScriptKind → Result (List (List ℕ)) WordFault → Result Item ScriptFaultKind
timed kind (Ok (first ∷ second ∷ [])) = if bytes_eq first (codes "TIMER") then timer kind (natural second) else Err BadLine
timed kind words = Err BadLine

-- the tests of a name and of a value, in order
abbrev pub setting : List ℕ → List ℕ → Result Item ScriptFaultKind
setting name value =
    if not (nat_lt 0 (length name) && list_all is_name_byte name) then Err BadName else
    if nat_lt NAME_MAX (length name) then Err PastLimit else
    if not (list_all is_printing value) then Err BadLine else
    if nat_lt VALUE_MAX (length value) then Err PastLimit else
    Ok (Setting name value)

-- what a line says, by the place of its first colon
abbrev pub parted : ScriptKind → List ℕ → Option ℕ → Result Item ScriptFaultKind
parted kind line None = timed kind (spelled line)
parted kind line (Some at) = setting (trimmed (take at line)) (trimmed (drop (at + 1) line))

-- What a line says: it has at most SCRIPT_LINE_MAX bytes, and these are printing, tabs or carriage returns.
abbrev pub item : ScriptKind → List ℕ → Result Item ScriptFaultKind
item kind line =
    if nat_lt SCRIPT_LINE_MAX (length line) then Err PastLimit else
    if not (list_all is_comment line) then Err BadLine else
    parted kind line (position (λ c. c == 58) line)
