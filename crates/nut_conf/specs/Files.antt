-- What a file means, line by line: the words of the lines that have any, or the first fault and its line.
use Rattle.std.specs.Prelude.{◌≡◌, ℕ, ◌+◌, ◌==◌, List, [], ◌∷◌, ◌++◌, length, nat_lt, if◌then◌else◌, Option, None, Some, Result, Ok, Err}
use Rattle.nut_words.specs.Lines.{parts}
use Rattle.nut_words.specs.Reader.{spelled}
use Rattle.nut_words.specs.declared.words.WordFault.{WordFault}
use Rattle.nut_conf.specs.Faults.{◌>>=◌}
use Rattle.nut_conf.specs.Values.{Words}
use Rattle.nut_conf.specs.declared.fault.FaultKind.{FaultKind}
use Rattle.nut_conf.specs.declared.fault.FaultKind.TheVariants.{Unreadable, PastLimit}
use Rattle.nut_conf.specs.declared.fault.FaultKind.TheVariants as kinds
use Rattle.nut_conf.specs.declared.fault.ConfFault.{ConfFault}
use Rattle.nut_conf.specs.declared.limits.TheConstants.{FILE_LINE_MAX, FILE_MAX}

-- The first fault of a line, given the lines before it.
abbrev pub LineFault : Type 0
LineFault = List Words → Words → Option FaultKind

-- the bytes between the line feeds; what follows the last one is a line too
abbrev pub lines_of : List ℕ → List (List ℕ)
lines_of bytes = parts bytes

-- the words of a line, or `Unreadable` if it spells none
abbrev pub readable : Result Words WordFault → Result Words FaultKind
readable (Ok ws) = Ok ws
readable (Err e) = Err Unreadable

-- the words of a line of at most FILE_LINE_MAX bytes
abbrev pub words_of : List ℕ → Result Words FaultKind
words_of line = if nat_lt FILE_LINE_MAX (length line) then Err PastLimit else readable (spelled line)

-- x, unless there is a fault
abbrev pub unless : {X : Type 0} → Option FaultKind → X → Result X FaultKind
unless None x = Ok x
unless (Some k) x = Err k

-- the lines before, and this line if it has words
abbrev pub with_line : LineFault → List Words → List ℕ → Result (List Words) FaultKind
with_line fault before line =
    words_of line >>= (λ ws. if length ws == 0 then Ok before else unless (fault before ws) (before ++ ws ∷ []))

-- Applies the function to what line n gave, or gives its fault with n.
abbrev pub at_line : {X Y : Type 0} → ℕ → Result X FaultKind → (X → Result Y (ℕ × FaultKind)) → Result Y (ℕ × FaultKind)
at_line n (Ok x) f = f x
at_line n (Err k) f = Err (n, k)

-- The lines before, and these lines numbered from n on that have words, or the number and the kind of the first fault.
unfoldable pub read_lines : LineFault → List Words → ℕ → List (List ℕ) → Result (List Words) (ℕ × FaultKind)
read_lines fault before n [] = Ok before
read_lines fault before n (line ∷ lines) = at_line n (with_line fault before line) (λ more. read_lines fault more (n + 1) lines)

-- The words of the lines of a file that have words, or its first fault. A file of more than FILE_MAX bytes isn't read.
abbrev pub read_file : LineFault → List ℕ → Result (List Words) (ℕ × FaultKind)
read_file fault bytes = if nat_lt FILE_MAX (length bytes) then Err (0, PastLimit) else read_lines fault [] 1 (lines_of bytes)

-- Reading gives this fault at this line, or the fault is `Memory`.
abbrev pub IsFaultOf : {Y : Type 0} → ℕ → FaultKind → Result Y (ℕ × FaultKind) → Type 0
IsFaultOf {Y} line kinds.Memory reading = Unit {0}
IsFaultOf {Y} line k reading = reading ≡ Err (line, k)

-- The call returned a configuration that holds what the lines of the reading set, or it returned the fault of the
-- reading, or memory could not be allocated.
abbrev pub Means : {C : Type 0} → Result (List Words) (ℕ × FaultKind) → (C → List Words → Type 0) → Result C ConfFault → Type 0
Means reading Holds (Ok c) = (lines : List Words) × (reading ≡ Ok lines) × Holds c lines
Means reading Holds (Err f) = IsFaultOf f.line f.kind reading
