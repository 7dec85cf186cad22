-- At which lines of a file reading may run out of memory.
use Rattle.std.specs.Prelude.{◌≡◌, ◌⊎◌, ℕ, ◌+◌, ◌≤◌, Bool, List, [], ◌∷◌, ◌++◌, length, IsTrue, None, Ok}
use Rattle.nut_words.specs.Reader.{has_backslash}
use Rattle.nut_conf.specs.Values.{Words}
use Rattle.nut_conf.specs.Files.{LineFault, lines_of, read_lines, words_of}
use Rattle.nut_conf.specs.declared.limits.TheConstants.{FILE_LINE_MAX, FILE_MAX}

-- Reading this line after the lines `before` may allocate memory: it has at most 512 bytes, and it has a backslash, or
-- its words have no fault and add to a list.
abbrev pub MayTake : LineFault → (Words → Bool) → List Words → List ℕ → Type 0
MayTake fault grows before line =
    (length line ≤ FILE_LINE_MAX) × (IsTrue (has_backslash line) ⊎ ((ws : Words) × (words_of line ≡ Ok ws) × IsTrue (grows ws) × (fault before ws ≡ None)))

-- Memory may run out at line n of a file: the file has at most 1,048,576 bytes and a line n, the lines before it read
-- without a fault, and line n may allocate memory.
abbrev pub MayRunOut : LineFault → (Words → Bool) → List ℕ → ℕ → Type 0
MayRunOut fault grows file n =
    (front : List (List ℕ)) × (line : List ℕ) × (rest : List (List ℕ)) × (before : List Words)
    × (length file ≤ FILE_MAX) × (lines_of file ≡ front ++ line ∷ rest) × (n ≡ length front + 1) × (read_lines fault [] 1 front ≡ Ok before) × MayTake fault grows before line
