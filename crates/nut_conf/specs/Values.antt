-- How the values on a line are read: names, texts and numbers.
use Rattle.std.specs.Prelude.{ℕ, ◌==◌, Bool, not, ◌||◌, ◌&&◌, List, [], length, drop, nat_le, nat_lt, if◌then◌else◌, slice_index_or, Result, Ok, Err, codes}
use Rattle.std.specs.List.{list_all, list_any}
use Rattle.std.specs.Str.{bytes_eq}
use Rattle.nut_words.specs.Name.{is_name_byte}
use Rattle.nut_words.specs.Number.{digits_value, is_natural}
use Rattle.nut_words.specs.Spelling.{is_printing}
use Rattle.nut_conf.specs.declared.values.Form.{Form}
use Rattle.nut_conf.specs.declared.values.Form.TheVariants as forms
use Rattle.nut_conf.specs.declared.fault.FaultKind.{FaultKind}
use Rattle.nut_conf.specs.declared.fault.FaultKind.TheVariants.{BadForm, BadNumber, BadName, PastLimit, UnknownWord}

-- the words of a line
abbrev pub Words : Type 0
Words = List (List ℕ)

-- the word at a place, counted from 0, or the empty word past the last
abbrev pub nth : Words → ℕ → List ℕ
nth ws k = slice_index_or ws k []

-- the values of a line with these words: those after the directive, or after the directive and `=`
abbrev pub values_of : Form → Words → Result Words FaultKind
values_of forms.Plain ws = Ok (drop 1 ws)
values_of forms.Assigned ws =
    if nat_lt (length ws) 2 || not (bytes_eq (nth ws 1) (codes "=")) then Err BadForm else Ok (drop 2 ws)

-- the only value, or `BadForm` if there isn't exactly one
abbrev pub one : Words → Result (List ℕ) FaultKind
one vs = if length vs == 1 then Ok (nth vs 0) else Err BadForm

-- the bytes as a name of at most `most` bytes, or the fault
abbrev pub name : ℕ → List ℕ → Result (List ℕ) FaultKind
name most bytes =
    if (length bytes == 0) || not (list_all is_name_byte bytes) then Err BadName
    else if nat_lt most (length bytes) then Err PastLimit
    else Ok bytes

-- the bytes as a text, if they are `least` to `most`; else `PastLimit`
abbrev pub text : ℕ → ℕ → List ℕ → Result (List ℕ) FaultKind
text least most bytes = if nat_lt (length bytes) least || nat_lt most (length bytes) then Err PastLimit else Ok bytes

-- whether a text has `least` to `most` bytes, all printing
abbrev pub is_text : ℕ → ℕ → List ℕ → Bool
is_text least most bytes = nat_le least (length bytes) && nat_le (length bytes) most && list_all is_printing bytes

-- the number that one to nine digits say, if it is `least` to `most`; else `BadNumber`
abbrev pub number : ℕ → ℕ → List ℕ → Result ℕ FaultKind
number least most bytes =
    if is_natural bytes && nat_le least (digits_value bytes) && nat_le (digits_value bytes) most then Ok (digits_value bytes) else Err BadNumber

-- the bytes, if they are one of these words; else `UnknownWord`
abbrev pub one_of : Words → List ℕ → Result (List ℕ) FaultKind
one_of words bytes = if list_any (bytes_eq bytes) words then Ok bytes else Err UnknownWord
