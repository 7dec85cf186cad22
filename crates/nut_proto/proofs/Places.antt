-- A word of the last words is a word of the whole line.
use Rattle.std.proofs.Common.{◌≡◌, ℕ, ◌+◌, ◌-◌, ◌≤◌, List, [], length, drop, arith}
use Rattle.std.proofs.lemmas.List.{get_or-drop, get_or_past, length-drop}
use Rattle.nut_proto.specs.Positions.{word_at}

pub word_after : (words : List (List ℕ)) (start index : ℕ) → word_at (drop start words) index ≡ word_at words (start + index)
word_after words start index = get_or-drop start words index []

pub word_past : (words : List (List ℕ)) (start index : ℕ) → length words - start ≤ index → word_at (drop start words) index ≡ []
word_past words start index h = get_or_past (drop start words) index [] (omega (arith, length-drop start words, h))
