-- The words that are left: the next word and the ones after it.
use Rattle.std.proofs.Common.{◌≡◌, ℕ, ◌+◌, ◌<◌, List, [], ◌∷◌, length, drop, slice_index_or}
use Rattle.std.proofs.lemmas.List.{drop_more}

pub next_word : (words : List (List ℕ)) (n : ℕ) → n < length words → drop n words ≡ slice_index_or words n [] ∷ drop (n + 1) words
next_word words n h = drop_more words n [] h
