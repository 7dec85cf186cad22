-- How long words are, and that names can be written bare.
use Rattle.std.proofs.Common.{◌≡◌, ℕ, ◌+◌, ◌*◌, ◌≤◌, Bool, true, cond, List, [], ◌∷◌, length, refl, arith}
use Rattle.std.specs.Prelude.{◌&&◌}
use Rattle.std.specs.List.{list_all}
use Rattle.std.proofs.lemmas.Bool.Decides.{nat_tests}
use Rattle.nut_words.specs.Name.{is_name, is_name_byte}
use Rattle.nut_words.specs.Spelling.{is_bare}
use Rattle.nut_words.specs.Quoting.{quoted, stands_bare, word_text}
use Rattle.nut_proto.specs.laws.Bounds.{IsName}
use Rattle.nut_proto.proofs.Lengths.{length-quoted}

length-choice : (b : Bool) (word : List ℕ) → length (cond b word (quoted word)) ≤ 2 * length word + 2
length-choice b word = grind (arith, length-quoted)

-- a word, bare or quoted
pub length-word : (word : List ℕ) → length (word_text word) ≤ 2 * length word + 2
length-word word = length-choice (stands_bare word) word

both : (a b : Bool) → (a && b) ≡ true → (a ≡ true) × (b ≡ true)
both a b e = grind arith

bare_byte : (c : ℕ) → is_name_byte c ≡ true → is_bare c ≡ true
bare_byte c e = grind (arith, nat_tests)

all_bare : (name : List ℕ) → list_all is_name_byte name ≡ true → list_all is_bare name ≡ true
all_bare [] e = refl
all_bare (c ∷ cs) e = let parts = both (is_name_byte c) (list_all is_name_byte cs) e in rw (bare_byte c parts.0, all_bare cs parts.1) refl

pub name_within : (most : ℕ) (name : List ℕ) → is_name most name ≡ true → IsName most name
name_within most name e = grind (arith, both, nat_tests, all_bare)
