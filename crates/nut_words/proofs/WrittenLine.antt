-- What is written is printable, so a written line is one line.
use Rattle.std.proofs.Common.{◌≡◌, ℕ, true, eqb, List, [], ◌∷◌, ◌++◌, refl, arith}
use Rattle.std.specs.Prelude.{◌==◌, ◌||◌}
use Rattle.std.specs.List.{flat_map, AllByRecursion}
use Rattle.std.proofs.lemmas.Bool.Decides.{nat_tests}
use Rattle.std.proofs.lemmas.Bool.{cond_both}
use Rattle.nut_words.specs.Lines.{Text, as_line, joined, lines, parts, rest}
use Rattle.nut_words.specs.Spelling.{is_printing}
use Rattle.nut_words.specs.Quoting.{IsPrintable, escaped, line_text, quoted, stands_bare, word_text}
use Rattle.nut_words.proofs.LineLemmas.{goes_on, lines_of_line, rest_of_line}

pub all-append : (xs ys : List ℕ) → IsPrintable xs → IsPrintable ys → IsPrintable (xs ++ ys)
all-append [] ys h k = k
all-append (x ∷ xs) ys h k = (h.0, all-append xs ys h.1 k)

escaped_printable : (c : ℕ) → is_printing c ≡ true → IsPrintable (escaped c)
escaped_printable c p = cond_both (c == 34 || c == 92 || c == 35) (92 ∷ c ∷ []) (c ∷ []) IsPrintable (λ _. (refl, (p, tt))) (λ _. (p, tt))

items_printable : (text : List ℕ) → IsPrintable text → IsPrintable (flat_map escaped text)
items_printable [] h = tt
items_printable (c ∷ cs) h = all-append (escaped c) (flat_map escaped cs) (escaped_printable c h.0) (items_printable cs h.1)

pub quoted_printable : (text : List ℕ) → IsPrintable text → IsPrintable (quoted text)
quoted_printable text h = (refl, all-append (flat_map escaped text) (34 ∷ []) (items_printable text h) (refl, tt))

pub word_printable : (word : List ℕ) → IsPrintable word → IsPrintable (word_text word)
word_printable word h = cond_both (stands_bare word) word (quoted word) IsPrintable (λ _. h) (λ _. quoted_printable word h)

pub line_printable : (words : List (List ℕ)) → AllByRecursion IsPrintable words → IsPrintable (line_text words)
line_printable [] h = tt
line_printable (w ∷ []) h = word_printable w h.0
line_printable (w ∷ v ∷ ws) h = all-append (word_text w) (32 ∷ line_text (v ∷ ws)) (word_printable w h.0) (refl, line_printable (v ∷ ws) h.1)

no_line_feed : (c : ℕ) → is_printing c ≡ true → eqb c 10 ≡ true → ⊥
no_line_feed c p is = grind (arith, nat_tests)

pub printable_part : (text : List ℕ) → IsPrintable text → parts text ≡ text ∷ []
printable_part [] h = refl
printable_part (c ∷ cs) h = goes_on (eqb c 10) c cs (parts cs) (no_line_feed c h.0) (printable_part cs h.1)

-- A printable text and a line feed end the line that was unfinished.
pub lines_of_printable : (b text : List ℕ) → IsPrintable text → lines (b ++ (text ++ 10 ∷ [])) ≡ lines b ++ joined (rest b) text ∷ []
lines_of_printable b text h = lines_of_line b text (printable_part text h)

pub rest_of_printable : (b text : List ℕ) → IsPrintable text → rest (b ++ (text ++ 10 ∷ [])) ≡ Text []
rest_of_printable b text h = rest_of_line b text (printable_part text h)

pub one_written_line : (words : List (List ℕ)) → AllByRecursion IsPrintable words → lines (line_text words ++ 10 ∷ []) ≡ as_line (line_text words) ∷ []
one_written_line words h = lines_of_printable [] (line_text words) (line_printable words h)
