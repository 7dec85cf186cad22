-- Bare words, and the first line of a piece.
use Rattle.std.proofs.Common.{◌≡◌, ℕ, zero, suc, ◌+◌, ◌<◌, ◌≤◌, Bool, true, List, [], ◌∷◌, ◌++◌, Ok, length, map, take, get_or, refl, sym, ap, subst, ◌∙◌, arith}
use Rattle.std.specs.Prelude.{◌==◌}
use Rattle.std.specs.List.{IsFirstAndRest, IsLastAndRest, list_all}
use Rattle.std.proofs.lemmas.Bool.{and_from, and_parts}
use Rattle.std.proofs.lemmas.Bool.Decides.{nat_tests}
use Rattle.std.proofs.lemmas.List.{append-nil, take_more}
use Rattle.std.proofs.lemmas.List.Folds.{list_all-append}
use Rattle.nut_words.specs.Cutter.{IsFirstLine}
use Rattle.nut_words.specs.Quoting.{IsPrintable, escaped, quoted, stands_bare, word_text}
use Rattle.nut_words.specs.Reader.{spelled}
use Rattle.nut_words.specs.Spelling.{Blank, Quoted, is_bare, is_printing, part_text, part_words}
use Rattle.nut_words.proofs.Answered.{same_words}
use Rattle.nut_words.proofs.LineLemmas.{joined_text}
use Rattle.nut_words.proofs.Written.{unescaped_text}
use Rattle.nut_words.proofs.WrittenLine.{lines_of_printable}
use Rattle.nut_words.proofs.WrittenSpells.{Writes, bare_part, bare_writes, item_of, quoted_writes}
use Rattle.nut_words.specs.declared.limits.TheConstants.{LINE_MAX}

-- one more byte of a bare word, or several
pub one_more_bare : (bytes : List ℕ) (len : ℕ) → len < length bytes → is_bare (get_or bytes len 0) ≡ true → list_all is_bare (take len bytes) ≡ true → list_all is_bare (take (len + 1) bytes) ≡ true
one_more_bare bytes len within bare before =
    rw (take_more bytes len 0 within, list_all-append is_bare (take len bytes) (get_or bytes len 0 ∷ [])) (and_from _ _ before (and_from _ _ bare refl))

next_bare : (bytes : List ℕ) (len next : ℕ) → len + 1 ≡ next → len < length bytes → is_bare (get_or bytes len 0) ≡ true → list_all is_bare (take len bytes) ≡ true → list_all is_bare (take next bytes) ≡ true
next_bare bytes len next is within bare before = subst (λ n. list_all is_bare (take n bytes) ≡ true) is (one_more_bare bytes len within bare before)

pub more_bare : (bytes : List ℕ) (len run : ℕ) → len + run ≤ length bytes → ((k : ℕ) → len ≤ k → k < len + run → is_bare (get_or bytes k 0) ≡ true)
    → list_all is_bare (take len bytes) ≡ true → list_all is_bare (take (len + run) bytes) ≡ true
more_bare bytes len zero within all before =
    let none : len ≡ len + 0 = omega arith in
    subst (λ n. list_all is_bare (take n bytes) ≡ true) none before
more_bare bytes len (suc run) within all before =
    next_bare bytes (len + run) (len + suc run) (omega arith) (omega arith) (all (len + run) (omega arith) (omega arith))
    (more_bare bytes len run (omega arith) (λ k from to. all k from (omega arith)) before)

-- a bare word as it is written
pub bare_text : (word : List ℕ) → stands_bare word ≡ true → word_text word ≡ word
bare_text word bare = rw bare refl

-- Bytes that pass a test which only printing bytes pass.
pub all_printable : (test : ℕ → Bool) → ((c : ℕ) → test c ≡ true → is_printing c ≡ true) → (text : List ℕ) → list_all test text ≡ true → IsPrintable text
all_printable test each [] all = tt
all_printable test each (c ∷ text) all =
    let both = and_parts (test c) (list_all test text) all in
    (each c both.0, all_printable test each text both.1)

pub bare_printable : (word : List ℕ) → stands_bare word ≡ true → IsPrintable word
bare_printable word bare = all_printable is_bare (λ c is. grind (arith, nat_tests)) word (and_parts _ (list_all is_bare word) bare).1

-- The printable bytes before the first line feed of a piece are its first line.
pub first_printable : (text after : List ℕ) → IsPrintable text → length text ≤ LINE_MAX → IsFirstLine text (text ++ 10 ∷ after) after
first_printable text after h fits = record {
  parted = refl;
  whole = lines_of_printable [] text h ∙ ap (λ line. line ∷ []) (joined_text text fits);
}

-- ---- what a line says that ends in a quoted text

-- The bytes of a quoted word, whose text is printable and stands there as it is.
pub quoted_as_it_is : (first last : ℕ) (bytes behind text : List ℕ) → IsFirstAndRest bytes first behind → IsLastAndRest behind last text → first ≡ 34 → last ≡ 34
    → list_all is_printing text ≡ true → list_all (λ c. length (escaped c) == 1) text ≡ true → (bytes ≡ quoted text) × IsPrintable text
quoted_as_it_is first last bytes behind text front end opens closes printing alone = (
  front.0 ∙ ap (λ c. c ∷ behind) opens
      ∙ ap (λ rest. 34 ∷ rest) (end.0 ∙ ap (λ c. text ++ c ∷ []) closes ∙ ap (λ t. t ++ 34 ∷ []) (sym (unescaped_text text alone))),
  all_printable is_printing (λ c is. is) text printing,
)

-- A line of two bare words and a quoted text, with a blank between two of them.
pub setting_spelled : (verb name text : List ℕ) → stands_bare verb ≡ true → stands_bare name ≡ true → IsPrintable text
    → spelled (verb ++ 32 ∷ (name ++ 32 ∷ quoted text)) ≡ Ok (verb ∷ name ∷ text ∷ [])
setting_spelled verb name text bare_verb bare_name shows =
    let first : Writes (bare_part verb) verb verb = bare_writes verb bare_verb in
    let second : Writes (bare_part name) name name = bare_writes name bare_name in
    let third : Writes (Quoted (map item_of text)) (quoted text) text = quoted_writes text shows in
    (same_words (verb ++ 32 ∷ (name ++ 32 ∷ quoted text)) (verb ∷ name ∷ text ∷ [])).1 (record {
      parts = bare_part verb ∷ Blank 32 ∷ bare_part name ∷ Blank 32 ∷ Quoted (map item_of text) ∷ [];
      layout = first.stands (Blank 32 ∷ bare_part name ∷ Blank 32 ∷ Quoted (map item_of text) ∷ []) tt
          (refl, second.stands (Blank 32 ∷ Quoted (map item_of text) ∷ []) tt (refl, third.stands [] tt tt));
      spelled = ap (λ l. l ++ 32 ∷ (name ++ 32 ∷ quoted text)) (sym first.written)
          ∙ ap (λ l. part_text (bare_part verb) ++ 32 ∷ (l ++ 32 ∷ quoted text)) (sym second.written)
          ∙ ap (λ l. part_text (bare_part verb) ++ 32 ∷ (part_text (bare_part name) ++ 32 ∷ l))
          (sym (append-nil (part_text (Quoted (map item_of text))) ∙ third.written));
      meant = ap (λ ws. ws ++ name ∷ text ∷ []) (sym first.meant)
          ∙ ap (λ ws. part_words (bare_part verb) ++ (ws ++ text ∷ [])) (sym second.meant)
          ∙ ap (λ ws. part_words (bare_part verb) ++ (part_words (bare_part name) ++ (ws ++ []))) (sym third.meant);
      count = omega arith;
    })
