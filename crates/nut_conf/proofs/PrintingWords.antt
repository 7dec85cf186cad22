-- The words that a line spells consist of printing bytes.
use Rattle.std.proofs.Common.{◌≡◌, ℕ, Bool, true, false, cond, ◌&&◌, ◌==◌, nat_le, nat_lt, List, [], ◌∷◌, length, map, Result, Ok, Err, refl, ap, ◌∙◌, subst, arith}
use Rattle.std.specs.List.{list_all, flat_map, AllByRecursion}
use Rattle.std.proofs.lemmas.Bool.Decides.{nat_tests}
use Rattle.std.proofs.lemmas.Bool.{and_from, and_parts}
use Rattle.nut_words.specs.Spelling.{is_printing, is_bare, is_inner, Item, Plain, Escaped, byte_of, IsItem, Part, Blank, Bare, Quoted, Equals, Comment, part_words, IsLayout}
use Rattle.nut_words.specs.declared.words.WordFault.{WordFault}
use Rattle.nut_words.specs.Reader.{spelled, read}
use Rattle.nut_words.proofs.Sound.{spells_of_read}
use Rattle.nut_words.specs.Quoting.{IsPrintable}
use Rattle.nut_conf.specs.Files.{words_of, readable}
use Rattle.nut_words.specs.Name.{is_name_byte, is_name}
use Rattle.nut_words.specs.declared.limits.TheConstants.{WORDS_MAX}
use Rattle.nut_words.proofs.PlainLemmas.{all_printable}
use Rattle.nut_conf.specs.Values.{is_text}
use Rattle.nut_conf.specs.declared.fault.FaultKind.TheVariants.{PastLimit}
use Rattle.nut_conf.specs.declared.limits.TheConstants.{FILE_LINE_MAX}

bare_printing : (c : ℕ) → is_bare c ≡ true → is_printing c ≡ true
bare_printing c h = grind (arith, nat_tests)

inner_printing : (c : ℕ) → is_inner c ≡ true → is_printing c ≡ true
inner_printing c h = (and_parts (is_printing c) _ h).0

-- The bytes of a word are printing, whichever bytes may stand in it without a backslash.
items_printing : (alone : ℕ → Bool) → ((c : ℕ) → alone c ≡ true → is_printing c ≡ true) → (items : List Item) → AllByRecursion (IsItem alone) items
    → list_all is_printing (map byte_of items) ≡ true
items_printing alone each [] h = refl
items_printing alone each (Plain c ∷ items) h = and_from _ _ (each c h.0) (items_printing alone each items h.1)
items_printing alone each (Escaped c ∷ items) h = and_from _ _ h.0 (items_printing alone each items h.1)

layout_printing : (parts : List Part) → IsLayout parts → list_all (list_all is_printing) (flat_map part_words parts) ≡ true
layout_printing [] h = refl
layout_printing (Blank c ∷ parts) h = layout_printing parts h.1
layout_printing (Bare first others ∷ parts) h = and_from _ _ (items_printing is_bare bare_printing (first ∷ others) h.0) (layout_printing parts h.2)
layout_printing (Quoted items ∷ parts) h = and_from _ _ (items_printing is_inner inner_printing items h.0) (layout_printing parts h.2)
layout_printing (Equals ∷ parts) h = layout_printing parts h
layout_printing (Comment text ∷ parts) h = ap (λ ps. list_all (list_all is_printing) (flat_map part_words ps)) h.1

pub printing : (line : List ℕ) (ws : List (List ℕ)) → spelled line ≡ Ok ws → list_all (list_all is_printing) ws ≡ true
printing line ws is =
    let s = spells_of_read WORDS_MAX line ws is in
    ap (list_all (list_all is_printing)) s.meant ∙ layout_printing s.parts s.layout

-- A line without bytes has no words.
pub words_of-empty : (line : List ℕ) → (length line == 0) ≡ true → words_of line ≡ Ok []
unfolding read
words_of-empty [] h = refl
words_of-empty (c ∷ cs) h = absurd (grind (arith, nat_tests))

-- The words of a line that isn't too long are printing.
pub printing_of : (line : List ℕ) (ws : List (List ℕ)) → words_of line ≡ Ok ws → list_all (list_all is_printing) ws ≡ true
printing_of line ws is = by_test (nat_lt FILE_LINE_MAX (length line)) is where
  by_words : (r : Result (List (List ℕ)) WordFault) → spelled line ≡ r → readable r ≡ Ok ws → list_all (list_all is_printing) ws ≡ true
  by_words (Ok vs) here same = let e : vs ≡ ws = cc in subst (λ (us : List (List ℕ)). list_all (list_all is_printing) us ≡ true) e (printing line vs here)
  by_words (Err f) here same = absurd (cc)

  by_test : (b : Bool) → cond b (Err PastLimit) (readable (spelled line)) ≡ Ok ws → list_all (list_all is_printing) ws ≡ true
  by_test true h = absurd (cc)
  by_test false h = by_words (spelled line) refl h

-- Printing bytes are printable.
pub printable : (w : List ℕ) → list_all is_printing w ≡ true → IsPrintable w
printable w h = all_printable is_printing (λ c is. is) w h

-- Names and texts are printable.
pub name_printable : (most : ℕ) (w : List ℕ) → is_name most w ≡ true → IsPrintable w
name_printable most w h = all_printable is_name_byte (λ c is. grind (arith, nat_tests)) w (and_parts (nat_le 1 (length w) && nat_le (length w) most) (list_all is_name_byte w) h).1

pub text_printable : (least most : ℕ) (w : List ℕ) → is_text least most w ≡ true → IsPrintable w
text_printable least most w h = printable w (and_parts (nat_le least (length w) && nat_le (length w) most) (list_all is_printing w) h).1
