-- The parts of a message spell their words.
use Rattle.std.proofs.Common.{◌≡◌, ℕ, ◌<◌, ◌≤◌, ◌^◌, true, List, [], ◌∷◌, ◌++◌, length, map, refl, sym, ap, ◌∙◌, arith, codes, decimal, Ok, ℤ, pos, negsuc, suc}
use Rattle.std.specs.Fmt.{signed_decimal}
use Rattle.std.specs.Int.Signed.{mag}
use Rattle.std.specs.List.{flat_map, AllByRecursion}
use Rattle.std.specs.Int.{IsInRange}
use Rattle.std.proofs.lemmas.List.{length-map}
use Rattle.std.proofs.lemmas.Bool.Decides.{nat_tests}
use Rattle.std.proofs.lemmas.Fmt.{digits_decimal}
use Rattle.std.proofs.lemmas.Str.Parse.{IsDigitsTest, numerals_by_value}
use Rattle.nut_words.specs.Spelling.{Spells, IsLayout, MayFollow, is_printing, part_words}
use Rattle.nut_words.specs.Spelling as spelling
use Rattle.nut_words.specs.Quoting.{IsPrintable}
use Rattle.nut_words.specs.Reader.{spelled}
use Rattle.nut_words.proofs.WrittenSpells.{Writes, part_of, item_of, part_writes, quoted_writes}
use Rattle.nut_words.proofs.Answered.{same_words}
use Rattle.nut_words.specs.declared.limits.TheConstants.{WORDS_MAX}
use Rattle.nut_proto.specs.declared.part.Part.{Part}
use Rattle.nut_proto.specs.declared.part.Part.TheVariants.{Word, Quoted, Number, QuotedNumber, StringOf}
use Rattle.nut_proto.specs.Lines.{part_text, part_word, IsWritable, AreWritable, message, message_words}

-- Digits are printable.
pub digits_test : IsDigitsTest (λ text. AllByRecursion (λ c. IsInRange 48 57 c) text)
digits_test = record { empty = tt; parts = λ c cs h. h; more = λ c cs a b. (a, b) }

digit_printable : (c : ℕ) → IsInRange 48 57 c → is_printing c ≡ true
digit_printable c h = grind (arith, nat_tests)

digits_printable : (text : List ℕ) → AllByRecursion (λ c. IsInRange 48 57 c) text → IsPrintable text
digits_printable [] h = tt
digits_printable (c ∷ cs) h = (digit_printable c h.0, digits_printable cs h.1)

pub decimal_printable : (n : ℕ) → n < 2 ^ 64 → IsPrintable (decimal n)
decimal_printable n h = digits_printable (decimal n) (digits_decimal (numerals_by_value (λ text. AllByRecursion (λ c. IsInRange 48 57 c) text) digits_test) n h)

signed_printable : (z : ℤ) → mag z < 2 ^ 32 → IsPrintable (signed_decimal z)
signed_printable (pos n) h = decimal_printable n (omega arith)
signed_printable (negsuc n) h = (refl, decimal_printable (suc n) (omega arith))

limit_printable : (n : ℕ) → n < 2 ^ 32 → IsPrintable (codes "STRING:" ++ decimal n)
limit_printable n h = (refl, (refl, (refl, (refl, (refl, (refl, (refl, decimal_printable n (omega arith))))))))

-- the part of a line that a part of a message is written as
abbrev spelling_of : Part → spelling.Part
spelling_of (Word word) = part_of word
spelling_of (Quoted text) = spelling.Quoted (map item_of text)
spelling_of (Number n) = part_of (decimal n)
spelling_of (QuotedNumber z) = spelling.Quoted (map item_of (signed_decimal z))
spelling_of (StringOf n) = part_of (codes "STRING:" ++ decimal n)

writes : (part : Part) → IsWritable part → Writes (spelling_of part) (part_text part) (part_word part)
writes (Word word) h = part_writes word h
writes (Quoted text) h = quoted_writes text h
writes (Number n) h = part_writes (decimal n) (decimal_printable n (omega arith))
writes (QuotedNumber z) h = quoted_writes (signed_decimal z) (signed_printable z h)
writes (StringOf n) h = part_writes (codes "STRING:" ++ decimal n) (limit_printable n h)

-- the parts with a space before each
abbrev behind : List Part → List spelling.Part
behind [] = []
behind (part ∷ parts) = spelling.Blank 32 ∷ spelling_of part ∷ behind parts

behind_layout : (parts : List Part) → AreWritable parts → IsLayout (behind parts) × MayFollow (behind parts)
behind_layout [] h = (tt, tt)
behind_layout (part ∷ parts) h =
    let others : IsLayout (behind parts) × MayFollow (behind parts) = behind_layout parts h.1 in
    ((refl, (writes part h.0).stands (behind parts) others.1 others.0), tt)

behind_text : (parts : List Part) → AreWritable parts → flat_map (λ part. 32 ∷ part_text part) parts ≡ flat_map spelling.part_text (behind parts)
behind_text [] h = refl
behind_text (part ∷ parts) h =
    ap (λ text. 32 ∷ (text ++ flat_map (λ part. 32 ∷ part_text part) parts)) (sym (writes part h.0).written)
    ∙ ap (λ text. 32 ∷ (spelling.part_text (spelling_of part) ++ text)) (behind_text parts h.1)

behind_words : (parts : List Part) → AreWritable parts → message_words parts ≡ flat_map part_words (behind parts)
behind_words [] h = refl
behind_words (part ∷ parts) h =
    ap (λ words. part_word part ∷ words) (behind_words parts h.1)
    ∙ ap (λ words. words ++ flat_map part_words (behind parts)) (sym (writes part h.0).meant)

message_spells : (parts : List Part) → AreWritable parts → length parts ≤ WORDS_MAX → Spells (message parts) (message_words parts)
message_spells [] h fits = record { parts = []; layout = tt; spelled = refl; meant = refl; count = omega arith }
message_spells (part ∷ parts) h fits =
    let first : Writes (spelling_of part) (part_text part) (part_word part) = writes part h.0 in
    let others : IsLayout (behind parts) × MayFollow (behind parts) = behind_layout parts h.1 in
    record {
      parts = spelling_of part ∷ behind parts;
      layout = first.stands (behind parts) others.1 others.0;
      spelled = ap (λ text. text ++ flat_map (λ part. 32 ∷ part_text part) parts) (sym first.written)
          ∙ ap (λ text. spelling.part_text (spelling_of part) ++ text) (behind_text parts h.1);
      meant = ap (λ words. part_word part ∷ words) (behind_words parts h.1)
          ∙ ap (λ words. words ++ flat_map part_words (behind parts)) (sym first.meant);
      count = omega (arith, fits, length-map (part ∷ parts) part_word);
    }

pub message_spelled : (parts : List Part) → AreWritable parts → length parts ≤ WORDS_MAX → spelled (message parts) ≡ Ok (message_words parts)
message_spelled parts h fits = (same_words (message parts) (message_words parts)).1 (message_spells parts h fits)
