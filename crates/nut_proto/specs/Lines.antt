-- A message is a line of parts with a space between two.
use Rattle.std.specs.Prelude.{ℕ, ◌<◌, ◌^◌, List, [], ◌∷◌, ◌++◌, codes, decimal, map}
use Rattle.std.specs.Fmt.{signed_decimal}
use Rattle.std.specs.Int.Signed.{mag}
use Rattle.std.specs.List.{AllByRecursion, join_by}
use Rattle.nut_words.specs.Bytes.{blank, line_feed}
use Rattle.nut_words.specs.Quoting.{IsPrintable, word_text, quoted}
use Rattle.nut_proto.specs.declared.part.Part.{Part}
use Rattle.nut_proto.specs.declared.part.Part.TheVariants.{Word, Quoted, Number, QuotedNumber, StringOf}

-- the word that a part is read as
abbrev pub part_word : Part → List ℕ
part_word (Word word) = word
part_word (Quoted text) = text
part_word (Number n) = decimal n
part_word (QuotedNumber z) = signed_decimal z
part_word (StringOf n) = codes "STRING:" ++ decimal n

-- how a part is written: `Quoted` and `QuotedNumber` always in quotes, the others bare if they can be
abbrev pub part_text : Part → List ℕ
part_text (Word word) = word_text word
part_text (Quoted text) = quoted text
part_text (Number n) = word_text (decimal n)
part_text (QuotedNumber z) = quoted (signed_decimal z)
part_text (StringOf n) = word_text (codes "STRING:" ++ decimal n)

-- the words that a message spells
abbrev pub message_words : List Part → List (List ℕ)
message_words parts = map part_word parts

-- the parts with a space between two
abbrev pub message : List Part → List ℕ
message parts = join_by part_text (blank ∷ []) parts

-- a message and its line feed
unfoldable pub line : List Part → List ℕ
line parts = message parts ++ line_feed ∷ []

-- The bytes of the part are 0x20 to 0x7E, or its number is one of 32 bits.
abbrev pub IsWritable : Part → Type 0
IsWritable (Word word) = IsPrintable word
IsWritable (Quoted text) = IsPrintable text
IsWritable (Number n) = n < 2 ^ 32
IsWritable (QuotedNumber z) = mag z < 2 ^ 32
IsWritable (StringOf n) = n < 2 ^ 32

abbrev pub AreWritable : List Part → Type 0
AreWritable parts = AllByRecursion IsWritable parts
