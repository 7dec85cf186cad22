-- What words a line spells, computed from left to right, byte by byte.
--
-- This is a second form of the grammar in `Spelling`, one that can be computed. The law `spelled_is_meant` says that
-- `spelled` gives what `Spells` and `HasFault` say, both ways. Who believes `Spelling` needn't believe this file,
-- except `has_backslash`, `with_backslash` and `Gives`.
use Rattle.std.specs.Prelude.{◌≡◌, ℕ, ◌==◌, ◌||◌, ◌&&◌, nat_le, nat_lt, Bool, false, List, [], ◌∷◌, ◌++◌, length, Result, Ok, Err, if◌then◌else◌, slice_index}
use Rattle.std.specs.List.{list_any}
use Rattle.nut_words.specs.Bytes.{tab, carriage_return, blank, quote, hash, equals, backslash}
use Rattle.nut_words.specs.declared.words.WordFault.{WordFault}
use Rattle.nut_words.specs.declared.words.WordFault.TheVariants as faults
use Rattle.nut_words.specs.Kinds.{Kind}
use Rattle.nut_words.specs.Kinds as kinds
use Rattle.nut_words.specs.Lines.{LineText, Text, TooLong}
use Rattle.nut_words.specs.declared.limits.TheConstants.{WORDS_MAX}

-- the kind of a byte
abbrev pub kind : ℕ → Kind
kind c =
    if c == blank then kinds.Space else
    if c == tab || c == carriage_return then kinds.Gap else
    if c == quote then kinds.Quote else
    if c == backslash then kinds.Backslash else
    if c == hash then kinds.Hash else
    if c == equals then kinds.Equals else
    if nat_le 33 c && nat_le c 126 then kinds.Plain else kinds.Bad

-- the kind of the byte at a place of the line
abbrev pub kind_at : List ℕ → ℕ → Kind
kind_at line at = kind (slice_index line at)

-- The state of reading: between words; in a bare word or between quotes, or behind a backslash in either; right behind
-- a closing quote; in a comment. A state within a word holds the word's bytes so far. Each state holds the words
-- before.
pub data State : Type 0 where
  Between : List (List ℕ) → State
  Bare : List ℕ → List (List ℕ) → State
  BareEscape : List ℕ → List (List ℕ) → State
  Quoted : List ℕ → List (List ℕ) → State
  QuotedEscape : List ℕ → List (List ℕ) → State
  Closed : List (List ℕ) → State
  Comment : List (List ℕ) → State

infixl 10 ◌>>=◌
-- Applies the function to the result, and passes a fault on.
abbrev pub ◌>>=◌ : {A B : Type 0} → Result A WordFault → (A → Result B WordFault) → Result B WordFault
(Ok x) >>= f = f x
(Err e) >>= f = Err e

-- the state, if fewer than `most` words came before; else the fault `TooManyWords`
abbrev pub begun : ℕ → List (List ℕ) → State → Result State WordFault
begun most ws s = if nat_lt (length ws) most then Ok s else Err faults.TooManyWords

-- the state after a byte at which a word may begin
abbrev pub apart : ℕ → List (List ℕ) → Kind → ℕ → Result State WordFault
apart most ws kinds.Space c = Ok (Between ws)
apart most ws kinds.Gap c = Ok (Between ws)
apart most ws kinds.Quote c = begun most ws (Quoted [] ws)
apart most ws kinds.Backslash c = begun most ws (BareEscape [] ws)
apart most ws kinds.Hash c = Ok (Comment ws)
apart most ws kinds.Equals c = begun most ws (Between (ws ++ (equals ∷ []) ∷ []))
apart most ws kinds.Plain c = begun most ws (Bare (c ∷ []) ws)
apart most ws kinds.Bad c = Err faults.BadByte

-- the state after a byte of a bare word, or after the byte that ends it
abbrev pub in_bare : ℕ → List ℕ → List (List ℕ) → Kind → ℕ → Result State WordFault
in_bare most w ws kinds.Quote c = Err faults.QuoteInWord
in_bare most w ws kinds.Backslash c = Ok (BareEscape w ws)
in_bare most w ws kinds.Plain c = Ok (Bare (w ++ c ∷ []) ws)
in_bare most w ws k c = apart most (ws ++ w ∷ []) k c

-- the state after a byte between quotes
abbrev pub in_quotes : List ℕ → List (List ℕ) → Kind → ℕ → Result State WordFault
in_quotes w ws kinds.Gap c = Err faults.BadByte
in_quotes w ws kinds.Quote c = Ok (Closed (ws ++ w ∷ []))
in_quotes w ws kinds.Backslash c = Ok (QuotedEscape w ws)
in_quotes w ws kinds.Bad c = Err faults.BadByte
in_quotes w ws k c = Ok (Quoted (w ++ c ∷ []) ws)

-- the state `s`, or `BadByte` if the byte may not follow a backslash
abbrev pub escaped : Kind → State → Result State WordFault
escaped kinds.Gap s = Err faults.BadByte
escaped kinds.Bad s = Err faults.BadByte
escaped k s = Ok s

-- the state after a byte right behind a closing quote
abbrev pub behind_quote : ℕ → List (List ℕ) → Kind → ℕ → Result State WordFault
behind_quote most ws kinds.Quote c = Err faults.AfterQuote
behind_quote most ws kinds.Backslash c = Err faults.AfterQuote
behind_quote most ws kinds.Plain c = Err faults.AfterQuote
behind_quote most ws k c = apart most ws k c

-- the state after a byte of a comment
abbrev pub in_comment : List (List ℕ) → Kind → Result State WordFault
in_comment ws kinds.Bad = Err faults.BadByte
in_comment ws k = Ok (Comment ws)

-- the state after one byte more
abbrev pub step : ℕ → State → Kind → ℕ → Result State WordFault
step most (Between ws) k c = apart most ws k c
step most (Bare w ws) k c = in_bare most w ws k c
step most (BareEscape w ws) k c = escaped k (Bare (w ++ c ∷ []) ws)
step most (Quoted w ws) k c = in_quotes w ws k c
step most (QuotedEscape w ws) k c = escaped k (Quoted (w ++ c ∷ []) ws)
step most (Closed ws) k c = behind_quote most ws k c
step most (Comment ws) k c = in_comment ws k

-- the words at the end of the line
abbrev pub finish : State → Result (List (List ℕ)) WordFault
finish (Between ws) = Ok ws
finish (Bare w ws) = Ok (ws ++ w ∷ [])
finish (BareEscape w ws) = Err faults.LoneBackslash
finish (Quoted w ws) = Err faults.OpenQuote
finish (QuotedEscape w ws) = Err faults.LoneBackslash
finish (Closed ws) = Ok ws
finish (Comment ws) = Ok ws

-- the words of a line, at most `most`, when reading is in this state and these bytes are left
unfoldable pub read : ℕ → State → List ℕ → Result (List (List ℕ)) WordFault
read most s [] = finish s
read most s (c ∷ cs) = step most s (kind c) c >>= λ t. read most t cs

-- The words that a line spells, or its fault. The law `spelled_is_meant` says that this is what `Spells` and `HasFault`
-- say.
abbrev pub spelled : List ℕ → Result (List (List ℕ)) WordFault
spelled line = read WORDS_MAX (Between []) line

-- whether the line holds a backslash: only such a line allocates memory when its words are read
abbrev pub has_backslash : List ℕ → Bool
has_backslash line = list_any (λ c. c == backslash) line

-- whether a line of a stream holds a backslash; one that is too long counts as holding none
abbrev pub with_backslash : LineText → Bool
with_backslash (Text line) = has_backslash line
with_backslash TooLong = false

-- The call gives this answer, or it fails with `Memory`.
abbrev pub Gives : Result (List (List ℕ)) WordFault → Result (List (List ℕ)) WordFault → Type 0
Gives answer (Err faults.Memory) = Unit {0}
Gives answer result = answer ≡ result
