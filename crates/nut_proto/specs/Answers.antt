-- What a line of the server means to a client, by its first words (RFC 9271).
use Rattle.std.specs.Prelude.{ℕ, Bool, ◌&&◌, List, [], ◌∷◌, length, drop, nat_lt, Result, Ok, Err, codes, if◌then◌else◌}
use Rattle.std.specs.Str.{bytes_eq}
use Rattle.nut_words.specs.declared.words.WordFault.{WordFault}
use Rattle.nut_words.specs.Reader.{spelled}
use Rattle.nut_proto.specs.declared.answer.Answer.{Answer}
use Rattle.nut_proto.specs.declared.answer.Answer.TheVariants as answers
use Rattle.nut_proto.specs.declared.answer.AnswerFault.{AnswerFault}
use Rattle.nut_proto.specs.declared.answer.AnswerFault.TheVariants as faults
use Rattle.nut_proto.specs.Positions.{word_at}

-- Whether the word at place `index` is `word`. Words of an answer are compared byte for byte.
abbrev pub is_at : List (List ℕ) → ℕ → List ℕ → Bool
is_at words index word = bytes_eq (word_at words index) word

-- What the words mean: a success, with the words after `OK`; a refusal, with the word after `ERR`; the beginning or the
-- end of a list, with the words after `LIST`; or a row, with all words.
unfoldable pub answer_of : List (List ℕ) → Answer
answer_of words =
    if is_at words 0 (codes "OK") then answers.Ok (drop 1 words) else
    if is_at words 0 (codes "ERR") && nat_lt 1 (length words) then answers.Err (word_at words 1) else
    if is_at words 0 (codes "BEGIN") && is_at words 1 (codes "LIST") then answers.Begin (drop 2 words) else
    if is_at words 0 (codes "END") && is_at words 1 (codes "LIST") then answers.End (drop 2 words) else
    answers.Row words

-- The answer of these words, `Empty` if there are none, or `Unreadable` if the line doesn't read as words.
abbrev pub answer_for : Result (List (List ℕ)) WordFault → Result Answer AnswerFault
answer_for (Ok []) = Err faults.Empty
answer_for (Ok (word ∷ words)) = Ok (answer_of (word ∷ words))
answer_for (Err fault) = Err faults.Unreadable

-- The answer that a line is, by the words that it spells, or why it is none.
abbrev pub answer_in : List ℕ → Result Answer AnswerFault
answer_in line = answer_for (spelled line)
