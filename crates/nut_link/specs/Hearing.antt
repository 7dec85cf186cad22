-- How a call hears a line or a piece: as `Link` defines, unless memory runs out.
use Rattle.std.specs.Prelude.{◌≡◌, ℕ, ◌+◌, ◌||◌, Bool, true, false, if◌then◌else◌, IsTrue, List, [], ◌∷◌, ◌++◌, length, None, is_some, Result, Ok, Err, ◌⊎◌}
use Rattle.nut_words.specs.Lines.{LineText, Text, TooLong, lines_after}
use Rattle.nut_words.specs.Reader.{has_backslash}
use Rattle.nut_proto.specs.Answers.{answer_in}
use Rattle.nut_proto.specs.declared.answer.Answer.{Answer}
use Rattle.nut_proto.specs.declared.answer.Answer.TheVariants as answers
use Rattle.nut_proto.specs.declared.answer.AnswerFault.{AnswerFault}
use Rattle.nut_link.specs.Exchange.{Exchange}
use Rattle.nut_link.specs.declared.fault.LinkFault.{LinkFault}
use Rattle.nut_link.specs.declared.fault.LinkFault.TheVariants.{Memory}
use Rattle.nut_link.specs.Matching.{is_numbered}
use Rattle.nut_link.specs.Link.{LinkValue, answer_by, failed, fed, heard, lines_heard}

-- whether words of the answer may have to be kept
abbrev pub keeps_words : Answer → Bool
keeps_words (answers.Ok words) = is_numbered words
keeps_words (answers.Err name) = true
keeps_words (answers.Begin words) = false
keeps_words (answers.End words) = false
keeps_words (answers.Row words) = true

abbrev pub keeps_read : Result Answer AnswerFault → Bool
keeps_read (Ok answer) = keeps_words answer
keeps_read (Err fault) = false

-- Whether a line may allocate: it isn't too long, and it has a backslash, or it reads as a row, as an error, or as an `OK`
-- with a number.
abbrev pub may_take_memory : LineText → Bool
may_take_memory (Text text) = has_backslash text || keeps_read (answer_in text)
may_take_memory TooLong = false

-- Memory ran out at this line, which may allocate.
abbrev pub LacksMemory : Exchange → LineText → Exchange → Type 0
LacksMemory before line after = (after ≡ failed Memory before) × IsTrue (may_take_memory line)

-- An exchange hears a line.
pub record Hears (before : Exchange) (line : LineText) (result : Result (Unit {0}) LinkFault) (after : Exchange) : Type 0 where
  pub answered : result ≡ answer_by after.fault
  pub stands : (after ≡ heard line before) ⊎ LacksMemory before line after

-- Memory ran out in a piece behind the first `done` of the lines that it completes: those were heard, and then the link
-- failed.
pub record RunsOut (lines : List LineText) (before : Exchange) (done : ℕ) (after : Exchange) : Type 0 where
  pub earlier : List LineText
  pub line : LineText
  pub later : List LineText
  pub parted : lines ≡ earlier ++ line ∷ later
  pub count : length earlier ≡ done
  pub going : (lines_heard earlier before).fault ≡ None
  pub stands : LacksMemory (lines_heard earlier before) line after

-- how many of these lines an exchange hears before the one at which it fails: all of them, if it fails at none
abbrev pub count_heard : List LineText → Exchange → ℕ
count_heard [] e = 0
count_heard (line ∷ lines) e = if is_some (heard line e).fault then 0 else count_heard lines (heard line e) + 1

-- A link is fed a piece. `done` is how many lines it heard before the one at which it failed or memory ran out.
pub record Feeds (before : LinkValue) (piece : List ℕ) (done : ℕ) (result : Result (Unit {0}) LinkFault) (after : LinkValue) : Type 0 where
  pub answered : result ≡ answer_by after.exchange.fault
  pub stands :
      ((after ≡ fed piece before) × (done ≡ count_heard (lines_after before.rest piece) before.exchange))
      ⊎ (RunsOut (lines_after before.rest piece) before.exchange done after.exchange × (after.rest ≡ Text []))
