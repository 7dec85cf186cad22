use Rattle.nut_words.proofs.Answered.{same_fault, same_words}
use Rattle.nut_words.proofs.reader.spelled_is_meant.Goals as goal

pub returns : goal.returns
returns c = record { words = same_words; fault = same_fault }
