-- What the table answers to a line.
use Rattle.std.specs.Prelude.{ℕ, Option, Some, None}
use Rattle.nut_state.specs.declared.heard.Heard.{Heard as Answer}
use Rattle.nut_state.specs.declared.heard.Heard.TheVariants.{Heard, Tracked, Ignored}
use Rattle.nut_state.specs.Change.{Change, tracking}

-- How the driver says that a numbered request ended, if both numbers can be read.
abbrev pub told : Option ℕ → Option ℕ → Answer
told (Some number) (Some status) = Tracked number status
told number status = Heard

-- the answer to a line that asks for this change
abbrev pub answer_to : Change → Answer
answer_to (tracking number status) = told number status
answer_to other = Heard

-- the answer to a line: a line that asks for nothing is ignored
abbrev pub answer : Option Change → Answer
answer None = Ignored
answer (Some change) = answer_to change
