-- For private functions, nothing here has to be believed: the unfinished line that the fields of a line cutter
-- represent.
use Rattle.std.specs.Prelude.{ℕ, List, []}
use Rattle.nut_words.specs.Lines.{LineText, Text, TooLong}
use Rattle.nut_words.specs.declared.cutter.LineCutter.TheInside.{Inside}
use Rattle.nut_words.specs.declared.cutter.LineStage.{LineStage}
use Rattle.nut_words.specs.declared.cutter.LineStage.TheVariants as stages

-- the unfinished line, from the stage and the kept bytes
abbrev pub rest_at : LineStage → List ℕ → LineText
rest_at stages.Growing kept = Text kept
rest_at stages.Overlong kept = TooLong
rest_at stages.HandedOut kept = Text []

-- the unfinished line of the cutter with these fields
abbrev pub rest_inside : Inside → LineText
rest_inside c = rest_at c.stage c.kept.items
