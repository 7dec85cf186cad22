use Rattle.nut_dummy.proofs.HeardLemmas.{told_lines_are_heard}
use Rattle.nut_dummy.proofs.laws.told_lines_are_heard.Goals as goal

pub returns : goal.returns
returns c = told_lines_are_heard
