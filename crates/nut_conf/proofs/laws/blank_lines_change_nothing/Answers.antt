use Rattle.nut_conf.proofs.BlankLines.{changes_nothing}
use Rattle.nut_conf.proofs.laws.blank_lines_change_nothing.Goals as goal

pub returns : goal.returns
returns c = λ fault. changes_nothing fault
