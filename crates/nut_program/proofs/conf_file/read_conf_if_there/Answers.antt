use Rattle.nut_program.proofs.Unread.{no_line}
use Rattle.nut_program.proofs.conf_file.read_conf_if_there.Goals as goal

pub returns-clause-fault : goal.returns-clause-fault
returns-clause-fault g c = λ name line kind remark is. no_line _ _ (c.unread.ensures name line kind remark) is
