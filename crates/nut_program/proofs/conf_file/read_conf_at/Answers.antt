use Rattle.nut_program.proofs.Unread.{no_line}
use Rattle.nut_program.proofs.conf_file.read_conf_at.Goals as goal

pub returns-in-Err-clause-fault : goal.returns-in-Err-clause-fault
returns-in-Err-clause-fault g c = λ name line kind remark is. no_line _ _ (c.unread.ensures name line kind remark) is
