use Rattle.nut_conf.proofs.PrintingWords.{name_printable}
use Rattle.nut_conf.proofs.text.Name.as_bytes.Goals as goal

pub returns-clause-printable : goal.returns-clause-printable
returns-clause-printable g c = rw c.as_slice.ensures.value (name_printable g.row.MOST c.args.self.now.bytes.items c.args.self.now.named)
