use Rattle.nut_conf.proofs.PrintingWords.{text_printable}
use Rattle.nut_conf.proofs.text.Text.as_bytes.Goals as goal

pub returns-clause-printable : goal.returns-clause-printable
returns-clause-printable g c = rw c.as_slice.ensures.value (text_printable g.row.LEAST g.row.MOST c.args.self.now.bytes.items c.args.self.now.bounded)
