use Rattle.nut_conf.proofs.FirstFaultLemmas.{first}
use Rattle.nut_conf.proofs.laws.first_fault.Goals as goal

pub returns : goal.returns
returns c = λ fault lines n k h. first fault lines n k h
