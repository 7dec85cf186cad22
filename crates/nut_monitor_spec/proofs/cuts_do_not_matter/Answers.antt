use Rattle.nut_monitor_spec.proofs.Cuts.{cut-law}
use Rattle.nut_monitor_spec.proofs.cuts_do_not_matter.Goals as goal

pub returns : goal.returns
returns c = cut-law
