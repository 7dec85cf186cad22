use Rattle.nut_link.proofs.Feeding as feeding
use Rattle.nut_link.proofs.laws.cuts_do_not_matter.Goals as goal

pub returns : goal.returns
returns c = feeding.cuts_do_not_matter
