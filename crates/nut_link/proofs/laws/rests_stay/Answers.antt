use Rattle.nut_link.proofs.Feeding as feeding
use Rattle.nut_link.proofs.laws.rests_stay.Goals as goal

pub returns : goal.returns
returns c = feeding.rests_stay
