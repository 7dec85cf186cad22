use Rattle.nut_link.proofs.Bounded as bounded
use Rattle.nut_link.proofs.laws.bounds_stay.Goals as goal

pub returns : goal.returns
returns c = bounded.bounds_stay
