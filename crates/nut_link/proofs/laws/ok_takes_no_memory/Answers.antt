use Rattle.nut_link.proofs.Matches as matches
use Rattle.nut_link.proofs.laws.ok_takes_no_memory.Goals as goal

pub returns : goal.returns
returns c = matches.ok_takes_no_memory
