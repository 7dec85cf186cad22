use Rattle.nut_link.proofs.Matches as matches
use Rattle.nut_link.proofs.laws.replies_match.Goals as goal

pub returns : goal.returns
returns c = matches.replies_match
