use Rattle.clap.proofs.WalkLemmas.{both}
use Rattle.nut_client.proofs.command_line.parse.Goals as goal

pub returns : goal.returns
returns g c = λ simple. (c.in_ok-matches.ensures.kinds simple, (c.in_ok-matches.ensures.matches (both _ _ simple).0).0)
