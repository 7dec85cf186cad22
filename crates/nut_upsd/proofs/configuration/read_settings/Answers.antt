use Rattle.nut_upsd.proofs.Both.{if_both}
use Rattle.nut_upsd.proofs.configuration.read_settings.Goals as goal

pub returns : goal.returns
returns g c = if_both _ _ _ _ c.and.ensures c.read-read.ensures
