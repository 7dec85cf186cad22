use Rattle.std.proofs.Common.{subst}
use Rattle.nut_server_spec.specs.laws.Limits.{IsWithin}
use Rattle.nut_server.proofs.Limited.{config_within}
use Rattle.nut_server.proofs.config.Config.is_within_limits.Goals as goal

pub returns : goal.returns
returns c = subst IsWithin c.self.view_is (config_within c.self.inside.ups c.self.inside.users c.self.inside.upsd c.self.inside.descriptions)
