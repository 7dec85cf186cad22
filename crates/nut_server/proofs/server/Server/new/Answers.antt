use Rattle.std.proofs.Common.{[], refl, subst, sym}
use Rattle.nut_server.specs.inside.Server.{IsTold}
use Rattle.nut_server.proofs.server.Server.new.Goals as goal

pub invariant_of-result : goal.invariant_of-result
invariant_of-result c = subst IsTold (sym c.in_ok-parts.ensures) (record { first = c.args.config; history = []; tells = (tt, refl); within = c.is_within_limits.ensures })
