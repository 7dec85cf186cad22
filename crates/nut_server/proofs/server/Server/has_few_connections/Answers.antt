use Rattle.std.proofs.Common.{ap, subst, arith, ◌∙◌}
use Rattle.nut_conf.specs.declared.limits.TheConstants.{CONNECTIONS_MAX}
use Rattle.nut_server_spec.specs.laws.Laws.{HasFewConnections}
use Rattle.nut_server.specs.declared.server.Server.TheInside.{Inside}
use Rattle.nut_server.proofs.Arrives.{numbers-length}
use Rattle.nut_server.proofs.server.Server.has_few_connections.Goals as goal

pub returns : goal.returns
returns c =
    let parts = c.self-inside.inside.0.0 in
    subst (HasFewConnections CONNECTIONS_MAX) (ap (λ (i : Inside). i.parts) c.self-inside.view_is ∙ c.self.view_is) (record {
      few = omega (arith, numbers-length parts.connections, c.self-inside.invariant.within);
      given = c.self-inside.invariant.few;
      each = c.self-inside.invariant.up_to;
    })
