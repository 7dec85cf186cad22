use Rattle.std.proofs.Common.{ap, subst, ◌∙◌}
use Rattle.nut_server_spec.specs.Content.{Content}
use Rattle.nut_server_spec.specs.laws.Limits.{IsWithin}
use Rattle.nut_server.specs.declared.server.Server.TheInside.{Inside}
use Rattle.nut_server.proofs.server.Server.config.Goals as goal

pub returns-clause-limits : goal.returns-clause-limits
returns-clause-limits c =
    subst (λ (s : Content). IsWithin s.configuration) (ap (λ (i : Inside). i.parts) c.self-inside.view_is ∙ c.self.view_is) c.self-inside.invariant.limits
