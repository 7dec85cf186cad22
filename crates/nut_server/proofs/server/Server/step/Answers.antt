use Rattle.std.proofs.Common.{ap, subst}
use Rattle.nut_server_spec.specs.Content.{Content}
use Rattle.nut_server_spec.specs.laws.Limits.{IsWithin}
use Rattle.nut_server.specs.declared.server.Server.TheInside.{Inside}
use Rattle.nut_server.proofs.Limited.{told_on}
use Rattle.nut_server.proofs.server.Server.step.Goals as goal

pub invariant_of-self : goal.invariant_of-self
invariant_of-self c =
    told_on _ _ _ _ c.step-answer.ensures.answered c.step-answer.ensures.content
    (subst (λ (s : Content). IsWithin s.configuration) (ap (λ (i : Inside). i.parts) c.self-inside.view_is) c.self-inside.invariant.limits)
    c.self.invariant
