use Rattle.std.proofs.Common.{◌≡◌, false, ap, subst, ◌∙◌}
use Rattle.nut_server_spec.specs.Acceptance.{leaves, session_of}
use Rattle.nut_server_spec.specs.Content.{Content}
use Rattle.nut_server.specs.declared.server.Server.TheInside.{Inside}
use Rattle.nut_server.proofs.NothingWaits.{none_leaves}
use Rattle.nut_server.proofs.server.Server.leaves.Goals as goal

pub returns-then-are_settled : goal.returns-then-are_settled
returns-then-are_settled c =
    subst (λ (s : Content). false ≡ leaves (session_of c.args.c s.sessions)) (ap (λ (i : Inside). i.parts) c.self-inside.view_is ∙ c.self.view_is)
    (none_leaves (session_of c.args.c c.self-inside.inside.0.0.connections) (c.are_settled.ensures c.if-are_settled.true c.args.c))
