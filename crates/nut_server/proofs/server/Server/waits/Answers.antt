use Rattle.std.proofs.Common.{◌≡◌, Some, length, sym, ap, subst, arith, ◌∙◌}
use Rattle.nut_server_spec.specs.Acceptance.{session_of, waiting_of}
use Rattle.nut_server_spec.specs.Content.{Content}
use Rattle.nut_server.specs.declared.server.Server.TheInside.{Inside}
use Rattle.nut_server.proofs.Limited.{waiting_few}
use Rattle.nut_server.proofs.NothingWaits.{nothing_waits}
use Rattle.nut_server.proofs.server.Server.waits.Goals as goal

pub returns-then-are_settled-clause-value : goal.returns-then-are_settled-clause-value
returns-then-are_settled-clause-value c =
    subst (λ (s : Content). 0 ≡ length (waiting_of c.args.c s.sessions)) (ap (λ (i : Inside). i.parts) c.self-inside.view_is ∙ c.self.view_is)
    (nothing_waits (session_of c.args.c c.self-inside.inside.0.0.connections) (c.are_settled.ensures c.if-are_settled.true c.args.c))

pub returns-in-Some-clause-few : goal.returns-in-Some-clause-few
returns-in-Some-clause-few c =
    let there : session_of c.args.c c.self.inside.parts.sessions ≡ Some c.in-Some.connection.now =
    subst (λ (s : Content). session_of c.args.c s.sessions ≡ Some c.in-Some.connection.now) (ap (λ (i : Inside). i.parts) c.self-inside.view_is) (sym c.in-Some.ensures) in
    omega (arith, c.waits.ensures, waiting_few c.self.inside.parts c.args.c c.in-Some.connection.now c.waits_are_bounded.ensures there c.self.invariant)
