use Rattle.std.proofs.Common.{ap}
use Rattle.nut_server_spec.specs.Acceptance.{close_refusal}
use Rattle.nut_server.proofs.Places.{found_session}
use Rattle.nut_server.proofs.Arrives.{orderly_without}
use Rattle.nut_server.proofs.server.Parts.close.Goals as goal

pub invariant_of-self : goal.invariant_of-self
invariant_of-self c = orderly_without c.args.c c.self.inside c.remove.new.self c.remove.ensures c.self.invariant

pub returns-clause-answered : goal.returns-clause-answered
returns-clause-answered c =
    let found = found_session c.args.c c.self.inside.connections c.in-Some.field-0 c.in-Some.ensures.some in
    rw (← c.self.view_is) (ap close_refusal found.1)
