use Rattle.nut_server.proofs.Searching.{stands_by_key}
use Rattle.nut_server.proofs.connections.Connections.likely_place.Goals as goal

pub returns : goal.returns
returns c = stands_by_key c.self.inside c.args.self.now c.args.c _ c.as_slice-2.result.now c.in_ok-key.key.now c.self.invariant c.self.view_is c.as_slice-2.ensures.value c.in_ok-key.ensures.lookup.0 c.in_ok-key.ensures.lookup.1 c.if-key-c.false
