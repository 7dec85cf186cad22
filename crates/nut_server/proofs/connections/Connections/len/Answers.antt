use Rattle.std.proofs.Common.{arith}
use Rattle.nut_server.proofs.Entries.{as_many}
use Rattle.nut_server.proofs.connections.Connections.len.Goals as goal

pub returns-clause-length : goal.returns-clause-length
returns-clause-length c = omega (arith, as_many c.self.inside.slots c.self.inside.order.items c.args.self.now c.self.invariant.named c.self.view_is, c.self.inside.order.ok, c.len.ensures)
