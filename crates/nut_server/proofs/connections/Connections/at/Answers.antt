use Rattle.std.proofs.Common.{arith}
use Rattle.nut_server.proofs.Entries.{as_many, entry_read, session_there}
use Rattle.nut_server.proofs.connections.Connections.at.Goals as goal

pub index-requires : goal.index-requires
index-requires c = omega (arith, as_many c.self.inside.slots c.self.inside.order.items c.args.self.now c.self.invariant.named c.self.view_is, c.self.inside.order.ok, c.requires)

pub index-requires-2 : goal.index-requires-2
index-requires-2 c = (entry_read c.self.inside c.args.self.now c.args.index c.index.result.now c.self.invariant c.self.view_is c.requires c.index.ensures).found

pub returns : goal.returns
returns c =
    let read = entry_read c.self.inside c.args.self.now c.args.index c.index.result.now c.self.invariant c.self.view_is c.requires c.index.ensures in
    session_there c.self.inside c.args.self.now c.args.index c.index.result.now c.index-2.result.now c.self.invariant c.self.view_is read c.index-2.ensures
