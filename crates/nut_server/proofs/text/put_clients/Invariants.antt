use Rattle.std.proofs.Common.{◌≡◌, ◌++◌, take, flat_map}
use Rattle.nut_server.specs.inside.Rows.{client_text}
use Rattle.nut_server.proofs.text.put_clients.Given as goal

abbrev pub invariant-loop-index : goal.invariant-loop-index
invariant-loop-index l = l.out.items ≡ l.fn.out.items ++ flat_map (client_text l.ups l.u) (take l.index l.connections)
