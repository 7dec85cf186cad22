use Rattle.std.proofs.Common.{◌≡◌, ◌++◌, take, flat_map}
use Rattle.nut_server.specs.inside.Rows.{writable_text}
use Rattle.nut_server.proofs.text.put_writables.Given as goal

abbrev pub invariant-loop-variable : goal.invariant-loop-variable
invariant-loop-variable l = record {
  items : l.variable-items ≡ l.device.device.table.variables;
  text : l.out.items ≡ l.fn.out.items ++ flat_map (writable_text l.ups l.device.device) (take l.variable-index l.variable-items);
}
