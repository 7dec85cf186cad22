use Rattle.std.proofs.Common.{◌≡◌, ◌++◌, take, flat_map}
use Rattle.nut_proto.specs.Replies.{reply_line}
use Rattle.nut_server_spec.specs.Answer.{var_row}
use Rattle.nut_server.proofs.text.put_variables.Given as goal

abbrev pub invariant-loop-variable : goal.invariant-loop-variable
invariant-loop-variable l = record {
  items : l.variable-items ≡ l.device.device.table.variables;
  text : l.out.items ≡ l.fn.out.items ++ flat_map (λ v. reply_line (var_row l.ups l.device.device v)) (take l.variable-index l.variable-items);
}
