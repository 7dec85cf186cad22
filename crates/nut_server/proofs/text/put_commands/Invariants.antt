use Rattle.std.proofs.Common.{◌≡◌, ◌++◌, take, flat_map}
use Rattle.nut_proto.specs.declared.reply.Reply.TheVariants as replies
use Rattle.nut_proto.specs.Replies.{reply_line}
use Rattle.nut_server.proofs.text.put_commands.Given as goal

abbrev pub invariant-loop-command : goal.invariant-loop-command
invariant-loop-command l = record {
  items : l.command-items ≡ l.device.device.table.commands;
  text : l.out.items ≡ l.fn.out.items ++ flat_map (λ k. reply_line (replies.Cmd l.ups k)) (take l.command-index l.command-items);
}
