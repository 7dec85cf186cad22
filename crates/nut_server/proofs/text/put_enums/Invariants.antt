use Rattle.std.proofs.Common.{◌≡◌, ◌++◌, take, flat_map}
use Rattle.nut_proto.specs.declared.reply.Reply.TheVariants as replies
use Rattle.nut_proto.specs.Replies.{reply_line}
use Rattle.nut_server.proofs.text.put_enums.Given as goal

abbrev pub invariant-loop-value : goal.invariant-loop-value
invariant-loop-value l = record {
  items : l.value-items ≡ l.variable.enums;
  text : l.out.items ≡ l.fn.out.items ++ flat_map (λ x. reply_line (replies.Enum l.ups l.name x)) (take l.value-index l.value-items);
}
