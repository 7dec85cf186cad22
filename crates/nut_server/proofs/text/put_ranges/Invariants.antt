use Rattle.std.proofs.Common.{◌≡◌, ◌++◌, take, flat_map}
use Rattle.nut_proto.specs.declared.reply.Reply.TheVariants as replies
use Rattle.nut_proto.specs.Replies.{reply_line}
use Rattle.nut_server.proofs.text.put_ranges.Given as goal

abbrev pub invariant-loop-range : goal.invariant-loop-range
invariant-loop-range l = record {
  items : l.range-items ≡ l.variable.ranges;
  text : l.out.items ≡ l.fn.out.items ++ flat_map (λ r. reply_line (replies.Range l.ups l.name r.minimum r.maximum)) (take l.range-index l.range-items);
}
