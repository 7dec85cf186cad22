use Rattle.std.proofs.Common.{arith}
use Rattle.std.proofs.lemmas.Grind.{common_steps}
use Rattle.nut_client.proofs.Hearings.{fewer_left, hears_fault, hears_ok, hears_too_long, is_part, never_lost, part_read, part_reads}
use Rattle.nut_client.proofs.conversation.hear.Goals as goal

pub returns-clause-hears : goal.returns-clause-hears
returns-clause-hears g c = record {
  part = c.line_part-is_ended.result.0.now;
  read = part_read c.fill.new.self c.line_part-is_ended.result.0.now c.take.new.self _ _ c.fill.ensures.same c.line_part-is_ended.ensures.part c.take.ensures;
  broken = is_part c.line_part-is_ended.result.1 c.line_part-is_ended.result.0.now c.line_part-is_ended.ensures.ended;
  reads = part_reads c.args.unread.now c.fill.new.self c.line_part-is_ended.result.0.now c.take.new.self c.line_part-is_ended.ensures.part c.take.ensures c.fill.ensures.reads;
  taken = c.fill.ensures.taken;
  some = c.line_part-is_ended.ensures.some (c.fill.ensures.some c.if-not-fill.false);
  lost = tt;
  came = hears_ok c.args.link.now c.feed-fed.new.self c.answer.new.self c.line_part-is_ended.result.0.now c.line_part-is_ended.result.1 c.args.length.now c.length_after.result _ c.feed-fed.ensures.feeds.0 c.feed-fed.result c.answer.result
      c.requires c.line_part-is_ended.ensures.ended c.length_after.ensures.ended c.length_after.ensures.unended (omega arith) (omega (arith, c.if-length-gt-LINE_MAX.false))
      c.feed-fed.ensures.feeds.1 c.in_default.is c.answer.ensures.answer c.answer.ensures.stands;
}

pub returns-then-not-fill-clause-hears : goal.returns-then-not-fill-clause-hears
returns-then-not-fill-clause-hears g c = grind (arith, common_steps)

pub returns-in-Err-clause-hears : goal.returns-in-Err-clause-hears
returns-in-Err-clause-hears g c = record {
  part = c.line_part-is_ended.result.0.now;
  read = part_read c.fill.new.self c.line_part-is_ended.result.0.now c.take.new.self _ _ c.fill.ensures.same c.line_part-is_ended.ensures.part c.take.ensures;
  broken = is_part c.line_part-is_ended.result.1 c.line_part-is_ended.result.0.now c.line_part-is_ended.ensures.ended;
  reads = part_reads c.args.unread.now c.fill.new.self c.line_part-is_ended.result.0.now c.take.new.self c.line_part-is_ended.ensures.part c.take.ensures c.fill.ensures.reads;
  taken = c.fill.ensures.taken;
  some = tt;
  lost = λ is. absurd (never_lost c.in-Err.fault c.from.result c.from.ensures is);
  came = hears_fault c.args.link.now c.feed-fed.new.self c.line_part-is_ended.result.0.now c.args.length.now c.feed-fed.ensures.feeds.0 c.feed-fed.result c.in-Err.fault c.from.result
      c.feed-fed.ensures.feeds.1 c.in-Err.is c.from.ensures;
}

pub returns-then-length-gt-LINE_MAX-clause-hears : goal.returns-then-length-gt-LINE_MAX-clause-hears
returns-then-length-gt-LINE_MAX-clause-hears g c = record {
  part = c.line_part-is_ended.result.0.now;
  read = part_read c.fill.new.self c.line_part-is_ended.result.0.now c.take.new.self _ _ c.fill.ensures.same c.line_part-is_ended.ensures.part c.take.ensures;
  broken = is_part c.line_part-is_ended.result.1 c.line_part-is_ended.result.0.now c.line_part-is_ended.ensures.ended;
  reads = part_reads c.args.unread.now c.fill.new.self c.line_part-is_ended.result.0.now c.take.new.self c.line_part-is_ended.ensures.part c.take.ensures c.fill.ensures.reads;
  taken = c.fill.ensures.taken;
  some = tt;
  lost = λ is. absurd (cc);
  came = hears_too_long c.args.link.now c.feed-fed.new.self c.line_part-is_ended.result.0.now c.line_part-is_ended.result.1 c.args.length.now c.length_after.result _
      c.requires.short c.line_part-is_ended.ensures.ended c.length_after.ensures.ended c.length_after.ensures.unended (omega (arith, c.if-length-gt-LINE_MAX.true));
}

pub returns-clause-lowers : goal.returns-clause-lowers
returns-clause-lowers g c =
    fewer_left _ _ c.args.unread.now c.fill.new.self c.line_part-is_ended.result.0.now c.take.new.self (c.fill.ensures.lowers c.if-not-fill.false) c.line_part-is_ended.ensures.part c.take.ensures (c.line_part-is_ended.ensures.some (c.fill.ensures.some c.if-not-fill.false))
