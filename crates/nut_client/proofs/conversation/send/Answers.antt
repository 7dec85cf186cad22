use Rattle.std.proofs.Common.{length, ◌∙◌}
use Rattle.std.proofs.lemmas.Bool.{le-leb}
use Rattle.nut_client.proofs.Sendings.{sent_more}
use Rattle.nut_client.proofs.conversation.send.Goals as goal

pub loop-stream-preserved-in-Bytes : goal.loop-stream-preserved-in-Bytes
loop-stream-preserved-in-Bytes g c = record {
  sending = sent_more c.args.request.now _ _ _ _ _ c.in-Bytes.n c.waiting-in-loop-stream.result.now c.loop-stream.invariant.sending c.waiting-in-loop-stream.ensures.value (le-leb c.in-Bytes.n (length c.waiting-in-loop-stream.result.now) c.in-Bytes.ensures.took.0) c.in-Bytes.ensures.took.1 c.took.ensures.stands;
  remaining = c.in-Bytes.ensures.kept ∙ c.loop-stream.invariant.remaining;
}
