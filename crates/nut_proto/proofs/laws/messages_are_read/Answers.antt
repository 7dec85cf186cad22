use Rattle.nut_proto.proofs.Spelling.{message_spelled}
use Rattle.nut_proto.proofs.RoundTrip.{requests_are_read, replies_are_read, lists_are_read, asks_are_read}
use Rattle.nut_proto.proofs.laws.messages_are_read.Goals as goal

pub returns : goal.returns
returns c = record {
  messages = message_spelled;
  requests = requests_are_read;
  replies = replies_are_read;
  lists = lists_are_read;
  asks = asks_are_read;
}
