-- The worked rooms.
use Rattle.std.proofs.Common.{ℕ, inl, inr, true, false, refl, arith}
use Rattle.std.specs.Fmt.{digits}
use Rattle.nut_words.specs.Reader.{read}
use Rattle.nut_state.specs.Sorted.{named, put}
use Rattle.nut_state.specs.Change.{asked, heard}
use Rattle.nut_state.specs.Step.{accepts, changed, after, applied}
use Rattle.nut_state.specs.Verb.{verb_of}
use Rattle.nut_proto.specs.Answers.{answer_of}
use Rattle.nut_proto.specs.DriverAsks.{ask_line}
use Rattle.nut_proto.specs.Forms.{meaning}
use Rattle.nut_proto.specs.Keywords.{command_of}
use Rattle.nut_proto.specs.Lines.{line}
use Rattle.nut_proto.specs.Refusals.{refusal_name}
use Rattle.nut_proto.specs.Replies.{reply_line}
use Rattle.nut_proto.specs.Requests.{request_line}
use Rattle.nut_server_spec.specs.Answer.{text_of}
use Rattle.nut_monitor_spec.specs.Trace.{entry_of}
use Rattle.nut_in_time.specs.Room.{Follows}
use Rattle.nut_in_time.specs.examples.RoomExamples.{RoomExamples, at_once, room, low, too_early, over}
use Rattle.nut_in_time.proofs.Worked.{spoken}
use Rattle.nut_in_time.proofs.RoomTesting.{RoomHolds, room-holds}
use Rattle.nut_in_time.specs.examples.Examples.{all}

follows : (host_sync : ℕ) → Follows (room host_sync) 0 1
follows host_sync = record { one = 0; there = omega arith; passes = refl; short = omega arith }

early : RoomHolds (room 1) (λ m. at_once) 1 (λ m. m) (λ m. 0) all (λ i. 0) 0 low too_early
unfolding digits read named put asked heard accepts changed after applied verb_of ask_line meaning command_of line refusal_name reply_line request_line text_of answer_of entry_of
early = room-holds _ _ _ _ _ _ _ _ _ _ (record {
  needs = record { one = 0; there = omega arith; passes = refl; short = omega arith };
  machines = ((refl, ((refl, inr (inr (inl (refl, refl)))), tt)), ((refl, ((refl, inr (inl (refl, refl))), tt)), tt));
  upses = ((refl, refl, inr (inl (refl, refl))), tt);
  not_begun = refl;
})

later : RoomHolds (room 2) (λ m. at_once) 1 (λ m. m) (λ m. 0) all (λ i. 0) 0 low over
unfolding digits read named put asked heard accepts changed after applied verb_of ask_line meaning command_of line refusal_name reply_line request_line text_of answer_of entry_of
later = room-holds _ _ _ _ _ _ _ _ _ _ (record {
  needs = record { one = 0; there = omega arith; passes = refl; short = omega arith };
  machines = ((refl, ((refl, inr (inr (inl (refl, refl)))), tt)), ((refl, ((refl, inr (inl (refl, refl))), tt)), tt));
  upses = ((refl, refl, inr (inl (refl, refl))), tt);
  not_begun = refl;
})

pub room-examples : RoomExamples
unfolding digits read named put asked heard accepts changed after applied verb_of ask_line meaning command_of line refusal_name reply_line request_line text_of answer_of entry_of
room-examples = record {
  setups = (((spoken true, tt), ((spoken false, tt), tt)), ((spoken true, tt), ((spoken false, tt), tt)));
  rooms = (early.room, later.room);
  following = (follows 1, follows 2);
  ready = (early.ready, later.ready);
  stopping_early = early.stopping;
  stopping = later.stopping;
  needed = refl;
  goes_early = refl;
  still_up = refl;
  goes_in_time = refl;
  is_down = refl;
  forced_by = refl;
  not_yet_forced = refl;
  at_that_time = refl;
  other_by = refl;
  other_started = refl;
  other_up = refl;
  other_at = refl;
  primary_by = refl;
  primary_up = refl;
  primary_at = refl;
  all_down = refl;
}
