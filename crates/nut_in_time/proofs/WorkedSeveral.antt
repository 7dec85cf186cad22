-- The worked room with two UPSes.
use Rattle.std.proofs.Common.{ℕ, inl, inr, true, false, refl, arith}
use Rattle.std.specs.Fmt.{digits}
use Rattle.nut_words.specs.Reader.{read}
use Rattle.nut_state.specs.Sorted.{named, put}
use Rattle.nut_state.specs.Change.{asked, heard}
use Rattle.nut_state.specs.Step.{accepts, changed, after, applied}
use Rattle.nut_state.specs.Verb.{verb_of}
use Rattle.nut_proto.specs.Answers.{answer_of}
use Rattle.nut_proto.specs.DriverAsks.{ask_line}
use Rattle.nut_proto.specs.Forms.{meaning}
use Rattle.nut_proto.specs.Keywords.{command_of}
use Rattle.nut_proto.specs.Lines.{line}
use Rattle.nut_proto.specs.Refusals.{refusal_name}
use Rattle.nut_proto.specs.Replies.{reply_line}
use Rattle.nut_proto.specs.Requests.{request_line}
use Rattle.nut_server_spec.specs.Answer.{text_of}
use Rattle.nut_monitor_spec.specs.Trace.{entry_of}
use Rattle.nut_in_time.specs.Room.{Follows}
use Rattle.nut_in_time.specs.examples.PaceExamples.{only_first}
use Rattle.nut_in_time.specs.examples.SeveralExamples.{SeveralExamples, both, leaves_early, leaves_in_time, numbers, one_is_low, unequal}
use Rattle.nut_in_time.proofs.Worked.{spoken, spoken-too}
use Rattle.nut_in_time.proofs.RoomTesting.{RoomHolds, room-holds}

follows : (host_sync : ℕ) → Follows (both host_sync) 0 1
follows host_sync = record { one = 0; there = omega arith; passes = refl; short = omega arith }

early : RoomHolds (both 6) unequal 1 (λ m. 0) (λ m. m) only_first numbers 0 one_is_low leaves_early
unfolding digits read named put asked heard accepts changed after applied verb_of ask_line meaning command_of line refusal_name reply_line request_line text_of answer_of entry_of
early = room-holds _ _ _ _ _ _ _ _ _ _ (record {
  needs = record { one = 0; there = omega arith; passes = refl; short = omega arith };
  machines = ((refl, ((refl, inr (inr (inl (refl, refl)))), ((refl, inr (inr (inl (refl, refl)))), tt))), ((refl, ((refl, inr (inl (refl, refl))), tt)), tt));
  upses = ((refl, refl, inr (inl (refl, refl))), ((refl, refl, inr (inl (refl, refl))), tt));
  not_begun = refl;
})

late : RoomHolds (both 7) unequal 1 (λ m. 0) (λ m. m) only_first numbers 0 one_is_low leaves_in_time
unfolding digits read named put asked heard accepts changed after applied verb_of ask_line meaning command_of line refusal_name reply_line request_line text_of answer_of entry_of
late = room-holds _ _ _ _ _ _ _ _ _ _ (record {
  needs = record { one = 0; there = omega arith; passes = refl; short = omega arith };
  machines = ((refl, ((refl, inr (inr (inl (refl, refl)))), ((refl, inr (inr (inl (refl, refl)))), tt))), ((refl, ((refl, inr (inl (refl, refl))), tt)), tt));
  upses = ((refl, refl, inr (inl (refl, refl))), ((refl, refl, inr (inl (refl, refl))), tt));
  not_begun = refl;
})

pub several-examples : SeveralExamples
unfolding digits read named put asked heard accepts changed after applied verb_of ask_line meaning command_of line refusal_name reply_line request_line text_of answer_of entry_of
several-examples = record {
  setups = (((spoken true, (spoken-too true, tt)), ((spoken-too false, tt), tt)), ((spoken true, (spoken-too true, tt)), ((spoken-too false, tt), tt)));
  rooms = (early.room, late.room);
  following = (follows 6, follows 7);
  ready = (early.ready, late.ready);
  stopping_early = early.stopping;
  stopping = late.stopping;
  accepted_by = refl;
  begun_at = refl;
  first_forced = refl;
  not_yet_forced = refl;
  at_that_time = refl;
  needed = refl;
  goes_early = refl;
  still_up = refl;
  goes_in_time = refl;
  is_down = refl;
}
