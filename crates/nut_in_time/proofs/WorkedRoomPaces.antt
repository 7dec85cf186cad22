-- The worked rooms whose machines keep different paces.
use Rattle.std.proofs.Common.{◌≡◌, ℕ, ◌<◌, inl, inr, true, false, refl, arith, Some}
use Rattle.std.specs.Fmt.{digits}
use Rattle.nut_words.specs.Reader.{read}
use Rattle.nut_state.specs.Sorted.{named, put}
use Rattle.nut_state.specs.Change.{asked, heard}
use Rattle.nut_state.specs.Step.{accepts, changed, after, applied}
use Rattle.nut_state.specs.Verb.{verb_of}
use Rattle.nut_proto.specs.Answers.{answer_of}
use Rattle.nut_proto.specs.DriverAsks.{ask_line}
use Rattle.nut_proto.specs.Forms.{meaning}
use Rattle.nut_proto.specs.Keywords.{command_of}
use Rattle.nut_proto.specs.Lines.{line}
use Rattle.nut_proto.specs.Refusals.{refusal_name}
use Rattle.nut_proto.specs.Replies.{reply_line}
use Rattle.nut_proto.specs.Requests.{request_line}
use Rattle.nut_server_spec.specs.Answer.{text_of}
use Rattle.nut_monitor_spec.specs.Trace.{entry_of}
use Rattle.nut_fleet.specs.World.{line_of}
use Rattle.nut_in_time.specs.Pace.{clock_at}
use Rattle.nut_in_time.specs.Room.{IsPatient, Follows, is_primary}
use Rattle.nut_in_time.specs.examples.RoomPaceExamples.{RoomPaceExamples, distant, five, in_time, in_time_later, known, low, low_later, paces, too_early, too_early_later, watches}
use Rattle.nut_in_time.specs.Tests.{is_steady, is_watched}
use Rattle.nut_in_time.proofs.Testing.{front-append, steady-holds, watched-holds, below}
use Rattle.nut_in_time.proofs.Worked.{spoken}
use Rattle.nut_in_time.proofs.RoomTesting.{RoomHolds, room-holds}
use Rattle.nut_in_time.specs.examples.Examples.{all}
use Rattle.nut_in_time.specs.InTime.{known_by}
use Rattle.nut_server_spec.specs.Configuration.{number_of_ups}

follows : (host_sync : ℕ) → Follows (distant 1 host_sync) 0 1
follows host_sync = record { one = 0; there = omega arith; passes = refl; short = omega arith }

early : RoomHolds (distant 1 9) paces 1 (λ m. 0) (λ m. m) all (λ i. 0) 0 low too_early
unfolding digits read named put asked heard accepts changed after applied verb_of ask_line meaning command_of line refusal_name reply_line request_line text_of answer_of entry_of
early = room-holds _ _ _ _ _ _ _ _ _ _ (record {
  needs = record { one = 0; there = omega arith; passes = refl; short = omega arith };
  machines = ((refl, ((refl, inr (inr (inl (refl, refl)))), tt)), ((refl, ((refl, inr (inl (refl, refl))), tt)), tt));
  upses = ((refl, refl, inr (inl (refl, refl))), tt);
  not_begun = refl;
})

late : RoomHolds (distant 1 10) paces 1 (λ m. 0) (λ m. m) all (λ i. 0) 0 low in_time
unfolding digits read named put asked heard accepts changed after applied verb_of ask_line meaning command_of line refusal_name reply_line request_line text_of answer_of entry_of
late = room-holds _ _ _ _ _ _ _ _ _ _ (record {
  needs = record { one = 0; there = omega arith; passes = refl; short = omega arith };
  machines = ((refl, ((refl, inr (inr (inl (refl, refl)))), tt)), ((refl, ((refl, inr (inl (refl, refl))), tt)), tt));
  upses = ((refl, refl, inr (inl (refl, refl))), tt);
  not_begun = refl;
})

-- ---- a patient primary

early-later : RoomHolds (distant 3 8) paces 1 (λ m. 0) (λ m. m) all (λ i. 0) 0 low_later too_early_later
unfolding digits read named put asked heard accepts changed after applied verb_of ask_line meaning command_of line refusal_name reply_line request_line text_of answer_of entry_of
early-later = room-holds _ _ _ _ _ _ _ _ _ _ (record {
  needs = record { one = 0; there = omega arith; passes = refl; short = omega arith };
  machines = ((refl, ((refl, inr (inr (inr (inr (inl (refl, refl)))))), tt)), ((refl, ((refl, inr (inr (inl (refl, refl)))), tt)), tt));
  upses = ((refl, refl, inr (inr (inr (inl (refl, refl))))), tt);
  not_begun = refl;
})

late-later : RoomHolds (distant 3 9) paces 1 (λ m. 0) (λ m. m) all (λ i. 0) 0 low_later in_time_later
unfolding digits read named put asked heard accepts changed after applied verb_of ask_line meaning command_of line refusal_name reply_line request_line text_of answer_of entry_of
late-later = room-holds _ _ _ _ _ _ _ _ _ _ (record {
  needs = record { one = 0; there = omega arith; passes = refl; short = omega arith };
  machines = ((refl, ((refl, inr (inr (inr (inr (inl (refl, refl)))))), tt)), ((refl, ((refl, inr (inr (inl (refl, refl)))), tt)), tt));
  upses = ((refl, refl, inr (inr (inr (inl (refl, refl))))), tt);
  not_begun = refl;
})

patient : (host_sync : ℕ) → is_steady (distant 3 host_sync) (paces 0) 0 known watches ≡ true → is_watched (distant 3 host_sync) (paces 0) 0 0 (λ words. true) known watches ≡ true →
    known_by (distant 3 host_sync) (paces 0) 0 known < clock_at (distant 3 host_sync) 0 low_later → IsPatient (distant 3 host_sync) (paces 0) 0 low_later
patient host_sync steady watched long = record {
  patient = omega arith;
  early = known;
  front = front-append watches known;
  steady = steady-holds (distant 3 host_sync) (paces 0) 0 known watches steady;
  watched = watched-holds (distant 3 host_sync) (paces 0) 0 0 (λ words. true) known watches watched;
  long = long;
}

pub room-pace-examples : RoomPaceExamples
unfolding digits read named put asked heard accepts changed after applied verb_of ask_line meaning command_of line refusal_name reply_line request_line text_of answer_of entry_of
room-pace-examples = record {
  setup_five = ((spoken true, tt), ((spoken false, tt), ((spoken false, tt), ((spoken false, tt), ((spoken false, tt), tt)))));
  room_five = record {
    needs = record { one = 0; there = omega arith; passes = refl; short = omega arith };
    primary = below 1 (λ i. all i ≡ true → is_primary five 0 i ≡ true) ((λ is. refl), tt);
    number = below 1 (λ i. is_primary five 0 i ≡ true → number_of_ups (line_of five 0 i).ups five.server.upses ≡ Some 0) ((λ is. refl), tt);
  };
  enough_far = refl;
  enough_near = refl;
  enough_for_two = refl;
  enough_if_patient = refl;
  setups = (((spoken true, tt), ((spoken false, tt), tt)), ((spoken true, tt), ((spoken false, tt), tt)));
  rooms = (early.room, late.room);
  following = (follows 9, follows 10);
  ready = (early.ready, late.ready);
  stopping_early = early.stopping;
  stopping = late.stopping;
  accepted_by = refl;
  begun_at = refl;
  not_yet_forced = refl;
  at_that_time = refl;
  needed = refl;
  goes_early = refl;
  still_up = refl;
  goes_in_time = refl;
  is_down = refl;
  setups_later = (((spoken true, tt), ((spoken false, tt), tt)), ((spoken true, tt), ((spoken false, tt), tt)));
  rooms_later = (early-later.room, late-later.room);
  ready_later = (early-later.ready, late-later.ready);
  patient = (patient 8 refl refl (omega arith), patient 9 refl refl (omega arith));
  stopping_early_later = early-later.stopping;
  stopping_later = late-later.stopping;
  accepted_by_later = refl;
  begun_at_later = refl;
  not_yet_forced_later = refl;
  at_that_time_later = refl;
  needed_later = refl;
  goes_early_later = refl;
  still_up_later = refl;
  goes_in_time_later = refl;
  is_down_later = refl;
}
