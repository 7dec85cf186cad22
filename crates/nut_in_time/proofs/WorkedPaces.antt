-- The worked paces.
use Rattle.std.proofs.Common.{true, refl, arith}
use Rattle.std.specs.Fmt.{digits}
use Rattle.nut_words.specs.Reader.{read}
use Rattle.nut_state.specs.Sorted.{named, put}
use Rattle.nut_state.specs.Change.{asked, heard}
use Rattle.nut_state.specs.Step.{accepts, changed, after, applied}
use Rattle.nut_state.specs.Verb.{verb_of}
use Rattle.nut_proto.specs.Answers.{answer_of}
use Rattle.nut_proto.specs.DriverAsks.{ask_line}
use Rattle.nut_proto.specs.Forms.{meaning}
use Rattle.nut_proto.specs.Keywords.{command_of}
use Rattle.nut_proto.specs.Lines.{line}
use Rattle.nut_proto.specs.Refusals.{refusal_name}
use Rattle.nut_proto.specs.Replies.{reply_line}
use Rattle.nut_proto.specs.Requests.{request_line}
use Rattle.nut_server_spec.specs.Answer.{text_of}
use Rattle.nut_monitor_spec.specs.Trace.{entry_of}
use Rattle.nut_fleet.specs.examples.Examples.{alone}
use Rattle.nut_in_time.specs.InTime.{is_low}
use Rattle.nut_in_time.specs.examples.Examples.{all, pace, start}
use Rattle.nut_in_time.specs.examples.PaceExamples.{PaceExamples, comes_at_last, first_low, leaps, needs_both, on_its_way, only_first, reads_first, skipping, sluggish}
use Rattle.nut_in_time.proofs.Testing.{failing-holds}
use Rattle.nut_in_time.proofs.Worked.{spoken, spoken-too}

pub pace-examples : PaceExamples
unfolding digits read named put asked heard accepts changed after applied verb_of ask_line meaning command_of line refusal_name reply_line request_line text_of answer_of entry_of
pace-examples = record {
  skips = failing-holds alone skipping 0 is_low all start leaps (record { one = 0; there = omega arith; passes = refl; short = omega arith }) refl ((λ is. refl), tt);
  skips_by = refl;
  skips_begun = refl;
  late = failing-holds alone sluggish 0 is_low all on_its_way comes_at_last (record { one = 0; there = omega arith; passes = refl; short = omega arith }) refl ((λ is. refl), tt);
  late_by = refl;
  late_not_begun = refl;
  late_begun = refl;
  setup_of_both = ((spoken true, (spoken-too true, tt)), tt);
  first_fails = failing-holds needs_both pace 0 is_low only_first first_low reads_first (record { one = 0; there = omega arith; passes = refl; short = omega arith }) refl ((λ is. refl), ((λ is. absurd (cc)), tt));
  first_by = refl;
  first_not_begun = refl;
  first_begun = refl;
}
