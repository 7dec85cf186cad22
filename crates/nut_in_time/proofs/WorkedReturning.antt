-- The worked machine whose link comes back.
use Rattle.std.proofs.Common.{◌≡◌, ◌++◌, true, refl, arith}
use Rattle.std.specs.Fmt.{digits}
use Rattle.nut_words.specs.Reader.{read}
use Rattle.nut_state.specs.Sorted.{named, put}
use Rattle.nut_state.specs.Change.{asked, heard}
use Rattle.nut_state.specs.Step.{accepts, changed, after, applied}
use Rattle.nut_state.specs.Verb.{verb_of}
use Rattle.nut_proto.specs.Answers.{answer_of}
use Rattle.nut_proto.specs.DriverAsks.{ask_line}
use Rattle.nut_proto.specs.Forms.{meaning}
use Rattle.nut_proto.specs.Keywords.{command_of}
use Rattle.nut_proto.specs.Lines.{line}
use Rattle.nut_proto.specs.Refusals.{refusal_name}
use Rattle.nut_proto.specs.Replies.{reply_line}
use Rattle.nut_proto.specs.Requests.{request_line}
use Rattle.nut_server_spec.specs.Answer.{text_of}
use Rattle.nut_monitor_spec.specs.Trace.{entry_of}
use Rattle.nut_fleet.specs.World.{line_of}
use Rattle.nut_fleet.specs.examples.Examples.{alone}
use Rattle.nut_in_time.specs.Pace.{FromOn, KeepsPace, Says, shown_at}
use Rattle.nut_in_time.specs.InTime.{is_low}
use Rattle.nut_in_time.specs.examples.Examples.{all, pace}
use Rattle.nut_in_time.specs.examples.ReturningExamples.{ReturningExamples, again, back}
use Rattle.nut_in_time.proofs.Testing.{front-append, pace-holds, shown-holds, steady-holds, below}
use Rattle.nut_in_time.proofs.Worked.{spoken}

pub returning-examples : ReturningExamples
unfolding digits read named put asked heard accepts changed after applied verb_of ask_line meaning command_of line refusal_name reply_line request_line text_of answer_of entry_of
returning-examples = record {
  setup = ((spoken true, tt), tt);
  returns = record {
    front = front-append (again 0) back;
    needs = record { one = 0; there = omega arith; passes = refl; short = omega arith };
    keeps = below 1 (λ i. all i ≡ true → KeepsPace alone pace 0 i back (again 0 ++ back)) ((λ is. pace-holds alone pace 0 0 back (again 0) refl), tt);
    shows = below 1 (λ i. all i ≡ true → FromOn back (again 0 ++ back) (λ early. Says is_low (shown_at alone early (line_of alone 0 i).ups)))
        ((λ is. shown-holds alone 0 0 is_low back (again 0) refl), tt);
  };
  counted = refl;
  steady = steady-holds alone pace 0 back (again 21) refl;
  started = refl;
  takes = refl;
  at_last = refl;
  not_yet = refl;
  begun_at = refl;
  to_the_end = refl;
  still_up = refl;
  is_down = refl;
  halted_at = refl;
}
