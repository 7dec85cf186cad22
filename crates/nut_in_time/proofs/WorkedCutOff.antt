-- The worked machines that are cut off.
use Rattle.std.proofs.Common.{codes, ◌≡◌, ◌+◌, ◌≤◌, ℕ, List, length, Bool, true, false, refl, arith}
use Rattle.std.specs.Fmt.{digits}
use Rattle.nut_words.specs.Reader.{read}
use Rattle.nut_state.specs.Sorted.{named, put}
use Rattle.nut_state.specs.Change.{asked, heard}
use Rattle.nut_state.specs.Step.{accepts, changed, after, applied}
use Rattle.nut_state.specs.Verb.{verb_of}
use Rattle.nut_proto.specs.Answers.{answer_of}
use Rattle.nut_proto.specs.DriverAsks.{ask_line}
use Rattle.nut_proto.specs.Forms.{meaning}
use Rattle.nut_proto.specs.Keywords.{command_of}
use Rattle.nut_proto.specs.Lines.{line}
use Rattle.nut_proto.specs.Refusals.{refusal_name}
use Rattle.nut_proto.specs.Replies.{reply_line}
use Rattle.nut_proto.specs.Requests.{request_line}
use Rattle.nut_server_spec.specs.Answer.{text_of}
use Rattle.nut_monitor_spec.specs.Configuration.{Configuration, line_in}
use Rattle.nut_monitor_spec.specs.Event.{Event}
use Rattle.nut_monitor_spec.specs.Trace.{clock, entry_of, polled, status, trace}
use Rattle.nut_monitor_spec.specs.examples.Examples.{two_primaries}
use Rattle.nut_fleet.specs.World.{monitor_of}
use Rattle.nut_fleet.specs.examples.Examples.{alone}
use Rattle.nut_in_time.specs.InTime.{Needs, is_low}
use Rattle.nut_in_time.specs.CutOff.{IsCutOff, begins_in, calls, is_on_battery, is_on_line}
use Rattle.nut_in_time.specs.Tests.{says}
use Rattle.nut_in_time.specs.examples.CutOffExamples.{CutOffExamples, both_on_battery, gets_low, goes_stale, later, loses_one, lost, told, told_since}
use Rattle.nut_in_time.specs.examples.Examples.{all, lone, pace}
use Rattle.nut_in_time.proofs.CutOffTesting.{hears-holds, hears_only, shows-holds, told-newest}
use Rattle.nut_in_time.proofs.Testing.{Below, below, says-holds}
use Rattle.nut_in_time.proofs.WorkedAnyServers.{always, even-holds}

-- a machine each of whose lines passes these tests
cut_off-holds : (configuration : Configuration) (waits : Bool) (last : ℕ) (first newest : List Event) → Needs configuration all → clock (trace configuration first) ≤ last + begins_in configuration waits →
    Below (length configuration.lines) (λ i. (always configuration (hears_only configuration (calls waits (line_in configuration.lines i)) first i) first newest ≡ true)
    × (says is_on_battery (status i (trace configuration first)) ≡ true) × (polled i (trace configuration first) ≤ last)) → IsCutOff configuration waits all last first newest
cut_off-holds configuration waits last first newest needs young lines = record {
  needs = needs;
  lines = λ i less is.
      let line = below (length configuration.lines) _ lines i less in
      (hears-holds configuration (calls waits (line_in configuration.lines i)) first i newest line.0, says-holds is_on_battery (status i (trace configuration first)) line.1, line.2);
  young = young;
}

pub cut_off-examples : CutOffExamples
unfolding digits read named put asked heard accepts changed after applied verb_of ask_line meaning command_of line refusal_name reply_line request_line text_of answer_of entry_of
cut_off-examples = record {
  down = refl;
  cut_off = cut_off-holds (monitor_of alone 0) false 0 (told alone (lost (codes "OB"))) (told_since alone (later 12) (lost (codes "OB")))
      (record { one = 0; there = omega arith; passes = refl; short = omega arith }) (omega arith) ((refl, refl, omega arith), tt);
  even = even-holds (monitor_of alone 0) pace (told alone (lost (codes "OB"))) (told_since alone (later 33) (lost (codes "OB"))) refl;
  started = refl;
  at_15 = refl;
  not_yet = refl;
  begun_at = refl;
  takes = refl;
  still_up = refl;
  is_down = refl;
  at_last = refl;
  shows = shows-holds lone 0 0 is_low gets_low (goes_stale 1) refl;
  refused = refl;
  newest = told-newest lone (goes_stale 1) gets_low;
  went_stale = cut_off-holds (monitor_of lone 0) true 0 (told lone gets_low) (told_since lone (goes_stale 1) gets_low)
      (record { one = 0; there = omega arith; passes = refl; short = omega arith }) (omega arith) ((refl, refl, omega arith), tt);
  last_read = refl;
  read_at = refl;
  waits_at = refl;
  still_waits = refl;
  then_begun = refl;
  read_later = refl;
  then_up = refl;
  then_down = refl;
  other_up = refl;
  one_is_lost = cut_off-holds two_primaries false 0 both_on_battery (loses_one 11) (record { one = 0; there = omega arith; passes = refl; short = omega arith }) (omega arith)
      ((refl, refl, omega arith), ((refl, refl, omega arith), tt));
  one_is_enough = refl;
  none_is_left = refl;
  silent = hears-holds (monitor_of alone 0) is_on_line (told alone (lost (codes "OL"))) 0 (told_since alone (later 60) (lost (codes "OL"))) refl;
  goes_on = refl;
}
