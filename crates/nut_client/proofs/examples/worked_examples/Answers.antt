use Rattle.std.proofs.Common.{refl}
use Rattle.std.specs.Fmt.{digits}
use Rattle.clap.proofs.OnLiterals.{clap_on_literals}
use Rattle.nut_words.specs.Reader.{read}
use Rattle.nut_proto.specs.Answers.{answer_of}
use Rattle.nut_proto.specs.Lines.{line}
use Rattle.nut_proto.specs.Requests.{request_line}
use Rattle.nut_client.specs.CommandLine.{command_of, line_of}
use Rattle.nut_client.proofs.Endings.{all_bytes}
use Rattle.nut_client.proofs.examples.worked_examples.Goals as goal

pub returns-clause-lines : goal.returns-clause-lines
unfolding clap_on_literals line_of command_of
returns-clause-lines c = record {
  all = refl;
  object = refl;
  object_of_one = refl;
  one = refl;
  server = refl;
  no_server = refl;
  setting = refl;
  command = refl;
  parameter = refl;
  waiting = refl;
  waiting_for_a_list = refl;
  waiting_for_nothing = refl;
  dialed = refl;
  two_lists = refl;
  no_password = refl;
  no_name = refl;
  no_host = refl;
  unknown = refl;
  help = refl;
  version = refl;
}

pub returns-clause-runs : goal.returns-clause-runs
unfolding read answer_of line request_line digits
returns-clause-runs c = record {
  answered = refl;
  bytes_behind = refl;
  refused = refl;
  of_another = refl;
  longest = refl;
  too_long = refl;
  unfinished = refl;
  unwritable = refl;
  listed = refl;
  as_object = refl;
  as_member = refl;
  no_rows = refl;
  cut_list = refl;
  done = refl;
  with_parameter = refl;
  succeeded = refl;
  failed = refl;
  pending = refl;
  still_pending = refl;
  untracked = refl;
  never_tracks = refl;
  forced = refl;
  no_right = refl;
  not_answered = refl;
  decided = λ result left before after ends. all_bytes _ _ _ left before after ends;
}
