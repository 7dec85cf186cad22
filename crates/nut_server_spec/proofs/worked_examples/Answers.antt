use Rattle.std.specs.Fmt.{digits}
use Rattle.nut_words.specs.Reader.{read}
use Rattle.nut_state.specs.Change.{asked, heard}
use Rattle.nut_state.specs.Sorted.{named, put}
use Rattle.nut_state.specs.Step.{accepts, changed, after, applied}
use Rattle.nut_state.specs.Verb.{verb_of}
use Rattle.nut_proto.specs.Descriptions.{variable_description, command_description}
use Rattle.nut_proto.specs.DriverAsks.{ask_line}
use Rattle.nut_proto.specs.Forms.{meaning}
use Rattle.nut_proto.specs.Keywords.{command_of}
use Rattle.nut_proto.specs.Lines.{line}
use Rattle.nut_proto.specs.Refusals.{refusal_name}
use Rattle.nut_proto.specs.Replies.{reply_line}
use Rattle.nut_proto.specs.Requests.{begin_line, end_line}
use Rattle.nut_server_spec.specs.Answer.{text_of}
use Rattle.nut_server_spec.proofs.RightsDecided.{right-examples}
use Rattle.nut_server_spec.proofs.worked_examples.Goals as goal

-- The examples are computed.
pub returns-clause-connections : goal.returns-clause-connections
unfolding read meaning command_of line refusal_name reply_line begin_line end_line text_of
returns-clause-connections c = search

pub returns-clause-drivers : goal.returns-clause-drivers
unfolding digits read named put asked heard accepts changed after applied verb_of variable_description command_description ask_line meaning command_of line refusal_name reply_line begin_line end_line text_of
returns-clause-drivers c = search

pub returns-clause-edges : goal.returns-clause-edges
unfolding ask_line line digits
returns-clause-edges c = search

pub returns-clause-users : goal.returns-clause-users
unfolding digits read named put asked heard accepts changed after applied verb_of ask_line meaning command_of line refusal_name reply_line begin_line end_line text_of
returns-clause-users c = search

pub returns-clause-tracking : goal.returns-clause-tracking
unfolding digits read named put asked heard accepts changed after applied verb_of ask_line meaning command_of line refusal_name reply_line begin_line end_line text_of
returns-clause-tracking c = search

pub returns-clause-reloads : goal.returns-clause-reloads
unfolding digits read named put asked heard accepts changed after applied verb_of ask_line meaning command_of line refusal_name reply_line begin_line end_line text_of
returns-clause-reloads c = search

pub returns-clause-reload_edges : goal.returns-clause-reload_edges
unfolding digits read named put asked heard accepts changed after applied verb_of ask_line meaning command_of line refusal_name reply_line begin_line end_line text_of
returns-clause-reload_edges c = search

pub returns-clause-rights : goal.returns-clause-rights
returns-clause-rights c = right-examples
