-- The replies of the server, as lines (RFC 9271).
use Rattle.std.specs.Prelude.{ℕ, Bool, List, [], ◌∷◌, codes, map, if◌then◌else◌}
use Rattle.nut_proto.specs.declared.reply.Reply.{Reply}
use Rattle.nut_proto.specs.declared.reply.Reply.TheVariants as replies
use Rattle.nut_proto.specs.declared.reply.VariableKind.{VariableKind}
use Rattle.nut_proto.specs.declared.reply.VariableKind.TheVariants as kinds
use Rattle.nut_proto.specs.declared.part.Part.{Part}
use Rattle.nut_proto.specs.declared.part.Part.TheVariants.{Word, Quoted, Number, QuotedNumber, StringOf}
use Rattle.nut_proto.specs.Keywords.{all_commands, command_name}
use Rattle.nut_proto.specs.Lines.{line}
use Rattle.nut_proto.specs.Refusals.{refusal_name}
use Rattle.nut_proto.specs.Tracking.{status_word, switch_word}

-- the reply to VER
abbrev pub version_parts : List Part
version_parts =
    Word (codes "Network") ∷ Word (codes "UPS") ∷ Word (codes "Tools") ∷
    Word (codes "upsd") ∷ Word (codes "profile") ∷ Word (codes "1.3") ∷ []

-- the reply to HELP
abbrev pub commands_parts : List Part
commands_parts = Word (codes "Commands:") ∷ map (λ command. Word (command_name command)) all_commands

-- the kind of values of a variable, as GET TYPE reports it
abbrev pub kind_part : VariableKind → Part
kind_part kinds.Enum = Word (codes "ENUM")
kind_part kinds.Range = Word (codes "RANGE")
kind_part (kinds.String limit) = StringOf limit
kind_part kinds.Number = Word (codes "NUMBER")

-- the reply to GET TYPE: it holds `RW` if the variable may be set
abbrev pub type_parts : List ℕ → List ℕ → Bool → VariableKind → List Part
type_parts ups variable writable kind =
    if writable
    then Word (codes "TYPE") ∷ Word ups ∷ Word variable ∷ Word (codes "RW") ∷ kind_part kind ∷ []
    else Word (codes "TYPE") ∷ Word ups ∷ Word variable ∷ kind_part kind ∷ []

abbrev pub reply_parts : Reply → List Part
reply_parts replies.Accepted = Word (codes "OK") ∷ []
reply_parts (replies.AcceptedAs number) = Word (codes "OK") ∷ Word (codes "TRACKING") ∷ Number number ∷ []
reply_parts replies.FsdSet = Word (codes "OK") ∷ Word (codes "FSD-SET") ∷ []
reply_parts replies.Goodbye = Word (codes "OK") ∷ Word (codes "Goodbye") ∷ []
reply_parts (replies.Refused refusal) = Word (codes "ERR") ∷ Word (refusal_name refusal) ∷ []
reply_parts replies.Version = version_parts
reply_parts replies.NetworkVersion = Word (codes "1.3") ∷ []
reply_parts replies.Commands = commands_parts
reply_parts (replies.NumLogins ups count) = Word (codes "NUMLOGINS") ∷ Word ups ∷ Number count ∷ []
reply_parts (replies.UpsDesc ups description) = Word (codes "UPSDESC") ∷ Word ups ∷ Quoted description ∷ []
reply_parts (replies.Type ups variable writable kind) = type_parts ups variable writable kind
reply_parts (replies.Desc ups variable description) = Word (codes "DESC") ∷ Word ups ∷ Word variable ∷ Quoted description ∷ []
reply_parts (replies.CmdDesc ups command description) = Word (codes "CMDDESC") ∷ Word ups ∷ Word command ∷ Quoted description ∷ []
reply_parts (replies.Var ups variable value) = Word (codes "VAR") ∷ Word ups ∷ Word variable ∷ Quoted value ∷ []
reply_parts (replies.TrackingIs on) = Word (codes "TRACKING") ∷ Word (switch_word on) ∷ []
reply_parts (replies.Tracking number status) = Word (codes "TRACKING") ∷ Number number ∷ Word (status_word status) ∷ []
reply_parts (replies.Ups ups description) = Word (codes "UPS") ∷ Word ups ∷ Quoted description ∷ []
reply_parts (replies.Rw ups variable value) = Word (codes "RW") ∷ Word ups ∷ Word variable ∷ Quoted value ∷ []
reply_parts (replies.Cmd ups command) = Word (codes "CMD") ∷ Word ups ∷ Word command ∷ []
reply_parts (replies.Enum ups variable value) = Word (codes "ENUM") ∷ Word ups ∷ Word variable ∷ Quoted value ∷ []
reply_parts (replies.Range ups variable min max) =
    Word (codes "RANGE") ∷ Word ups ∷ Word variable ∷ QuotedNumber min ∷ QuotedNumber max ∷ []
reply_parts (replies.Client ups address) = Word (codes "CLIENT") ∷ Word ups ∷ Word address ∷ []

-- the line of a reply
unfoldable pub reply_line : Reply → List ℕ
reply_line reply = line (reply_parts reply)
