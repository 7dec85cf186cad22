-- For private functions, nothing here has to be believed: the answers and rows of the definitions that those of the
-- code represent.
use Rattle.std.specs.Prelude.{ℕ, List, map, filter, Option, Result, Ok, Err}
use Rattle.std.specs.Borrow.{Bor}
use Rattle.nut_proto.specs.declared.refusal.Refusal.{Refusal}
use Rattle.nut_proto.specs.declared.refusal.Refusal.TheVariants.{UnknownUps}
use Rattle.nut_proto.specs.declared.reply.Reply.{Reply}
use Rattle.nut_proto.specs.declared.reply.Reply.TheVariants as replies
use Rattle.nut_server_spec.specs.Answer as A
use Rattle.nut_server_spec.specs.Configuration.{Ups}
use Rattle.nut_server_spec.specs.Content.{Supply}
use Rattle.nut_server_spec.specs.Device.{Device}
use Rattle.nut_server_spec.specs.machine.Machine.{guest_of}
use Rattle.nut_server.specs.declared.answer.ListRows.{ListRows}
use Rattle.nut_server.specs.declared.answer.ListRows.TheVariants as rows
use Rattle.nut_server.specs.declared.answer.Answer.{Answer}
use Rattle.nut_server.specs.declared.answer.Answer.TheVariants as answer

-- the rows of a list
abbrev pub rows_of : ListRows → List Reply
rows_of (rows.Upses config) = map (λ ups. replies.Ups ups.name ups.description) config.now.upses
rows_of (rows.Variables ups device) = map (A.var_row ups.now device.now.device) device.now.device.table.variables
rows_of (rows.Writable ups device) =
    map (λ v. replies.Rw ups.now v.name (A.shown device.now.device v)) (filter (λ v. v.flags.writable) device.now.device.table.variables)
rows_of (rows.Commands ups device) = map (λ k. replies.Cmd ups.now k) device.now.device.table.commands
rows_of (rows.Enums ups name variable) = map (λ x. replies.Enum ups.now name.now x) variable.now.enums
rows_of (rows.Ranges ups name variable) = map (λ r. replies.Range ups.now name.now r.minimum r.maximum) variable.now.ranges
rows_of (rows.Clients ups u connections) = map (λ g. replies.Client ups.now g.address) (A.guests_of u (map guest_of connections.now))

-- the answer to GET UPSDESC, by the UPS of this name if there is one
abbrev pub described : List ℕ → Option Ups → A.Answer
described name found = A.require UnknownUps found (λ ups. A.Line (replies.UpsDesc name ups.description))

-- the answer that the code's answer represents
abbrev pub given : Answer → A.Answer
given (answer.Line reply) = A.Line reply
given (answer.Value ups device variable) = A.Line (A.var_row ups.now device.now.device variable.now)
given (answer.Listing query rows) = A.Listing query.now (rows_of rows)

-- the answer that a result represents, or its refusal
abbrev pub outcome : Result Answer Refusal → A.Answer
outcome (Ok reply) = given reply
outcome (Err refusal) = A.refused refusal

-- the answer that the UPS that was found leads to, or the refusal
abbrev pub answer_from : Result (Bor Supply) Refusal → (Device → A.Answer) → A.Answer
answer_from (Ok device) next = next device.now.device
answer_from (Err refusal) next = A.refused refusal
