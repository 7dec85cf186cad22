use Rattle.std.proofs.Common.{[], ap, ap₂, sym}
use Rattle.nut_proto.specs.declared.request.ListQuery.TheVariants.{Cmd}
use Rattle.nut_proto.specs.declared.request.Request.TheVariants.{List}
use Rattle.nut_client.specs.Script.{Asks, Prints, commands, on_rows}
use Rattle.nut_client.proofs.Parts.{asked_as, ends_at, follows, turns}
use Rattle.nut_client.proofs.conversation.Conversation.commands.Goals as goal

pub returns-in_err-rows : goal.returns-in_err-rows
returns-in_err-rows g c =
    asked_as (ap (λ u. Asks (List (Cmd u)) (on_rows (commands c.args.ups []))) (sym c.copy.ensures)) (ends_at c.from_residual.result c.from_residual.ensures.1 (c.in_err-rows.ensures (commands c.args.ups [])))

pub returns-in_err-put_commands : goal.returns-in_err-put_commands
returns-in_err-put_commands g c =
    asked_as (ap (λ u. Asks (List (Cmd u)) (on_rows (commands c.args.ups []))) (sym c.copy.ensures))
    (ends_at c.from_residual-in_err-put_commands.result c.from_residual-in_err-put_commands.ensures.1
    (follows (c.in_ok-rows.ensures (commands c.args.ups [])) (asked_as (ap₂ (commands c.args.ups) (sym c.new-text.ensures.items) (sym c.as_slice.ensures)) c.in_err-put_commands.ensures)))

pub returns : goal.returns
returns g c =
    asked_as (ap (λ u. Asks (List (Cmd u)) (on_rows (commands c.args.ups []))) (sym c.copy.ensures))
    (turns (follows (c.in_ok-rows.ensures (commands c.args.ups [])) (asked_as (ap₂ (commands c.args.ups) (sym c.new-text.ensures.items) (sym c.as_slice.ensures)) c.in_ok-put_commands.ensures))
    (ap Prints (sym c.of.ensures)))
