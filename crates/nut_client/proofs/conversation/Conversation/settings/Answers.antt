use Rattle.std.proofs.Common.{[], ap, ap₂, sym}
use Rattle.nut_proto.specs.declared.request.ListQuery.TheVariants.{Rw}
use Rattle.nut_proto.specs.declared.request.Request.TheVariants.{List}
use Rattle.nut_client.specs.Script.{Asks, Prints, settings, on_rows}
use Rattle.nut_client.proofs.Parts.{asked_as, ends_at, follows, turns}
use Rattle.nut_client.proofs.conversation.Conversation.settings.Goals as goal

pub returns-in_err-rows : goal.returns-in_err-rows
returns-in_err-rows g c =
    asked_as (ap (λ u. Asks (List (Rw u)) (on_rows (settings c.args.ups []))) (sym c.copy.ensures)) (ends_at c.from_residual.result c.from_residual.ensures.1 (c.in_err-rows.ensures (settings c.args.ups [])))

pub returns-in_err-put_settings : goal.returns-in_err-put_settings
returns-in_err-put_settings g c =
    asked_as (ap (λ u. Asks (List (Rw u)) (on_rows (settings c.args.ups []))) (sym c.copy.ensures))
    (ends_at c.from_residual-in_err-put_settings.result c.from_residual-in_err-put_settings.ensures.1
    (follows (c.in_ok-rows.ensures (settings c.args.ups [])) (asked_as (ap₂ (settings c.args.ups) (sym c.new-text.ensures.items) (sym c.as_slice.ensures)) c.in_err-put_settings.ensures)))

pub returns : goal.returns
returns g c =
    asked_as (ap (λ u. Asks (List (Rw u)) (on_rows (settings c.args.ups []))) (sym c.copy.ensures))
    (turns (follows (c.in_ok-rows.ensures (settings c.args.ups [])) (asked_as (ap₂ (settings c.args.ups) (sym c.new-text.ensures.items) (sym c.as_slice.ensures)) c.in_ok-put_settings.ensures))
    (ap Prints (sym c.of.ensures)))
