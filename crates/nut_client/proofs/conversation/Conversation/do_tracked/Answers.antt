use Rattle.std.proofs.Common.{ap, refl, sym}
use Rattle.nut_client.specs.Script.{Asks, does_tracked, on_number, waits}
use Rattle.nut_client.proofs.Parts.{asked_as, ends_at, follows, makes}
use Rattle.nut_client.proofs.conversation.Conversation.do_tracked.Goals as goal

pub returns-in_err-done : goal.returns-in_err-done
returns-in_err-done g c = ends_at c.from_residual.result c.from_residual.ensures.1 (c.in_err-done.ensures.goes (does_tracked c.args.ups.now c.args.deed.now))

pub returns-in_err-number : goal.returns-in_err-number
returns-in_err-number g c =
    follows (c.in_ok-done.ensures.goes (does_tracked c.args.ups.now c.args.deed.now))
    (asked_as (ap (λ q. Asks q (on_number waits)) (sym c.deed_query.ensures)) (ends_at c.from_residual-in_err-number.result c.from_residual-in_err-number.ensures.1 (c.in_err-number.ensures waits)))

pub returns-in_err-wait_for : goal.returns-in_err-wait_for
returns-in_err-wait_for g c =
    follows (c.in_ok-done.ensures.goes (does_tracked c.args.ups.now c.args.deed.now))
    (follows (asked_as (ap (λ q. Asks q (on_number waits)) (sym c.deed_query.ensures)) (c.in_ok-number.ensures waits))
    (ends_at c.from_residual-in_err-wait_for.result c.from_residual-in_err-wait_for.ensures.1 c.in_err-wait_for.ensures))

pub returns : goal.returns
returns g c =
    makes c.line_text.result
    (follows (c.in_ok-done.ensures.goes (does_tracked c.args.ups.now c.args.deed.now))
    (follows (asked_as (ap (λ q. Asks q (on_number waits)) (sym c.deed_query.ensures)) (c.in_ok-number.ensures waits)) c.in_ok-wait_for.ensures))
    refl c.line_text.ensures
