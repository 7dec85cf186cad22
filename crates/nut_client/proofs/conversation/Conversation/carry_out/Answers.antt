use Rattle.std.proofs.Common.{ap}
use Rattle.nut_client.specs.Script.{does_until, gives_password}
use Rattle.nut_client.proofs.Parts.{asked_as, ends_at, follows}
use Rattle.nut_client.proofs.conversation.Conversation.carry_out.Goals as goal

pub returns-in_err-done : goal.returns-in_err-done
returns-in_err-done g c =
    ends_at c.from_residual.result c.from_residual.ensures.1 (c.in_err-done.ensures.goes (gives_password c.args.ups c.args.password c.args.deed c.args.until))

pub returns-in_err-done-2 : goal.returns-in_err-done-2
returns-in_err-done-2 g c =
    follows (c.in_ok-done.ensures.goes (gives_password c.args.ups c.args.password c.args.deed c.args.until))
    (ends_at c.from_residual-in_err-done-2.result c.from_residual-in_err-done-2.ensures.1 (c.in_err-done-2.ensures.goes (does_until c.args.ups c.args.deed c.args.until)))

pub returns-in-Accepted : goal.returns-in-Accepted
returns-in-Accepted g c =
    follows (c.in_ok-done.ensures.goes (gives_password c.args.ups c.args.password c.args.deed c.args.until))
    (follows (c.in_ok-done-2.ensures.goes (does_until c.args.ups c.args.deed c.args.until)) (asked_as (ap (does_until c.args.ups c.args.deed) c.in-Accepted.is) c.do_once.ensures))

pub returns-in-Ended : goal.returns-in-Ended
returns-in-Ended g c =
    follows (c.in_ok-done.ensures.goes (gives_password c.args.ups c.args.password c.args.deed c.args.until))
    (follows (c.in_ok-done-2.ensures.goes (does_until c.args.ups c.args.deed c.args.until)) (asked_as (ap (does_until c.args.ups c.args.deed) c.in-Ended.is) c.do_tracked.ensures))
