use Rattle.std.proofs.Common.{◌+◌, ap, drop, refl}
use Rattle.std.proofs.lemmas.List.{at_drop_all}
use Rattle.nut_client.specs.Script.{settings}
use Rattle.nut_client.proofs.Parts.{asked_as, drop_at, ends_at, follows, stays, turns}
use Rattle.nut_client.proofs.conversation.Conversation.put_settings.Goals as goal

pub loop-row-init : goal.loop-row-init
loop-row-init g c = stays refl

pub returns : goal.returns
returns g c = turns c.loop-row.invariant (at_drop_all (settings c.args.ups.now c.loop-row.text.items) c.args.rows.now c.loop-row.row-index c.loop-row-test.false)

pub returns-in_err-put_setting : goal.returns-in_err-put_setting
returns-in_err-put_setting g c =
    let i = c.loop-row.row-index in
    ends_at c.from_residual.result c.from_residual.ensures.1
    (follows c.loop-row.invariant
    (asked_as (ap (settings c.args.ups.now c.loop-row.text.items) (drop_at c.args.rows.now i c.row-item.result c.loop-row-test.true c.row-item.is)) (c.in_err-put_setting.ensures (drop (i + 1) c.args.rows.now))))

pub loop-row-preserved : goal.loop-row-preserved
loop-row-preserved g c =
    let i = c.loop-row.row-index in
    follows c.loop-row.invariant
    (asked_as (ap (settings c.args.ups.now c.loop-row.text.items) (drop_at c.args.rows.now i c.row-item.result c.loop-row-test.true c.row-item.is)) (c.in_ok-put_setting.ensures (drop (i + 1) c.args.rows.now)))
