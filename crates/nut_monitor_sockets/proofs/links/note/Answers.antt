use Rattle.std.proofs.Common.{◌≤◌, length, ap, set, subst}
use Rattle.nut_monitor_sockets.proofs.Unread.{noted_more, noted_none}
use Rattle.nut_monitor_sockets.proofs.links.note.Goals as goal

pub loop-event-preserved-in-Some-get_mut : goal.loop-event-preserved-in-Some-get_mut
loop-event-preserved-in-Some-get_mut c =
    let before = c.loop-event.upstreams.items in
    noted_more c.loop-event.yielded c.in-Some.event before (set before c.token-i.result.0 c.note.new.self) c.note.new.self
    (ap (λ t. set before t.0 c.note.new.self) c.token-i.ensures) c.note.ensures c.loop-event.invariant

pub loop-event-preserved : goal.loop-event-preserved
loop-event-preserved c =
    let before = c.loop-event.upstreams.items in
    noted_none c.loop-event.yielded c.in-Some.event before (subst (λ t. length before ≤ t.0) c.token-i.ensures (c.in_default.ensures {u = tt}).item.3)
    c.loop-event.invariant
