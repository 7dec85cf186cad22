use Rattle.std.proofs.Common.{◌≡◌, true, None, ap, sym, subst, ◌∙◌}
use Rattle.nut_poll.specs.Queue.{is_waiting}
use Rattle.nut_poll.proofs.QueueLemmas.{joined_waits}
use Rattle.nut_monitor_sockets.specs.Turns.{WaitsUnread, unread}
use Rattle.nut_monitor_sockets.proofs.Unread.{looks_self, written}
use Rattle.nut_monitor_sockets.proofs.links.Links.reach.Goals.{else-returns-via-then-returns+else-waits, else-returns-via-else-returns}
use Rattle.nut_monitor_sockets.proofs.links.Links.reach.Goals as goal

pub returns-then-waits-clause-waits : goal.returns-then-waits-clause-waits
returns-then-waits-clause-waits g c =
    let links = c.args.self.now in
    written c.args.i links.upstreams.items links.rounds.ready c.insert.new.self c.returns.new.self c.insert.ensures.comes
    (λ less more. subst (λ q. is_waiting c.args.i q.waiting ≡ true) (sym c.insert.ensures.joined) (joined_waits c.args.i links.rounds.ready less))

pub returns-else-returns-clause-waits : goal.returns-else-returns-clause-waits
returns-else-returns-clause-waits g c = λ k before.
    let links = c.args.self.now in
    let here = written c.args.i links.upstreams.items links.rounds.ready c.insert.new.self c.returns.new.self c.insert.ensures.comes
    (λ less more. subst (λ q. is_waiting c.args.i q.waiting ≡ true) (sym c.insert.ensures.joined) (joined_waits c.args.i links.rounds.ready less)) k before
    in
    elim c.else-returns.branch [
      | else-returns-via-then-returns+else-waits w ↦ subst (WaitsUnread k) (sym w.self-is) here
      | else-returns-via-else-returns w ↦ subst (WaitsUnread k) (sym w.self-is) here
    ]

pub returns-in-Ok-false-clause-waits : goal.returns-in-Ok-false-clause-waits
returns-in-Ok-false-clause-waits g c =
    let links = c.args.self.now in
    written c.args.i links.upstreams.items links.rounds.ready links.rounds.ready c.reach.new.self (looks_self links.rounds.ready)
    (λ less more. let none = c.reach.ensures (λ is. let a = c.in-Ok-false.is in let b = c.in-Ok-false.field-0-test in cc) in absurd (cc))

pub returns-in-Err-clause-waits : goal.returns-in-Err-clause-waits
returns-in-Err-clause-waits g c =
    let links = c.args.self.now in
    let none : unread c.tell_unreachable.new.upstream.stage ≡ None =
    ap unread c.tell_unreachable.ensures ∙ c.reach.ensures (λ is. let a = c.in-Err.is in cc)
    in
    written c.args.i links.upstreams.items links.rounds.ready links.rounds.ready c.tell_unreachable.new.upstream (looks_self links.rounds.ready)
    (λ less more. absurd (cc))
