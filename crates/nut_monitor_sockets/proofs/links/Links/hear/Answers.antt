use Rattle.std.proofs.Common.{◌≡◌, true, sym, subst}
use Rattle.nut_poll.specs.Queue.{is_waiting}
use Rattle.nut_poll.proofs.QueueLemmas.{joined_waits}
use Rattle.nut_monitor_sockets.proofs.Unread.{at_other, looks_self, written}
use Rattle.nut_monitor_sockets.proofs.links.Links.hear.Goals as goal

pub returns-in-Part-clause-waits : goal.returns-in-Part-clause-waits
returns-in-Part-clause-waits c =
    let links = c.args.self.now in
    written c.args.i links.upstreams.items links.rounds.ready c.insert.new.self c.hear-heard.new.self c.insert.ensures.comes
    (λ less more. subst (λ q. is_waiting c.args.i q.waiting ≡ true) (sym c.insert.ensures.joined) (joined_waits c.args.i links.rounds.ready less))

pub returns-then-end_silent-clause-waits : goal.returns-then-end_silent-clause-waits
returns-then-end_silent-clause-waits c = λ k before.
    let links = c.args.self.now in
    c.end_silent.ensures.waits k (written c.args.i links.upstreams.items links.rounds.ready links.rounds.ready c.hear-heard.new.self (looks_self links.rounds.ready)
    (λ less more. let part = c.hear-heard.ensures more in let nothing = c.in-Nothing.is in absurd (cc)) k before)

pub returns-else-end_silent-clause-waits : goal.returns-else-end_silent-clause-waits
returns-else-end_silent-clause-waits c = λ k before.
    let links = c.args.self.now in
    c.end_silent.ensures.waits k (written c.args.i links.upstreams.items links.rounds.ready links.rounds.ready c.hear-heard.new.self (looks_self links.rounds.ready)
    (λ less more. let part = c.hear-heard.ensures more in let nothing = c.in-Nothing.is in absurd (cc)) k before)

pub returns-in-End-clause-waits : goal.returns-in-End-clause-waits
returns-in-End-clause-waits c = λ k before.
    let links = c.args.self.now in
    c.end-in-End.ensures.waits k (λ other. at_other k c.args.i links.upstreams.items links.rounds.ready links.rounds.ready c.hear-heard.new.self other
    (looks_self links.rounds.ready) (before other))
