use Rattle.std.proofs.Common.{◌≡◌, ◌+◌, ◌<◌, true, [], refl, sym, subst, arith}
use Rattle.nut_poll.specs.declared.ready.TheConstants.{SOCKETS_MAX}
use Rattle.nut_poll.specs.inside.TurnLaws.{heeds_as_before}
use Rattle.nut_server_sockets.proofs.HeedLemmas.{heeds_one, line_on, line_with, queued}
use Rattle.nut_server_sockets.proofs.TurnLemmas.{looks_bytes, looks_end, stays}
use Rattle.nut_server_sockets.specs.declared.source.TheConstants.{FIXED_MAX}
use Rattle.nut_server_sockets.specs.inside.Looking.{is_in_line}
use Rattle.nut_server_sockets.proofs.sockets.Sockets.look_at_client.Goals as goal

pub returns-then-hold-clause-heeds : goal.returns-then-hold-clause-heeds
returns-then-hold-clause-heeds c =
    let old = c.args.self.now in
    let key = c.args.key in
    let at : FIXED_MAX + key < SOCKETS_MAX → c.token-token.result.0 ≡ FIXED_MAX + key = λ less. c.token-token.ensures (omega (arith, less)) in
    heeds_one old (record old { stall = c.hold.new.self }) key (λ other _. refl) (c.hold.ensures.line old.rounds.ready) (λ less _.
    subst (λ n. is_in_line old.rounds.ready c.hold.new.self n ≡ true) (at less)
    (c.hold.ensures.held old.rounds.ready c.if-hold.true (subst (λ n. n < SOCKETS_MAX) (sym (at less)) less)))

pub returns-in_err-number-clause-heeds : goal.returns-in_err-number-clause-heeds
returns-in_err-number-clause-heeds c =
    let old = c.args.self.now in
    heeds_one old (record old { stall = c.hold.new.self; clients = c.hear.new.self }) c.args.key c.hear.ensures.others (c.hold.ensures.line old.rounds.ready)
    (λ less due. absurd (c.in_err-number.ensures.left due))

pub returns-in-All-clause-look : goal.returns-in-All-clause-look
returns-in-All-clause-look c =
    let old = c.args.self.now in
    looks_bytes c.args.server.now c.args.key c.in_ok-number.number old (record old { stall = c.hold.new.self; clients = c.hear.new.self })
    c.in_ok-number.ensures.may c.in_ok-number.ensures.seat c.hear.ensures.seats (stays old.rounds old.rounds refl)

pub returns-in-All-clause-heeds : goal.returns-in-All-clause-heeds
returns-in-All-clause-heeds c =
    let old = c.args.self.now in
    heeds_one old (record old { stall = c.hold.new.self; clients = c.hear.new.self }) c.args.key c.hear.ensures.others (c.hold.ensures.line old.rounds.ready)
    (λ less due. let part = c.in_ok-number.ensures.left due in absurd (cc))

pub returns-in-Part-clause-look : goal.returns-in-Part-clause-look
returns-in-Part-clause-look c =
    let old = c.args.self.now in
    let rounds = record old.rounds { ready = c.insert.new.self } in
    looks_bytes c.args.server.now c.args.key c.in_ok-number.number old (record old { rounds = rounds; stall = c.hold.new.self; clients = c.hear.new.self })
    c.in_ok-number.ensures.may c.in_ok-number.ensures.seat c.hear.ensures.seats (heeds_as_before [] old.rounds rounds c.insert.ensures.comes refl, refl)

pub returns-in-Part-clause-heeds : goal.returns-in-Part-clause-heeds
returns-in-Part-clause-heeds c =
    let old = c.args.self.now in
    let key = c.args.key in
    let at : FIXED_MAX + key < SOCKETS_MAX → c.token-token.result.0 ≡ FIXED_MAX + key = λ less. c.token-token.ensures (omega (arith, less)) in
    heeds_one old (record old { rounds = record old.rounds { ready = c.insert.new.self }; stall = c.hold.new.self; clients = c.hear.new.self }) key c.hear.ensures.others
    (line_on old.rounds.ready old.rounds.ready c.insert.new.self old.stall c.hold.new.self c.hold.new.self (c.hold.ensures.line old.rounds.ready)
    (line_with old.rounds.ready c.insert.new.self c.hold.new.self c.insert.ensures.comes))
    (λ less _. queued old.rounds.ready c.insert.new.self c.hold.new.self (FIXED_MAX + key) c.token-token.result.0 c.insert.ensures.joined (at less) less)

pub returns-in-End-clause-look : goal.returns-in-End-clause-look
returns-in-End-clause-look c =
    let old = c.args.self.now in
    looks_end c.args.server.now c.args.key c.in_ok-number.number old (record old { stall = c.hold.new.self; clients = c.hear.new.self }) c.close.new.self
    c.in_ok-number.ensures.seat c.hear.ensures.seats c.close.ensures.others (stays old.rounds c.close.new.self.rounds c.close.ensures.turns.0)

pub returns-in-End-clause-heeds : goal.returns-in-End-clause-heeds
returns-in-End-clause-heeds c key was =
    let old = c.args.self.now in
    c.close.ensures.turns.1 key (heeds_one old (record old { stall = c.hold.new.self; clients = c.hear.new.self }) c.args.key c.hear.ensures.others
    (c.hold.ensures.line old.rounds.ready) (λ less due. let part = c.in_ok-number.ensures.left due in absurd (cc)) key was)

pub returns-in-Nothing-clause-look : goal.returns-in-Nothing-clause-look
returns-in-Nothing-clause-look c =
    let old = c.args.self.now in
    record { may = tt; goes_on = tt; given = tt; seats = c.hear.ensures.seats; turns = stays old.rounds old.rounds refl; again = tt }
