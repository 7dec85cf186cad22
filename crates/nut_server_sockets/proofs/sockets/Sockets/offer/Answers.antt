use Rattle.std.proofs.Common.{◌≡◌, ◌+◌, ◌<◌, [], refl, sym, ◌∙◌, arith}
use Rattle.nut_poll.specs.declared.ready.TheConstants.{SOCKETS_MAX}
use Rattle.nut_poll.specs.inside.TurnLaws.{heeds_as_before}
use Rattle.nut_server_sockets.proofs.HeedLemmas.{heeds_queued, line_with, queued}
use Rattle.nut_server_sockets.specs.declared.source.TheConstants.{FIXED_MAX}
use Rattle.nut_server_sockets.proofs.sockets.Sockets.offer.Goals as goal

pub returns-in_default-Some-clause-goes : goal.returns-in_default-Some-clause-goes
returns-in_default-Some-clause-goes c =
    let old = c.args.self.now in
    let key = c.in_default-Some.key in
    let new = record old { clients = c.offer.new.self; rounds = record old.rounds { ready = c.insert.new.self } } in
    let at : FIXED_MAX + key < SOCKETS_MAX → c.token.result.0 ≡ FIXED_MAX + key = λ less. c.token.ensures (omega (arith, less)) in (
      ([], heeds_as_before [] old.rounds new.rounds c.insert.ensures.comes refl),
      heeds_queued old new key (λ other differs. c.offer.ensures.due other (λ is. differs (sym c.in_default-Some.is-1 ∙ is)))
          (line_with old.rounds.ready c.insert.new.self old.stall c.insert.ensures.comes)
          (λ less. queued old.rounds.ready c.insert.new.self old.stall (FIXED_MAX + key) c.token.result.0 c.insert.ensures.joined (at less) less),
    )
