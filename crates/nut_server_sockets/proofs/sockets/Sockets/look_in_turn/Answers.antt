use Rattle.std.proofs.Common.{[], ◌∷◌, ◌++◌, ◌∙◌, refl}
use Rattle.nut_server_sockets.proofs.HeedLemmas.{heeded_on, heeds_still, heeds_taken}
use Rattle.nut_server_sockets.proofs.SeatLemmas.{same_seats, seats_on}
use Rattle.nut_server_sockets.proofs.TurnLemmas.{found_last, found_none, look_more}
use Rattle.nut_server_sockets.proofs.sockets.Sockets.look_in_turn.Goals as goal

pub loop-init : goal.loop-init
loop-init g c = (
  ([], c.end_stall.ensures.0.0),
  c.end_stall.ensures.0.1,
  same_seats c.args.self.now.clients.sockets c.end_stall.new.self.clients.sockets c.end_stall.ensures.1,
  heeds_still c.args.self.now c.end_stall.new.self c.end_stall.ensures,
)

pub returns-in-Some-clause-turns : goal.returns-in-Some-clause-turns
returns-in-Some-clause-turns g c =
    let before = c.loop.invariant.0 in
    let token = c.in_ok-token.token in
    let look = c.in-Some.ensures.look in
    let taken = record c.loop.self { rounds = record c.loop.self.rounds { ready = c.take.new.self } } in
    found_last c.args.server.now c.in-Some.next before.0 token.0 c.args.self.now taken c.look_at.new.self
    (look_more before.0 token c.args.self.now.rounds c.loop.self.rounds taken.rounds c.look_at.new.self.rounds
    before.1 c.in_ok-token.ensures.taken refl look.turns.0)
    (look.turns.1 ∙ c.loop.invariant.1) c.loop.invariant.2
    (heeded_on c.args.self.now c.loop.self c.look_at.new.self c.loop.invariant.3
    (heeds_taken token c.loop.self c.look_at.new.self taken refl refl c.in_ok-token.ensures.taken c.look_at.ensures.heeds))
    look

pub loop-preserved : goal.loop-preserved
loop-preserved g c =
    let before = c.loop.invariant.0 in
    let token = c.in_ok-token.token in
    let look = c.in_default.ensures.look in
    let taken = record c.loop.self { rounds = record c.loop.self.rounds { ready = c.take.new.self } } in (
      (
        before.0 ++ token.0 ∷ [],
        look_more before.0 token c.args.self.now.rounds c.loop.self.rounds taken.rounds c.look_at.new.self.rounds
            before.1 c.in_ok-token.ensures.taken refl look.turns.0,
      ),
      look.turns.1 ∙ c.loop.invariant.1,
      seats_on c.args.self.now.clients.sockets c.loop.self.clients.sockets c.look_at.new.self.clients.sockets c.loop.invariant.2 look.seats,
      heeded_on c.args.self.now c.loop.self c.look_at.new.self c.loop.invariant.3
          (heeds_taken token c.loop.self c.look_at.new.self taken refl refl c.in_ok-token.ensures.taken c.look_at.ensures.heeds),
    )

pub returns-clause-turns : goal.returns-clause-turns
returns-clause-turns g c = found_none c.args.server.now c.loop.invariant.0.0 c.args.self.now c.loop.self c.loop.invariant.0.1 c.loop.invariant.1 c.loop.invariant.2 c.loop.invariant.3
