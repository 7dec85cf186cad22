use Rattle.std.proofs.Common.{◌∷◌, ◌++◌, [], refl}
use Rattle.nut_monitor_sockets.proofs.InTurn.{found_last, look_more}
use Rattle.nut_monitor_sockets.proofs.Unread.{looked_at, waits_itself}
use Rattle.nut_monitor_sockets.proofs.links.Links.look.Goals as goal

pub returns-in-Some-clause-turns : goal.returns-in-Some-clause-turns
returns-in-Some-clause-turns g c =
    let before = c.loop.invariant.0 in
    let token = c.in_ok-i.field-0 in
    let start = c.args.self.now in
    found_last c.in-Some.next before.0 token.0 start c.look_at.new.self
    (look_more before.0 token.0 start.rounds c.loop.self.rounds (record c.loop.self.rounds { ready = c.take.new.self }) c.look_at.new.self.rounds
    before.1 c.in_ok-i.ensures.taken.0 refl c.look_at.ensures.turns)
    c.in-Some.ensures.given
    (waits_itself token.0 c.loop.self.upstreams.items c.take.new.self c.look_at.new.self c.look_at.ensures.waits)

pub returns-in-Some-clause-waits : goal.returns-in-Some-clause-waits
returns-in-Some-clause-waits g c =
    looked_at c.in_ok-i.field-0.0 c.args.self.now c.loop.self c.look_at.new.self c.take.new.self c.in_ok-i.ensures.taken.0 c.look_at.ensures.waits
    c.loop.invariant.1

pub loop-preserved : goal.loop-preserved
loop-preserved g c =
    let before = c.loop.invariant.0 in
    let token = c.in_ok-i.field-0 in (
      (
        before.0 ++ token.0 ∷ [],
        look_more before.0 token.0 c.args.self.now.rounds c.loop.self.rounds (record c.loop.self.rounds { ready = c.take.new.self })
            c.look_at.new.self.rounds before.1 c.in_ok-i.ensures.taken.0 refl c.look_at.ensures.turns,
      ),
      looked_at token.0 c.args.self.now c.loop.self c.look_at.new.self c.take.new.self c.in_ok-i.ensures.taken.0 c.look_at.ensures.waits
          c.loop.invariant.1,
    )
