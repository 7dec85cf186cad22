use Rattle.nut_upsmon.specs.inside.Running.{Fails}
use Rattle.nut_upsmon.proofs.Coursing.{fails, fails_at_once, has_next, leads, on_err, same_ready}
use Rattle.nut_upsmon.proofs.watching.watch_once.Goals as goal

pub returns-clause-ok : goal.returns-clause-ok
returns-clause-ok g c =
    leads g.W.MonWorld.did g.W.GuardedWorld.turns g.W.GuardedWorld.acts g.W.GuardedWorld.upcoming g.W.GuardedWorld.held c.args.beginning.monitor.config
    c.args.world.now c.begin.new.self c.watch_from.new.world c.watch_from.result c.begin.ensures.turns c.begin.ensures.acts c.in_ok-begin.ensures.held
    (λ entries did. g.met.W.GuardedWorld.tells _ _ _ entries did)
    g.W.MonWorld.has_ended (g.met.W.GuardedWorld.ends c.watch_from.new.world) c.watch_from.ensures.ok

pub returns-clause-ended : goal.returns-clause-ended
returns-clause-ended g c =
    has_next g.W.MonWorld.did g.W.GuardedWorld.turns g.W.GuardedWorld.acts g.W.GuardedWorld.upcoming c.args.beginning.monitor.config
    c.args.world.now c.watch_from.new.world c.watch_from.result (returns-clause-ok g c)

pub returns-clause-err : goal.returns-clause-err
returns-clause-err g c =
    fails g.W.MonWorld.did g.W.GuardedWorld.turns c.args.beginning.monitor.config c.args.world.now c.begin.new.self c.watch_from.new.world
    c.watch_from.result _ c.begin.ensures.turns c.watch_from.ensures.err

pub returns-clause-ready : goal.returns-clause-ready
returns-clause-ready g c = λ ready.
    let did = c.watch_from.ensures.did in
    (g.met.W.GuardedWorld.tells c.args.beginning.monitor.config c.begin.new.self c.watch_from.new.world did.0 did.1).1.0
    (same_ready _ _ _ _ c.args.beginning.monitor.config c.begin.ensures.acts c.begin.ensures.upcoming ready)

pub returns-in_err-begin-clause-err : goal.returns-in_err-begin-clause-err
returns-in_err-begin-clause-err g c =
    let config = c.args.beginning.monitor.config in
    let failed : g.W.MonWorld.failed_at_next c.begin.new.self → Fails g.W.MonWorld.did g.W.GuardedWorld.turns config c.args.world.now c.begin.new.self = λ at_next.
    fails_at_once g.W.MonWorld.did g.W.GuardedWorld.turns config c.args.world.now c.begin.new.self c.begin.ensures.turns (g.met.W.MonWorld.did_self config c.begin.new.self) in
    on_err _ failed

pub returns-in_err-begin-clause-ready : goal.returns-in_err-begin-clause-ready
returns-in_err-begin-clause-ready g c = λ ready. same_ready _ _ _ _ c.args.beginning.monitor.config c.begin.ensures.acts c.begin.ensures.upcoming ready
