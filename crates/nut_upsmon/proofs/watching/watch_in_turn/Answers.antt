use Rattle.std.proofs.Common.{rules, ◌≡◌, false}
use Rattle.nut_monitor_spec.specs.Decision.{is_halted}
use Rattle.nut_upsmon.specs.Course.{EndsInFault}
use Rattle.nut_upsmon.proofs.Acted.{ready_first}
use Rattle.nut_upsmon.proofs.Coursing.{faults, goes_on, halts, none_ran, on_err}
use Rattle.nut_upsmon.proofs.watching.watch_in_turn.Goals as goal

pub loop-init : goal.loop-init
loop-init g c =
    record {
      running = none_ran g.W.MonWorld.did g.W.GuardedWorld.turns g.W.GuardedWorld.acts g.W.GuardedWorld.upcoming c.args.world.now c.args.first.monitor.config
          (g.met.W.GuardedWorld.turns_self c.args.world.now) (ready_first _ _ c.args.first.monitor.config c.requires.begun c.requires.upcoming);
      same_count = search rules;
    }

pub returns-in_err-flag-clause-failed : goal.returns-in_err-flag-clause-failed
returns-in_err-flag-clause-failed g c =
    let failed : g.W.MonWorld.failed_at_next c.watch_once.new.world → EndsInFault g.W.MonWorld.did g.W.GuardedWorld.turns c.args.world.now c.watch_once.new.world = λ at_next.
    faults g.W.MonWorld.did g.W.GuardedWorld.turns g.met.W.GuardedWorld.turns_on g.met.W.GuardedWorld.turns_self g.W.GuardedWorld.acts g.W.GuardedWorld.upcoming
    c.args.world.now c.loop.world c.watch_once.new.world c.loop.beginning.monitor.config c.loop.invariant.running (c.in_err-flag.ensures.err at_next) in
    on_err _ failed

pub returns-in-Halted-clause-halted : goal.returns-in-Halted-clause-halted
returns-in-Halted-clause-halted g c =
    halts g.W.MonWorld.did g.W.GuardedWorld.turns g.met.W.GuardedWorld.turns_on g.W.GuardedWorld.acts g.W.GuardedWorld.upcoming
    c.args.world.now c.loop.world c.watch_once.new.world c.halt.new.self c.loop.beginning.monitor.config c.in-Halted.flag c.in_ok-flag.field-0
    c.loop.invariant.running c.in_ok-flag.ensures.ok c.in_ok-flag.ensures.ready c.in-Halted.is c.halt.ensures.turns c.halt.ensures.acts

pub loop-preserved : goal.loop-preserved
loop-preserved g c =
    let going : is_halted c.in_ok-flag.field-0 ≡ false = search rules in
    record {
      running = goes_on g.W.MonWorld.did g.W.GuardedWorld.turns g.met.W.GuardedWorld.turns_on g.W.GuardedWorld.acts g.W.GuardedWorld.upcoming
          c.args.world.now c.loop.world c.watch_once.new.world c.change-beginning.new.self c.loop.beginning.monitor.config c.change-beginning.result
          c.in_ok-flag.field-0 c.loop.invariant.running c.in_ok-flag.ensures.ok c.in_ok-flag.ensures.ready going c.change-beginning.ensures.turns
          c.change-beginning.ensures.acts c.change-beginning.ensures.was c.change-beginning.ensures.upcoming;
      same_count = search rules;
    }
