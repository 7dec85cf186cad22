use Rattle.std.proofs.Common.{◌≡◌, ◌<◌, ◌+◌, ◌++◌, suc, length, map, slice_get, Some, refl, sym, ap, ◌∙◌, subst, arith}
use Rattle.std.proofs.lemmas.List.{length-map}
use Rattle.nut_fleet.specs.Log.{logged}
use Rattle.nut_play.specs.Steps.{step_of, logged_of}
use Rattle.nut_play.specs.machine.Play.{IsPlayed, firsts, run_log, told_at}
use Rattle.nut_play.proofs.Places.{get-at}
use Rattle.nut_play.proofs.Runs.{get-map, played-more, log-more, stopped}
use Rattle.nut_play.proofs.fleet.Fleet.play_all.Goals as goal

pub loop-k-preserved : goal.loop-k-preserved
loop-k-preserved c =
    let lt : c.loop-k.k < length c.args.schedule.now = omega (arith, c.loop-k-test.true, c.loop-k.auto.k-end) in
    let is : slice_get (map step_of c.args.schedule.now) c.loop-k.k ≡ Some (step_of c.index-schedule-k.result) =
    get-map step_of c.args.schedule.now c.loop-k.k c.index-schedule-k.result
    (get-at c.loop-k.k c.args.schedule.now c.index-schedule-k.result lt c.index-schedule-k.is) in
    let more : suc c.loop-k.k ≡ c.loop-k.k + 1 = omega arith in
    let within : c.loop-k.k < length (map step_of c.args.schedule.now) = subst (λ j. c.loop-k.k < j) (sym (length-map c.args.schedule.now step_of)) lt in
    record {
      played =
          subst (λ j. IsPlayed c.args.self.now (map step_of c.args.schedule.now) j c.play_next.new.self) more
          (played-more c.args.self.now (map step_of c.args.schedule.now) c.loop-k.k c.loop-k.self c.play_next.new.self
          (step_of c.index-schedule-k.result) is c.loop-k.invariant.played c.in-Ok.ensures.fit c.in-Ok.ensures.fleet);
      log =
          subst (λ j. map logged_of c.play_next.new.log.items ≡ run_log c.args.self.now (firsts j (map step_of c.args.schedule.now))) more
          (log-more c.args.self.now (map step_of c.args.schedule.now) c.loop-k.k c.loop-k.self c.play_next.new.self
          (step_of c.index-schedule-k.result) is (map logged_of c.loop-k.log.items) (map logged_of c.play_next.new.log.items) within
          c.loop-k.invariant.played c.loop-k.invariant.log
          (c.in-Ok.ensures.log
          ∙ ap (λ j. map logged_of c.loop-k.log.items ++ logged j (told_at c.loop-k.self (step_of c.index-schedule-k.result))) (sym more)));
    }

pub returns-in-Err-clause-fault : goal.returns-in-Err-clause-fault
returns-in-Err-clause-fault c =
    let lt : c.loop-k.k < length c.args.schedule.now = omega (arith, c.loop-k-test.true, c.loop-k.auto.k-end) in
    let is : slice_get (map step_of c.args.schedule.now) c.loop-k.k ≡ Some (step_of c.index-schedule-k.result) =
    get-map step_of c.args.schedule.now c.loop-k.k c.index-schedule-k.result
    (get-at c.loop-k.k c.args.schedule.now c.index-schedule-k.result lt c.index-schedule-k.is) in
    let within : c.loop-k.k < length (map step_of c.args.schedule.now) = subst (λ j. c.loop-k.k < j) (sym (length-map c.args.schedule.now step_of)) lt in
    stopped c.args.self.now (map step_of c.args.schedule.now) c.loop-k.k (c.loop-k.k + 1) c.loop-k.self c.play_next.new.self
    (step_of c.index-schedule-k.result) is refl within c.loop-k.invariant.played c.in-Err.fault c.in-Err.ensures.fault
