use Rattle.std.proofs.Common.{◌≡◌, map}
use Rattle.nut_play.specs.machine.Play.{firsts, run_log, IsPlayed}
use Rattle.nut_play.specs.Steps.{step_of, logged_of}
use Rattle.nut_play.proofs.fleet.Fleet.play_all.Given as goal

abbrev pub invariant-loop-k : goal.invariant-loop-k
invariant-loop-k l =
    record {
      played : IsPlayed l.fn.self (map step_of l.schedule) l.k l.self;
      log : map logged_of l.log.items ≡ run_log l.fn.self (firsts l.k (map step_of l.schedule));
    }
