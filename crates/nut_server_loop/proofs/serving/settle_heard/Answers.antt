use Rattle.std.proofs.Common.{rules, arith}
use Rattle.std.proofs.lemmas.Grind.{common_steps}
use Rattle.nut_server_loop.proofs.serving.settle_heard.Goals as goal

pub returns-in-Moment : goal.returns-in-Moment
returns-in-Moment g c =
    record {
      goes = record {
        ok = grind (arith, common_steps);
        err = search rules;
        counted = search rules;
        reached = search rules;
      };
    }
