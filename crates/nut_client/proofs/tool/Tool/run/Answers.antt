use Rattle.std.proofs.Common.{refl}
use Rattle.nut_client.proofs.Refused.{refused}
use Rattle.nut_client.proofs.tool.Tool.run.Goals as goal

pub returns-in-Ok : goal.returns-in-Ok
returns-in-Ok g c = rw c.in-Ok.ensures c.run_options.ensures

pub returns-in-Err : goal.returns-in-Err
returns-in-Err g c = refused _ _ _ refl c.in-Err.refusal _ _ _ c.in-Err.ensures c.tell_refusal.ensures
