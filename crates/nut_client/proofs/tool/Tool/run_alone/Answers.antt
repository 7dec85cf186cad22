use Rattle.std.proofs.Common.{refl}
use Rattle.nut_client.specs.inside.Reading.{options_view}
use Rattle.nut_client.specs.Tool.{asks}
use Rattle.nut_client.proofs.Refused.{refused}
use Rattle.nut_client.proofs.tool.Tool.run_alone.Goals as goal

pub returns-in-Ok : goal.returns-in-Ok
returns-in-Ok g c = asks (options_view c.in-Ok.field-0) c.in-Ok.ensures _ refl c.tell.ensures

pub returns-in-Err : goal.returns-in-Err
returns-in-Err g c = refused _ _ _ tt c.in-Err.refusal _ _ _ c.in-Err.ensures c.tell_refusal.ensures
