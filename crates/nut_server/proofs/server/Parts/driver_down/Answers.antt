use Rattle.std.proofs.Common.{Some, refl, ap, arith}
use Rattle.nut_server_spec.specs.machine.Machine.{with_supplies}
use Rattle.nut_server_spec.specs.Content.{down}
use Rattle.nut_server.specs.contracts.server.Parts.{the_view}
use Rattle.nut_server.proofs.Acting.{act_written}
use Rattle.nut_server.proofs.server.Parts.driver_down.Goals as goal

pub returns-clause-content : goal.returns-clause-content
returns-clause-content c =
    rw (← c.self.view_is) (ap (λ ds. with_supplies ds (the_view c.self.inside))
    (act_written (Some c.args.u) c.args.u down c.self.inside.devices.items c.index_mut.result.now c.down.new.self refl (omega (arith, c.if-u-len.false, c.len.ensures)) c.index_mut.ensures.value c.down.ensures))
