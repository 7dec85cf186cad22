use Rattle.std.proofs.Common.{Some, refl, ap, arith}
use Rattle.nut_server_spec.specs.Acceptance.{front}
use Rattle.nut_server_spec.specs.machine.Machine.{with_supplies, bytes_reported}
use Rattle.nut_server.specs.contracts.server.Parts.{the_view}
use Rattle.nut_server.proofs.Acting.{act_written}
use Rattle.nut_server.proofs.Arrives.{gone_after}
use Rattle.nut_server.proofs.server.Parts.driver_bytes.Goals as goal

pub returns-in-Err-clause-content : goal.returns-in-Err-clause-content
returns-in-Err-clause-content c =
    rw (← c.self.view_is) (ap (λ ds. with_supplies ds (the_view c.self.inside))
    (gone_after c.args.u (bytes_reported c.self.inside.clock (front c.in-Err.done c.args.piece.now)) c.self.inside.devices.items c.index_mut.result.now c.hear.new.self (omega (arith, c.if-u-len.false, c.len.ensures)) c.index_mut.ensures.value c.in-Err.ensures.lost))

pub returns-clause-content : goal.returns-clause-content
returns-clause-content c =
    rw (← c.self.view_is) (ap (λ ds. with_supplies ds (the_view c.self.inside))
    (act_written (Some c.args.u) c.args.u (bytes_reported c.self.inside.clock c.args.piece.now) c.self.inside.devices.items c.index_mut.result.now c.hear.new.self refl (omega (arith, c.if-u-len.false, c.len.ensures)) c.index_mut.ensures.value c.in_default.ensures.ok))
