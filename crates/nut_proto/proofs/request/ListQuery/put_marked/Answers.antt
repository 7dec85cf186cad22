use Rattle.std.proofs.Common.{refl, sym, ◌∙◌}
use Rattle.nut_proto.specs.declared.request.Request.TheVariants.{List as Asks}
use Rattle.nut_proto.specs.Requests.{request_line}
use Rattle.nut_proto.proofs.Room.{no_room_for_mark, nothing_put, put_behind_mark, put_no_mark}
use Rattle.nut_proto.proofs.request.ListQuery.put_marked.Goals as goal

pub returns-in_err-append : goal.returns-in_err-append
returns-in_err-append g c =
    nothing_put g.O.Out.most (g.O.Out.held c.args.out.now) _ _ c.from_residual.result c.from_residual.ensures.0 c.in_err-append.ensures.err
    (no_room_for_mark g.O.Out.most (g.O.Out.held c.args.out.now) c.args.mark.now _ (request_line (Asks c.args.self.now)) refl c.in_err-append.ensures.full)

pub returns-then-is_err : goal.returns-then-is_err
returns-then-is_err g c =
    put_no_mark g.O.Out.most (g.O.Out.held c.args.out.now) c.args.mark.now (g.O.Out.held c.append.new.self) (request_line (Asks c.args.self.now))
    c.in_ok-append.ensures.ok (g.O.Out.held c.put-outcome.new.out) _ c.put-outcome.result c.len-before.result
    (rw c.line.ensures at c.put-outcome.ensures) (sym c.is_err.ensures.value ∙ c.if-is_err.true) c.len-before.ensures c.truncate.ensures

pub returns-else-is_err : goal.returns-else-is_err
returns-else-is_err g c =
    put_behind_mark g.O.Out.most (g.O.Out.held c.args.out.now) c.args.mark.now (g.O.Out.held c.append.new.self) (request_line (Asks c.args.self.now))
    c.in_ok-append.ensures.ok (g.O.Out.held c.put-outcome.new.out) c.put-outcome.result
    (rw c.line.ensures at c.put-outcome.ensures) (sym c.is_err.ensures.value ∙ c.if-is_err.false)
