use Rattle.std.proofs.Common.{arith}
use Rattle.nut_proto.proofs.PlainMeans.{get_var_front, get_var_told, get_ups_desc_told, list_var_told}
use Rattle.nut_proto.proofs.plain.read_line.Goals as goal

pub returns-in-Some-clause-told : goal.returns-in-Some-clause-told
returns-in-Some-clause-told c =
    get_var_told c.in_ok-ups.ups.now c.in_ok-variable.variable.now c.args.piece.now c.in-Some.names.now c.in_ok-ups.rest.now c.in_ok-variable.after.now
    c.in-Some.ensures c.in_ok-ups.ensures.0 c.in_ok-variable.ensures.0 c.in_ok-ups.ensures.1 c.in_ok-variable.ensures.1 (omega (arith, c.if-piece-gt-LINE_MAX.false))

pub returns-in-Some-clause-front : goal.returns-in-Some-clause-front
returns-in-Some-clause-front c =
    get_var_front c.in_ok-ups.ups.now c.args.piece.now c.in-Some.names.now c.in_ok-ups.rest.now c.in-Some.ensures c.in_ok-ups.ensures.0 c.in_ok-ups.ensures.1

pub returns-in-Some-behind-clause-told : goal.returns-in-Some-behind-clause-told
returns-in-Some-behind-clause-told c =
    get_ups_desc_told c.in_ok-ups-2.ups.now c.args.piece.now c.in-Some-behind.names.now c.in_ok-ups-2.after.now
    c.in-Some-behind.ensures c.in_ok-ups-2.ensures.0 c.in_ok-ups-2.ensures.1 (omega (arith, c.if-piece-gt-LINE_MAX.false))

pub returns-clause-told : goal.returns-clause-told
returns-clause-told c =
    list_var_told c.in_ok-ups-3.ups.now c.args.piece.now c.in_ok-names.names.now c.in_ok-ups-3.after.now
    c.in_ok-names.ensures c.in_ok-ups-3.ensures.0 c.in_ok-ups-3.ensures.1 (omega (arith, c.if-piece-gt-LINE_MAX.false))
