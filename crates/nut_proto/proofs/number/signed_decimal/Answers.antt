use Rattle.std.proofs.Common.{◌≤◌, ◌<◌, ◌^◌, arith, ap, length, decimal}
use Rattle.arrayvec.specs.ArrayVec.{array_vec_len}
use Rattle.nut_proto.proofs.Digits.{fits_ten}
use Rattle.nut_proto.proofs.number.signed_decimal.Goals.{then-number-lt0, else-number-lt0}
use Rattle.nut_proto.proofs.number.signed_decimal.Goals as goal

pub push_digits-requires : goal.push_digits-requires
push_digits-requires c =
    let small : c.unsigned_abs.result < 2 ^ 32 = omega (arith, c.unsigned_abs.ensures.bound) in
    let digits : length (decimal c.unsigned_abs.result) ≤ 10 = fits_ten c.unsigned_abs.result small in
    let sign : array_vec_len c.if-number-lt0.out ≤ 1 = elim c.if-number-lt0.branch [
      | then-number-lt0 w ↦ rw w.out-is (omega (arith, w.push.ensures.len, ap length c.new-out.ensures))
      | else-number-lt0 w ↦ rw w.out-is (omega (arith, ap length c.new-out.ensures))
    ] in
    record { room = omega (arith, digits, sign) }
