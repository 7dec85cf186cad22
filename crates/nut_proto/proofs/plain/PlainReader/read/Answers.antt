use Rattle.std.proofs.Common.{◌≡◌, length, arith, ap, sym, ◌∙◌}
use Rattle.std.proofs.lemmas.Bool.Decides.{nat_tests}
use Rattle.std.proofs.lemmas.Slice.Eq.{bytes_eq-Decides}
use Rattle.nut_proto.proofs.PlainMeans.{kept_told}
use Rattle.nut_proto.proofs.plain.PlainReader.read.Goals as goal

pub returns-then-eq-clause-told : goal.returns-then-eq-clause-told
returns-then-eq-clause-told c =
    let same : c.args.piece.now ≡ c.self.inside.kept.items = (bytes_eq-Decides c.args.piece.now c.as_slice.result.now).0 (sym c.eq.ensures ∙ c.if-eq.true) ∙ c.as_slice.ensures.value in
    (kept_told c.args.piece.now c.self.inside.kept.items c.self.inside.variable c.self.invariant same (λ none. grind (arith, nat_tests, none, c.is_empty.ensures, c.if-not-is_empty.true)) (omega (arith, c.as_slice.ensures.fits, ap length c.as_slice.ensures.value))).0

pub returns-then-eq-clause-front : goal.returns-then-eq-clause-front
returns-then-eq-clause-front c =
    let same : c.args.piece.now ≡ c.self.inside.kept.items = (bytes_eq-Decides c.args.piece.now c.as_slice.result.now).0 (sym c.eq.ensures ∙ c.if-eq.true) ∙ c.as_slice.ensures.value in
    (kept_told c.args.piece.now c.self.inside.kept.items c.self.inside.variable c.self.invariant same (λ none. grind (arith, nat_tests, none, c.is_empty.ensures, c.if-not-is_empty.true)) (omega (arith, c.as_slice.ensures.fits, ap length c.as_slice.ensures.value))).1
