use Rattle.std.proofs.Common.{ℕ, leb, cond, refl, arith}
use Rattle.std.proofs.lemmas.Simd.{zip2_splat, splat_is_map, length-chunk}
use lib.Lanes.{chunk}
use Rattle.nut_words.specs.Spelling.{is_bare}
use Rattle.nut_words.proofs.LaneLemmas.{joined, run_passes}
use Rattle.nut_words.proofs.lanes.bare_run.Goals as goal

pub returns : goal.returns
returns c =
    let v = chunk c.args.at 8 c.args.bytes.now in
    let long = length-chunk c.args.at 8 c.args.bytes.now c.requires in
    run_passes is_bare c.args.bytes.now c.args.at 8 _ _ c.requires (omega arith) c.type_inv.bytes _
    (joined _ _ _ v
    (joined (λ a b. cond (leb a b) 255 0) _ _ v (splat_is_map {V = ℕ} v 8 91 long) (zip2_splat {Y = ℕ} _ v 8 36 long))
    (joined _ _ _ v (zip2_splat {Y = ℕ} _ v 8 61 long) (zip2_splat {Y = ℕ} _ v 8 92 long)))
    c.first_set.ensures refl
