use Rattle.std.proofs.Common.{ap, length, arith, refl}
use Rattle.std.proofs.lemmas.Grind.{common_steps}
use Rattle.std.proofs.lemmas.List.{length-drop}
use Rattle.nut_client.proofs.Writing.{cut_at, keeps_on, wrote_more}
use Rattle.nut_client.proofs.engine.put_all.Goals as goal

pub returns-in-Lost : goal.returns-in-Lost
returns-in-Lost g c = cut_at _ _ _ c.loop-at.at c.args.bytes.now (keeps_on _ _ _ _ c.loop-at.invariant.wrote c.in-Lost.ensures.wrote) (c.in-Lost.ensures.lost refl)

pub loop-at-preserved-in-Bytes : goal.loop-at-preserved-in-Bytes
loop-at-preserved-in-Bytes g c = record {
  within = omega (arith, c.in-Bytes.ensures.wrote.0, ap length c.rest_from.ensures, length-drop c.loop-at.at c.args.bytes.now, c.loop-at.invariant.within);
  wrote = wrote_more _ _ _ c.loop-at.at c.in-Bytes.n c.args.bytes.now _ c.rest_from.ensures c.loop-at.invariant.wrote c.in-Bytes.ensures.wrote.1;
}

pub returns-then-at-bytes : goal.returns-then-at-bytes
returns-then-at-bytes g c = grind (arith, common_steps)

pub loop-at-preserved : goal.loop-at-preserved
loop-at-preserved g c = record {
  within = omega arith;
  wrote = keeps_on _ _ _ _ c.loop-at.invariant.wrote c.in-Again.ensures.wrote;
}
