use Rattle.std.proofs.Common.{ap, sym, subst, inl, inr, List, length, arith, refl, Option, option_map, Result, Ok, Err}
use Rattle.std.specs.Prelude.{IsErr, IsOk, OnOk}
use Rattle.std.proofs.lemmas.Bool.{cases_lt, false≢true}
use Rattle.nut_client.proofs.Places.{long_server}
use Rattle.nut_client.specs.CommandLine.{at_server}
use Rattle.nut_conf.specs.Target.{target}
use Rattle.nut_client.proofs.destination.read_server.Goals as goal

on_ok : {T E : Type 0} (r : Result T E) (P : Type 0) → IsOk r → OnOk r P → P
on_ok (Ok x) P is p = p
on_ok (Err e) P is p = absurd (cc)

pub returns-in-Err : goal.returns-in-Err
returns-in-Err c =
    let begun = on_ok _ _ (c.try_extend_from_slice.ensures.variant.1 (omega (arith, ap length c.new-name.ensures))) c.try_extend_from_slice.ensures.len in
    elim (cases_lt 126 (length c.in-Some.server.now)) [
      | inl long ↦ (refl, subst (λ (o : Option (List _)). IsErr (target (at_server o))) (sym (ap (option_map (λ s. s.now)) c.in-Some.is)) (long_server c.in-Some.server.now long))
      | inr short ↦ absurd (false≢true (c.in-Err.ensures.variant.1 (omega (arith, begun, ap length c.new-name.ensures, ap length c.as_bytes.ensures.value, short))))
    ]
