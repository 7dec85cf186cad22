use Rattle.std.proofs.Common.{length, subst, sym, ap, ◌∙◌, arith, ◌≡◌, ◌<◌}
use Rattle.std.proofs.lemmas.Grind.{common_steps}
use Rattle.std.proofs.lemmas.List.{length-map}
use Rattle.nut_server_spec.specs.laws.Laws.{IsUpTo}
use Rattle.nut_server_spec.specs.Numbering.{below}
use Rattle.nut_server.specs.inside.Inside.{numbers_of}
use Rattle.nut_server_spec.specs.Content.{unheard}
use Rattle.nut_server_spec.proofs.Places.{below-length}
use Rattle.nut_server.proofs.server.Parts.new.Goals as goal
use Rattle.std.specs.List.{AllByRecursion}
use Rattle.nut_server_spec.proofs.Numbering.{below_are}

pub invariant_of-result : goal.invariant_of-result
invariant_of-result c =
    let long : length c.in-Ok.devices.items ≡ c.number_of_upses-count.result =
    ap length c.in-Ok.ensures.0 ∙ length-map (below c.number_of_upses-count.result) (λ u. unheard) ∙ below-length c.number_of_upses-count.result in
    record {
      up_to = subst (λ ks. IsUpTo 0 (numbers_of ks)) (sym c.in-Ok.ensures.1) tt;
      few = omega arith;
      within = omega (arith, ap (λ ks. length (numbers_of ks)) c.in-Ok.ensures.1);
      limits = c.is_within_limits.ensures;
      placed = subst (λ m. AllByRecursion (λ n. n < m) c.first_numbers.result.items) (sym long) (subst (λ ns. AllByRecursion (λ n. n < c.number_of_upses-count.result) ns) (sym c.first_numbers.ensures) (below_are c.number_of_upses-count.result));
      places = omega (arith, long, c.number_of_upses-count.ensures.few);
    }

pub returns-in-Ok : goal.returns-in-Ok
returns-in-Ok c = grind (arith, common_steps)
