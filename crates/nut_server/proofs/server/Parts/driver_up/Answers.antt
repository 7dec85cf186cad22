use Rattle.std.proofs.Common.{◌≡◌, ◌<◌, true, Some, refl, subst, sym, ap, length, arith, ◌∙◌}
use Rattle.std.specs.List.{AllByRecursion}
use Rattle.std.proofs.lemmas.List.{length-set}
use Rattle.nut_server_spec.specs.Numbering.{is_taken}
use Rattle.nut_server_spec.specs.machine.Machine.{with_supplies, up}
use Rattle.nut_server.specs.contracts.server.Parts.{the_view}
use Rattle.nut_server.proofs.Acting.{act_written}
use Rattle.nut_server.proofs.Numbered.{taken_placed}
use Rattle.nut_server.proofs.server.Parts.driver_up.Goals as goal

pub index_mut-requires : goal.index_mut-requires
index_mut-requires c =
    let taken : is_taken c.args.u c.self.inside.numbers.items ≡ true = ap (is_taken c.args.u) (sym c.as_slice.ensures.value) ∙ sym c.contains.ensures.value ∙ c.if-not-contains.false in
    omega (arith, taken_placed (length c.self.inside.devices.items) c.args.u c.self.inside.numbers.items c.self.invariant.placed taken, c.self.inside.devices.ok)

pub invariant_of-self : goal.invariant_of-self
invariant_of-self c = record {
  up_to = c.self.invariant.up_to;
  few = c.self.invariant.few;
  within = c.self.invariant.within;
  limits = c.self.invariant.limits;
  placed = subst (λ m. AllByRecursion (λ n. n < m) c.self.inside.numbers.items) (sym (length-set c.self.inside.devices.items c.args.u c.up.new.self)) c.self.invariant.placed;
  places = omega (arith, length-set c.self.inside.devices.items c.args.u c.up.new.self, c.self.invariant.places);
}

pub returns-clause-content : goal.returns-clause-content
returns-clause-content c =
    let taken : is_taken c.args.u c.self.inside.numbers.items ≡ true = ap (is_taken c.args.u) (sym c.as_slice.ensures.value) ∙ sym c.contains.ensures.value ∙ c.if-not-contains.false in
    let there = taken_placed (length c.self.inside.devices.items) c.args.u c.self.inside.numbers.items c.self.invariant.placed taken in
    rw (← c.self.view_is) (ap (λ ds. with_supplies ds (the_view c.self.inside))
    (act_written (Some c.args.u) c.args.u (up c.self.inside.clock) c.self.inside.devices.items c.index_mut.result.now c.up.new.self refl there c.index_mut.ensures.value c.up.ensures))
