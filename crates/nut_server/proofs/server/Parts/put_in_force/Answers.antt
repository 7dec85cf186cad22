use Rattle.std.proofs.Common.{filter, ◌≡◌, ◌≤◌, ◌<◌, ℕ, Bool, ◌∙◌, ap, arith, length, not, subst, sym}
use Rattle.std.specs.List.{AllByRecursion}
use Rattle.std.specs.Vec.{with_items}
use Rattle.std.proofs.lemmas.List.{with_items_is}
use Rattle.nut_server_spec.specs.Content.{Content, Session, numbering_of}
use Rattle.nut_server_spec.specs.Numbering.{Fate, fate_between, is_to_cleared, renumbered, ups_with}
use Rattle.nut_server_spec.specs.laws.Laws.{IsUpTo}
use Rattle.nut_server_spec.specs.laws.Limits.{IsWithin}
use Rattle.nut_server_spec.specs.machine.Machine.{fated}
use Rattle.nut_server_spec.proofs.Numbering.{renumbered_below}
use Rattle.nut_server.specs.contracts.server.Parts.{the_view}
use Rattle.nut_server.specs.inside.Inside.{numbers_of}
use Rattle.nut_server.proofs.Arrives.{numbers-length}
use Rattle.nut_server_spec.proofs.AnswerLengths.{fewer}
use Rattle.nut_server.proofs.Orderly.{IsUpTo-filter}
use Rattle.nut_server.proofs.Reloaded.{changed_long, put_in}
use Rattle.nut_server.proofs.server.Parts.put_in_force.Goals as goal

pub invariant_of-self : goal.invariant_of-self
invariant_of-self c =
    let old = c.self.inside in
    let s = the_view old in
    let cleared : ℕ → Fate = λ u. fate_between (ups_with u (record { upses = s.configuration.upses; numbers = c.as_slice.result.now })) (ups_with u (record { upses = c.args.config.upses; numbers = c.as_slice-2.result.now })) in
    let stays : Session → Bool = λ k. not (is_to_cleared cleared k.login) in
    let met : length c.meet_fates.new.devices ≡ length old.devices.items =
    ap length c.meet_fates.ensures ∙ changed_long (λ u. fated (cleared u)) 0 c.as_mut_slice.result.now ∙ ap length c.as_mut_slice.ensures.value
    in
    let same : length (with_items old.devices c.meet_fates.new.devices).items ≡ length old.devices.items =
    ap length (with_items_is old.devices c.meet_fates.new.devices (met ∙ sym old.devices.ok.0)) ∙ met
    in
    let numbers : c.renumbered-numbers.result.items ≡ renumbered c.args.config.upses (numbering_of s) =
    c.renumbered-numbers.ensures ∙ ap (renumbered c.args.config.upses) (c.numbering.ensures ∙ ap numbering_of (sym c.self.view_is))
    in
    let few : length c.args.config.upses ≤ length old.devices.items = omega (arith, c.requires, ap (λ (t : Content). length t.supplies) c.self.view_is) in
    let placed : AllByRecursion (λ n. n < length old.devices.items) (renumbered c.args.config.upses (numbering_of s)) =
    renumbered_below (length old.devices.items) (numbering_of s) c.args.config.upses c.self.invariant.placed few
    in
    record {
      up_to = subst (λ ks. IsUpTo old.opened (numbers_of ks)) (sym c.close_cleared.ensures) (IsUpTo-filter stays old.opened old.connections c.self.invariant.up_to);
      few = c.self.invariant.few;
      within = omega (arith, ap (λ ks. length (numbers_of ks)) c.close_cleared.ensures, numbers-length (filter stays old.connections), numbers-length old.connections, fewer stays old.connections, c.self.invariant.within);
      limits = subst IsWithin (sym c.replace.ensures.after) c.is_within_limits.ensures;
      placed = subst (λ m. AllByRecursion (λ n. n < m) c.renumbered-numbers.result.items) (sym same) (subst (λ ns. AllByRecursion (λ n. n < length old.devices.items) ns) (sym numbers) placed);
      places = omega (arith, same, c.self.invariant.places);
    }

pub returns : goal.returns
returns c =
    let old = c.self.inside in
    let s = the_view old in
    let cleared : ℕ → Fate = λ u. fate_between (ups_with u (record { upses = s.configuration.upses; numbers = c.as_slice.result.now })) (ups_with u (record { upses = c.args.config.upses; numbers = c.as_slice-2.result.now })) in
    let met : length c.meet_fates.new.devices ≡ length old.devices.items =
    ap length c.meet_fates.ensures ∙ changed_long (λ u. fated (cleared u)) 0 c.as_mut_slice.result.now ∙ ap length c.as_mut_slice.ensures.value
    in
    let devices : (with_items old.devices c.meet_fates.new.devices).items ≡ c.meet_fates.new.devices = with_items_is old.devices c.meet_fates.new.devices (met ∙ sym old.devices.ok.0) in
    rw (← c.self.view_is)
    (put_in s c.args.config c.replace.new.dest c.as_slice.result.now c.as_slice-2.result.now c.renumbered-numbers.result.items c.close_cleared.new.self
    c.as_mut_slice.result.now (with_items old.devices c.meet_fates.new.devices).items
    c.replace.ensures.after c.as_slice.ensures.value (c.renumbered-numbers.ensures ∙ ap (renumbered c.args.config.upses) (c.numbering.ensures ∙ ap numbering_of (sym c.self.view_is)))
    c.as_slice-2.ensures.value c.close_cleared.ensures (devices ∙ c.meet_fates.ensures) c.as_mut_slice.ensures.value)
