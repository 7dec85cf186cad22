use Rattle.std.proofs.Common.{arith, ◌≡◌, ◌∙◌, ap, sym, subst, map, true}
use Rattle.std.proofs.lemmas.List.{length-map}
use Rattle.nut_server_spec.specs.Content.{Supply}
use Rattle.nut_server.specs.inside.Effects.{IsPossible, forced, requesting}
use Rattle.nut_server.proofs.Acting.{update_at_written, device_there, requesting_connected}
use Rattle.nut_server.proofs.Deciding.{is_there}
use Rattle.nut_server.proofs.effect.Effect.act.Goals as goal

pub returns-in-Force-clause-value : goal.returns-in-Force-clause-value
returns-in-Force-clause-value c =
    let ds = c.args.devices.now.items in
    let u = c.in-Force.u in
    let possible = subst (λ e. IsPossible (map (λ d. d.device) ds) e c.args.line.now) c.in-Force.is c.requires in
    rw c.in-Force.is (update_at_written u forced ds c.index_mut.result.now c.force.new.self (omega (arith, possible, length-map ds (λ (d : Supply). d.device))) c.index_mut.ensures.value c.force.ensures)

pub returns-in-Ask-clause-value : goal.returns-in-Ask-clause-value
returns-in-Ask-clause-value c =
    let ds = c.args.devices.now.items in
    let u = c.in-Ask.u in
    let line = c.args.line.now in
    let d = c.index_mut-in-Ask.result.now in
    let possible = subst (λ e. IsPossible (map (λ d. d.device) ds) e line) c.in-Ask.is c.requires in
    let lt = is_there ds u possible.0 in
    let connected : d.device.connected ≡ true = ap (λ d. d.connected) (sym (device_there ds u d lt c.index_mut-in-Ask.ensures.value)) ∙ possible.0 in
    let number = c.in-Ask.number in
    rw c.in-Ask.is (update_at_written u (requesting line number) ds d c.ask.new.self lt c.index_mut-in-Ask.ensures.value (c.ask.ensures ∙ sym (requesting_connected line number d connected)))
