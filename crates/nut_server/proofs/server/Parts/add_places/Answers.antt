use Rattle.std.proofs.Common.{length}
use Rattle.nut_server_spec.proofs.Numbering.{are_below_more}
use Rattle.nut_server.proofs.Reloaded.{grown}
use Rattle.nut_server.proofs.server.Parts.add_places.Goals as goal

pub invariant_of-self : goal.invariant_of-self
invariant_of-self c =
    let old = c.self.inside.devices.items in
    let new = c.grow.new.devices.items in
    let places = grown c.grow.result old new c.args.count c.grow.ensures.ok c.grow.ensures.err c.requires c.self.invariant.places in
    record {
      up_to = c.self.invariant.up_to;
      few = c.self.invariant.few;
      within = c.self.invariant.within;
      limits = c.self.invariant.limits;
      placed = are_below_more (length old) (length new) c.self.inside.numbers.items places.0 c.self.invariant.placed;
      places = places.1;
    }
