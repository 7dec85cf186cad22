use Rattle.std.proofs.Common.{◌∙◌, ap, arith}
use Rattle.nut_server_spec.specs.Content.{Content}
use Rattle.nut_server.proofs.Reloaded.{grown_long, put_after}
use Rattle.nut_server.proofs.server.Parts.reload.Goals as goal

pub put_in_force-requires : goal.put_in_force-requires
put_in_force-requires c =
    omega (arith, c.number_of_upses.ensures.len, grown_long c.args.self.now.supplies c.add_places.new.self.supplies c.number_of_upses.result (ap (λ (s : Content). s.supplies) c.in-Ok.ensures.ok))

pub returns-in-Ok-clause-content : goal.returns-in-Ok-clause-content
returns-in-Ok-clause-content c = c.put_in_force.ensures ∙ put_after c.args.self.now c.add_places.new.self c.args.config c.number_of_upses.result c.number_of_upses.ensures.len c.in-Ok.ensures.ok
