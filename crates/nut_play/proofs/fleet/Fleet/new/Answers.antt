use Rattle.std.proofs.Common.{false, sym, ap, map, subst, ◌∙◌}
use Rattle.nut_server_spec.specs.Content.{Content}
use Rattle.nut_fleet.specs.World.{nothing}
use Rattle.nut_play.specs.Kept.{Kept, IsFleet, fresh_seat}
use Rattle.nut_play.specs.Room.{setup_of}
use Rattle.nut_play.proofs.Fleets.{if-ok}
use Rattle.nut_play.proofs.Standing.{fresh-stands}
use Rattle.nut_play.proofs.fleet.Fleet.new.Goals as goal

pub returns-in-Ok-clause-made : goal.returns-in-Ok-clause-made
returns-in-Ok-clause-made c =
    if-ok _ _ c.with_server.result
    (λ fleet e. e ∙ ap (λ (s : Content). (let k : Kept = record { server = s; seats = map fresh_seat c.args.monitors.items; failed = false } in k)) c.in-Ok.ensures)
    c.with_server.ensures.made

pub returns-in-Ok-clause-world : goal.returns-in-Ok-clause-world
returns-in-Ok-clause-world c =
    if-ok _ _ c.with_server.result
    (λ fleet e.
    subst (λ (k : Kept). IsFleet (setup_of c.args.config c.args.monitors.items) nothing k)
    (sym (e ∙ ap (λ (s : Content). (let k : Kept = record { server = s; seats = map fresh_seat c.args.monitors.items; failed = false } in k)) c.in-Ok.ensures))
    (fresh-stands c.args.config c.args.monitors.items))
    c.with_server.ensures.made
