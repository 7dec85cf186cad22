use Rattle.std.proofs.Common.{◌∙◌, sym}
use Rattle.nut_server.proofs.Closing.{without_place}
use Rattle.nut_server.proofs.Entries.{without_none}
use Rattle.nut_server.proofs.connections.Connections.remove.Goals as goal

pub returns-in-Some : goal.returns-in-Some
returns-in-Some c =
    c.remove_at.ensures.items ∙ sym (without_place c.args.c c.args.self.now c.in-Some.place c.remove_at.ensures.rising c.in-Some.ensures.some.place)

pub returns-in_default : goal.returns-in_default
returns-in_default c = sym (without_none c.args.c c.args.self.now c.in_default.ensures.none)
