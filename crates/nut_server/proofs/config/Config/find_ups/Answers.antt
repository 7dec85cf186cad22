use Rattle.std.proofs.Common.{sym, ap, ◌∙◌}
use Rattle.std.specs.List.{position}
use Rattle.std.specs.Str.{bytes_eq}
use Rattle.nut_server.specs.Configured.{upses_of}
use Rattle.nut_server.proofs.FromFiles.{shown-names, number-names}
use Rattle.nut_server.proofs.config.Config.find_ups.Goals as goal

pub returns-clause-number : goal.returns-clause-number
returns-clause-number c = rw (← c.self.view_is) (
    let name = c.args.name.now in
    let ups = c.self.inside.ups in
    c.find.ensures.number ∙ ap (position (bytes_eq name)) (sym (shown-names ups.ups.by_name.entries)) ∙ number-names name (upses_of ups))
