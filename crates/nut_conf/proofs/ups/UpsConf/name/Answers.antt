use Rattle.std.proofs.Common.{ap, sym, ◌∙◌}
use Rattle.std.specs.Option.{option_map}
use Rattle.nut_conf.proofs.NameLookup.{slice_get-names}
use Rattle.nut_conf.proofs.ups.UpsConf.name.Goals as goal

pub returns-in-Some : goal.returns-in-Some
returns-in-Some c =
    ap (option_map (λ e. e.0.bytes.items)) c.in-Some.ensures.entry ∙ sym (slice_get-names c.args.self.now.ups.by_name.entries c.args.number)

pub returns-in-None : goal.returns-in-None
returns-in-None c =
    ap (option_map (λ e. e.0.bytes.items)) c.in-None.ensures.entry ∙ sym (slice_get-names c.args.self.now.ups.by_name.entries c.args.number)
