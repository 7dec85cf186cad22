use Rattle.std.proofs.Common.{ap, sym, ◌∙◌}
use Rattle.std.specs.List.{position}
use Rattle.nut_words.specs.declared.limits.TheConstants.{UPS_NAME_MAX}
use Rattle.indexmap.specs.IndexMap.{keys}
use Rattle.nut_conf.specs.Sections.{is_named}
use Rattle.nut_conf.proofs.NameLookup.{is_named-no, position-no, position-names}
use Rattle.nut_conf.proofs.SectionLemmas.{name-same}
use Rattle.nut_conf.proofs.ups.UpsConf.find.Goals as goal

pub returns-in-Ok-clause-number : goal.returns-in-Ok-clause-number
returns-in-Ok-clause-number c =
    let word = c.args.name.now in
    let names = keys c.args.self.now.ups.by_name in
    c.get_index_of.ensures.index ∙ ap (λ w. position (is_named w) names) (name-same UPS_NAME_MAX word c.in-Ok.name.bytes.items (c.in-Ok.ensures.reads)) ∙ sym (position-names word names)

pub returns-in-Err-clause-number : goal.returns-in-Err-clause-number
returns-in-Err-clause-number c =
    let word = c.args.name.now in
    let names = keys c.args.self.now.ups.by_name in
    sym (position-names word names ∙ position-no (is_named word) names (is_named-no word c.in-Err.field-0 (c.in-Err.ensures.reads)))
