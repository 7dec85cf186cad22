use Rattle.std.proofs.Common.{ℕ, List, Some, sym, ap, ◌∙◌}
use Rattle.std.specs.Option.{option_map}
use Rattle.nut_conf.specs.declared.limits.TheConstants.{DESCRIPTION_MAX}
use Rattle.nut_conf.specs.declared.text.Text.{Text}
use Rattle.nut_conf.proofs.DescriptionLemmas.{lookup-rows}
use Rattle.nut_conf.proofs.texts.Texts.find.Goals as goal

pub returns-in-Some-clause-text : goal.returns-in-Some-clause-text
returns-in-Some-clause-text c =
    ap (λ (t : List ℕ). Some t) c.as_bytes.ensures.value ∙ ap (option_map (λ (t : Text 0 DESCRIPTION_MAX). t.bytes.items)) c.in-Some.ensures
    ∙ sym (lookup-rows c.args.name.now c.args.self.now.by_name.entries)

pub returns-in-None-clause-text : goal.returns-in-None-clause-text
returns-in-None-clause-text c =
    ap (option_map (λ (t : Text 0 DESCRIPTION_MAX). t.bytes.items)) c.in-None.ensures ∙ sym (lookup-rows c.args.name.now c.args.self.now.by_name.entries)
