use Rattle.std.proofs.Common.{◌++◌, sym, ap, ◌∙◌, append_assoc}
use Rattle.nut_dummy.specs.Telling.{text, limits}
use Rattle.nut_dummy.proofs.TextLemmas.{with_limits}
use Rattle.nut_dummy.proofs.variable.put_variable.Goals as goal

pub returns-in_ok-put_limits : goal.returns-in_ok-put_limits
returns-in_ok-put_limits c =
    let out = c.args.out.now.items in
    let name = c.args.name.now in
    let value = c.args.value.now in
    rw c.if-limited.true (c.in_ok-put_limits.ensures ∙ ap (λ t. t ++ text (limits name)) c.in_ok-put_value.ensures
    ∙ append_assoc out _ (text (limits name)) ∙ ap (λ t. out ++ t) (sym (with_limits name value)))
