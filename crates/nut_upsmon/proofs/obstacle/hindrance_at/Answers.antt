use Rattle.std.proofs.Common.{rules, ◌≡◌, None, slice_get, ap, ◌∙◌}
use Rattle.nut_upsmon.proofs.obstacle.hindrance_at.Goals as goal

pub returns-in_err-line_of : goal.returns-in_err-line_of
returns-in_err-line_of c = λ _ j line at same.
    let none : c.line_of.result ≡ None = search rules in
    absurd (c.line_of.ensures none j line (ap (λ l. slice_get l j) c.deref.ensures.value ∙ at) same)
