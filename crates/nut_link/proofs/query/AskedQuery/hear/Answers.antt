use Rattle.std.proofs.Common.{◌==◌, length, sym, ap, ◌∙◌}
use Rattle.nut_link.specs.contracts.query.AskedQuery.{the_view}
use Rattle.nut_link.proofs.Advancing.{advances_next}
use Rattle.nut_link.proofs.query.AskedQuery.hear.Goals as goal

pub returns-in-Some : goal.returns-in-Some
returns-in-Some c =
    let none = ap (λ q. length q.waits == 0) c.self.view_is ∙ ap (λ ws. length ws == 0) (sym c.waiting.ensures) ∙ sym c.is_empty.ensures ∙ c.if-not-is_empty.false in
    rw (← c.self.view_is) (
    advances_next (the_view c.self.inside) c.in-Some.rows c.hear_next.new.rows c.args.answer.now c.hear_next.result c.in-Some.is none c.hear_next.ensures.gives
    )
