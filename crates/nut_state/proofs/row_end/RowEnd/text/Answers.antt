use Rattle.std.proofs.Common.{◌∙◌, sym}
use Rattle.nut_state.specs.inside.RowInside.{named_in}
use Rattle.nut_state.proofs.RowLemmas.{row_ended}
use Rattle.nut_state.proofs.row_end.RowEnd.text.Goals as goal

pub returns-then-self-clause-text : goal.returns-then-self-clause-text
returns-then-self-clause-text c =
    rw (← c.self.view_is) (c.as_slice.ensures.value ∙ (c.self.invariant.text
    ∙ row_ended (named_in c.self.inside) c.self.invariant.is_name (sym c.self.invariant.unescaped ∙ c.if-self.true)))
