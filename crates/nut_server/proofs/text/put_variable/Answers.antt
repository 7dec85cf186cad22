use Rattle.std.proofs.Common.{sym, ◌∙◌}
use Rattle.nut_server.proofs.KeptRows.{variable_kept}
use Rattle.nut_server.proofs.Results.{on_ok}
use Rattle.nut_server.proofs.text.put_variable.Goals as goal

pub returns : goal.returns
returns c =
    on_ok c.put_row.result _ _ (λ appended. variable_kept c.args.is_rw c.args.ups.now c.args.device.now.device c.args.variable.now c.as_slice.result.now c.in-Some-row_end.end.now c.args.out.now.items c.put_row.new.out.items
    (sym c.if-not-shows_forced.true ∙ c.shows_forced.ensures)
    (c.as_slice.ensures.value ∙ (rw c.in-Some.is at c.requires))
    c.in-Some-row_end.ensures.text appended)
    c.put_row.ensures
