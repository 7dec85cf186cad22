use Rattle.std.proofs.Common.{ap, sym, ◌∙◌}
use Rattle.nut_state.specs.Table.{variable}
use Rattle.nut_server.proofs.KeptRows.{kept_told}
use Rattle.nut_server.proofs.plain.kept_end.Goals as goal

pub returns : goal.returns
returns c = λ ups.
    kept_told ups c.args.name.now c.args.device.now.device c.in_ok-place.variable.now c.in_ok-end.end.now
    (ap (λ t. variable t c.args.name.now) (sym c.table.ensures) ∙ c.in_ok-place.ensures) (sym c.if-shows_forced.false ∙ c.shows_forced.ensures) c.in_ok-end.ensures.text
