use Rattle.std.proofs.Common.{Some, slice_get, sym, ap, ◌∙◌}
use Rattle.std.specs.Option.{option_copied}
use Rattle.nut_monitor.proofs.Counts.{no_count}
use Rattle.nut_monitor.proofs.answer.count_said.Goals as goal

pub returns-in-Err : goal.returns-in-Err
returns-in-Err c =
    no_count c.args.fields.now c.as_bytes.result.now c.in-Err.field-0 c.args.before
    (ap (λ ts. slice_get ts 0) (sym c.as_slice.ensures) ∙ sym c.first.ensures.value ∙ ap option_copied c.in-Some.is ∙ ap Some (sym c.as_bytes.ensures)) c.requires c.in-Err.ensures.reads
