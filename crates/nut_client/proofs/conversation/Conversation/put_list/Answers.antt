use Rattle.std.proofs.Common.{◌++◌, ap, inl, refl, sym, ◌∙◌}
use Rattle.nut_client.specs.Script.{row_lines}
use Rattle.nut_client.proofs.Parts.{ends_at, fails_at, turns}
use Rattle.nut_client.proofs.conversation.Conversation.put_list.Goals as goal

pub returns-in_err-rows : goal.returns-in_err-rows
returns-in_err-rows g c = λ next. ends_at c.from_residual.result c.from_residual.ensures.1 (c.in_err-rows.ensures (λ rows. next (c.args.text.now.items ++ row_lines c.args.form rows)))

pub returns-in_err-put_rows : goal.returns-in_err-put_rows
returns-in_err-put_rows g c = λ next.
    fails_at c.from_residual-in_err-put_rows.result c.from_residual-in_err-put_rows.ensures.1 (c.in_ok-rows.ensures (λ rows. next (c.args.text.now.items ++ row_lines c.args.form rows))) (inl refl)

pub returns : goal.returns
returns g c = λ next.
    turns (c.in_ok-rows.ensures (λ rows. next (c.args.text.now.items ++ row_lines c.args.form rows)))
    (ap next (sym (c.in_ok-put_rows.ensures ∙ ap (λ rows. c.args.text.now.items ++ row_lines c.args.form rows) c.as_slice.ensures)))
