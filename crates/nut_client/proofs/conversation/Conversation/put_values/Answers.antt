use Rattle.std.proofs.Common.{◌++◌, ap, ap₂, refl, sym, ◌∙◌}
use Rattle.nut_proto.specs.declared.request.ListQuery.TheVariants as queries
use Rattle.nut_proto.specs.declared.request.Request.TheVariants.{List}
use Rattle.nut_client.specs.Script.{Asks, on_rows, row_lines, with_values, word}
use Rattle.nut_client.specs.declared.printing.RowForm.TheVariants.{Options, Ranges}
use Rattle.nut_client.proofs.Parts.{asked_as, stays}
use Rattle.nut_client.proofs.conversation.Conversation.put_values.Goals as goal

pub returns-in-Enum : goal.returns-in-Enum
returns-in-Enum g c = λ next.
    asked_as (ap (λ v. with_values c.args.ups.now (word 0 c.args.row.now) v c.args.text.now.items next) (sym c.values_of.ensures ∙ c.in-Enum.is)
    ∙ ap₂ (λ u v. Asks (List (queries.Enum u v)) (on_rows (λ rows. next (c.args.text.now.items ++ row_lines Options rows)))) (sym c.copy-ups.ensures) (sym c.name_of-variable.ensures)) (c.put_list.ensures next)

pub returns-in-Range : goal.returns-in-Range
returns-in-Range g c = λ next.
    asked_as (ap (λ v. with_values c.args.ups.now (word 0 c.args.row.now) v c.args.text.now.items next) (sym c.values_of.ensures ∙ c.in-Range.is)
    ∙ ap₂ (λ u v. Asks (List (queries.Range u v)) (on_rows (λ rows. next (c.args.text.now.items ++ row_lines Ranges rows)))) (sym c.copy-ups.ensures) (sym c.name_of-variable.ensures)) (c.put_list-in-Range.ensures next)

pub returns-in-Free : goal.returns-in-Free
returns-in-Free g c = λ next.
    asked_as (ap (λ v. with_values c.args.ups.now (word 0 c.args.row.now) v c.args.text.now.items next) (sym c.values_of.ensures ∙ c.in-Free.is)) (stays refl)
