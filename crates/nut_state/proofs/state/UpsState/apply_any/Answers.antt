-- A line that reads as words does what its words ask for; any other line asks for nothing.
use Rattle.std.proofs.Common.{◌≡◌, sym, subst, ◌∙◌}
use Rattle.std.specs.Result.{IfOk}
use Rattle.nut_state.specs.Answer.{answer}
use Rattle.std.proofs.lemmas.Result.{on_ok_weaker}
use Rattle.nut_state.proofs.HistoryLemmas.{heard_words, applied_words, line_adds_words}
use Rattle.nut_state.proofs.state.UpsState.apply_any.Goals as goal

pub returns-in-Ok-clause-table : goal.returns-in-Ok-clause-table
returns-in-Ok-clause-table c =
    on_ok_weaker c.hear.result (λ e. e ∙ applied_words c.args.self.now c.args.line.now c.in-Ok.words c.in-Ok.ensures.words) c.hear.ensures.table

pub returns-in-Ok-clause-answer : goal.returns-in-Ok-clause-answer
returns-in-Ok-clause-answer c =
    subst (λ o. IfOk c.hear.result (λ told. told ≡ answer o)) (sym (heard_words c.args.line.now c.in-Ok.words c.in-Ok.ensures.words)) c.hear.ensures.answer

pub returns-in-Ok-clause-refused : goal.returns-in-Ok-clause-refused
returns-in-Ok-clause-refused c = c.hear.ensures.refused

pub returns-in-Ok-clause-succeeds : goal.returns-in-Ok-clause-succeeds
returns-in-Ok-clause-succeeds c plain none =
    c.hear.ensures.succeeds (line_adds_words c.args.self.now c.args.line.now c.in-Ok.words c.in-Ok.ensures.words ∙ none)
