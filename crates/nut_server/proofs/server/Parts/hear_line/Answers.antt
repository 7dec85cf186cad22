use Rattle.std.proofs.Common.{◌≡◌, Some, Ok, Err, OnOk, ap, sym, subst, ◌∙◌, slice_get, arith}
use Rattle.std.proofs.lemmas.Grind.{common_steps}
use Rattle.nut_words.specs.Cutter.{line_of}
use Rattle.nut_words.specs.declared.words.WordFault.TheVariants.{Memory}
use Rattle.nut_server_spec.specs.Command.{command_in, command_of}
use Rattle.nut_server_spec.specs.machine.Machine.{answer_in}
use Rattle.nut_server.specs.inside.Effects.{answered_by}
use Rattle.nut_server.proofs.Saying.{silent_out}
use Rattle.nut_server.proofs.server.Parts.hear_line.Goals as goal

pub returns-then-has_logged_out-clause-ok : goal.returns-then-has_logged_out-clause-ok
returns-then-has_logged_out-clause-ok c = λ c' k stands there.
    let found : Some c.at.result.now ≡ Some k = sym c.at.ensures ∙ ap (λ s. slice_get s.sessions c.args.at) c.self.view_is ∙ there in
    let same : c.at.result.now ≡ k = cc in
    silent_out c' (command_of (line_of c.args.line)) c.args.self.now k (ap (λ k. k.logged_out) (sym same) ∙ sym c.has_logged_out.ensures ∙ c.if-has_logged_out.true)

pub returns-in-Ok-clause-ok : goal.returns-in-Ok-clause-ok
returns-in-Ok-clause-ok c = λ c' k stands there.
    let found : Some c.at.result.now ≡ Some k = sym c.at.ensures ∙ ap (λ s. slice_get s.sessions c.args.at) c.self.view_is ∙ there in
    let same : c.at.result.now ≡ k = cc in
    let spelled : c.words_of.result ≡ Err Memory → ⊥ = λ none. let both : Ok c.in-Ok.words ≡ Err Memory = sym c.in-Ok.is ∙ none in cc in
    let is : command_in (Ok c.in-Ok.words) ≡ command_of (line_of c.args.line) = ap command_in (sym c.in-Ok.is) ∙ c.words_of.ensures.command spelled in
    subst (λ command. OnOk c.hear_words.result (c.hear_words.new.self ≡ answered_by c' command (answer_in c.args.self.now command k) c.args.self.now)) is
    (c.hear_words.ensures.ok c' k stands there (ap (λ k. k.logged_out) (sym same) ∙ sym c.has_logged_out.ensures ∙ c.if-has_logged_out.false))

pub returns-in-Err-Memory-clause-ok : goal.returns-in-Err-Memory-clause-ok
returns-in-Err-Memory-clause-ok c = grind (arith, common_steps)
