use Rattle.std.proofs.Common.{◌∙◌, ap, sym, refl, subst}
use Rattle.std.specs.Prelude.{IsTrue}
use Rattle.nut_words.specs.Cutter.{line_of}
use Rattle.nut_server_spec.specs.Command.{command_of}
use Rattle.nut_server_spec.specs.Content.{Content, numbering_of}
use Rattle.nut_server_spec.specs.Outcome.{line_takes}
use Rattle.nut_server_spec.specs.machine.Machine.{answer_in, answered}
use Rattle.nut_server.specs.inside.Lines.{command_done, with_content}
use Rattle.nut_server.proofs.Heard.{standing, stands_updated}
use Rattle.nut_server.proofs.Results.{err_both, on_ok}
use Rattle.nut_server.proofs.server.hearing.HearerHearLine.hear_line.Goals as goal

pub returns-clause-heard : goal.returns-clause-heard
returns-clause-heard c =
    let h = c.args.self.now in
    let command = command_of (line_of c.args.line) in
    let it = standing h.c h.server.now.sessions h.at c.requires.goes_on in
    on_ok c.hear_line.result _ _ (λ said. ap (λ s. with_content s h) (said ∙ ap (λ o. command_done h.c command o h.server.now) (sym it.1)))
    (c.hear_line.ensures.ok h.c it.0 c.requires.goes_on it.2)

pub returns-clause-goes_on : goal.returns-clause-goes_on
returns-clause-goes_on c =
    let h = c.args.self.now in
    let s = h.server.now in
    let command = command_of (line_of c.args.line) in
    let it = standing h.c s.sessions h.at c.requires.goes_on in
    on_ok c.hear_line.result _ _
    (λ said. stands_updated h.c (λ k. answered (numbering_of s) command (answer_in s command it.0) k) s.sessions _ h.at (λ k. refl) (ap (λ (x : Content). x.sessions) said) c.requires.goes_on)
    (c.hear_line.ensures.ok h.c it.0 c.requires.goes_on it.2)

pub returns-clause-stops : goal.returns-clause-stops
returns-clause-stops c =
    let h = c.args.self.now in
    let it = standing h.c h.server.now.sessions h.at c.requires.goes_on in
    err_both c.hear_line.result _ _ _ (λ e same takes. (ap (λ s. with_content s h) same, subst (λ o. IsTrue (line_takes (line_of c.args.line) o)) (sym it.1) takes))
    c.hear_line.ensures.err (c.hear_line.ensures.memory it.0 it.2)
