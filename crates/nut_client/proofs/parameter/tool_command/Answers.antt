use Rattle.std.proofs.Common.{◌≡◌, ◌∙◌, ℕ, ◌<◌, ◌+◌, List, [], ◌∷◌, length, take, fold, get_or, ap, sym}
use Rattle.std.proofs.lemmas.Grind.{fold-append, take_at_read}
use Rattle.clap.specs.Words.{App, app_of, with_rule}
use Rattle.nut_client.specs.declared.parameter.Parameter.{Parameter}
use Rattle.nut_client.specs.inside.Parameters.{with_parameter}
use Rattle.nut_client.proofs.parameter.tool_command.Goals as goal

added : (start app app' : App) (ps : List Parameter) (i : ℕ) (d : Parameter) → i < length ps → app' ≡ with_parameter app (get_or ps i d) → app ≡ fold with_parameter start (take i ps)
    → app' ≡ fold with_parameter start (take (i + 1) ps)
added start app app' ps i d within new old =
    new ∙ ap (λ a. with_parameter a (get_or ps i d)) old
    ∙ sym (ap (fold with_parameter start) (take_at_read ps i d within).1 ∙ fold-append with_parameter start (take i ps) (get_or ps i d ∷ []))

pub loop-parameter-preserved : goal.loop-parameter-preserved
loop-parameter-preserved c =
    added _ _ _ c.args.parameters.now c.loop-parameter.parameter-index _ c.loop-parameter-test.true
    (c.in_ok-command.ensures.shape c.arg.ensures.local ∙ ap (with_rule (app_of c.loop-parameter.command)) c.arg.ensures.rule)
    c.loop-parameter.invariant
