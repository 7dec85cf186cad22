use Rattle.std.proofs.Common.{ℕ, List, [], ◌∷◌, ◌++◌, ap, ap₂, codes, inl, refl, sym, ◌∙◌}
use Rattle.nut_proto.specs.declared.request.Request.TheVariants.{GetCmdDesc}
use Rattle.nut_client.specs.Script.{Script, Asks, commands, line, on_words, word}
use Rattle.nut_client.proofs.Parts.{asked_as, ends_at, fails_at, turns}
use Rattle.nut_client.proofs.conversation.Conversation.put_command.Goals as goal

pub returns-in_err-words : goal.returns-in_err-words
returns-in_err-words g c = λ rows.
    let next : List (List ℕ) → Script = λ words. commands c.args.ups.now (c.args.text.now.items ++ line (word 0 c.args.row.now ∷ codes " - " ∷ word 0 words ∷ [])) rows in
    asked_as (ap₂ (λ u v. Asks (GetCmdDesc u v) (on_words next)) (sym c.copy-ups.ensures) (sym c.name_of-command.ensures)) (ends_at c.from_residual.result c.from_residual.ensures.1 (c.in_err-words.ensures next))

pub returns-in_err-put_line : goal.returns-in_err-put_line
returns-in_err-put_line g c = λ rows.
    let next : List (List ℕ) → Script = λ words. commands c.args.ups.now (c.args.text.now.items ++ line (word 0 c.args.row.now ∷ codes " - " ∷ word 0 words ∷ [])) rows in
    asked_as (ap₂ (λ u v. Asks (GetCmdDesc u v) (on_words next)) (sym c.copy-ups.ensures) (sym c.name_of-command.ensures))
    (fails_at c.from_residual-in_err-put_line.result c.from_residual-in_err-put_line.ensures.1 (c.in_ok-words.ensures next) (inl refl))

pub returns : goal.returns
returns g c = λ rows.
    let next : List (List ℕ) → Script = λ words. commands c.args.ups.now (c.args.text.now.items ++ line (word 0 c.args.row.now ∷ codes " - " ∷ word 0 words ∷ [])) rows in
    asked_as (ap₂ (λ u v. Asks (GetCmdDesc u v) (on_words next)) (sym c.copy-ups.ensures) (sym c.name_of-command.ensures))
    (turns (c.in_ok-words.ensures next)
    (ap (λ t. commands c.args.ups.now t rows) (sym (c.in_ok-put_line.ensures ∙ ap₂ (λ a b. c.args.text.now.items ++ line (a ∷ codes " - " ∷ b ∷ [])) c.get.ensures c.get-2.ensures))))
