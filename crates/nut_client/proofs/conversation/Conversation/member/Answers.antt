use Rattle.std.proofs.Common.{[], ◌∷◌, ap₂, sym, ◌∙◌}
use Rattle.nut_client.specs.Json.{json_object}
use Rattle.nut_client.specs.Script.{Prints, word}
use Rattle.nut_client.proofs.Parts.{ends_at, makes}
use Rattle.nut_client.proofs.conversation.Conversation.member.Goals as goal

pub returns-in_err-words : goal.returns-in_err-words
returns-in_err-words g c =
    ends_at c.from_residual.result c.from_residual.ensures.1 (c.in_err-words.ensures (λ words. Prints (json_object ((c.args.variable ∷ word 0 words ∷ []) ∷ []))))

pub returns : goal.returns
returns g c =
    makes c.member_text.result (c.in_ok-words.ensures (λ words. Prints (json_object ((c.args.variable ∷ word 0 words ∷ []) ∷ []))))
    (ap₂ (λ n w. Prints (json_object ((n ∷ w ∷ []) ∷ []))) (sym (c.as_bytes.ensures ∙ c.copy-name.ensures)) (sym c.get.ensures)) c.member_text.ensures
