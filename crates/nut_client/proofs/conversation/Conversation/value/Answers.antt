use Rattle.std.proofs.Common.{[], ◌∷◌, ap, sym}
use Rattle.nut_client.specs.Script.{Prints, line, word}
use Rattle.nut_client.proofs.Parts.{ends_at, makes}
use Rattle.nut_client.proofs.conversation.Conversation.value.Goals as goal

pub returns-in_err-words : goal.returns-in_err-words
returns-in_err-words g c = ends_at c.from_residual.result c.from_residual.ensures.1 (c.in_err-words.ensures (λ words. Prints (line (word 0 words ∷ []))))

pub returns : goal.returns
returns g c =
    makes c.line_text.result (c.in_ok-words.ensures (λ words. Prints (line (word 0 words ∷ [])))) (ap (λ w. Prints (line (w ∷ []))) (sym c.get.ensures)) c.line_text.ensures
