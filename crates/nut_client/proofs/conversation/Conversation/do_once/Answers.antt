use Rattle.std.proofs.Common.{[], ◌∷◌, ap, codes, refl, sym}
use Rattle.nut_client.specs.Script.{Asks, Prints, line, on_done}
use Rattle.nut_client.proofs.Parts.{asked_as, ends_at, makes}
use Rattle.nut_client.proofs.conversation.Conversation.do_once.Goals as goal

pub returns-in_err-done : goal.returns-in_err-done
returns-in_err-done g c =
    asked_as (ap (λ q. Asks q (on_done (Prints (line (codes "OK" ∷ []))))) (sym c.deed_query.ensures))
    (ends_at c.from_residual.result c.from_residual.ensures.1 (c.in_err-done.ensures.goes (Prints (line (codes "OK" ∷ [])))))

pub returns : goal.returns
returns g c =
    makes c.line_text.result
    (asked_as (ap (λ q. Asks q (on_done (Prints (line (codes "OK" ∷ []))))) (sym c.deed_query.ensures)) (c.in_ok-done.ensures.goes (Prints (line (codes "OK" ∷ [])))))
    refl c.line_text.ensures
