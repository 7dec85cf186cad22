use Rattle.std.proofs.Common.{ap, sym}
use Rattle.nut_client.specs.Json.{json_object}
use Rattle.nut_client.specs.Script.{Prints}
use Rattle.nut_client.proofs.Parts.{ends_at, makes}
use Rattle.nut_client.proofs.conversation.Conversation.object.Goals as goal

pub returns-in_err-rows : goal.returns-in_err-rows
returns-in_err-rows g c = ends_at c.from_residual.result c.from_residual.ensures.1 (c.in_err-rows.ensures (λ rows. Prints (json_object rows)))

pub returns : goal.returns
returns g c =
    makes c.object_text.result (c.in_ok-rows.ensures (λ rows. Prints (json_object rows))) (ap (λ rows. Prints (json_object rows)) (sym c.as_slice.ensures)) c.object_text.ensures
