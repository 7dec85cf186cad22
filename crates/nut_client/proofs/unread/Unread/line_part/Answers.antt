use Rattle.std.proofs.Common.{◌+◌, take, drop, sym, ◌∙◌}
use Rattle.std.proofs.lemmas.List.{take-append-drop}
use Rattle.nut_words.proofs.LineLemmas.{FeedAt, FeedAt-found, parts_of_all}
use Rattle.nut_client.proofs.unread.Unread.line_part.Goals as goal

pub returns-in-Some-clause-part : goal.returns-in-Some-clause-part
returns-in-Some-clause-part c =
    let p = c.as_slice-bytes.result.now in
    (drop (c.in-Some.at + 1) p, sym c.as_slice-bytes.ensures ∙ sym (take-append-drop (c.in-Some.at + 1) p))

pub returns-in-Some-clause-ended : goal.returns-in-Some-clause-ended
returns-in-Some-clause-ended c =
    let p = c.as_slice-bytes.result.now in
    let k = c.in-Some.at in
    let at : FeedAt p k = FeedAt-found p k c.in-Some.ensures.0 c.in-Some.ensures.1 in
    (take k p, at.unbroken, at.front)

pub returns-in-None-clause-ended : goal.returns-in-None-clause-ended
returns-in-None-clause-ended c = parts_of_all c.as_slice-bytes.result.now c.in-None.ensures
