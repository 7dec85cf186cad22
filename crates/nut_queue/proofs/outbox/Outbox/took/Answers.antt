use Rattle.std.proofs.Common.{◌≡◌, ◌≤◌, ◌+◌, length, drop, sym, ap, ◌∙◌, arith, length-drop}
use Rattle.std.proofs.lemmas.List.{drop-drop}
use Rattle.nut_queue.proofs.HistoryLemmas.{holds_taken}
use Rattle.nut_queue.proofs.outbox.Outbox.took.Goals as goal

pub returns-clause-looks_back : goal.returns-clause-looks_back
returns-clause-looks_back c =
    let old = c.args.self.now in
    let n = c.args.n in
    let items = c.self.inside.buffer.items in
    let taken = c.self.inside.taken in
    let is : drop taken items ≡ old = c.self.view_is in
    let waited : n ≤ length old = omega (arith, ap length is, length-drop taken items, c.len.ensures.value, c.if-n-waiting.false) in
    holds_taken old (drop (taken + n) items) n waited (sym (drop-drop n taken items) ∙ ap (drop n) is)
