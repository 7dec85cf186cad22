use Rattle.std.proofs.Common.{◌≡◌, ◌++◌, ap, ◌∙◌}
use Rattle.nut_queue.proofs.HistoryLemmas.{holds_pushed, where_ok}
use Rattle.nut_queue.proofs.outbox.Outbox.push.Goals as goal

pub returns-clause-looks_back : goal.returns-clause-looks_back
returns-clause-looks_back c = λ past h.
    let new = c.extend_from_slice.new.self.items in
    rw (c.forget_taken.ensures.none) (where_ok c.extend_from_slice.result
    (λ (e : new ≡ c.forget_taken.new.buffer.items ++ c.args.bytes.now). holds_pushed c.args.self.now new c.args.bytes.now (e ∙ ap (λ q. q ++ c.args.bytes.now) (c.forget_taken.ensures.items ∙ c.self.view_is)) past h) c.extend_from_slice.ensures.ok)
