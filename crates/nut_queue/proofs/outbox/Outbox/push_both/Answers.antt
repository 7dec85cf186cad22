use Rattle.std.proofs.Common.{◌≡◌, ◌++◌, ap, append_assoc, ◌∙◌}
use Rattle.nut_queue.proofs.HistoryLemmas.{holds_pushed, where_ok}
use Rattle.nut_queue.proofs.outbox.Outbox.push_both.Goals as goal

pub returns-else-is_err-clause-looks_back : goal.returns-else-is_err-clause-looks_back
returns-else-is_err-clause-looks_back c = λ past h.
    let new = c.extend_from_slice-outcome.new.self.items in
    let both = c.args.first.now ++ c.args.second.now in
    rw (c.forget_taken.ensures.none) (where_ok c.extend_from_slice-outcome.result
    (λ (e : new ≡ c.extend_from_slice.new.self.items ++ c.args.second.now). holds_pushed c.args.self.now new both
    (e ∙ ap (λ q. q ++ c.args.second.now) (c.in_ok-extend_from_slice.ensures.ok ∙ ap (λ q. q ++ c.args.first.now) (c.forget_taken.ensures.items ∙ c.self.view_is)) ∙ append_assoc c.args.self.now c.args.first.now c.args.second.now) past h) c.extend_from_slice-outcome.ensures.ok)
