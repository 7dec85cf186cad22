use Rattle.std.proofs.Common.{[], ◌∷◌, ◌++◌, sym, ap, subst, ◌∙◌}
use Rattle.std.specs.Prelude.{◌≡◌, length, nat_eq}
use Rattle.std.specs.List.{IsDistinct}
use Rattle.nut_poll.specs.Queue.{is_waiting, joined}
use Rattle.nut_poll.proofs.QueueLemmas.{distinct_with, flags_with, joined_when, pushed}
use Rattle.std.proofs.Common.{arith}
use Rattle.std.proofs.lemmas.List.{length_push}
use Rattle.nut_poll.proofs.ready.Ready.insert.Goals as goal
use Rattle.nut_poll.proofs.ready.Ready.insert.Goals.{After-push_back}

grown : (c : After-push_back) → c.push_back.new.self.items ≡ c.self.inside.queue.items ++ c.args.token.0 ∷ []
grown c = pushed c.self.inside.is_queued c.self.inside.queue.items c.args.token.0 _ c.self.inside.queue.capacity
    c.push_back.ensures.items c.self.invariant.0 c.self.invariant.2 c.self.invariant.3 c.if-not-self-n.true c.if-n-lt-SOCKETS_MAX.true c.self.told

pub invariant_of-self : goal.invariant_of-self
invariant_of-self c =
    let items = c.self.inside.queue.items in
    let flags = c.self.inside.is_queued in
    let n = c.args.token.0 in
    let inv = c.self.invariant in
    let more = grown c in (
      ap (λ b. b.capacity) c.push_back.ensures.items ∙ inv.0,
      omega (arith, ap length more, length_push items n, inv.1),
      subst (IsDistinct nat_eq) (sym more) (distinct_with flags items n inv.2 inv.3 c.if-not-self-n.true),
      λ k. flags_with flags items n inv.3 (omega (arith, c.self.told, c.if-n-lt-SOCKETS_MAX.true)) k ∙ ap (λ xs. is_waiting k xs) (sym more),
    )

pub returns-then-not-self-n-clause-joined : goal.returns-then-not-self-n-clause-joined
returns-then-not-self-n-clause-joined c =
    let n = c.args.token.0 in
    let q = c.self.inside in
    subst (λ old. record { waiting = c.push_back.new.self.items; round = q.round } ≡ joined n old) c.self.view_is
    (ap (λ xs. record { waiting = xs; round = q.round }) (grown c)
    ∙ sym (joined_when n (record { waiting = q.queue.items; round = q.round }) c.if-n-lt-SOCKETS_MAX.true (sym (c.self.invariant.3 n) ∙ c.if-not-self-n.true)))

pub returns-then-not-self-n-clause-comes : goal.returns-then-not-self-n-clause-comes
returns-then-not-self-n-clause-comes c = (c.args.token.0 ∷ [], grown c ∙ ap (λ q. q.waiting ++ c.args.token.0 ∷ []) c.self.view_is)
