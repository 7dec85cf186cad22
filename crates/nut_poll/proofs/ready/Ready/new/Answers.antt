use Rattle.std.proofs.Common.{sym, ap, subst, ◌∙◌, arith}
use Rattle.std.specs.Prelude.{nat_eq}
use Rattle.std.specs.List.{IsDistinct}
use Rattle.nut_poll.specs.Queue.{is_waiting}
use Rattle.nut_poll.proofs.QueueLemmas.{none_distinct}
use Rattle.nut_poll.proofs.ready.Ready.new.Goals as goal

pub invariant_of-result : goal.invariant_of-result
invariant_of-result c =
    let none = ap (λ b. b.items) c.in_ok-with_capacity.ensures in (
      ap (λ b. b.capacity) c.in_ok-with_capacity.ensures,
      omega arith,
      subst (IsDistinct nat_eq) (sym none) none_distinct,
      λ n. c.none_queued.ensures n ∙ ap (is_waiting n) (sym none),
    )
