use Rattle.std.proofs.Common.{sym, subst}
use Rattle.nut_link.specs.Exchange.{Exchange}
use Rattle.nut_link.specs.Bounds.{IsStageBounded}
use Rattle.nut_link.proofs.Bounded.{bounds_stay}
use Rattle.nut_link.proofs.link.Link.ask.Goals as goal

pub invariant_of-self : goal.invariant_of-self
invariant_of-self c = (
  c.self.invariant.0,
  subst (λ (e : Exchange). IsStageBounded e.stage) (sym c.ask.ensures.stands) (bounds_stay.asks c.args.request.now c.self.inside.exchange c.self.invariant.1),
)
