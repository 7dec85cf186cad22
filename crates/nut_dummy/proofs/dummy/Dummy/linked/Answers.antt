use Rattle.std.proofs.Common.{refl}
use Rattle.nut_dummy.specs.History.{Linked}
use Rattle.nut_dummy.proofs.HistoryLemmas.{one_more}
use Rattle.nut_dummy.proofs.dummy.Dummy.linked.Goals as goal

pub returns : goal.returns
returns c = rw (← c.self.view_is) (λ script start h s. one_more script start h _ s Linked _ refl (rw (c.new-self-inside.ensures, c.relink.ensures) refl))
