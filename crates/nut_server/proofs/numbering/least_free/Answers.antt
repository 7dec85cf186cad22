use Rattle.std.proofs.Common.{◌∙◌, sym, length}
use Rattle.nut_server.proofs.Renumbered.{free_here, free_on}
use Rattle.nut_server.proofs.numbering.least_free.Goals as goal

pub returns-then-not-contains : goal.returns-then-not-contains
returns-then-not-contains c =
    sym (free_here c.loop-number.number-counter (length c.args.taken.now) c.args.taken.now c.loop-number-test.true (sym c.contains.ensures.value ∙ c.if-not-contains.true)) ∙ c.loop-number.invariant

pub loop-number-preserved : goal.loop-number-preserved
loop-number-preserved c =
    sym (free_on c.loop-number.number-counter (length c.args.taken.now) c.args.taken.now c.loop-number-test.true (sym c.contains.ensures.value ∙ c.if-not-contains.false)) ∙ c.loop-number.invariant
