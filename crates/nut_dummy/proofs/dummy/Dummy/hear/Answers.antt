use Rattle.std.proofs.Common.{ap}
use Rattle.std.proofs.lemmas.Result.{IfErr-at_err}
use Rattle.nut_words.specs.Lines.{lines_after}
use Rattle.nut_dummy.specs.inside.Machine.{cut}
use Rattle.nut_dummy.specs.contracts.dummy.Dummy.{the_view}
use Rattle.nut_dummy.proofs.MemoryLemmas.{runs_out}
use Rattle.nut_dummy.proofs.dummy.Dummy.hear.Goals as goal
use Rattle.nut_dummy.proofs.dummy.Dummy.hear.Goals.{in_default-Ok, in_default-Err}

pub returns-clause-stopped : goal.returns-clause-stopped
returns-clause-stopped c = elim c.match-hear_lines.branch [
  | in_default-Ok w ↦ rw w.result-is tt
  | in_default-Err w ↦
      let it = runs_out (lines_after c.self.inside.cutter c.args.piece.now) c.self.inside.teller c.hear_lines.new.hearer c.hear_lines.result.0
      (IfErr-at_err _ w.in_default-Err.is-1 c.hear_lines.ensures.stops) in
      rw (w.result-is, ← c.self.view_is) (it.1, ap (λ t. cut (record (the_view c.self.inside) { teller = t })) it.0)
]
