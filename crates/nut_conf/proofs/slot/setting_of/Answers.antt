use Rattle.std.proofs.Common.{sym, subst}
use Rattle.nut_conf.specs.Faults.{◌>>=◌, Reads}
use Rattle.nut_conf.specs.inside.Misreads.{bare}
use Rattle.nut_conf.proofs.slot.setting_of.Goals as goal

pub returns-clause-reads : goal.returns-clause-reads
returns-clause-reads g c = subst (λ r. Reads g.T.FromValues.setting (bare c.from_values.result) (r >>= g.T.FromValues.reads)) (sym c.in_ok-values.ensures.reads) c.from_values.ensures.reads
