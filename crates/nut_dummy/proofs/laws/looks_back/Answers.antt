use Rattle.nut_dummy.proofs.HistoryLemmas.{looks_back}
use Rattle.nut_dummy.proofs.laws.looks_back.Goals as goal

pub returns : goal.returns
returns c = looks_back
