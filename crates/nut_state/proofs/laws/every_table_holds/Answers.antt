use Rattle.nut_state.proofs.HistoryLemmas.{every_table}
use Rattle.nut_state.proofs.laws.every_table_holds.Goals as goal

pub returns : goal.returns
returns c = every_table
