use Rattle.nut_dummy.proofs.DumpLemmas.{dump_is_the_table}
use Rattle.nut_dummy.proofs.laws.dump_is_the_table.Goals as goal

pub returns : goal.returns
returns c = dump_is_the_table
