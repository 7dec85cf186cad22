use Rattle.nut_state.proofs.HistoryLemmas.{emptied, emptied_holds, emptied_is_table}
use Rattle.nut_state.proofs.state.UpsState.new.Goals as goal

pub invariant_of-result : goal.invariant_of-result
invariant_of-result c = emptied_is_table c.new.result.items c.new-2.result.items c.new.ensures.items c.new-2.ensures.items

pub returns-clause-table : goal.returns-clause-table
returns-clause-table c = emptied c.new.result.items c.new-2.result.items c.new.ensures.items c.new-2.ensures.items

pub returns-clause-looks_back : goal.returns-clause-looks_back
returns-clause-looks_back c = emptied_holds c.new.result.items c.new-2.result.items c.new.ensures.items c.new-2.ensures.items
