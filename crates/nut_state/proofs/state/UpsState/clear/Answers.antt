use Rattle.nut_state.proofs.HistoryLemmas.{emptied, emptied_holds, emptied_is_table}
use Rattle.nut_state.proofs.state.UpsState.clear.Goals as goal

pub invariant_of-self : goal.invariant_of-self
invariant_of-self c = emptied_is_table c.clear.new.self.items c.clear-2.new.self.items c.clear.ensures.items c.clear-2.ensures.items

pub returns-clause-table : goal.returns-clause-table
returns-clause-table c = emptied c.clear.new.self.items c.clear-2.new.self.items c.clear.ensures.items c.clear-2.ensures.items

pub returns-clause-looks_back : goal.returns-clause-looks_back
returns-clause-looks_back c = emptied_holds c.clear.new.self.items c.clear-2.new.self.items c.clear.ensures.items c.clear-2.ensures.items
