use Rattle.std.proofs.Common.{rules}
use Rattle.std.proofs.lemmas.Fn.{always_returns_same}
use Rattle.nut_server.proofs.Searching.{searched}
use Rattle.nut_server.proofs.connections.Connections.search.Goals as goal

pub returns-clause-none : goal.returns-clause-none
returns-clause-none c = (searched c.self.inside c.args.self.now c.args.c c.as_slice.result.now c.binary_search_by_key.result c.ok.result c.self.invariant c.self.view_is c.as_slice.ensures.value c.binary_search_by_key.ensures.bound
    (c.binary_search_by_key.ensures.position (λ key. key.number) (always_returns_same _ _ _ (λ a r f called. search rules))) c.ok.ensures.value).none

pub returns-clause-some : goal.returns-clause-some
returns-clause-some c = (searched c.self.inside c.args.self.now c.args.c c.as_slice.result.now c.binary_search_by_key.result c.ok.result c.self.invariant c.self.view_is c.as_slice.ensures.value c.binary_search_by_key.ensures.bound
    (c.binary_search_by_key.ensures.position (λ key. key.number) (always_returns_same _ _ _ (λ a r f called. search rules))) c.ok.ensures.value).some
