use Rattle.std.proofs.Common.{rules}
use Rattle.std.proofs.lemmas.Fn.{always_returns_same}
use Rattle.nut_state.specs.Sorted.{name_cmp}
use Rattle.nut_state.proofs.SortedLemmas.{searched_place}
use Rattle.nut_dummy.proofs.timeline.place_of.Goals as goal

pub returns : goal.returns
returns c =
    searched_place (λ t. t.name) c.args.name.now c.args.variables.now c.binary_search_by.result c.requires c.binary_search_by.ensures.bound
    (c.binary_search_by.ensures.position (λ t. name_cmp t.name c.args.name.now) (always_returns_same _ _ _ (λ a r f called. search rules)))
