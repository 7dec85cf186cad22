use Rattle.std.proofs.Common.{◌≡◌, ℕ, List, Option, IfSome, get_or, rules, subst, sym}
use Rattle.std.proofs.lemmas.Fn.{always_returns_same}
use Rattle.std.specs.List.Sorted.{IsBinarySearchResult}
use Rattle.std.specs.Ordering.{nat_cmp}
use Rattle.nut_server_sockets.proofs.SeatLemmas.{found_number}
use Rattle.nut_server_sockets.proofs.clients.Clients.place.Goals as goal

pub returns-clause-number : goal.returns-clause-number
returns-clause-number c =
    let P : List (ℕ × ℕ) → Type 0 = λ keys. IsBinarySearchResult (λ (key : ℕ × ℕ). nat_cmp key.0 c.args.number) keys c.binary_search_by_key.result in
    let position : P c.as_slice.result.now = c.binary_search_by_key.ensures.position (λ key. key.0) (always_returns_same _ _ _ (λ a r f called. search rules)) in
    let found = found_number c.args.self.now.keys.items c.args.number c.binary_search_by_key.result (subst P c.as_slice.ensures.value position) in
    subst (λ (o : Option ℕ). IfSome o (λ at. (get_or c.args.self.now.keys.items at (0, 0)).0 ≡ c.args.number)) (sym c.ok.ensures.value) found
