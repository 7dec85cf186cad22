-- How queries are asked in turn.
use Rattle.std.proofs.Common.{◌≡◌, ℕ, ◌+◌, ◌<◌, ◌++◌, ◌∷◌, [], List, length, take, drop, get_or, Option, Result, Ok, sym, ap, subst, ◌∙◌}
use Rattle.std.proofs.lemmas.Grind.{flat_map-append}
use Rattle.std.proofs.lemmas.List.{append-nil, take_more}
use Rattle.std.specs.Io.KnownBytes.{append_known}
use Rattle.nut_proto.specs.declared.request.Request.{Request}
use Rattle.nut_proto.specs.Requests.{request_line}
use Rattle.nut_client.specs.Forcing.{in_turn, query_lines}
use Rattle.nut_client.specs.Script.{Asks, on_done}
use Rattle.nut_client.specs.declared.failure.ToolFailure.{ToolFailure}
use Rattle.nut_client.specs.inside.Between.{Goes, Point}
use Rattle.nut_client.proofs.Parts.{drop_at, follows}
use Rattle.nut_client.proofs.Runs.{append_twice}

-- A query was asked after those before it.
pub goes_on : (queries : List Request) (i : ℕ) (query : Request) (result : Result (Unit {0}) ToolFailure) (p p' p'' : Point) → i < length queries → query ≡ get_or queries i query
    → Goes (in_turn queries) (λ (done : Unit {0}). in_turn (drop i queries)) (Ok tt) p p' → Goes (Asks query (on_done (in_turn (drop (i + 1) queries)))) (λ (done : Unit {0}). in_turn (drop (i + 1) queries)) result p' p''
    → Goes (in_turn queries) (λ (done : Unit {0}). in_turn (drop (i + 1) queries)) result p p''
goes_on queries i query result p p' p'' within is first more =
    let asks : in_turn (drop i queries) ≡ Asks query (on_done (in_turn (drop (i + 1) queries))) = ap in_turn (drop_at queries i query within is) in
    follows first (subst (λ s. Goes s (λ (done : Unit {0}). in_turn (drop (i + 1) queries)) result p' p'') (sym asks) more)

-- the lines up to a query
pub lines_on : (queries : List Request) (i : ℕ) (query : Request) (before taken taken' : Option (List ℕ)) → i < length queries → query ≡ get_or queries i query → taken ≡ append_known before (query_lines (take i queries))
    → taken' ≡ append_known taken (request_line query) → taken' ≡ append_known before (query_lines (take (i + 1) queries))
lines_on queries i query before taken taken' within is first more =
    let lines : query_lines (take (i + 1) queries) ≡ query_lines (take i queries) ++ request_line query =
    ap query_lines (take_more queries i query within ∙ ap (λ q. take i queries ++ q ∷ []) (sym is))
    ∙ flat_map-append request_line (take i queries) (query ∷ [])
    ∙ ap (λ l. query_lines (take i queries) ++ l) (append-nil (request_line query)) in
    more ∙ ap (λ k. append_known k (request_line query)) first ∙ append_twice (query_lines (take i queries)) (request_line query) before ∙ ap (append_known before) (sym lines)
