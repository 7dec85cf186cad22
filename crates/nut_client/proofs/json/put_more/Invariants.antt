use Rattle.std.proofs.Common.{◌≡◌, ◌++◌, codes, take}
use Rattle.std.specs.List.{flat_map}
use Rattle.nut_client.specs.Json.{member}
use Rattle.nut_client.proofs.json.put_more.Given as goal

abbrev pub invariant-loop-row : goal.invariant-loop-row
invariant-loop-row l = l.out.items ≡ l.fn.out.items ++ flat_map (λ r. codes ", " ++ member r) (take l.row-index l.rows)
