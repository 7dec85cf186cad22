-- Who is noted as late.
use Rattle.std.specs.Prelude.{ℕ, Bool, List, nat_eq}
use Rattle.std.specs.List.{list_any}

-- whether this number is noted as late
abbrev pub is_noted : List ℕ → ℕ → Bool
is_noted noted n = list_any (λ x. nat_eq n x) noted

-- the same test, written as the code's search of a list is
abbrev pub is_among : ℕ → List ℕ → Bool
is_among n noted = list_any (λ x. nat_eq x n) noted
