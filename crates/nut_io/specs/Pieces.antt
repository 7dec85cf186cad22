-- What a contract sees of a piece.
use Rattle.std.specs.Prelude.{ℕ, List}

-- its bytes, in the order in which they came
pub record Bytes : Type 0 where
  pub items : List ℕ
