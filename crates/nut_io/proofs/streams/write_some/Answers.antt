-- What a write took, it took from the bytes that were there before the first try.
use Rattle.std.proofs.Common.{ℕ, List, ◌++◌, Option, Some, None, ap, ◌∙◌}
use Rattle.std.specs.Io.KnownBytes.{Appends, Keeps}
use Rattle.nut_io.proofs.streams.write_some.Goals as goal

kept_and_appended : (a b c : Option (List ℕ)) (bytes : List ℕ) → Keeps a b → Appends b c bytes → Appends a c bytes
kept_and_appended None b c bytes kept appended = tt
kept_and_appended (Some xs) None c bytes kept appended = absurd kept
kept_and_appended (Some xs) (Some ys) None bytes kept appended = absurd appended
kept_and_appended (Some xs) (Some ys) (Some zs) bytes kept appended = appended ∙ ap (λ held. held ++ bytes) kept

pub returns-in-Ok-clause-bound : goal.returns-in-Ok-clause-bound
returns-in-Ok-clause-bound g c = c.in-Ok.ensures.bound

pub returns-in-Ok-clause-bytes : goal.returns-in-Ok-clause-bytes
returns-in-Ok-clause-bytes g c = kept_and_appended _ _ _ _ c.loop.invariant c.in-Ok.ensures.bytes
