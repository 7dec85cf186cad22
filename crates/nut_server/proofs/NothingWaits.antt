-- A connection that is settled: nothing waits for it, and it isn't to be closed.
use Rattle.std.proofs.Common.{◌≡◌, ℕ, false, length, Option, sym, arith}
use Rattle.std.specs.Prelude.{nat_lt}
use Rattle.std.proofs.lemmas.Bool.{or_parts}
use Rattle.std.proofs.lemmas.Bool.Decides.{nat_tests}
use Rattle.nut_server_spec.specs.Acceptance.{leaves, waiting_in}
use Rattle.nut_server_spec.specs.Content.{Session}
use Rattle.nut_server.specs.Settling.{is_unsettled}

not_above : (n : ℕ) → nat_lt 0 n ≡ false → 0 ≡ n
not_above n is = grind (arith, nat_tests)

pub nothing_waits : (o : Option Session) → is_unsettled o ≡ false → 0 ≡ length (waiting_in o)
nothing_waits o settled = not_above (length (waiting_in o)) (or_parts (nat_lt 0 (length (waiting_in o))) (leaves o) settled).0

pub none_leaves : (o : Option Session) → is_unsettled o ≡ false → false ≡ leaves o
none_leaves o settled = sym (or_parts (nat_lt 0 (length (waiting_in o))) (leaves o) settled).1
