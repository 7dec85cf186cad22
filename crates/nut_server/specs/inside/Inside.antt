-- For private functions, nothing here has to be believed: the numbers of sessions.
use Rattle.std.specs.Prelude.{ℕ, List, map}
use Rattle.nut_server_spec.specs.Content.{Session}

-- the numbers of the sessions
abbrev pub numbers_of : List Session → List ℕ
numbers_of sessions = map (λ k. k.number) sessions
