use Rattle.std.proofs.Common.{IfSome, option_map}
use Rattle.nut_server_sockets.specs.Seats.{MayLeave}
use Rattle.nut_server_sockets.proofs.clients.Clients.makes_way.Given as goal

abbrev pub invariant-loop-number : goal.invariant-loop-number
invariant-loop-number l =
    IfSome l.leaving.first_mute (λ c. MayLeave l.server l.first c) × IfSome (option_map (λ k. k.0) l.leaving.silent) (λ c. MayLeave l.server l.first c)
