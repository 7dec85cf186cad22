use Rattle.std.proofs.Common.{sym, ◌∙◌}
use Rattle.nut_server_sockets.proofs.SeatLemmas.{stranger_out}
use Rattle.nut_server_sockets.proofs.clients.may_leave.Goals as goal

pub returns-then-are_strangers-clause-no_login : goal.returns-then-are_strangers-clause-no_login
returns-then-are_strangers-clause-no_login c is = stranger_out c.args.server.now c.args.number (sym c.is_stranger.ensures ∙ is)
