use Rattle.std.proofs.Common.{sym, ◌∙◌, ap, option_map, Some}
use Rattle.nut_server.specs.Seats.{has_no_login}
use Rattle.nut_server.proofs.Settled.{find_here, find_on}
use Rattle.nut_server.proofs.connections.Connections.first_without_login.Goals as goal

pub returns-then-has_no_login : goal.returns-then-has_no_login
returns-then-has_no_login c =
    let found = find_here has_no_login c.args.self.now c.loop-index.index c.at-connection.result.now c.at-connection.ensures (sym c.has_no_login.ensures ∙ c.if-has_no_login.true) in
    ap Some c.number.ensures ∙ ap (option_map (λ k. k.number)) (sym found ∙ c.loop-index.invariant)

pub loop-index-preserved : goal.loop-index-preserved
loop-index-preserved c =
    find_on has_no_login c.args.self.now c.loop-index.index c.at-connection.result.now c.at-connection.ensures (sym c.has_no_login.ensures ∙ c.if-has_no_login.false) ∙ c.loop-index.invariant
