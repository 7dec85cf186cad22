use Rattle.std.proofs.Common.{sym, ◌∙◌, ap, option_map, Some}
use Rattle.nut_server.specs.Seats.{is_stranger}
use Rattle.nut_server.proofs.Settled.{find_here, find_on}
use Rattle.nut_server.proofs.connections.Connections.first_stranger.Goals as goal

pub returns-then-is_stranger : goal.returns-then-is_stranger
returns-then-is_stranger c =
    let found = find_here (is_stranger c.args.config.now.users) c.args.self.now c.loop-index.index c.at-connection.result.now c.at-connection.ensures (sym c.is_stranger.ensures ∙ c.if-is_stranger.true) in
    ap Some c.number.ensures ∙ ap (option_map (λ k. k.number)) (sym found ∙ c.loop-index.invariant)

pub loop-index-preserved : goal.loop-index-preserved
loop-index-preserved c =
    find_on (is_stranger c.args.config.now.users) c.args.self.now c.loop-index.index c.at-connection.result.now c.at-connection.ensures (sym c.is_stranger.ensures ∙ c.if-is_stranger.false)
    ∙ c.loop-index.invariant
