use Rattle.nut_server_sockets.proofs.HeedLemmas.{ended_line}
use Rattle.nut_server_sockets.proofs.stall.Stall.end.Goals as goal

pub returns-clause-line : goal.returns-clause-line
returns-clause-line c =
    ended_line c.args.ready.now c.append.new.self c.args.self.now (record { clients = c.append.new.other; seconds = 0 }) c.append.ensures.joined c.append.ensures.comes
