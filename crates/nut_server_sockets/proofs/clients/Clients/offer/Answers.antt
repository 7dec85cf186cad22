use Rattle.std.proofs.Common.{◌≡◌, false, sym}
use Rattle.nut_server_sockets.proofs.HeedLemmas.{due_same}
use Rattle.nut_server_sockets.proofs.clients.Clients.offer.Goals as goal

pub returns-in_default-false-clause-due : goal.returns-in_default-false-clause-due
returns-in_default-false-clause-due c key _ =
    let no : c.offer.result.1 ≡ false = cc in
    due_same c.args.self.now.sockets c.in-Some.key c.in-Some-get_mut.client.now c.offer.new.self (sym c.in-Some-get_mut.ensures.value) (c.offer.ensures.due no) key
