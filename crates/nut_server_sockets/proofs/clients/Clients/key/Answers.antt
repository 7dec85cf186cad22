use Rattle.std.proofs.Common.{◌≡◌, get_or, ap, ◌∙◌}
use Rattle.std.proofs.lemmas.List.{get_or_read}
use Rattle.nut_server_sockets.proofs.SeatLemmas.{found_seat}
use Rattle.nut_server_sockets.proofs.clients.Clients.key.Goals as goal

pub returns-2 : goal.returns-2
returns-2 c =
    let clients = c.args.self.now in
    let at = c.in_ok-place.field-0 in
    let entry = c.index.result.now in
    let is : entry ≡ get_or clients.keys.items at (0, 0) = get_or_read clients.keys.items at entry c.in_ok-place.ensures.within c.index.ensures (0, 0) in
    found_seat clients.keys.items clients.sockets at c.args.number entry clients.named c.in_ok-place.ensures.within is (ap (λ p. p.0) is ∙ c.in_ok-place.ensures.number)
