use Rattle.std.proofs.Common.{◌≡◌, None, [], inl, inr, refl, rules, ap, subst, ◌∙◌}
use Rattle.nut_server_loop.specs.declared.types.Next.TheVariants.{Again, Close, Reload}
use Rattle.nut_server_sockets.specs.Seats.{IsSilent}
use Rattle.nut_server_sockets.specs.inside.TurnLaws.{goes_on}
use Rattle.nut_server_sockets.proofs.SeatLemmas.{same_seats, seats_on}
use Rattle.nut_server_sockets.proofs.TurnLemmas.{came_of_none, found_in_turn, goes_look, goes_queue, goes_stay, leaves_on, none_told, nothing_found, none_given, nothing_more, not_reloaded, nothing_yet, queues_apart, second_in_turn, some_given, unasked_light, unasked_still}
use Rattle.nut_server_sockets.proofs.sockets.Sockets.next.Goals as goal

pub returns-in-Some-clause-turns : goal.returns-in-Some-clause-turns
returns-in-Some-clause-turns g c =
    came_of_none c.args.server.now (Close c.in-Some.number) c.args.self.now (record c.args.self.now { unkept = c.take.new.self }) (inl (search rules)) refl (nothing_yet c.args.self.now.rounds c.args.self.now.rounds refl)

pub returns-in-Some-clause-seats : goal.returns-in-Some-clause-seats
returns-in-Some-clause-seats g c =
    λ key. inl refl

pub returns-in-Some-admit-clause-goes_on : goal.returns-in-Some-admit-clause-goes_on
returns-in-Some-admit-clause-goes_on g c = (c.in-Some-admit.ensures.look 0).goes_on

pub returns-in-Some-admit-clause-seats : goal.returns-in-Some-admit-clause-seats
returns-in-Some-admit-clause-seats g c = (c.in-Some-admit.ensures.look 0).seats

pub returns-in-Some-admit-clause-turns : goal.returns-in-Some-admit-clause-turns
returns-in-Some-admit-clause-turns g c =
    came_of_none c.args.server.now c.in-Some-admit.next c.args.self.now c.admit.new.self (unasked_still c.args.server.now c.in-Some-admit.next c.args.self.now (record c.args.self.now { unkept = c.take.new.self }) (search rules) refl c.in-Some-admit.ensures.unasked.1) c.in-Some-admit.ensures.unasked.0
    (nothing_yet c.args.self.now.rounds c.admit.new.self.rounds c.admit.ensures.turns.0)

pub returns-in-Some-shed-clause-turns : goal.returns-in-Some-shed-clause-turns
returns-in-Some-shed-clause-turns g c =
    came_of_none c.args.server.now (Close c.in-Some-shed.number) c.args.self.now c.shed.new.self (inr (inr (subst (λ k. IsSilent c.args.server.now k.second k.sockets c.in-Some-shed.number) (c.in_default-admit.ensures.none refl) c.in-Some-shed.ensures.silent))) refl
    (nothing_yet c.args.self.now.rounds c.shed.new.self.rounds (c.shed.ensures.turns.0 ∙ c.admit.ensures.turns.0))

pub returns-in-Some-shed-clause-seats : goal.returns-in-Some-shed-clause-seats
returns-in-Some-shed-clause-seats g c =
    leaves_on (Close c.in-Some-shed.number) c.args.self.now.clients.sockets c.admit.new.self.clients.sockets c.shed.new.self.clients.sockets (c.in_default-admit.ensures.look 0).seats c.in-Some-shed.ensures.others

pub returns-in-Some-reload-clause-turns : goal.returns-in-Some-reload-clause-turns
returns-in-Some-reload-clause-turns g c =
    came_of_none c.args.server.now (Reload c.in-Some-reload.config) c.args.self.now c.reload.new.self tt refl
    (nothing_yet c.args.self.now.rounds c.reload.new.self.rounds (c.reload.ensures.apart.0 ∙ c.shed.ensures.turns.0 ∙ c.admit.ensures.turns.0))

pub returns-in-Some-reload-clause-seats : goal.returns-in-Some-reload-clause-seats
returns-in-Some-reload-clause-seats g c =
    let still = same_seats c.args.self.now.clients.sockets c.reload.new.self.clients.sockets (ap (λ k. k.sockets) c.reload.ensures.apart.1 ∙ c.in_default-shed.ensures.none refl ∙ ap (λ k. k.sockets) (c.in_default-admit.ensures.none refl)) in
    still

pub returns-in-Some-look-clause-turns : goal.returns-in-Some-look-clause-turns
returns-in-Some-look-clause-turns g c =
    let yet = nothing_yet c.args.self.now.rounds c.reload.new.self.rounds (c.reload.ensures.apart.0 ∙ c.shed.ensures.turns.0 ∙ c.admit.ensures.turns.0) in
    let still = same_seats c.args.self.now.clients.sockets c.reload.new.self.clients.sockets (ap (λ k. k.sockets) c.reload.ensures.apart.1 ∙ c.in_default-shed.ensures.none refl ∙ ap (λ k. k.sockets) (c.in_default-admit.ensures.none refl)) in
    found_in_turn c.args.server.now c.in-Some-look.next c.args.self.now c.reload.new.self c.look.new.self yet still c.in-Some-look.ensures.turns

pub returns-in-Some-look-clause-seats : goal.returns-in-Some-look-clause-seats
returns-in-Some-look-clause-seats g c =
    let still = same_seats c.args.self.now.clients.sockets c.reload.new.self.clients.sockets (ap (λ k. k.sockets) c.reload.ensures.apart.1 ∙ c.in_default-shed.ensures.none refl ∙ ap (λ k. k.sockets) (c.in_default-admit.ensures.none refl)) in
    leaves_on c.in-Some-look.next c.args.self.now.clients.sockets c.reload.new.self.clients.sockets c.look.new.self.clients.sockets still c.in-Some-look.ensures.turns.seats

pub returns-in-Some-2-clause-turns : goal.returns-in-Some-2-clause-turns
returns-in-Some-2-clause-turns g c =
    let yet = nothing_yet c.args.self.now.rounds c.reload.new.self.rounds (c.reload.ensures.apart.0 ∙ c.shed.ensures.turns.0 ∙ c.admit.ensures.turns.0) in
    let looked = nothing_more c.args.self.now.rounds c.reload.new.self.rounds c.look.new.self.rounds yet (nothing_found c.args.server.now None c.reload.new.self c.look.new.self c.in_default-look.ensures.turns) in
    second_in_turn c.args.server.now c.in-Some-2.moment c.args.self.now c.begin_second.new.self c.look.new.self.rounds c.wait.new.self.rounds c.in_ok-moment.field-0
    looked c.in_ok-moment.ensures.turns c.in_ok-moment.ensures.second c.in-Some-2.is c.begin_second.ensures.0

pub returns-in-Some-2-clause-seats : goal.returns-in-Some-2-clause-seats
returns-in-Some-2-clause-seats g c =
    let still = same_seats c.args.self.now.clients.sockets c.reload.new.self.clients.sockets (ap (λ k. k.sockets) c.reload.ensures.apart.1 ∙ c.in_default-shed.ensures.none refl ∙ ap (λ k. k.sockets) (c.in_default-admit.ensures.none refl)) in
    let seated = seats_on c.args.self.now.clients.sockets c.reload.new.self.clients.sockets c.wait.new.self.clients.sockets still
    (seats_on c.reload.new.self.clients.sockets c.look.new.self.clients.sockets c.wait.new.self.clients.sockets c.in_default-look.ensures.turns.seats c.in_ok-moment.ensures.seats) in
    seats_on c.args.self.now.clients.sockets c.wait.new.self.clients.sockets c.begin_second.new.self.clients.sockets seated (same_seats c.wait.new.self.clients.sockets c.begin_second.new.self.clients.sockets c.begin_second.ensures.1)

pub returns-in-Some-look-2-clause-turns : goal.returns-in-Some-look-2-clause-turns
returns-in-Some-look-2-clause-turns g c =
    let yet = nothing_yet c.args.self.now.rounds c.reload.new.self.rounds (c.reload.ensures.apart.0 ∙ c.shed.ensures.turns.0 ∙ c.admit.ensures.turns.0) in
    let still = same_seats c.args.self.now.clients.sockets c.reload.new.self.clients.sockets (ap (λ k. k.sockets) c.reload.ensures.apart.1 ∙ c.in_default-shed.ensures.none refl ∙ ap (λ k. k.sockets) (c.in_default-admit.ensures.none refl)) in
    let looked = nothing_more c.args.self.now.rounds c.reload.new.self.rounds c.look.new.self.rounds yet (nothing_found c.args.server.now None c.reload.new.self c.look.new.self c.in_default-look.ensures.turns) in
    let none : c.in_ok-moment.field-0 ≡ None = search rules in
    let waited = none_told c.in_ok-moment.field-0 c.args.self.now.rounds c.look.new.self.rounds c.wait.new.self.rounds looked c.in_ok-moment.ensures.turns c.in_ok-moment.ensures.second none in
    let seated = seats_on c.args.self.now.clients.sockets c.reload.new.self.clients.sockets c.wait.new.self.clients.sockets still
    (seats_on c.reload.new.self.clients.sockets c.look.new.self.clients.sockets c.wait.new.self.clients.sockets c.in_default-look.ensures.turns.seats c.in_ok-moment.ensures.seats) in
    found_in_turn c.args.server.now c.in-Some-look-2.next c.args.self.now c.wait.new.self c.look-2.new.self waited seated c.in-Some-look-2.ensures.turns

pub returns-in-Some-look-2-clause-seats : goal.returns-in-Some-look-2-clause-seats
returns-in-Some-look-2-clause-seats g c =
    let still = same_seats c.args.self.now.clients.sockets c.reload.new.self.clients.sockets (ap (λ k. k.sockets) c.reload.ensures.apart.1 ∙ c.in_default-shed.ensures.none refl ∙ ap (λ k. k.sockets) (c.in_default-admit.ensures.none refl)) in
    let seated = seats_on c.args.self.now.clients.sockets c.reload.new.self.clients.sockets c.wait.new.self.clients.sockets still
    (seats_on c.reload.new.self.clients.sockets c.look.new.self.clients.sockets c.wait.new.self.clients.sockets c.in_default-look.ensures.turns.seats c.in_ok-moment.ensures.seats) in
    leaves_on c.in-Some-look-2.next c.args.self.now.clients.sockets c.wait.new.self.clients.sockets c.look-2.new.self.clients.sockets seated c.in-Some-look-2.ensures.turns.seats

pub returns-in-None-clause-turns : goal.returns-in-None-clause-turns
returns-in-None-clause-turns g c =
    let yet = nothing_yet c.args.self.now.rounds c.reload.new.self.rounds (c.reload.ensures.apart.0 ∙ c.shed.ensures.turns.0 ∙ c.admit.ensures.turns.0) in
    let looked = nothing_more c.args.self.now.rounds c.reload.new.self.rounds c.look.new.self.rounds yet (nothing_found c.args.server.now None c.reload.new.self c.look.new.self c.in_default-look.ensures.turns) in
    let none : c.in_ok-moment.field-0 ≡ None = search rules in
    let waited = none_told c.in_ok-moment.field-0 c.args.self.now.rounds c.look.new.self.rounds c.wait.new.self.rounds looked c.in_ok-moment.ensures.turns c.in_ok-moment.ensures.second none in
    came_of_none c.args.server.now Again c.args.self.now c.look-2.new.self tt refl
    (nothing_more c.args.self.now.rounds c.wait.new.self.rounds c.look-2.new.self.rounds waited (nothing_found c.args.server.now None c.wait.new.self c.look-2.new.self c.in-None.ensures.turns))

pub returns-in-None-clause-seats : goal.returns-in-None-clause-seats
returns-in-None-clause-seats g c =
    let still = same_seats c.args.self.now.clients.sockets c.reload.new.self.clients.sockets (ap (λ k. k.sockets) c.reload.ensures.apart.1 ∙ c.in_default-shed.ensures.none refl ∙ ap (λ k. k.sockets) (c.in_default-admit.ensures.none refl)) in
    let seated = seats_on c.args.self.now.clients.sockets c.reload.new.self.clients.sockets c.wait.new.self.clients.sockets still
    (seats_on c.reload.new.self.clients.sockets c.look.new.self.clients.sockets c.wait.new.self.clients.sockets c.in_default-look.ensures.turns.seats c.in_ok-moment.ensures.seats) in
    seats_on c.args.self.now.clients.sockets c.wait.new.self.clients.sockets c.look-2.new.self.clients.sockets seated c.in-None.ensures.turns.seats

pub returns-in-Some-admit-clause-goes : goal.returns-in-Some-admit-clause-goes
returns-in-Some-admit-clause-goes g c =
    goes_stay c.args.self.now c.admit.new.self c.admit.ensures.turns

pub returns-in-Some-shed-clause-goes : goal.returns-in-Some-shed-clause-goes
returns-in-Some-shed-clause-goes g c =
    let shed = goes_on c.args.self.now c.admit.new.self c.shed.new.self (goes_stay c.args.self.now c.admit.new.self c.admit.ensures.turns) (goes_stay c.admit.new.self c.shed.new.self c.shed.ensures.turns) in
    shed

pub returns-in-Some-reload-clause-goes : goal.returns-in-Some-reload-clause-goes
returns-in-Some-reload-clause-goes g c =
    let shed = goes_on c.args.self.now c.admit.new.self c.shed.new.self (goes_stay c.args.self.now c.admit.new.self c.admit.ensures.turns) (goes_stay c.admit.new.self c.shed.new.self c.shed.ensures.turns) in
    let yet = goes_on c.args.self.now c.shed.new.self c.reload.new.self shed (goes_queue c.shed.new.self c.reload.new.self (queues_apart c.shed.new.self c.reload.new.self c.reload.ensures.apart)) in
    yet

pub returns-in-Some-look-clause-goes : goal.returns-in-Some-look-clause-goes
returns-in-Some-look-clause-goes g c =
    let shed = goes_on c.args.self.now c.admit.new.self c.shed.new.self (goes_stay c.args.self.now c.admit.new.self c.admit.ensures.turns) (goes_stay c.admit.new.self c.shed.new.self c.shed.ensures.turns) in
    let yet = goes_on c.args.self.now c.shed.new.self c.reload.new.self shed (goes_queue c.shed.new.self c.reload.new.self (queues_apart c.shed.new.self c.reload.new.self c.reload.ensures.apart)) in
    let looked = goes_on c.args.self.now c.reload.new.self c.look.new.self yet (goes_look c.args.server.now c.look.result c.reload.new.self c.look.new.self c.look.ensures.turns) in
    looked

pub returns-in-Some-2-clause-goes : goal.returns-in-Some-2-clause-goes
returns-in-Some-2-clause-goes g c =
    let shed = goes_on c.args.self.now c.admit.new.self c.shed.new.self (goes_stay c.args.self.now c.admit.new.self c.admit.ensures.turns) (goes_stay c.admit.new.self c.shed.new.self c.shed.ensures.turns) in
    let yet = goes_on c.args.self.now c.shed.new.self c.reload.new.self shed (goes_queue c.shed.new.self c.reload.new.self (queues_apart c.shed.new.self c.reload.new.self c.reload.ensures.apart)) in
    let looked = goes_on c.args.self.now c.reload.new.self c.look.new.self yet (goes_look c.args.server.now c.look.result c.reload.new.self c.look.new.self c.look.ensures.turns) in
    let waited = goes_on c.args.self.now c.look.new.self c.wait.new.self looked (([], c.wait.ensures.turns), c.wait.ensures.heeds) in
    goes_on c.args.self.now c.wait.new.self c.begin_second.new.self waited (goes_queue c.wait.new.self c.begin_second.new.self c.begin_second.ensures)

pub returns-in-Some-look-2-clause-goes : goal.returns-in-Some-look-2-clause-goes
returns-in-Some-look-2-clause-goes g c =
    let shed = goes_on c.args.self.now c.admit.new.self c.shed.new.self (goes_stay c.args.self.now c.admit.new.self c.admit.ensures.turns) (goes_stay c.admit.new.self c.shed.new.self c.shed.ensures.turns) in
    let yet = goes_on c.args.self.now c.shed.new.self c.reload.new.self shed (goes_queue c.shed.new.self c.reload.new.self (queues_apart c.shed.new.self c.reload.new.self c.reload.ensures.apart)) in
    let looked = goes_on c.args.self.now c.reload.new.self c.look.new.self yet (goes_look c.args.server.now c.look.result c.reload.new.self c.look.new.self c.look.ensures.turns) in
    let waited = goes_on c.args.self.now c.look.new.self c.wait.new.self looked (([], c.wait.ensures.turns), c.wait.ensures.heeds) in
    goes_on c.args.self.now c.wait.new.self c.look-2.new.self waited (goes_look c.args.server.now c.look-2.result c.wait.new.self c.look-2.new.self c.look-2.ensures.turns)

pub returns-in-None-clause-goes : goal.returns-in-None-clause-goes
returns-in-None-clause-goes g c =
    let shed = goes_on c.args.self.now c.admit.new.self c.shed.new.self (goes_stay c.args.self.now c.admit.new.self c.admit.ensures.turns) (goes_stay c.admit.new.self c.shed.new.self c.shed.ensures.turns) in
    let yet = goes_on c.args.self.now c.shed.new.self c.reload.new.self shed (goes_queue c.shed.new.self c.reload.new.self (queues_apart c.shed.new.self c.reload.new.self c.reload.ensures.apart)) in
    let looked = goes_on c.args.self.now c.reload.new.self c.look.new.self yet (goes_look c.args.server.now c.look.result c.reload.new.self c.look.new.self c.look.ensures.turns) in
    let waited = goes_on c.args.self.now c.look.new.self c.wait.new.self looked (([], c.wait.ensures.turns), c.wait.ensures.heeds) in
    goes_on c.args.self.now c.wait.new.self c.look-2.new.self waited (goes_look c.args.server.now c.look-2.result c.wait.new.self c.look-2.new.self c.look-2.ensures.turns)

pub returns-in_err-moment-clause-goes : goal.returns-in_err-moment-clause-goes
returns-in_err-moment-clause-goes g c =
    let shed = goes_on c.args.self.now c.admit.new.self c.shed.new.self (goes_stay c.args.self.now c.admit.new.self c.admit.ensures.turns) (goes_stay c.admit.new.self c.shed.new.self c.shed.ensures.turns) in
    let yet = goes_on c.args.self.now c.shed.new.self c.reload.new.self shed (goes_queue c.shed.new.self c.reload.new.self (queues_apart c.shed.new.self c.reload.new.self c.reload.ensures.apart)) in
    let looked = goes_on c.args.self.now c.reload.new.self c.look.new.self yet (goes_look c.args.server.now c.look.result c.reload.new.self c.look.new.self c.look.ensures.turns) in
    let waited = goes_on c.args.self.now c.look.new.self c.wait.new.self looked (([], c.wait.ensures.turns), c.wait.ensures.heeds) in
    waited

pub returns-in-Some-admit-clause-light : goal.returns-in-Some-admit-clause-light
returns-in-Some-admit-clause-light g c = unasked_light c.args.server.now c.in-Some-admit.next (record c.args.self.now { unkept = c.take.new.self }) c.admit.new.piece.items c.in-Some-admit.ensures.unasked.1

pub returns-in-Some-clause-reloads : goal.returns-in-Some-clause-reloads
returns-in-Some-clause-reloads g c = inr refl

pub returns-in-Some-admit-clause-reloads : goal.returns-in-Some-admit-clause-reloads
returns-in-Some-admit-clause-reloads g c =
    not_reloaded g.L.Reloader.gave c.args.services.now.reloader c.args.services.now.reloader c.args.self.now.clients.sockets c.args.server.now c.in-Some-admit.next 0
    (c.in-Some-admit.ensures.look 0).given (inr (refl, refl))

pub returns-in-Some-shed-clause-reloads : goal.returns-in-Some-shed-clause-reloads
returns-in-Some-shed-clause-reloads g c = inr refl

pub returns-in-Some-reload-clause-reloads : goal.returns-in-Some-reload-clause-reloads
returns-in-Some-reload-clause-reloads g c =
    some_given g.L.Reloader.gave c.args.services.now.reloader c.reload.new.reloader c.in-Some-reload.config.value c.in-Some-reload.ensures.reloads

pub returns-in-Some-look-clause-reloads : goal.returns-in-Some-look-clause-reloads
returns-in-Some-look-clause-reloads g c =
    let last = c.in-Some-look.ensures.turns.of_last in
    not_reloaded g.L.Reloader.gave c.args.services.now.reloader c.reload.new.reloader c.reload.new.self.clients.sockets c.args.server.now c.in-Some-look.next last.1 last.3 c.in_default-reload.ensures.reloads

pub returns-in-Some-2-clause-reloads : goal.returns-in-Some-2-clause-reloads
returns-in-Some-2-clause-reloads g c =
    none_given g.L.Reloader.gave c.args.services.now.reloader c.reload.new.reloader c.in_default-reload.ensures.reloads

pub returns-in-Some-look-2-clause-reloads : goal.returns-in-Some-look-2-clause-reloads
returns-in-Some-look-2-clause-reloads g c =
    let last = c.in-Some-look-2.ensures.turns.of_last in
    not_reloaded g.L.Reloader.gave c.args.services.now.reloader c.reload.new.reloader c.wait.new.self.clients.sockets c.args.server.now c.in-Some-look-2.next last.1 last.3 c.in_default-reload.ensures.reloads

pub returns-in-None-clause-reloads : goal.returns-in-None-clause-reloads
returns-in-None-clause-reloads g c =
    none_given g.L.Reloader.gave c.args.services.now.reloader c.reload.new.reloader c.in_default-reload.ensures.reloads
