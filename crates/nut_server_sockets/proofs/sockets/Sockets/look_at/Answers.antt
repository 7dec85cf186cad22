use Rattle.std.proofs.Common.{◌≡◌, ◌≢◌, ℕ, ◌+◌, rules, subst, sym, ◌∙◌}
use Rattle.nut_server_sockets.proofs.HeedLemmas.{heeds_other, heeds_still}
use Rattle.nut_server_sockets.proofs.TurnLemmas.{other_light}
use Rattle.nut_server_sockets.specs.Turns.{token_of}
use Rattle.nut_server_sockets.specs.declared.source.Source.TheVariants.{Client, Driver}
use Rattle.nut_server_sockets.specs.declared.source.TheConstants.{FIXED_MAX}
use Rattle.nut_server_sockets.specs.inside.Looking.{HeedsAlso, IsLook}
use Rattle.nut_server_sockets.proofs.sockets.Sockets.look_at.Goals as goal

pub returns-in-Listener-clause-heeds : goal.returns-in-Listener-clause-heeds
returns-in-Listener-clause-heeds g c =
    let other : (key : ℕ) → c.args.token.0 ≢ FIXED_MAX + key = λ key is. let same = c.of.ensures.client key is in absurd (cc) in
    heeds_other c.args.token.0 c.args.self.now c.look_at_listener.new.self other c.look_at_listener.ensures.heeds

pub returns-in-Listener-clause-look : goal.returns-in-Listener-clause-look
returns-in-Listener-clause-look g c = c.look_at_listener.ensures.look c.args.token.0

pub returns-in-Listener-clause-light : goal.returns-in-Listener-clause-light
returns-in-Listener-clause-light g c =
    let other : (key : ℕ) → c.args.token.0 ≢ FIXED_MAX + key = λ key is. let same = c.of.ensures.client key is in absurd (cc) in
    let look = c.look_at_listener.ensures.look c.args.token.0 in
    other_light c.args.self.now.clients.sockets c.args.server.now c.args.token.0 c.look_at_listener.result c.look_at_listener.new.piece.items other look.given

pub returns-in-Driver-clause-look : goal.returns-in-Driver-clause-look
returns-in-Driver-clause-look g c =
    let is : token_of (Driver c.in-Driver.u) ≡ c.args.token.0 = search rules in
    subst (λ t. IsLook c.args.self.now c.args.server.now t c.look_at_driver.result c.look_at_driver.new.self) is (c.look_at_driver.ensures.look c.args.server.now)

pub returns-in-Driver-clause-light : goal.returns-in-Driver-clause-light
returns-in-Driver-clause-light g c =
    let is : token_of (Driver c.in-Driver.u) ≡ c.args.token.0 = search rules in
    let other : (key : ℕ) → token_of (Driver c.in-Driver.u) ≢ FIXED_MAX + key = λ key same. let client = c.of.ensures.client key (sym is ∙ same) in absurd (cc) in
    let look = c.look_at_driver.ensures.look c.args.server.now in
    other_light c.args.self.now.clients.sockets c.args.server.now (token_of (Driver c.in-Driver.u)) c.look_at_driver.result c.look_at_driver.new.piece.items other look.given

pub returns-in-Driver-clause-heeds : goal.returns-in-Driver-clause-heeds
returns-in-Driver-clause-heeds g c =
    let other : (key : ℕ) → c.args.token.0 ≢ FIXED_MAX + key = λ key is. let same = c.of.ensures.client key is in absurd (cc) in
    heeds_other c.args.token.0 c.args.self.now c.look_at_driver.new.self other (heeds_still c.args.self.now c.look_at_driver.new.self c.look_at_driver.ensures.queues)

pub returns-in-Client-clause-look : goal.returns-in-Client-clause-look
returns-in-Client-clause-look g c =
    let is : token_of (Client c.in-Client.key) ≡ c.args.token.0 = search rules in
    subst (λ t. IsLook c.args.self.now c.args.server.now t c.look_at_client.result c.look_at_client.new.self) is c.look_at_client.ensures.look

pub returns-in-Client-clause-heeds : goal.returns-in-Client-clause-heeds
returns-in-Client-clause-heeds g c =
    let is : token_of (Client c.in-Client.key) ≡ c.args.token.0 = search rules in
    subst (λ t. HeedsAlso t c.args.self.now c.look_at_client.new.self) is c.look_at_client.ensures.heeds
