use Rattle.std.proofs.Common.{◌≡◌, ◌≢◌, ℕ, ◌+◌, rules, ap, ◌∙◌}
use Rattle.mio.specs.Event.{event_token}
use Rattle.nut_server_sockets.proofs.HeedLemmas.{noted_none, noted_one}
use Rattle.nut_server_sockets.specs.Turns.{token_of}
use Rattle.nut_server_sockets.specs.declared.source.Source.TheVariants.{Client}
use Rattle.nut_server_sockets.specs.declared.source.TheConstants.{FIXED_MAX}
use Rattle.nut_server_sockets.proofs.sockets.note_one.Goals as goal

pub returns-in-Listener : goal.returns-in-Listener
returns-in-Listener c =
    let other : (key : ℕ) → (event_token c.args.event.now).0 ≢ FIXED_MAX + key =
    λ key is. let same = c.of.ensures.client key (ap (λ t. t.0) c.token.ensures ∙ is) in absurd (cc) in
    noted_none c.args.clients.now.sockets _ other

pub returns-in-Some : goal.returns-in-Some
returns-in-Some c =
    let other : (key : ℕ) → (event_token c.args.event.now).0 ≢ FIXED_MAX + key =
    λ key is. let same = c.of.ensures.client key (ap (λ t. t.0) c.token.ensures ∙ is) in absurd (cc) in
    noted_none c.args.clients.now.sockets _ other

pub returns-in_default : goal.returns-in_default
returns-in_default c =
    let other : (key : ℕ) → (event_token c.args.event.now).0 ≢ FIXED_MAX + key =
    λ key is. let same = c.of.ensures.client key (ap (λ t. t.0) c.token.ensures ∙ is) in absurd (cc) in
    noted_none c.args.clients.now.sockets _ other

pub returns-in-Client : goal.returns-in-Client
returns-in-Client c =
    let is : token_of (Client c.in-Client.key) ≡ c.token.result.0 = search rules in
    noted_one c.args.clients.now.sockets c.note-in-Client.new.self.sockets c.in-Client.key _ c.note-in-Client.ensures.seats c.note-in-Client.ensures.others c.note-in-Client.ensures.more (is ∙ ap (λ t. t.0) c.token.ensures)
