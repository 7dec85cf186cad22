use Rattle.std.proofs.Common.{subst, sym, ◌∙◌, Some}
use Rattle.nut_server_spec.specs.laws.Laws.{IsRising}
use Rattle.nut_server.specs.inside.Inside.{numbers_of}
use Rattle.nut_server.proofs.Entries.{sessions_rise}
use Rattle.nut_server.proofs.Seats.{stranger_is_free, first_is_free}
use Rattle.nut_server.proofs.connections.Connections.longest_without_login.Goals as goal

pub returns-in-Some-clause-not_logged_in : goal.returns-in-Some-clause-not_logged_in
returns-in-Some-clause-not_logged_in c =
    let rising = subst (λ ks. IsRising (numbers_of ks)) c.self.view_is (sessions_rise c.self.inside.slots c.self.inside.order.items c.self.invariant.named c.self.invariant.rising) in
    stranger_is_free c.args.config.now.users c.args.self.now (Some c.in-Some.number) rising (sym c.in-Some.is ∙ c.first_stranger.ensures)

pub returns-in-None-clause-not_logged_in : goal.returns-in-None-clause-not_logged_in
returns-in-None-clause-not_logged_in c =
    let rising = subst (λ ks. IsRising (numbers_of ks)) c.self.view_is (sessions_rise c.self.inside.slots c.self.inside.order.items c.self.invariant.named c.self.invariant.rising) in
    first_is_free c.args.self.now c.first_without_login.result rising c.first_without_login.ensures
