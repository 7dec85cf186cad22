use Rattle.std.proofs.Common.{option_map, subst, arith}
use Rattle.std.proofs.lemmas.Bool.Decides.{Decides-eqb}
use Rattle.nut_server_spec.specs.laws.Laws.{IsRising}
use Rattle.nut_server.specs.inside.Inside.{numbers_of}
use Rattle.nut_server.specs.Settling.{IsNextUnsettled}
use Rattle.nut_server.proofs.Entries.{nothing_found, sessions_rise}
use Rattle.nut_server.proofs.Orderly.{next_is}
use Rattle.nut_server.proofs.connections.Connections.are_settled.Goals as goal

pub returns : goal.returns
returns c =
    let rising = subst (λ ks. IsRising (numbers_of ks)) c.self.view_is (sessions_rise c.self.inside.slots c.self.inside.order.items c.self.invariant.named c.self.invariant.rising) in
    λ settled d.
    let none = nothing_found c.self.inside c.args.self.now 0 c.self.invariant c.self.view_is ((Decides-eqb c.self.inside.unsettled 0).0 settled) in
    subst (λ o. IsNextUnsettled c.args.self.now 0 (option_map (λ k. k.number) o)) none (next_is 0 c.args.self.now rising) d (omega arith)
