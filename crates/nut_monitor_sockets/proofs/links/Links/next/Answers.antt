use Rattle.std.proofs.Common.{sym, subst}
use Rattle.nut_monitor_loop.specs.declared.types.Next.TheVariants.{Again}
use Rattle.nut_monitor_sockets.specs.Turns.{ComesInTurn}
use Rattle.nut_monitor_sockets.proofs.InTurn.{comes_then, on_err, stays, took_turns, waited}
use Rattle.nut_monitor_sockets.proofs.links.Links.next.Goals as goal

pub returns-in-Some-clause-turns : goal.returns-in-Some-clause-turns
returns-in-Some-clause-turns g c =
    let start = c.args.self.now in
    let followed = c.follow.new.self in
    comes_then c.in-Some.next start followed c.come.new.self (stays start.rounds followed.rounds c.follow.ensures.0 c.follow.ensures.1) c.in-Some.ensures.turns

pub returns-clause-turns : goal.returns-clause-turns
returns-clause-turns g c =
    let start = c.args.self.now in
    let followed = c.follow.new.self in
    let looked = c.come.new.self in
    let came = c.wait.new.self in
    let end = c.come-next.new.self in
    let first = comes_then Again start followed looked (stays start.rounds followed.rounds c.follow.ensures.0 c.follow.ensures.1) c.in_default.ensures.turns in
    let then : ComesInTurn c.unwrap_or.result came end = subst (λ n. ComesInTurn n came end) (sym c.unwrap_or.ensures) c.come-next.ensures.turns in
    waited c.unwrap_or.result start looked came end first c.wait.ensures then

pub returns-in_err-wait-clause-kept : goal.returns-in_err-wait-clause-kept
returns-in_err-wait-clause-kept g c =
    let start = c.args.self.now in
    let followed = c.follow.new.self in
    let looked = c.come.new.self in
    let first = comes_then Again start followed looked (stays start.rounds followed.rounds c.follow.ensures.0 c.follow.ensures.1) c.in_default.ensures.turns in
    on_err _ (took_turns Again start looked c.wait.new.self first c.wait.ensures)
