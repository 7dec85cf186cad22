use Rattle.std.proofs.Common.{◌≡◌, [], Result, IfOk, OnErr, refl, sym, subst, ap}
use Rattle.nut_monitor_loop.specs.declared.types.Next.{Next}
use Rattle.nut_monitor_loop.specs.declared.types.Next.TheVariants.{End}
use Rattle.nut_poll.specs.Late.{is_noted}
use Rattle.nut_poll.specs.Turns.{TakesTurns}
use Rattle.nut_poll.specs.declared.rounds.Rounds.{Rounds}
use Rattle.nut_monitor_sockets.specs.declared.links.Links.{Links}
use Rattle.nut_monitor_sockets.specs.Turns.{ComesInTurn}
use Rattle.nut_monitor_sockets.specs.inside.HandingLaws.{given_handed, hands_more, none_handed}
use Rattle.nut_monitor_sockets.proofs.InTurn.{took}
use Rattle.nut_monitor_sockets.proofs.mio_mon_world.MioMonWorldMonWorld.next.Goals as goal

either_way : {A P Q : Type 0} → A → (P → A) × (Q → A)
either_way a = (λ p. a, λ q. a)

moved : {E : Type 0} (result : Result Next E) (a b : Links) (c : Rounds) → IfOk result (λ n. ComesInTurn n a b) → OnErr result (TakesTurns a.rounds b.rounds)
    → c ≡ b.rounds → TakesTurns a.rounds c
moved result a b c turns kept same = subst (TakesTurns a.rounds) (sym same) (took result a b turns kept)

pub returns-in-Err-clause-counted : goal.returns-in-Err-clause-counted
returns-in-Err-clause-counted g c = refl

pub returns-in-Err-clause-err : goal.returns-in-Err-clause-err
returns-in-Err-clause-err g c = (
  none_handed _ _ (g.met.H.Herald.told_self c.args.monitor.now.config c.args.self.now.herald),
  took c.next.result c.args.self.now.links c.next.new.self c.next.ensures.turns c.next.ensures.kept,
)

pub returns-in-Ok : goal.returns-in-Ok
returns-in-Ok g c =
    let none = g.met.H.Herald.told_self c.args.monitor.now.config c.args.self.now.herald in
    let turns = took c.next.result c.args.self.now.links c.next.new.self c.next.ensures.turns c.next.ensures.kept in
    record {
      ok = (λ some. (given_handed _ _ c.in-Ok.next c.next.new.piece.items none, turns), λ nothing. (none_handed _ _ none, turns));
      err = tt;
      ended = λ is. let same : c.in-Ok.next ≡ End = cc in absurd ((c.in-Ok.ensures {u = tt}).goes_on same);
      none_late = λ i. ap (λ l. is_noted l i) c.clear.ensures;
      counted = refl;
    }

pub returns-else-has_moved_on-clause-ok : goal.returns-else-has_moved_on-clause-ok
returns-else-has_moved_on-clause-ok g c =
    either_way (
      none_handed _ _ (g.met.H.Herald.told_self c.args.monitor.now.config c.args.self.now.herald),
      moved c.next.result c.args.self.now.links c.next.new.self c.has_moved_on.new.self.rounds c.next.ensures.turns c.next.ensures.kept c.has_moved_on.ensures,
    )

pub returns-then-second-clause-ok : goal.returns-then-second-clause-ok
returns-then-second-clause-ok g c =
    either_way (
      hands_more _ _ _ (g.met.H.Herald.told_on c.args.monitor.now.config c.args.self.now.herald c.second.new.herald c.second-then-has_moved_on.new.self) _ _ _ [] [] c.second.ensures
          (none_handed _ _ c.second-then-has_moved_on.ensures.told),
      moved c.next.result c.args.self.now.links c.next.new.self c.has_moved_on.new.self.rounds c.next.ensures.turns c.next.ensures.kept c.has_moved_on.ensures,
    )

pub returns-else-second-clause-ok : goal.returns-else-second-clause-ok
returns-else-second-clause-ok g c =
    either_way (
      hands_more _ _ _ (g.met.H.Herald.told_on c.args.monitor.now.config c.args.self.now.herald c.second.new.herald c.second-then-has_moved_on.new.self) _ _ _ [] [] c.second.ensures
          (none_handed _ _ c.second-then-has_moved_on.ensures.told),
      moved c.next.result c.args.self.now.links c.next.new.self c.has_moved_on.new.self.rounds c.next.ensures.turns c.next.ensures.kept c.has_moved_on.ensures,
    )
