use Rattle.std.proofs.Common.{◌≡◌, sym, ap, subst, refl, ◌∙◌}
use Rattle.std.specs.Prelude.{option_map}
use Rattle.nut_upsmon.specs.Acts.{Readied, does, halt_of}
use Rattle.nut_upsmon.specs.Course.{tellings}
use Rattle.nut_upsmon.specs.inside.Ready.{IsReady}
use Rattle.nut_upsmon.specs.inside.Telling.{told_as, untold_by}
use Rattle.nut_upsmon.proofs.Acted.{ready_next}
use Rattle.nut_upsmon.proofs.guard.GuardHerald.second.Goals as goal

pub returns-in-Some-clause-told : goal.returns-in-Some-clause-told
returns-in-Some-clause-told g c =
    let log = g.A.Actor.log c.args.self.now.actor in
    let log' = g.A.Actor.log c.second.new.self in
    let config = c.args.monitor.now.config in
    let b = c.in-Some.next in
    let same : log' ≡ does (Readied (halt_of b.monitor.config)) log = c.in-Some.ensures.next in (
      λ ready. subst (λ n. IsReady log' n config) (sym c.replace.ensures.after) (ready_next log log' c.args.self.now.next b config same ready),
      told_as _ _ (ap (option_map tellings) same ∙ untold_by log (Readied (halt_of b.monitor.config)) (λ acts. refl)),
    )
