use Rattle.std.proofs.Common.{◌<◌, ap, ◌∙◌, subst, ◌++◌, ◌∷◌, [], length, map, if◌then◌else◌}
use Rattle.nut_monitor_spec.specs.Content.{phase_of}
use Rattle.nut_monitor.specs.Monitors.{MonitorValue}
use Rattle.nut_monitor.specs.Events.{event_of}
use Rattle.nut_fleet.specs.Log.{Noticed, Moved, logged}
use Rattle.nut_play.specs.Steps.{logged_of}
use Rattle.nut_play.proofs.Hears.{turned-log}
use Rattle.nut_play.proofs.Lacks.{notices-lack, phase-lacks, on-any-err}
use Rattle.nut_play.proofs.telling.inform.Goals as goal

pub returns-in_ok-note-clause-log : goal.returns-in_ok-note-clause-log
returns-in_ok-note-clause-log c =
    turned-log c.args.m c.args.step c.args.monitor.now.content (event_of c.args.event) c.phase-before.result c.phase-after.result _ _ _
    c.in-Ok.ensures.answered.0
    c.in_ok-note.ensures
    (c.in_ok-take_notices.ensures.log
    ∙ ap (λ (v : MonitorValue). map logged_of c.args.log.now.items ++ logged c.args.step (map (Noticed c.args.m) v.content.notices)) c.in-Ok.ensures.content)
    c.phase-before.ensures
    (c.phase-after.ensures ∙ ap (λ (v : MonitorValue). phase_of v.content) c.in_ok-take_notices.ensures.monitor
    ∙ ap (λ (v : MonitorValue). phase_of v.content) c.in-Ok.ensures.content)
    (c.is_turned.ensures c.args.m ∙ ap (λ b. if b then Moved c.args.m c.phase-after.result ∷ [] else []) c.if-is_turned.true)

pub returns-in_err-take_notices-clause-lack : goal.returns-in_err-take_notices-clause-lack
returns-in_err-take_notices-clause-lack c =
    on-any-err _ c.from_residual.result
    (notices-lack c.args.m c.args.monitor.now.content (event_of c.args.event) c.in-Ok.ensures.answered.0
    (subst (λ (v : MonitorValue). 0 < length v.content.notices) c.in-Ok.ensures.content c.in_err-take_notices.ensures.lack))

pub returns-in_err-note-clause-lack : goal.returns-in_err-note-clause-lack
returns-in_err-note-clause-lack c =
    on-any-err _ c.from_residual-in_err-note.result
    (phase-lacks c.args.m c.args.monitor.now.content (event_of c.args.event) c.in-Ok.ensures.answered.0 c.phase-before.result c.phase-after.result
    c.phase-before.ensures
    (c.phase-after.ensures ∙ ap (λ (v : MonitorValue). phase_of v.content) c.in_ok-take_notices.ensures.monitor
    ∙ ap (λ (v : MonitorValue). phase_of v.content) c.in-Ok.ensures.content)
    (c.is_turned.ensures c.args.m ∙ ap (λ b. if b then Moved c.args.m c.phase-after.result ∷ [] else []) c.if-is_turned.true))
