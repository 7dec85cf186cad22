use Rattle.std.proofs.Common.{sym, ◌∙◌}
use Rattle.nut_monitor_loop.proofs.Writes.{none_waits}
use Rattle.nut_monitor_loop.proofs.watching.tell_all.Goals as goal

pub returns-clause-told : goal.returns-clause-told
returns-clause-told g c = none_waits c.loop-notice.monitor.content.notices (sym c.first_notice.ensures ∙ c.in_default.is)
