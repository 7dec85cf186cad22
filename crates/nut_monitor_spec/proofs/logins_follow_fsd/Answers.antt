use Rattle.nut_monitor_spec.proofs.Putting.{follow-fsd}
use Rattle.nut_monitor_spec.proofs.logins_follow_fsd.Goals as goal

pub returns : goal.returns
returns c = follow-fsd
