use Rattle.std.proofs.Common.{◌∙◌, ap, map}
use Rattle.nut_monitor_spec.specs.Configuration.{has_primary, line_of}
use Rattle.nut_monitor.proofs.Loops.{primaries}
use Rattle.nut_monitor.proofs.shutdown.has_primary.Goals as goal

pub returns : goal.returns
returns c = c.any_primary.ensures ∙ primaries c.as_slice.result.now ∙ ap (λ ms. has_primary (map line_of ms)) c.as_slice.ensures.value
