use Rattle.std.proofs.Common.{◌∙◌, ap, map}
use Rattle.std.specs.List.{list_any}
use Rattle.nut_monitor_spec.specs.Configuration.{line_of}
use Rattle.nut_upsmon.specs.Stopping.{is_led}
use Rattle.nut_upsmon.proofs.Lines.{led}
use Rattle.nut_upsmon.proofs.stopping.is_led.Goals as goal

pub returns : goal.returns
returns c = c.any_led.ensures ∙ led c.as_slice.result.now ∙ ap (λ ms. list_any is_led (map line_of ms)) c.as_slice.ensures.value
