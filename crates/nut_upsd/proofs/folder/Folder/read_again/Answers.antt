use Rattle.std.proofs.Common.{◌∙◌, ap}
use Rattle.nut_upsd.proofs.folder.Folder.read_again.Goals as goal

pub returns-clause-read : goal.returns-clause-read
returns-clause-read g c = (
  c.in_ok-settings.settings,
  c.in_ok-settings.ensures.read,
  ap (λ b. b.value) c.in_ok-differences.ensures ∙ c.in-Ok.ensures.ok ∙ c.into_config.ensures,
)
