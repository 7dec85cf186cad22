-- For private functions, nothing here has to be believed: what always holds of a server.
use Rattle.std.specs.Prelude.{List}
use Rattle.nut_server_spec.specs.Acceptance.{Tells}
use Rattle.nut_server_spec.specs.Configuration.{Configuration}
use Rattle.nut_server_spec.specs.Content.{Content}
use Rattle.nut_server_spec.specs.Event.{Event}
use Rattle.nut_server_spec.specs.laws.Limits.{AreWithin}

-- A server has some history of accepted events, whose configurations are within the limits of their files.
pub record IsTold (s : Content) : Type 0 where
  pub first : Configuration
  pub history : List Event
  pub tells : Tells first history s
  pub within : AreWithin first history
