-- For private functions, nothing here has to be believed: what always holds of the fields of a server.
use Rattle.std.specs.Prelude.{◌<◌, ◌≤◌, length}
use Rattle.std.specs.List.{AllByRecursion}
use Rattle.nut_conf.specs.declared.limits.TheConstants.{CONNECTIONS_MAX, UPSES_MAX}
use Rattle.nut_server_spec.specs.laws.Laws.{IsUpTo}
use Rattle.nut_server_spec.specs.laws.Limits.{IsWithin}
use Rattle.nut_server_spec.specs.declared.limits.TheConstants.{OPENED_MAX}
use Rattle.nut_server.specs.inside.Inside.{numbers_of}
use Rattle.nut_server.specs.declared.server.Parts.TheInside.{Inside}

-- No connection has a number above how many were opened, which is at most OPENED_MAX, there is room for all of them, the
-- configuration is within the limits of its files, each of its UPSes has the number of a place, and there are no more places
-- than UPSES_MAX.
pub record IsOrderly (a : Inside) : Type 0 where
  pub up_to : IsUpTo a.opened (numbers_of a.connections)
  pub few : a.opened ≤ OPENED_MAX
  pub within : length (numbers_of a.connections) ≤ CONNECTIONS_MAX
  pub limits : IsWithin a.config
  pub placed : AllByRecursion (λ n. n < length a.devices.items) a.numbers.items
  pub places : length a.devices.items ≤ UPSES_MAX
