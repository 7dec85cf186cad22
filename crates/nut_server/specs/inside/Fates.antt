-- For private functions, nothing here has to be believed: what a reload makes of UPSes, in the terms of the
-- definitions.
use Rattle.std.specs.Prelude.{ℕ}
use Rattle.nut_server_spec.specs.Numbering as N
use Rattle.nut_server.specs.declared.reloading.Fate.{Fate}
use Rattle.nut_server.specs.declared.reloading.Fate.TheVariants.{Kept, Disconnected, Cleared}
use Rattle.nut_server.specs.declared.reloading.Reloading.{Reloading}

-- the fate that the code's fate stands for
abbrev pub fate_is : Fate → N.Fate
fate_is Kept = N.Kept
fate_is Disconnected = N.Disconnected
fate_is Cleared = N.Cleared

-- what a reload makes of the UPS with a number
abbrev pub fate_in : Reloading → ℕ → N.Fate
fate_in r u = N.fate_between (N.ups_with u r.before) (N.ups_with u r.after)
