-- What a reload ends: the drivers that it disconnects, and the connections that it closes.
use Rattle.std.specs.Prelude.{ℕ, Bool, true, false, not, ◌&&◌, List, filter, length, map}
use Rattle.nut_server_spec.specs.Acceptance.{is_connected, supply_of}
use Rattle.nut_server_spec.specs.Configuration.{Configuration}
use Rattle.nut_server_spec.specs.Content.{Content, numbering_of}
use Rattle.nut_server_spec.specs.Numbering.{Fate, Kept, below, fate_of, is_to_cleared}

-- whether a UPS stays as it is
abbrev pub is_kept : Fate → Bool
is_kept Kept = true
is_kept fate = false

-- the UPSes whose drivers a reload disconnects, by rising number: those that are connected, and whose UPS doesn't stay as it is
abbrev pub drivers_ended : Configuration → Content → List ℕ
drivers_ended configuration s =
    filter (λ u. is_connected (supply_of u s.supplies) && not (is_kept (fate_of configuration.upses (numbering_of s) u))) (below (length s.supplies))

-- the connections that a reload closes, by rising number: those that are logged in to a UPS that is cleared
abbrev pub connections_ended : Configuration → Content → List ℕ
connections_ended configuration s =
    map (λ k. k.number) (filter (λ k. is_to_cleared (fate_of configuration.upses (numbering_of s)) k.login) s.sessions)
