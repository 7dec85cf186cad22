-- What a network carries, and what it doesn't. Each example is computed from the definitions.
use Rattle.std.specs.Prelude.{ℕ, ◌==◌, ◌&&◌, if◌then◌else◌, List, [], ◌∷◌, codes, Some, None}
use Rattle.nut_server_spec.specs.Event as arrivals
use Rattle.nut_monitor_spec.specs.Event as events
use Rattle.nut_fleet.specs.examples.Examples.{alone}
use Rattle.nut_running.specs.Running.{Happening, AtServer, AtMonitor, Network, May}

-- the first call of link 0 of monitor 0 got connection 1, and no other call got one
abbrev pub first_call : Network
first_call m i k = if m == 0 && i == 0 && k == 1 then Some 1 else None

-- A client comes. The monitor calls, and puts "USERN" into the pipe.
abbrev pub called : List Happening
called =
    AtMonitor 0 (events.LinkTook 0 5) ∷ AtMonitor 0 (events.Linked 0) ∷ AtServer (arrivals.Open (codes "10.0.0.9"))
    ∷ AtServer (arrivals.Open (codes "10.0.0.1")) ∷ []

-- "USE" has come to the server.
abbrev pub came : List Happening
came = AtServer (arrivals.Bytes 1 (codes "USE")) ∷ called

-- The link is lost, and the monitor calls again.
abbrev pub again : List Happening
again = AtMonitor 0 (events.Linked 0) ∷ AtMonitor 0 (events.LinkLost 0) ∷ called

-- the second call of link 0 of monitor 0 got connection 3, and no other call got one
abbrev pub second_call : Network
second_call m i k = if m == 0 && i == 0 && k == 2 then Some 3 else None

-- these bytes may come next on connection c
abbrev pub Comes : List Happening → ℕ → List ℕ → Type 0
Comes run c bytes = May alone first_call run (AtServer (arrivals.Bytes c bytes))

-- these bytes may come next to the monitor
abbrev pub Lands : List Happening → List ℕ → Type 0
Lands run bytes = May alone first_call run (AtMonitor 0 (events.LinkBytes 0 bytes))

pub record RunningExamples : Type 0 where
  -- bytes come in pieces, and in order
  pub in_part : Comes called 1 (codes "USE")
  pub the_rest : Comes came 1 (codes "RN")
  pub swapped : Comes called 1 (codes "SU") → ⊥
  pub twice : Comes came 1 (codes "USE") → ⊥
  pub passed_over : Comes came 1 (codes "N") → ⊥
  -- none comes that wasn't sent, or before it is
  pub invented : Comes called 1 (codes "FSD") → ⊥
  pub early : Comes called 1 (codes "USERNA") → ⊥
  pub before_the_call : Comes [] 1 (codes "USE") → ⊥
  -- a connection that belongs to no call may say anything
  pub of_a_client : Comes called 2 (codes "FSD su700")
  -- the server has sent nothing yet
  pub no_answer : Lands came (codes "OK") → ⊥
  -- what was sent in a call may come after the next one, but not on the connection of that
  pub by_call : Comes again 1 (codes "USERN")
  pub by_the_next : May alone second_call again (AtServer (arrivals.Bytes 3 (codes "USERN"))) → ⊥
