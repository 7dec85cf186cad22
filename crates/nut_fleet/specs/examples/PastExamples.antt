-- Pasts that no monitor has, and what isn't true of them: a definition that says less would let one of them through.
use Rattle.std.specs.Prelude.{ℕ, zero, suc, List, [], ◌∷◌, ◌++◌, codes, reverse, Some, None}
use Rattle.nut_conf.specs.declared.users.Action.TheVariants as actions
use Rattle.nut_conf.specs.declared.users.Role.TheVariants as roles
use Rattle.nut_link.specs.declared.outcome.Outcome.TheVariants.{Done, Said}
use Rattle.nut_monitor_spec.specs.declared.Query.{Query}
use Rattle.nut_monitor_spec.specs.declared.Query.TheVariants.{Login, Status, NumLogins}
use Rattle.nut_monitor_spec.specs.Configuration.{line_in}
use Rattle.nut_monitor_spec.specs.Event.{Moment}
use Rattle.nut_monitor_spec.specs.Trace.{Entry}
use Rattle.nut_fleet.specs.Schedule.{Step, MonitorClock, Link, Out, Reach}
use Rattle.nut_fleet.specs.World.{Setup, seen}
use Rattle.nut_fleet.specs.Fleet.{HasCauses, HasSupply, IsReason, WasAlone, WasShown}
use Rattle.nut_fleet.specs.examples.Examples.{alone, comes, live, pair, primary, rounds, says, says_lines, secondary, world_of}

-- an event at moment t that brought this answer to a query of line 0, which was put at the end of event `asked`
abbrev pub brings : ℕ → Query → ℕ → List ℕ → Entry
brings t query asked value = record {
  event = Moment t;
  answer = Some (record { link = 0; asked = record { query = query; moment = 0; event = asked }; outcome = Said (value ∷ []) });
  lost = None;
  put = λ i. None;
  notices = [];
}

-- an event that brought nothing
abbrev pub passes : ℕ → Entry
passes t = record (brings t Status 0 []) { answer = None }

-- The UPS is on line, on battery from the monitor's first event until its third, and on line again.
abbrev pub goes_off : List Step
goes_off = reverse (live (codes "OL") ++ MonitorClock 0 1 ∷ says (codes "OB") ∷ MonitorClock 0 2 ∷ MonitorClock 0 3
    ∷ says (codes "OL") ∷ MonitorClock 0 4 ∷ [])

-- A primary forces the shutdown, as the monitor's events are 13, and then counts the logins.
abbrev pub forces : List Step
forces = reverse (live (codes "OB LB") ++ Link 0 0 ∷ rounds 0 6 ++ Out 0 0 512 ∷ Reach 0 0 512 ∷ [])

-- Here another monitor is logged in.
abbrev pub counts_two : List Step
counts_two =
    live (codes "OL") ++ Link 0 0 ∷ rounds 0 5 ++ Link 1 0 ∷ rounds 1 4 ++ says (codes "OB LB") ∷ MonitorClock 0 10 ∷ rounds 0 3

-- Here the monitor's user may force a shutdown and may not log in, and another client is logged in.
abbrev pub forcing : Setup
forcing = record alone {
  server = record alone.server {
    users = record { name = codes "mon"; password = Some (codes "m1"); actions = actions.Fsd ∷ []; commands = []; role = None }
        ∷ record { name = codes "guard"; password = Some (codes "g1"); actions = []; commands = []; role = Some roles.Secondary } ∷ [];
  };
}

abbrev pub counts_another : List Step
counts_another =
    live (codes "OB LB") ++ comes ∷ says_lines 1 (codes "USERNAME guard" ∷ codes "PASSWORD g1" ∷ codes "LOGIN su700" ∷ []) ∷ Link 0 0 ∷ rounds 0 7

-- the event that brought OK to LOGIN
abbrev pub logs : Entry
logs = record (passes 0) {
  answer = Some (record { link = 0; asked = record { query = Login; moment = 0; event = 1 }; outcome = Done });
}

-- n events that brought nothing
abbrev pub pass : ℕ → List Entry
pass zero = []
pass (suc n) = passes 0 ∷ pass n

pub record PastExamples : Type 0 where
  -- a status that was shown only before the question, which was put at the second event, and after its answer was read
  pub before_the_question : WasShown alone goes_off 0 0 (brings 3 Status 2 (codes "OL") ∷ passes 2 ∷ passes 1 ∷ []) (codes "OL" ∷ []) → ⊥
  -- no reasons: a calibration; a low battery, for a secondary, HOSTSYNC after the last calm status and no later; a UPS on
  -- battery DEADTIME after its last status and no later
  pub calibrates : IsReason primary (line_in primary.lines 0) 10 0 10 (codes "OB" ∷ codes "LB" ∷ codes "CAL" ∷ []) → ⊥
  pub waits_for_fsd : IsReason secondary (line_in secondary.lines 0) 15 0 15 (codes "OB" ∷ codes "LB" ∷ []) → ⊥
  pub may_be_alive : IsReason primary (line_in primary.lines 0) 15 0 0 (codes "OB" ∷ []) → ⊥
  -- a shutdown that began by a status that was never shown, though the line has all the power that is needed
  pub no_cause : HasCauses alone (reverse (live (codes "OL"))) 0 (brings 1 Status 0 (codes "OB LB") ∷ []) → ⊥
  -- a machine that proceeds by a status that was never shown
  pub no_supply : HasSupply alone (reverse (live (codes "OB LB"))) 0 (brings 1 Status 0 (codes "OL") ∷ []) → ⊥
  -- a count of two logins
  pub two_logins : WasAlone pair (reverse counts_two) 0 0 (seen pair (world_of pair counts_two) 0) → ⊥
  -- a count of one login, which isn't the monitor's own, though its LOGIN was answered OK
  pub another_one : WasAlone forcing (reverse counts_another) 0 0 (brings 0 NumLogins 2 (codes "1") ∷ logs ∷ pass 18) → ⊥
  -- a count that was read before FSD was accepted, and asked for in place of it
  pub counted_too_early : WasAlone alone forces 0 0 (brings 0 NumLogins 11 (codes "1") ∷ pass 13) → ⊥
