-- Who stops a machine and who doesn't, computed from the definitions.
use Rattle.std.specs.Prelude.{◌≡◌, ℕ, false, List, [], ◌∷◌, ◌++◌, codes, reverse, Some, None}
use Rattle.nut_conf.specs.declared.notice.Notice.TheVariants as kinds
use Rattle.nut_conf.specs.declared.users.Role.TheVariants as roles
use Rattle.nut_proto.specs.declared.reply.Reply.TheVariants.{Accepted, FsdSet}
use Rattle.nut_proto.specs.declared.request.Request.TheVariants as requests
use Rattle.nut_words.specs.Lines.{Text}
use Rattle.nut_server_spec.specs.Answer.{Answer, Line}
use Rattle.nut_server_spec.specs.Configuration.{Configuration}
use Rattle.nut_server_spec.specs.Content.{past}
use Rattle.nut_server_spec.specs.Event.{Said}
use Rattle.nut_server_spec.specs.Numbering.{Kept}
use Rattle.nut_server_spec.specs.Trace.{Entry}
use Rattle.nut_server_spec.specs.laws.Rights.{AtSome, Gets}
use Rattle.nut_monitor_spec.specs.declared.Phase.TheVariants.{Forcing}
use Rattle.nut_monitor_spec.specs.declared.Query.TheVariants.{Status}
use Rattle.nut_monitor_spec.specs.Decision.{told}
use Rattle.nut_fleet.specs.Schedule.{Step, IsFront, ServerClock, MonitorClock, Down, Link}
use Rattle.nut_fleet.specs.World.{Setup, seen}
use Rattle.nut_fleet.specs.Log.{Noticed, Moved}
use Rattle.nut_fleet.specs.Halting.{DriverSays, IsCalledFor, IsOutside, UserForced}
use Rattle.nut_fleet.specs.examples.Examples.{alone, at, comes, live, primary, rounds, says, says_lines, told_by, world_of}
use Rattle.nut_fleet.specs.examples.PastExamples.{brings}

-- The UPS is on line. Another client connects and says these lines; then the monitor reads the status.
abbrev pub client_says : List (List ℕ) → List Step
client_says lines = live (codes "OL") ++ comes ∷ says_lines 1 lines ∷ Link 0 0 ∷ rounds 0 5

-- FSD with the name and the password of a user who may force, and without the password
abbrev pub with_password : List (List ℕ)
with_password = codes "USERNAME mon" ∷ codes "PASSWORD m1" ∷ codes "FSD su700" ∷ []

abbrev pub without_password : List (List ℕ)
without_password = codes "USERNAME mon" ∷ codes "FSD su700" ∷ []

-- the past of the server after these steps, the oldest first
abbrev pub past_of : List Step → List Entry
past_of steps = past alone.server (world_of alone steps).server

-- the driver says that the battery is low, and then this happens
abbrev pub low_then : List Step → List Entry
low_then steps = past_of (live (codes "OB LB") ++ steps)

-- the server of `alone` with a second user, who may log in and no more
abbrev pub guarded : Configuration
guarded = record alone.server {
  users = record { name = codes "guard"; password = Some (codes "g1"); actions = []; commands = []; role = Some roles.Secondary } ∷ alone.server.users;
}

-- pasts that no server has: these lines of the first connection got these answers
abbrev pub got : List ℕ → Answer → Entry
got line reply = record { step = Said 1 (Text line); answer = reply; asks = λ u. None; fate = λ u. Kept; closes = λ c. false }

abbrev pub forces_as : List ℕ → List ℕ → List Entry
forces_as user password =
    got (codes "FSD su700") (Line FsdSet) ∷ got (codes "PASSWORD " ++ password) (Line Accepted) ∷ got (codes "USERNAME " ++ user) (Line Accepted) ∷ []

-- a monitor whose line supplies too little from the first
abbrev pub starved : Setup
starved = record alone { monitors = record primary { min_supplies = 2 } ∷ [] }

pub record HaltingExamples : Type 0 where
  -- a user who may force stops a machine whose UPS is on line; whoever doesn't give the password stops none
  pub a_user_may : told_by alone (client_says with_password) ≡ at 27 (Noticed 0 (told kinds.Fsd 0)) ∷ at 27 (Moved 0 Forcing) ∷ []
  pub nobody_else_may : told_by alone (client_says without_password) ≡ []
  pub user_forced : (c : ℕ) × UserForced alone.server (codes "su700") c (past_of (client_says with_password))
  pub nobody_forced : (c : ℕ) → UserForced alone.server (codes "su700") c (past_of (client_says without_password)) → ⊥
  pub not_this_ups : (c : ℕ) → UserForced alone.server (codes "other") c (past_of (client_says with_password)) → ⊥
  -- pasts in which FSD was accepted from a user who may force, from one who may not, and from nobody
  pub mon_may : UserForced guarded (codes "su700") 1 (forces_as (codes "mon") (codes "m1"))
  pub guard_may_not : (c : ℕ) → UserForced guarded (codes "su700") c (forces_as (codes "guard") (codes "g1")) → ⊥
  pub stranger_may_not : (c : ℕ) → UserForced guarded (codes "su700") c (got (codes "FSD su700") (Line FsdSet) ∷ []) → ⊥
  -- a driver that was heard MAXAGE before, longer before, and is gone; and one that set another status since
  pub heard : DriverSays alone 0 0 [] (low_then (ServerClock 15 ∷ []))
  pub silent : DriverSays alone 0 0 [] (low_then (ServerClock 16 ∷ [])) → ⊥
  pub gone : DriverSays alone 0 0 [] (low_then (Down 0 ∷ [])) → ⊥
  pub charged : DriverSays alone 0 0 [] (low_then (says (codes "OL") ∷ [])) → ⊥
  -- a monitor that says FSD on its link once its UPS is low
  pub monitor_forces : AtSome (λ e before. Gets 1 (requests.Fsd (codes "su700")) e.answer e) (low_then (Link 0 0 ∷ rounds 0 6))
  -- a machine that stops by an FSD of which the server knows nothing
  pub made_up : IsCalledFor alone (reverse (live (codes "OL"))) 0 (brings 1 Status 0 (codes "FSD OL") ∷ []) → ⊥
  -- a machine that stops though nobody called for it, since its lines supply too little together
  pub supplies_too_little : told_by starved (MonitorClock 0 1 ∷ []) ≡ at 1 (Moved 0 Forcing) ∷ []
  -- the connection of a link isn't outside, and what a monitor never read is nothing that it knew
  pub link_is_inside : IsOutside alone (Link 0 0 ∷ []) 1 → ⊥
  pub never_known : IsFront (brings 1 Status 0 (codes "FSD OL") ∷ []) (seen alone (world_of alone (live (codes "OL"))) 0) → ⊥
