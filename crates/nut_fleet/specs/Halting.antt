-- Who stops a machine: the drivers of the UPSes that feed it, or a user who may force a shutdown.
use Rattle.std.specs.Prelude.{ℕ, ◌≡◌, ◌≤◌, ◌<◌, ◌+◌, ◌⊎◌, Bool, true, false, not, List, codes, Some}
use Rattle.nut_proto.specs.declared.reply.Reply.TheVariants.{FsdSet}
use Rattle.nut_proto.specs.declared.request.Request.TheVariants as requests
use Rattle.nut_state.specs.Step.{table_of}
use Rattle.nut_state.specs.Table.{Entry as Variable, variable}
use Rattle.nut_server_spec.specs.Answer.{Line as OneLine, may_force}
use Rattle.nut_server_spec.specs.Configuration.{Configuration as ServerConfiguration}
use Rattle.nut_server_spec.specs.Content.{past}
use Rattle.nut_server_spec.specs.Numbering.{number_of}
use Rattle.nut_server_spec.specs.Trace.{clock, connected, heard_at, numbering, reports}
use Rattle.nut_server_spec.specs.Trace as server
use Rattle.nut_server_spec.specs.laws.Rights.{AtSome, Gets, HasRight}
use Rattle.nut_monitor_spec.specs.Configuration.{Configuration}
use Rattle.nut_monitor_spec.specs.Decision.{power_where}
use Rattle.nut_monitor_spec.specs.Query.{parted}
use Rattle.nut_monitor_spec.specs.Trace.{Entry, begun, has_begun}
use Rattle.nut_fleet.specs.Fleet.{Cause, IsReasonAt}
use Rattle.nut_fleet.specs.Schedule.{Step, IsFront}
use Rattle.nut_fleet.specs.World.{Setup, has_link, line_of, monitor_of, seen, world}

-- After this past of the server, the driver of the UPS of line i was connected and had been heard at most MAXAGE before,
-- and the status that it set last, which is in its table, is by itself a reason for monitor m.
pub record DriverSays (setup : Setup) (m i : ℕ) (beginning : List Entry) (past : List server.Entry) : Type 0 where
  pub ups : ℕ
  pub number : number_of (line_of setup m i).ups (numbering setup.server past) ≡ Some ups
  pub connected : connected ups past ≡ true
  pub heard : clock past ≤ heard_at ups past + setup.server.max_age
  pub status : Variable
  pub last : variable (table_of (reports ups past)) (codes "ups.status") ≡ Some status
  pub reason : IsReasonAt setup m i beginning (parted status.value)

-- In this past of the server, FSD of this UPS was accepted on connection c, which had given the name and the password of
-- a user who may force a shutdown.
abbrev pub UserForced : ServerConfiguration → List ℕ → ℕ → List server.Entry → Type 0
UserForced first ups c past = AtSome (λ e before. Gets c (requests.Fsd ups) (OneLine FsdSet) e × HasRight first may_force c before) past

-- Line i called for the shutdown of monitor m: its last status was shown and is a reason. At the time when it was shown,
-- its driver had said so, or a user had forced it.
pub record CalledFor (setup : Setup) (schedule : List Step) (m i : ℕ) (beginning : List Entry) : Type 0 where
  pub cause : Cause setup schedule m i beginning
  pub by_whom : (let past : List server.Entry = past setup.server (world setup cause.shown.early).server in
      DriverSays setup m i beginning past ⊎ ((c : ℕ) × UserForced setup.server (line_of setup m i).ups c past))

-- If monitor m, by this past, has begun its shutdown, then some lines called for it, and the others supply too little.
abbrev pub IsCalledFor : Setup → List Step → ℕ → List Entry → Type 0
IsCalledFor setup schedule m trace =
    let configuration : Configuration = monitor_of setup m in
    has_begun configuration trace ≡ true →
    (calls : ℕ → Bool) × ((i : ℕ) → calls i ≡ true → CalledFor setup schedule m i (begun configuration trace))
    × (power_where (λ i. not (calls i)) configuration.lines < configuration.min_supplies)

-- Nobody makes a machine stop but its drivers and users who may.
abbrev pub NobodyElseHalts : Setup → List Step → Type 0
NobodyElseHalts setup schedule = (m : ℕ) → IsCalledFor setup schedule m (seen setup (world setup schedule) m)

-- On a connection that is or was that of a link, nobody said FSD before the link's monitor began its own shutdown.
abbrev pub FsdsFollowShutdowns : Setup → List Step → Type 0
FsdsFollowShutdowns setup schedule =
    (m i : ℕ) (early : List Step) (ups : List ℕ) → has_link setup m i ≡ true → IsFront early schedule →
    AtSome (λ e before. Gets ((world setup early).connection m i) (requests.Fsd ups) e.answer e) (past setup.server (world setup schedule).server) →
    has_begun (monitor_of setup m) (seen setup (world setup schedule) m) ≡ true

-- c was never the connection of a link.
abbrev pub IsOutside : Setup → List Step → ℕ → Type 0
IsOutside setup schedule c =
    (m i : ℕ) (early : List Step) → has_link setup m i ≡ true → IsFront early schedule → (world setup early).connection m i ≡ c → ⊥

-- Nobody called for a shutdown. No monitor ever knew a cause that the line's driver had said when it was shown. And on no
-- connection from outside was FSD accepted from a user who may force a shutdown.
pub record NobodyCalls (setup : Setup) (schedule : List Step) : Type 0 where
  pub drivers : (m i : ℕ) (known : List Entry) (cause : Cause setup schedule m i known) → IsFront known (seen setup (world setup schedule) m) →
      DriverSays setup m i known (past setup.server (world setup cause.shown.early).server) → ⊥
  pub users : (c : ℕ) (ups : List ℕ) (early : List Step) → IsFront early schedule → IsOutside setup early c →
      UserForced setup.server ups c (past setup.server (world setup early).server) → ⊥

-- If nobody calls for a shutdown, no monitor begins one whose lines together supply enough, as those of each file do.
abbrev pub NobodyStops : Setup → List Step → Type 0
NobodyStops setup schedule =
    ((m : ℕ) → (monitor_of setup m).min_supplies ≤ power_where (λ i. true) (monitor_of setup m).lines) →
    NobodyCalls setup schedule → (m : ℕ) → has_begun (monitor_of setup m) (seen setup (world setup schedule) m) ≡ false
