-- Machines with one or several UPSes at one server, from a low battery to the last Halted: the primary of some of these
-- UPSes, and the machines that cannot do without them.
use Rattle.std.specs.Prelude.{ℕ, ◌≡◌, ◌==◌, ◌+◌, ◌-◌, ◌<◌, ◌≤◌, ◌&&◌, max, if◌then◌else◌, Bool, true, false, List, length, Some}
use Rattle.std.specs.List.{list_any}
use Rattle.std.specs.Str.{bytes_eq}
use Rattle.nut_proto.specs.declared.reply.Reply.TheVariants.{Accepted}
use Rattle.nut_server_spec.specs.Answer.{Line as OneLine}
use Rattle.nut_server_spec.specs.Configuration.{number_of_ups}
use Rattle.nut_server_spec.specs.Content.{past}
use Rattle.nut_server_spec.specs.Trace.{forced}
use Rattle.nut_monitor_spec.specs.declared.Query.{Query}
use Rattle.nut_monitor_spec.specs.declared.Query.TheVariants.{Login, Primary}
use Rattle.nut_monitor_spec.specs.Configuration.{Configuration, Line}
use Rattle.nut_monitor_spec.specs.Decision.{each_primary}
use Rattle.nut_monitor_spec.specs.Trace.{has_ended}
use Rattle.nut_fleet.specs.Schedule.{Step, IsFront}
use Rattle.nut_fleet.specs.World.{Setup, World, is_open, line_of, monitor_of, world}
use Rattle.nut_fleet.specs.Exchange.{Exchange, exchanges}
use Rattle.nut_fleet.specs.Fleet.{Exists}
use Rattle.nut_fleet.specs.Shown.{query_line}
use Rattle.nut_in_time.specs.Pace.{Pace, FromOn, IsPolled, IsSteady, IsWatched, KeepsPace, Says, clock_at, seen_at, shown_at}
use Rattle.nut_in_time.specs.InTime.{EachLine, Needs, begun_at, halted_in, has_begun_at, has_fsd, is_low, is_stopped, known_by, reads_in, to_halted}

-- ---- the room

-- The query was answered OK.
abbrev pub IsGrant : Line → Query → Exchange → Type 0
IsGrant line query x = (x.line ≡ query_line line query) × (x.answer ≡ OneLine Accepted)

-- The query was answered OK on the connection of link i of machine m.
abbrev pub WasGranted : Setup → ℕ → ℕ → Query → List Step → Type 0
WasGranted setup m i query early =
    let w : World = world setup early in
    Exists (IsGrant (line_of setup m i) query) (exchanges (w.connection m i) (past setup.server w.server))

abbrev pub is_forced : Setup → ℕ → List Step → Bool
is_forced setup u early = forced setup.server u (past setup.server (world setup early).server)

-- whether line i of machine m is primary
abbrev pub is_primary : Setup → ℕ → ℕ → Bool
is_primary setup m i = (line_of setup m i).primary

-- whether machine p is the primary of the UPS of line i of machine m
abbrev pub leads : Setup → ℕ → ℕ → ℕ → Bool
leads setup p m i = list_any (λ line. line.primary && bytes_eq line.ups (line_of setup m i).ups) (monitor_of setup p).lines

-- Machine p needs the UPSes of its lines `weak`, and is their primary. The UPS of each of its primary lines has this
-- number at the server.
pub record IsRoom (setup : Setup) (weak : ℕ → Bool) (u : ℕ → ℕ) (p : ℕ) : Type 0 where
  pub needs : Needs (monitor_of setup p) weak
  pub primary : EachLine setup p weak (λ i. is_primary setup p i ≡ true)
  pub number : EachLine setup p (is_primary setup p) (λ i. number_of_ups (line_of setup p i).ups setup.server.upses ≡ Some (u i))

-- Machine m needs the UPSes of which p is the primary. So does p.
abbrev pub Follows : Setup → ℕ → ℕ → Type 0
Follows setup p m = Needs (monitor_of setup m) (leads setup p m)

-- the shutdown of each UPS of which p is the primary was forced
abbrev pub are_forced : Setup → (ℕ → ℕ) → ℕ → List Step → Bool
are_forced setup u p early = each_primary (λ i. is_forced setup (u i) early) (monitor_of setup p).lines

-- At `start` each machine that follows is logged in to these UPSes and asks for their statuses, and p was granted PRIMARY;
-- the shutdown of p hasn't begun, and nobody has forced one.
pub record IsReady (setup : Setup) (u : ℕ → ℕ) (p : ℕ) (start : List Step) : Type 0 where
  pub polled : (m : ℕ) → Follows setup p m → EachLine setup m (leads setup p m) (λ i. IsPolled i (seen_at setup m start))
  pub logged_in : (m : ℕ) → Follows setup p m → EachLine setup m (leads setup p m) (λ i. WasGranted setup m i Login start)
  pub primary : EachLine setup p (is_primary setup p) (λ i. WasGranted setup p i Primary start)
  pub not_begun : has_begun_at setup p start ≡ false
  pub not_forced : EachLine setup p (is_primary setup p) (λ i. is_forced setup (u i) start ≡ false)

-- Over no time since `start` does the clock of m move by more than that of p and `drift` seconds.
abbrev pub IsNoFaster : Setup → ℕ → ℕ → ℕ → List Step → List Step → Type 0
IsNoFaster setup drift m p start end = (one other : List Step) → IsFront start one → IsFront one other → IsFront other end →
    clock_at setup m other + clock_at setup p one ≤ clock_at setup m one + clock_at setup p other + drift

-- Since `start` machine m keeps pace over its links for these UPSes, open at both ends, and its clock with that of p.
pub record KeepsStep (setup : Setup) (pace : Pace) (drift p m : ℕ) (start schedule : List Step) : Type 0 where
  pub steady : IsSteady setup pace m start schedule
  pub keeps : EachLine setup m (leads setup p m) (λ i. KeepsPace setup pace m i start schedule)
  pub both_ends : EachLine setup m (leads setup p m) (λ i. FromOn start schedule (λ early. is_open setup (world setup early) m i ≡ true))
  pub ahead : IsNoFaster setup drift m p start schedule
  pub behind : IsNoFaster setup drift p m start schedule

-- Each machine that follows keeps step, at a pace of its own, until it is in Halted, and p also until all is forced. The
-- UPSes are always shown, and those of the lines `weak` on a low battery until their shutdown is forced.
pub record IsStopping (setup : Setup) (pace : ℕ → Pace) (drift : ℕ) (weak : ℕ → Bool) (u : ℕ → ℕ) (p : ℕ)
    (start schedule : List Step) : Type 0 where
  pub front : IsFront start schedule
  pub keeps : (m : ℕ) → Follows setup p m →
      FromOn start schedule (λ early. is_stopped setup m early ≡ false → KeepsStep setup (pace m) drift p m start early)
  pub primary : FromOn start schedule (λ early. are_forced setup u p early ≡ false → KeepsStep setup (pace p) drift p p start early)
  pub shown : EachLine setup p (is_primary setup p) (λ i. FromOn start schedule (λ early.
      Says (λ words. true) (shown_at setup early (line_of setup p i).ups)))
  pub low : EachLine setup p weak (λ i. FromOn start schedule (λ early.
      is_forced setup (u i) early ≡ false → Says is_low (shown_at setup early (line_of setup p i).ups)))

-- The primary's DEADTIME is at least the age that a status can have. Before `start` its UPS was shown, over a link that
-- kept pace, for long enough that the primary has read a status of that time.
pub record IsPatient (setup : Setup) (pace : Pace) (p : ℕ) (start : List Step) : Type 0 where
  pub patient : (monitor_of setup p).poll_freq + pace.skip + pace.delay ≤ (monitor_of setup p).dead_time
  pub early : List Step
  pub front : IsFront early start
  pub steady : IsSteady setup pace p early start
  pub watched : IsWatched setup pace p 0 (λ words. true) early start
  pub long : known_by setup pace p early < clock_at setup p start

-- ---- how it stops

-- For each of its UPSes FSD has been accepted this long after the primary's shutdown began: one answer, if it has a single
-- line and is patient. Otherwise an earlier query may be outstanding, and FSD waits for its answer.
abbrev pub accepted_in : Configuration → Pace → Bool → ℕ
accepted_in primary pace patient = pace.delay + (if length primary.lines == 1 then (if patient then 0 else pace.delay - 1) else pace.delay)

-- And this long after `start`.
abbrev pub forced_in : Configuration → Pace → ℕ
forced_in primary pace = reads_in primary pace + pace.delay + (if length primary.lines == 1 then 0 else pace.delay)

-- Another machine is in Halted this long after `start`. There `to_halted` counts as at least a second.
abbrev pub other_halted_in : Configuration → Pace → Configuration → Pace → ℕ → ℕ
other_halted_in primary primary_pace other pace drift =
    forced_in primary primary_pace + drift + reads_in other pace + max 1 (to_halted other pace)

-- With this HOSTSYNC of the primary another machine is in Halted before the primary leaves Forcing.
abbrev pub host_sync_for : Configuration → Pace → Bool → Configuration → Pace → ℕ → ℕ
host_sync_for primary primary_pace patient other pace drift =
    accepted_in primary primary_pace patient + drift + reads_in other pace + (to_halted other pace - 1)

-- Machine m is in Halted this long after `start`, by its own clock.
abbrev pub IsHaltedIn : Setup → ℕ → ℕ → List Step → List Step → Type 0
IsHaltedIn setup m seconds start schedule =
    clock_at setup m start + seconds ≤ clock_at setup m schedule → is_stopped setup m schedule ≡ true

pub record RoomStops (setup : Setup) (pace : ℕ → Pace) (drift : ℕ) (patient : Bool) (u : ℕ → ℕ) (p : ℕ)
    (start schedule : List Step) : Type 0 where
  pub forced : clock_at setup p start + forced_in (monitor_of setup p) (pace p) < clock_at setup p schedule →
      are_forced setup u p schedule ≡ true
  pub soon : has_begun_at setup p schedule ≡ true →
      begun_at setup p schedule + accepted_in (monitor_of setup p) (pace p) patient < clock_at setup p schedule →
      are_forced setup u p schedule ≡ true
  pub shown : EachLine setup p (is_primary setup p) (λ i.
      is_forced setup (u i) schedule ≡ true → Says has_fsd (shown_at setup schedule (line_of setup p i).ups))
  pub primary : IsHaltedIn setup p (halted_in (monitor_of setup p) (pace p)) start schedule
  pub others : (m : ℕ) → Follows setup p m →
      IsHaltedIn setup m (other_halted_in (monitor_of setup p) (pace p) (monitor_of setup m) (pace m) drift) start schedule
  -- if HOSTSYNC is long enough: within the primary's bound, and before the primary has left Forcing
  pub all : (m : ℕ) → Follows setup p m →
      host_sync_for (monitor_of setup p) (pace p) patient (monitor_of setup m) (pace m) drift ≤ (monitor_of setup p).host_sync →
      IsHaltedIn setup m (halted_in (monitor_of setup p) (pace p)) start schedule
  pub before : (m : ℕ) → Follows setup p m → (m ≡ p → ⊥) →
      host_sync_for (monitor_of setup p) (pace p) patient (monitor_of setup m) (pace m) drift ≤ (monitor_of setup p).host_sync →
      has_ended (monitor_of setup p) (seen_at setup p schedule) ≡ true → is_stopped setup m schedule ≡ true

-- A room stops so if the primary's HOSTSYNC is at least its delay. `patient` may be true if the primary is patient.
abbrev pub RoomStopsInTime : Setup → List Step → Type 0
RoomStopsInTime setup schedule = (pace : ℕ → Pace) (drift : ℕ) (patient : Bool) (weak : ℕ → Bool) (u : ℕ → ℕ) (p : ℕ) (start : List Step) →
    IsRoom setup weak u p → IsReady setup u p start → IsStopping setup pace drift weak u p start schedule →
    (pace p).delay ≤ (monitor_of setup p).host_sync → (patient ≡ true → IsPatient setup (pace p) p start) →
    RoomStops setup pace drift patient u p start schedule
