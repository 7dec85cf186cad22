-- How a link that is never quiet keeps its pace: its bytes go to the server, and the answers come back.
use Rattle.std.specs.Prelude.{ℕ, suc, ◌≡◌, ◌+◌, ◌≤◌, ◌<◌, ◌⊎◌, ◌==◌, ◌&&◌, nat_lt, if◌then◌else◌, Bool, true, List, [], ◌∷◌, ◌++◌, length, Some}
use Rattle.nut_monitor_spec.specs.Trace.{Asked, Entry, clock, outstanding}
use Rattle.nut_fleet.specs.Schedule.{Step, IsFront}
use Rattle.nut_fleet.specs.World.{Setup, has_link, is_open, is_linked, monitor_waits, to_server, server_waits, to_monitor, world}
use Rattle.nut_in_time.specs.Pace.{Pace, FromOn, KeepsPace, seen_at}
use Rattle.nut_in_time.specs.Tests.{each_since, is_nothing, is_prompt, is_steady}

-- Since `start` the link went round: at one time its monitor had put all that waits into the pipe; later all of that
-- had reached the server; then the server had put all its answers into the pipe; and then those had arrived.
pub record WentRound (setup : Setup) (m i : ℕ) (start schedule : List Step) : Type 0 where
  pub out : List Step
  pub reach : List Step
  pub back : List Step
  pub land : List Step
  pub first : IsFront start out
  pub second : IsFront out reach
  pub third : IsFront reach back
  pub fourth : IsFront back land
  pub over : IsFront land schedule
  pub put : monitor_waits setup (world setup out) m i ≡ []
  pub is_open : is_open setup (world setup reach) m i ≡ true
  pub reached : to_server setup (world setup reach) m i ≡ []
  pub taken : server_waits setup (world setup back) m i ≡ []
  pub landed : to_monitor setup (world setup land) m i ≡ []

-- the link is up since `start`
abbrev pub IsThere : Setup → ℕ → ℕ → List Step → List Step → Type 0
IsThere setup m i start schedule = FromOn start schedule (λ early. is_linked setup (world setup early) m i ≡ true)

-- If a link that is up went round since `start`, a query that waits for its answer was put since then, by the monitor's
-- events and by its clock.
abbrev pub RoundsAnswer : Setup → List Step → Type 0
RoundsAnswer setup schedule = (m i : ℕ) (start : List Step) (asked : Asked) → has_link setup m i ≡ true → IsThere setup m i start schedule →
    WentRound setup m i start schedule → outstanding i (seen_at setup m schedule) ≡ Some asked →
    (length (seen_at setup m start) < asked.event) × (clock (seen_at setup m start) ≤ asked.moment)

-- There was a time since `start`, at most `delay` seconds ago, since which the link went round.
pub record WasRound (setup : Setup) (pace : Pace) (m i : ℕ) (start early : List Step) : Type 0 where
  pub since : List Step
  pub front : IsFront start since
  pub soon : clock (seen_at setup m early) ≤ clock (seen_at setup m since) + pace.delay
  pub round : WentRound setup m i since early

-- Since `start` the link goes round again and again: at each time there was such a time, or `start` itself is at most
-- `delay` seconds ago.
abbrev pub GoesRound : Setup → Pace → ℕ → ℕ → List Step → List Step → Type 0
GoesRound setup pace m i start schedule = FromOn start schedule (λ early.
    (clock (seen_at setup m early) ≤ clock (seen_at setup m start) + pace.delay) ⊎ WasRound setup pace m i start early)

-- A query that waits for its answer was put in this second.
abbrev pub IsFresh : ℕ → List Entry → Type 0
IsFresh i past = (asked : Asked) → outstanding i past ≡ Some asked → clock past ≤ asked.moment

-- A link that is up and goes round again and again keeps pace, if a query that waited at `start` was put in that
-- second.
abbrev pub RoundsKeepPace : Setup → List Step → Type 0
RoundsKeepPace setup schedule = (pace : Pace) (m i : ℕ) (start : List Step) → has_link setup m i ≡ true → IsThere setup m i start schedule →
    IsFresh i (seen_at setup m start) → GoesRound setup pace m i start schedule → KeepsPace setup pace m i start schedule

-- ---- written schedules

-- How far a link has gone round: 1 once all bytes are put, 2 once they have reached the server, 3 once the answers are
-- put, 4 once they have arrived. It moves on by one if the test holds.
abbrev pub goes_on : Bool → ℕ → ℕ → ℕ
goes_on holds place far = if far == place && holds then suc place else far

abbrev pub further : Setup → ℕ → ℕ → List Step → ℕ → ℕ
further setup m i early far =
    goes_on (is_nothing (to_monitor setup (world setup early) m i)) 3
    (goes_on (is_nothing (server_waits setup (world setup early) m i)) 2
    (goes_on (is_open setup (world setup early) m i && is_nothing (to_server setup (world setup early) m i)) 1
    (goes_on (is_nothing (monitor_waits setup (world setup early) m i)) 0 far)))

-- the monitor's clock moves on at this step
abbrev pub is_tick : Setup → ℕ → Step → List Step → Bool
is_tick setup m step early = nat_lt (clock (seen_at setup m early)) (clock (seen_at setup m (step ∷ early)))

-- how far the link has gone since the clock moved on, or since `start`
abbrev pub round_in : Setup → ℕ → ℕ → List Step → List Step → ℕ
round_in setup m i start [] = further setup m i start 0
round_in setup m i start (step ∷ newest) =
    further setup m i (step ∷ (newest ++ start)) (if is_tick setup m step (newest ++ start) then 0 else round_in setup m i start newest)

-- the link has gone round whenever the clock moves on
abbrev pub goes_round : Setup → ℕ → ℕ → List Step → List Step → Bool
goes_round setup m i start [] = true
goes_round setup m i start (step ∷ newest) =
    (if is_tick setup m step (newest ++ start) then round_in setup m i start newest == 4 else true) && goes_round setup m i start newest

-- The link is up from `start` on, no older query waits at `start`, and the link goes round between any two steps of the
-- clock.
abbrev pub is_rounded : Setup → ℕ → ℕ → List Step → List Step → Bool
is_rounded setup m i start newest =
    each_since (λ early. is_linked setup (world setup early) m i) start newest
    && (is_prompt 0 (clock (seen_at setup m start)) (outstanding i (seen_at setup m start)) && goes_round setup m i start newest)

-- Such a link keeps a pace whose delay is a step of the clock.
abbrev pub RoundedLinksKeepPace : Setup → Type 0
RoundedLinksKeepPace setup = (pace : Pace) (m i : ℕ) (start newest : List Step) → has_link setup m i ≡ true →
    is_rounded setup m i start newest ≡ true → is_steady setup pace m start newest ≡ true → suc pace.skip ≤ pace.delay →
    KeepsPace setup pace m i start (newest ++ start)
