-- Which second is handed out, and how a round begins.
use Rattle.std.specs.Prelude.{◌≡◌, ℕ, ◌/◌, ◌<◌, nat_lt, Option, Some, None, is_some, if◌then◌else◌}
use Rattle.std.specs.Duration.{as_nanos}
use Rattle.std.specs.declared.time.Duration.{Duration}
use Rattle.nut_poll.specs.Queue.{Queue, begun, first_joined}

-- how many whole seconds are over
abbrev pub whole_seconds : Duration → ℕ
whole_seconds passed = as_nanos passed / 1_000_000_000

-- the second that is handed out when so much time has passed, if `full` seconds were over when the clock was last looked at
abbrev pub moment_at : ℕ → Duration → Option ℕ
moment_at full passed = if nat_lt full (whole_seconds passed) then Some (whole_seconds passed) else None

-- A second is handed out if more seconds are over than before, and only then.
abbrev pub IsTold : Option ℕ → ℕ → ℕ → Type 0
IsTold None old new = new ≡ old
IsTold (Some moment) old new = (old < new) × (moment ≡ new)

-- A round begins when so much time has passed. A second that is over is handed out, whoever waits, and the first `fixed` sources
-- then have their turn as well.
abbrev pub Begins : Duration → ℕ → ℕ → Option ℕ → Queue → Queue → Type 0
Begins passed full fixed moment old new =
    (moment ≡ moment_at full passed) × (new ≡ begun (if is_some moment then first_joined fixed old else old))
