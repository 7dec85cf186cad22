-- What always holds of a monitor's content.
use Rattle.std.specs.Prelude.{◌≡◌, ◌≤◌, ◌+◌, ◌*◌, ℕ, Bool, false, not, ◌||◌, length, sum_by, if◌then◌else◌, Option, None, is_some}
use Rattle.nut_conf.specs.declared.limits.TheConstants.{MONITORS_MAX}
use Rattle.nut_monitor_spec.specs.declared.Communication.TheVariants as communications
use Rattle.nut_monitor_spec.specs.Content.{Watch, Content}
use Rattle.nut_monitor_spec.specs.Configuration.{Configuration, Line}
use Rattle.nut_monitor_spec.specs.Decision.{is_alone, is_bad, is_critical}
use Rattle.nut_monitor_spec.specs.declared.Known.{Known}
use Rattle.nut_monitor.specs.Bounds.{AreLinksBounded}

-- a line without a link, of whose UPS nothing is known
abbrev pub unwatched : Watch
unwatched = record {
  link = None;
  last = None;
  answer = None;
  known = record {
    flags = None;
    polled = 0;
    calm = 0;
    communication = communications.Never;
    replace_told = None;
    silence_told = None;
    forced = false;
    logins = None;
  };
}

-- the power value of a line whose UPS isn't critical, else 0
abbrev pub power_of : Configuration → ℕ → Line → Known → ℕ
power_of configuration clock line known =
    if not (is_critical configuration line clock known.calm known.polled known.flags) then line.power else 0

-- whether a line lets this machine halt
abbrev pub lets_halt : Line → Known → Bool
lets_halt line known = not line.primary || is_alone known.logins

-- 1 if the loss of a line's link would give COMMBAD, else 0
abbrev pub to_lose : Watch → ℕ
to_lose w = if is_bad w.known.communication then 0 else 1

-- 1 if SHUTDOWN is still to be given, else 0
abbrev pub to_shut : Option ℕ → ℕ
to_shut ended = if is_some ended then 0 else 1

-- Each line has its watch, at most MONITORS_MAX, there is room for all notices that may come before the next moment or
-- piece, and each link keeps no more than it may.
pub record IsOrderly (s : Content) : Type 0 where
  pub all : length s.watches ≡ length s.configuration.lines
  pub most : length s.watches ≤ MONITORS_MAX
  -- At most one NOCOMM and one COMMBAD of each line, and SHUTDOWN.
  pub few : length s.notices + sum_by to_lose s.watches + to_shut s.ended ≤ 2 * MONITORS_MAX + 1
  pub links : AreLinksBounded s.watches
