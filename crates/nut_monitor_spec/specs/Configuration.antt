-- What a monitor is made with (upsmon.conf(5)).
use Rattle.std.specs.Prelude.{ℕ, zero, suc, Bool, true, false, ◌||◌, List, [], ◌∷◌, map}
use Rattle.nut_conf.specs.declared.monitor.Monitored.{Monitored}
use Rattle.nut_conf.specs.declared.upsmon.MonConfig.{MonConfig}
use Rattle.nut_conf.specs.declared.users.Role.{Role}
use Rattle.nut_conf.specs.declared.users.Role.TheVariants as roles

-- A MONITOR line: the name of the UPS at its server, how many power supplies of this machine it feeds, the user, the
-- password, and whether this machine is the primary of the UPS, which shuts down last.
pub record Line : Type 0 where
  pub ups : List ℕ
  pub power : ℕ
  pub user : List ℕ
  pub password : List ℕ
  pub primary : Bool

-- The MONITOR lines in the order of the file; MINSUPPLIES; and, in seconds, POLLFREQ, DEADTIME, HOSTSYNC, FINALDELAY,
-- RBWARNTIME and NOCOMMWARNTIME.
pub record Configuration : Type 0 where
  pub lines : List Line
  pub min_supplies : ℕ
  pub poll_freq : ℕ
  pub dead_time : ℕ
  pub host_sync : ℕ
  pub final_delay : ℕ
  pub rb_warn_time : ℕ
  pub no_comm_warn_time : ℕ

-- what stands for a monitor that isn't there
abbrev pub no_configuration : Configuration
no_configuration = record { lines = []; min_supplies = 0; poll_freq = 0; dead_time = 0; host_sync = 0; final_delay = 0; rb_warn_time = 0; no_comm_warn_time = 0 }

-- these MONITOR lines, and the default of all else
abbrev pub with_defaults : List Line → Configuration
with_defaults lines = record {
  lines = lines;
  min_supplies = 1;
  poll_freq = 5;
  dead_time = 15;
  host_sync = 15;
  final_delay = 5;
  rb_warn_time = 43_200;
  no_comm_warn_time = 300;
}

-- what `line_in` gives for a number that no line has
abbrev pub no_line : Line
no_line = record { ups = []; power = 0; user = []; password = []; primary = false }

-- the line of this number, counted from 0
abbrev pub line_in : List Line → ℕ → Line
line_in [] i = no_line
line_in (line ∷ lines) zero = line
line_in (line ∷ lines) (suc i) = line_in lines i

-- whether this machine is the primary of at least one UPS
abbrev pub has_primary : List Line → Bool
has_primary [] = false
has_primary (line ∷ lines) = line.primary || has_primary lines

abbrev pub is_primary : Role → Bool
is_primary roles.Primary = true
is_primary roles.Secondary = false

abbrev pub line_of : Monitored → Line
line_of m = record {
  ups = m.target.ups.bytes.items;
  power = m.power.value;
  user = m.user.bytes.items;
  password = m.password.bytes.items;
  primary = is_primary m.role;
}

-- what upsmon.conf says; a value that isn't set has its default
abbrev pub configuration_of : MonConfig → Configuration
configuration_of c = record {
  lines = map line_of c.monitors.lines.items;
  min_supplies = c.min_supplies.value;
  poll_freq = c.poll_freq.value;
  dead_time = c.dead_time.value;
  host_sync = c.host_sync.value;
  final_delay = c.final_delay.value;
  rb_warn_time = c.rb_warn_time.value;
  no_comm_warn_time = c.no_comm_warn_time.value;
}
