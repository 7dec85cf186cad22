-- The file upsmon.conf: what a monitor watches, and what it does.
use Rattle.std.specs.Prelude.{ℕ, Bool, false, ◌&&◌, ◌==◌, List, [], ◌∷◌, length, nat_lt, sum_by, codes, if◌then◌else◌, None, Some, Result, Ok, Err}
use Rattle.std.specs.List.{find, list_any}
use Rattle.std.specs.Option.{option_map_or}
use Rattle.std.specs.Str.{bytes_eq}
use Rattle.nut_conf.specs.Bytes.{at_sign}
use Rattle.nut_conf.specs.Faults.{◌>>=◌}
use Rattle.nut_conf.specs.Values.{Words, nth, name, text, number, one_of}
use Rattle.nut_conf.specs.Settings.{Setting, Number, Monitor, settings, line_fault, distinct}
use Rattle.nut_conf.specs.Rows.{Row, list_row, number_row, text_row, directives_of, line_grows, RowsHold}
use Rattle.nut_conf.specs.Files.{LineFault, read_file}
use Rattle.nut_conf.specs.Target.{or_fault, target}
use Rattle.nut_conf.specs.declared.fault.FaultKind.{FaultKind}
use Rattle.nut_conf.specs.declared.fault.FaultKind.TheVariants.{BadForm, BadName, PastLimit}
use Rattle.nut_conf.specs.declared.values.Form.TheVariants.{Plain}
use Rattle.nut_conf.specs.Users.{role_word}
use Rattle.nut_conf.specs.Notices.{message_value, message_setting, flags_value, handling_setting, same_notice, default_text, default_flags, is_text_of, is_handling_of}
use Rattle.nut_conf.specs.declared.notice.Notice.{Notice}
use Rattle.nut_conf.specs.declared.notice.NoticeFlags.{NoticeFlags}
use Rattle.nut_conf.specs.declared.upsmon.MonConfig.{MonConfig}
use Rattle.nut_conf.specs.declared.monitor.Monitored.{Monitored}
use Rattle.nut_conf.specs.declared.upsmon.UpsmonDirective.{UpsmonDirective}
use Rattle.nut_conf.specs.declared.upsmon.UpsmonDirective.TheVariants as directives
use Rattle.nut_conf.specs.declared.limits.TheConstants.{MONITORS_MAX, PASSWORD_MAX, USER_NAME_MAX}

-- the UPS, host and port of a target that names its host; else `BadName`
abbrev pub monitored_target : List ℕ → Result (List ℕ × List ℕ × ℕ) FaultKind
monitored_target bytes = if list_any (λ c. c == at_sign) bytes then or_fault BadName (target bytes) else Err BadName

-- a target as written, and what it names
abbrev pub written_target : List ℕ → Result (List ℕ × (List ℕ × List ℕ × ℕ)) FaultKind
written_target bytes = monitored_target bytes >>= (λ t. Ok (bytes, t))

-- what a MONITOR line sets: target, power value, user, password and role
abbrev pub monitor_value : Words → Result Setting FaultKind
monitor_value vs =
    if length vs == 5 then
    monitored_target (nth vs 0) >>= (λ t. number 0 1000 (nth vs 1) >>= (λ p. name USER_NAME_MAX (nth vs 2) >>= (λ u.
    text 1 PASSWORD_MAX (nth vs 3) >>= (λ w. one_of (codes "primary" ∷ codes "secondary" ∷ []) (nth vs 4) >>= (λ r.
    Ok (Monitor (record { target = nth vs 0; ups = t.0; host = t.1; port = t.2; power = p; user = u; password = w; role = r })))))))
    else Err BadForm

-- the setting that a MONITOR line's value represents
abbrev pub monitor_setting : Monitored → Setting
monitor_setting m = Monitor (record {
  target = m.written.items;
  ups = m.target.ups.bytes.items;
  host = m.target.host.bytes.items;
  port = m.target.port.number;
  power = m.power.value;
  user = m.user.bytes.items;
  password = m.password.bytes.items;
  role = role_word m.role;
})

-- whether both settings are targets with the same UPS, host and port
abbrev pub same_target : Setting → Setting → Bool
same_target (Monitor a) (Monitor b) = bytes_eq a.ups b.ups && bytes_eq a.host b.host && (a.port == b.port)
same_target _ _ = false

-- the directives of the file
abbrev pub upsmon_row : UpsmonDirective → Row MonConfig
upsmon_row directives.Monitor =
    list_row (codes "MONITOR") (distinct same_target (Some MONITORS_MAX) Plain monitor_value) monitor_setting
    (λ (c : MonConfig). c.monitors.lines.items)
upsmon_row directives.MinSupplies = number_row (codes "MINSUPPLIES") (λ (c : MonConfig). c.min_supplies)
upsmon_row directives.ShutdownCmd = text_row (codes "SHUTDOWNCMD") Plain (λ (c : MonConfig). c.shutdown_cmd)
upsmon_row directives.NotifyCmd = text_row (codes "NOTIFYCMD") Plain (λ (c : MonConfig). c.notify_cmd)
upsmon_row directives.PowerDownFlag = text_row (codes "POWERDOWNFLAG") Plain (λ (c : MonConfig). c.power_down_flag)
upsmon_row directives.PollFreq = number_row (codes "POLLFREQ") (λ (c : MonConfig). c.poll_freq)
upsmon_row directives.DeadTime = number_row (codes "DEADTIME") (λ (c : MonConfig). c.dead_time)
upsmon_row directives.RbWarnTime = number_row (codes "RBWARNTIME") (λ (c : MonConfig). c.rb_warn_time)
upsmon_row directives.NoCommWarnTime = number_row (codes "NOCOMMWARNTIME") (λ (c : MonConfig). c.no_comm_warn_time)
upsmon_row directives.HostSync = number_row (codes "HOSTSYNC") (λ (c : MonConfig). c.host_sync)
upsmon_row directives.FinalDelay = number_row (codes "FINALDELAY") (λ (c : MonConfig). c.final_delay)
upsmon_row directives.NotifyMsg =
    list_row (codes "NOTIFYMSG") (distinct same_notice None Plain message_value) message_setting (λ (c : MonConfig). c.messages.items)
upsmon_row directives.NotifyFlag =
    list_row (codes "NOTIFYFLAG") (distinct same_notice None Plain flags_value) handling_setting (λ (c : MonConfig). c.handlings.items)

-- the rows of the table
abbrev pub upsmon_rows : List UpsmonDirective
upsmon_rows =
    directives.Monitor ∷ directives.MinSupplies ∷ directives.ShutdownCmd ∷ directives.NotifyCmd ∷ directives.PowerDownFlag
    ∷ directives.PollFreq ∷ directives.DeadTime ∷ directives.RbWarnTime ∷ directives.NoCommWarnTime ∷ directives.HostSync
    ∷ directives.FinalDelay ∷ directives.NotifyMsg ∷ directives.NotifyFlag ∷ []

-- whether a line adds to a list, and so allocates memory for what it sets
abbrev pub upsmon_grows : Words → Bool
upsmon_grows = line_grows upsmon_row upsmon_rows

-- the first fault of a line of upsmon.conf
abbrev pub upsmon_fault : LineFault
upsmon_fault = line_fault (directives_of upsmon_row upsmon_rows)

-- The configuration holds what the lines of the file set, for each directive.
abbrev pub UpsmonHolds : MonConfig → List Words → Type 0
UpsmonHolds = RowsHold upsmon_row

-- the power value that a setting has: 0 for any other than a MONITOR line's
abbrev pub power_of : Setting → ℕ
power_of (Monitor m) = m.power
power_of _ = 0

-- the sum of the power values of the MONITOR lines
abbrev pub power : List Words → ℕ
power lines = sum_by power_of (settings (upsmon_row directives.Monitor).directive lines)

-- the first setting's number, or else d
abbrev pub number_or : ℕ → List Setting → ℕ
number_or d (Number n ∷ _) = n
number_or d _ = d

-- the sum of power values that is needed: 1 if none is set
abbrev pub min_supplies : List Words → ℕ
min_supplies lines = number_or 1 (settings (upsmon_row directives.MinSupplies).directive lines)

-- the lines, if the power values suffice; else `PastLimit` for the file as a whole
abbrev pub supplied : List Words → Result (List Words) (ℕ × FaultKind)
supplied lines = if nat_lt (power lines) (min_supplies lines) then Err (0, PastLimit) else Ok lines

-- the words of those lines of upsmon.conf that have any, or its first fault
abbrev pub upsmon_reading : List ℕ → Result (List Words) (ℕ × FaultKind)
upsmon_reading bytes = read_file upsmon_fault bytes >>= supplied

-- the text of a type of notice: its default if none is set
abbrev pub message_of : Notice → MonConfig → List ℕ
message_of n c = option_map_or (λ m. m.text.bytes.items) (find (is_text_of n) c.messages.items) (default_text n)

-- what is done with a type of notice: `SYSLOG+WALL` if no flags are set
abbrev pub flags_of : Notice → MonConfig → NoticeFlags
flags_of n c = option_map_or (λ h. h.flags) (find (is_handling_of n) c.handlings.items) default_flags
