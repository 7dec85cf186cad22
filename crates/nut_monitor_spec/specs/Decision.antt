-- What a monitor decides by what it knows (upsmon(8), upsmon.conf(5)): which UPS is critical, which notices it gives,
-- how far the shutdown has come, and what it asks next. The definitions over histories and the machine share these.
use Rattle.std.specs.Prelude.{ℕ, suc, ◌+◌, nat_lt, nat_le, Bool, true, false, not, ◌&&◌, ◌||◌, if◌then◌else◌, List, [], ◌∷◌, ◌++◌, Option, Some, None, is_some}
use Rattle.nut_conf.specs.declared.notice.Notice.{Notice as Kind}
use Rattle.nut_conf.specs.declared.notice.Notice.TheVariants as kinds
use Rattle.nut_link.specs.declared.outcome.Outcome.{Outcome}
use Rattle.nut_monitor_spec.specs.declared.Communication.{Communication}
use Rattle.nut_monitor_spec.specs.declared.Communication.TheVariants.{Good, Bad}
use Rattle.nut_monitor_spec.specs.declared.Known.{Known}
use Rattle.nut_monitor_spec.specs.declared.LastQuery.{LastQuery}
use Rattle.nut_monitor_spec.specs.declared.Notice.{Notice}
use Rattle.nut_monitor_spec.specs.declared.Phase.{Phase}
use Rattle.nut_monitor_spec.specs.declared.Phase.TheVariants.{Watching, Forcing, Final, Halted}
use Rattle.nut_monitor_spec.specs.declared.Query.{Query}
use Rattle.nut_monitor_spec.specs.declared.Query.TheVariants.{Username, Password, Login, Primary, Status, Fsd, NumLogins}
use Rattle.nut_monitor_spec.specs.declared.StatusFlags.{StatusFlags}
use Rattle.nut_monitor_spec.specs.Configuration.{Line, Configuration, has_primary}
use Rattle.nut_monitor_spec.specs.Query.{status_in, is_no_status, flags_of}

-- more than this many seconds have passed since a moment
abbrev pub is_past : ℕ → ℕ → ℕ → Bool
is_past seconds clock moment = nat_lt (moment + seconds) clock

-- more than this many seconds have passed since a moment, or there was no such moment
abbrev pub is_over : ℕ → ℕ → Option ℕ → Bool
is_over seconds clock None = true
is_over seconds clock (Some moment) = is_past seconds clock moment

-- ---- which UPS is critical

-- A UPS is critical if its status has FSD; or if it has OB and LB without CAL and, for a secondary, more than HOSTSYNC
-- has passed since `calm`; or if it has OB and more than DEADTIME has passed since `polled`. A UPS without a status
-- isn't critical.
abbrev pub is_critical : Configuration → Line → ℕ → ℕ → ℕ → Option StatusFlags → Bool
is_critical configuration line clock calm polled None = false
is_critical configuration line clock calm polled (Some flags) =
    flags.forced_shutdown
    || (((flags.on_battery && (flags.low_battery && not flags.calibrating))
    && (line.primary || is_past configuration.host_sync clock calm))
    || (flags.on_battery && is_past configuration.dead_time clock polled))

-- the sum of the power values of the lines whose numbers pass the test
abbrev pub power_where : (ℕ → Bool) → List Line → ℕ
power_where test [] = 0
power_where test (line ∷ lines) = (if test 0 then line.power else 0) + power_where (λ i. test (suc i)) lines

-- the number of each primary line passes the test
abbrev pub each_primary : (ℕ → Bool) → List Line → Bool
each_primary test [] = true
each_primary test (line ∷ lines) = (not line.primary || test 0) && each_primary (λ i. test (suc i)) lines

-- By the last answer at most one client is logged in. It is this monitor if its own LOGIN was accepted. False if there
-- was no answer.
abbrev pub is_alone : Option ℕ → Bool
is_alone None = false
is_alone (Some logins) = nat_le logins 1

-- ---- what an answer changes

-- Whether a status lacks OB or LB. CAL doesn't count: after a calibration on a low battery a secondary doesn't wait for
-- HOSTSYNC anew.
abbrev pub is_calm : List (List ℕ) → Bool
is_calm words = not ((flags_of words).on_battery && (flags_of words).low_battery)

-- Communication after an answer: good after a status, bad after a refused status query, unchanged after any other.
abbrev pub communication_then : Query → Outcome → Communication → Communication
communication_then query outcome before =
    if is_some (status_in query outcome) then Good else if is_no_status query outcome then Bad else before

-- ---- which notices are given

abbrev pub told : Kind → ℕ → Notice
told kind i = record { kind = kind; line = Some i }

abbrev pub shutdown_told : Notice
shutdown_told = record { kind = kinds.Shutdown; line = None }

abbrev pub when : Bool → Notice → List Notice
when test notice = if test then notice ∷ [] else []

abbrev pub is_bad : Communication → Bool
is_bad Bad = true
is_bad communication = false

-- whether the status before had the flag; false if there was none
abbrev pub had : (StatusFlags → Bool) → Option StatusFlags → Bool
had flag None = false
had flag (Some flags) = flag flags

-- the flag is set, and wasn't before
abbrev pub is_new : (StatusFlags → Bool) → Option StatusFlags → StatusFlags → Bool
is_new flag before flags = flag flags && not (had flag before)

-- whether a status gives REPLBATT: it has RB, and either the status before hadn't or more than RBWARNTIME has passed
-- since the last REPLBATT
abbrev pub tells_replace : Configuration → ℕ → Option ℕ → Option StatusFlags → StatusFlags → Bool
tells_replace configuration clock replace_told before flags =
    flags.replace_battery && (not (had (λ f. f.replace_battery) before) || is_over configuration.rb_warn_time clock replace_told)

-- The notices that a status of the UPS of line i gives, in order. `known` is what was known before it.
abbrev pub status_notices : Configuration → ℕ → ℕ → Known → StatusFlags → List Notice
status_notices configuration clock i known flags =
    when (is_bad known.communication) (told kinds.Commok i)
    ++ when (is_some known.flags && is_new (λ f. f.on_line) known.flags flags) (told kinds.Online i)
    ++ when (is_new (λ f. f.on_battery) known.flags flags) (told kinds.Onbatt i)
    ++ when (is_new (λ f. f.low_battery) known.flags flags) (told kinds.Lowbatt i)
    ++ when (is_new (λ f. f.forced_shutdown) known.flags flags) (told kinds.Fsd i)
    ++ when (tells_replace configuration clock known.replace_told known.flags flags) (told kinds.Replbatt i)

abbrev pub status_notices_in : Configuration → ℕ → ℕ → Known → Option (List (List ℕ)) → List Notice
status_notices_in configuration clock i known None = []
status_notices_in configuration clock i known (Some words) = status_notices configuration clock i known (flags_of words)

-- The notices that an answer gives: those of a status, and COMMBAD if a refused status query turns communication bad.
abbrev pub answer_notices : Configuration → ℕ → ℕ → Known → Query → Outcome → List Notice
answer_notices configuration clock i known query outcome =
    status_notices_in configuration clock i known (status_in query outcome)
    ++ when (is_no_status query outcome && not (is_bad known.communication)) (told kinds.Commbad i)

-- The loss of a link gives COMMBAD if it turns communication bad.
abbrev pub loss_notices : ℕ → Communication → List Notice
loss_notices i communication = when (not (is_bad communication)) (told kinds.Commbad i)

-- Whether a moment gives NOCOMM for a UPS: more than NOCOMMWARNTIME has passed since its last status (since 0 if it had
-- none), and since its last NOCOMM if there was one.
abbrev pub tells_silence : Configuration → ℕ → ℕ → Option ℕ → Bool
tells_silence configuration clock polled silence_told =
    is_past configuration.no_comm_warn_time clock polled && is_over configuration.no_comm_warn_time clock silence_told

-- ---- how far the shutdown has come

-- The phase, by the moments at which the shutdown and Final began, if they did.
abbrev pub phase_at : Configuration → ℕ → Option ℕ → Option ℕ → Phase
phase_at configuration clock begun None = if is_some begun then Forcing else Watching
phase_at configuration clock begun (Some ended) =
    if nat_lt clock (ended + configuration.final_delay) then Final else Halted (has_primary configuration.lines)

-- the monitor has decided that its machine has to be halted
abbrev pub is_halted : Phase → Bool
is_halted (Halted flag) = true
is_halted phase = false

-- Forcing is over once the last count of logins is at most 1 for each UPS of which this machine is the primary, or once
-- more than HOSTSYNC has passed since the shutdown began.
abbrev pub is_over_by : Configuration → ℕ → Bool → Option ℕ → Bool
is_over_by configuration clock alone None = false
is_over_by configuration clock alone (Some begun) = alone || is_past configuration.host_sync clock begun

-- ---- what is asked

-- The query that opens a link next: USERNAME, then PASSWORD, then LOGIN, and on a primary line PRIMARY. None once these
-- were put.
abbrev pub opening : Line → Option LastQuery → Option Query
opening line None = Some Username
opening line (Some last) = behind last.query
  where
    behind : Query → Option Query
    behind Username = Some Password
    behind Password = Some Login
    behind Login = if line.primary then Some Primary else None
    behind query = None

-- What is asked once a link is opened, by the phase: while Watching, the status; in Forcing, on a primary line, FSD
-- until it was answered OK, and then how many are logged in.
abbrev pub wanted : Phase → Bool → Bool → Option Query
wanted Watching primary forced = Some Status
wanted Forcing primary forced = if primary then (if forced then Some NumLogins else Some Fsd) else None
wanted phase primary forced = None

-- how many seconds must pass before a query is put again
abbrev pub interval : Configuration → Query → ℕ
interval configuration Status = configuration.poll_freq
interval configuration Fsd = 1
interval configuration NumLogins = 1
interval configuration query = 0

-- Both are the same one of the queries that are put again and again. An opening query isn't put again on a link.
abbrev pub is_same : Query → Query → Bool
is_same Status Status = true
is_same Fsd Fsd = true
is_same NumLogins NumLogins = true
is_same one other = false

-- the query was the last one on the link, and its interval hasn't passed yet
abbrev pub is_early : Configuration → ℕ → Query → Option LastQuery → Bool
is_early configuration clock query None = false
is_early configuration clock query (Some last) =
    is_same last.query query && nat_lt clock (last.moment + interval configuration query)

abbrev pub unless_early : Configuration → ℕ → Option Query → Option LastQuery → Option Query
unless_early configuration clock None last = None
unless_early configuration clock (Some query) last = if is_early configuration clock query last then None else Some query

abbrev pub first_of_both : Option Query → Option Query → Option Query
first_of_both None later = later
first_of_both (Some query) later = Some query

-- The query that is put on a link, if one may be put: the link is up, and no query on it is outstanding.
abbrev pub next_query : Configuration → Line → ℕ → Phase → Bool → Option LastQuery → Bool → Option Query
next_query configuration line clock phase may last forced =
    if may
    then first_of_both (opening line last) (unless_early configuration clock (wanted phase line.primary forced) last)
    else None
