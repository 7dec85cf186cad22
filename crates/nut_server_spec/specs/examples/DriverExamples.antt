-- Worked examples: histories of drivers and users, and the answers in them, computed from the definitions.
use Rattle.std.specs.Prelude.{◌≡◌, ℕ, ◌+◌, Bool, true, false, List, [], ◌∷◌, ◌++◌, codes, Option, Some, None}
use Rattle.nut_words.specs.declared.limits.TheConstants.{PIECE_MAX, VALUE_MAX}
use Rattle.nut_conf.specs.declared.users.Action.TheVariants as actions
use Rattle.nut_conf.specs.declared.users.Role.TheVariants as roles
use Rattle.nut_proto.specs.declared.refusal.Refusal.TheVariants.{SetFailed}
use Rattle.nut_proto.specs.declared.reply.Reply.TheVariants.{Accepted, AcceptedAs}
use Rattle.nut_proto.specs.declared.driver_ask.DriverAsk.{DriverAsk}
use Rattle.nut_proto.specs.declared.driver_ask.DriverAsk.TheVariants as asks
use Rattle.nut_server_spec.specs.declared.Refused.TheVariants.{NotConnected, PieceTooLong, TooMuchTaken}
use Rattle.nut_server_spec.specs.Configuration.{Configuration}
use Rattle.nut_server_spec.specs.Device.{Device, absent, fits, needs_ping}
use Rattle.nut_server_spec.specs.Answer.{Caller, Line, Scene, handed_on, refused}
use Rattle.nut_server_spec.specs.Event.{Event, Moment, Open, Bytes, Close, DriverUp, DriverBytes, DriverTook, DriverDown}
use Rattle.nut_server_spec.specs.Trace.{due, driver_sent, driver_waits, scene}
use Rattle.nut_server_spec.specs.Content.{content, past}
use Rattle.nut_server_spec.specs.Acceptance.{refusal, IsAccepted}
use Rattle.nut_server_spec.specs.examples.Examples.{many}

-- one UPS and three users: one who may do everything, one whose monitor is secondary, and one who may do nothing
abbrev pub room : Configuration
room = record {
  upses = record { name = codes "su700"; driver = codes "dummy-ups"; description = codes "Server room" } ∷ [];
  users =
      record { name = codes "admin"; password = Some (codes "x"); actions = actions.Set ∷ actions.Fsd ∷ []; commands = None ∷ []; role = Some roles.Primary }
      ∷ record { name = codes "guard"; password = Some (codes "y"); actions = []; commands = []; role = Some roles.Secondary }
      ∷ record { name = codes "guest"; password = None; actions = []; commands = []; role = None }
      ∷ [];
  max_age = 15;
  most_connections = 3;
  variable_texts = (codes "ups.status", codes "UPS status") ∷ (codes "ups.model", codes "UPS model") ∷ [];
  command_texts = (codes "load.off", codes "Off") ∷ (codes "load.cycle", codes "Turn off the load, and on again") ∷ [];
}

-- what the driver reports: a status, a number that may be set, and a command
abbrev pub told : List ℕ
told = codes "SETINFO ups.status OL\nSETINFO battery.charge.low 20\nSETFLAGS battery.charge.low RW\nADDRANGE battery.charge.low 10 90\nADDCMD load.off\nDATAOK\nDUMPDONE\n"

-- a connection is open
abbrev pub quiet : List Event
quiet = Open (codes "192.0.2.1") ∷ []

-- then the driver of the UPS was connected, and took the request for a dump
abbrev pub joined_up : List Event
joined_up = DriverTook 0 8 ∷ DriverUp 0 ∷ quiet

-- then the driver reported all that it knows
abbrev pub live : List Event
live = DriverBytes 0 told ∷ joined_up

-- the answers to the first connection, if it sends this text after the history h
abbrev pub answers_to : List ℕ → List Event → List ℕ
answers_to text h = due 1 (past room (Bytes 1 text ∷ h))

-- then the driver reports two variables and two commands more
abbrev pub with_more : List Event
with_more = DriverBytes 0 (codes "SETINFO ups.model S\nSETINFO load.cycle 1\nADDCMD load.cycle\nADDCMD ups.model\n") ∷ live

-- what waits for the driver after the history h
abbrev pub asked : List Event → List ℕ
asked h = driver_waits 0 (past room h)

-- the line that asks for the status
abbrev pub get_status : List ℕ
get_status = codes "GET VAR su700 ups.status\n"

-- the requests to drivers, and what clients see of their tables
pub record DriverExamples : Type 0 where
  pub dump_first : asked (DriverUp 0 ∷ quiet) ≡ codes "DUMPALL\n"
  pub dump_sent : driver_sent 0 (past room (DriverTook 0 4 ∷ DriverUp 0 ∷ quiet)) ≡ codes "DUMP"
  pub no_driver : answers_to get_status quiet ≡ codes "ERR DRIVER-NOT-CONNECTED\n"
  pub no_driver_before_no_variable : answers_to (codes "GET VAR su700 x\n") quiet ≡ codes "ERR DRIVER-NOT-CONNECTED\n"
  pub no_ups_before_no_driver : answers_to (codes "GET VAR x x\n") quiet ≡ codes "ERR UNKNOWN-UPS\n"
  pub nothing_told : answers_to get_status joined_up ≡ codes "ERR DATA-STALE\n"
  pub not_all_told : answers_to get_status (DriverBytes 0 (codes "SETINFO ups.status OL\nDATAOK\n") ∷ joined_up) ≡ codes "ERR DATA-STALE\n"
  pub all_told : answers_to get_status live ≡ codes "VAR su700 ups.status \"OL\"\n"
  pub in_pieces : answers_to get_status (DriverBytes 0 (codes "tus OB\n") ∷ DriverBytes 0 (codes "SETINFO ups.sta") ∷ live) ≡ codes "VAR su700 ups.status \"OB\"\n"
  pub unfinished : answers_to get_status (DriverBytes 0 (codes "SETINFO ups.status OB") ∷ live) ≡ codes "VAR su700 ups.status \"OL\"\n"
  pub no_variable : answers_to (codes "GET VAR su700 UPS.STATUS\n") live ≡ codes "ERR VAR-NOT-SUPPORTED\n"
  pub list_variables :
      answers_to (codes "LIST VAR su700\n") live
      ≡ codes "BEGIN LIST VAR su700\nVAR su700 battery.charge.low \"20\"\nVAR su700 ups.status \"OL\"\nEND LIST VAR su700\n"
  pub list_writable : answers_to (codes "LIST RW su700\n") live ≡ codes "BEGIN LIST RW su700\nRW su700 battery.charge.low \"20\"\nEND LIST RW su700\n"
  pub list_commands : answers_to (codes "LIST CMD su700\n") live ≡ codes "BEGIN LIST CMD su700\nCMD su700 load.off\nEND LIST CMD su700\n"
  pub list_ranges :
      answers_to (codes "LIST RANGE su700 battery.charge.low\n") live
      ≡ codes "BEGIN LIST RANGE su700 battery.charge.low\nRANGE su700 battery.charge.low \"10\" \"90\"\nEND LIST RANGE su700 battery.charge.low\n"
  pub type_of_writable : answers_to (codes "GET TYPE su700 battery.charge.low\n") live ≡ codes "TYPE su700 battery.charge.low RW RANGE\n"
  pub type_of_other : answers_to (codes "GET TYPE su700 ups.status\n") live ≡ codes "TYPE su700 ups.status NUMBER\n"
  pub own_text : answers_to (codes "GET DESC su700 ups.status\n") live ≡ codes "DESC su700 ups.status \"Status of the UPS\"\n"
  pub other_text : answers_to (codes "GET DESC su700 ups.model\n") with_more ≡ codes "DESC su700 ups.model \"UPS model\"\n"
  pub no_text : answers_to (codes "GET DESC su700 load.cycle\n") with_more ≡ codes "DESC su700 load.cycle \"Description unavailable\"\n"
  pub own_command_text : answers_to (codes "GET CMDDESC su700 load.off\n") live ≡ codes "CMDDESC su700 load.off \"Turn off the load\"\n"
  pub other_command_text :
      answers_to (codes "GET CMDDESC su700 load.cycle\n") with_more ≡ codes "CMDDESC su700 load.cycle \"Turn off the load, and on again\"\n"
  pub no_command_text : answers_to (codes "GET CMDDESC su700 ups.model\n") with_more ≡ codes "CMDDESC su700 ups.model \"Description unavailable\"\n"
  pub old_enough : answers_to get_status (Moment 15 ∷ live) ≡ codes "VAR su700 ups.status \"OL\"\n"
  pub too_old : answers_to get_status (Moment 16 ∷ live) ≡ codes "ERR DATA-STALE\n"
  pub heard_again : answers_to get_status (DriverBytes 0 (codes "PONG\n") ∷ Moment 16 ∷ live) ≡ codes "VAR su700 ups.status \"OL\"\n"
  pub noise_is_not_heard : answers_to get_status (DriverBytes 0 (codes "NOISE\n") ∷ Moment 16 ∷ live) ≡ codes "ERR DATA-STALE\n"
  pub said_stale : answers_to get_status (DriverBytes 0 (codes "DATASTALE\n") ∷ live) ≡ codes "ERR DATA-STALE\n"
  pub gone : answers_to get_status (DriverDown 0 ∷ live) ≡ codes "ERR DRIVER-NOT-CONNECTED\n"
  pub forgotten : answers_to get_status (DriverUp 0 ∷ DriverDown 0 ∷ live) ≡ codes "ERR DATA-STALE\n"
  pub no_ping_yet : asked (Moment 5 ∷ live) ≡ []
  pub ping : asked (Moment 6 ∷ live) ≡ codes "PING\n"
  pub one_ping_at_a_time : asked (Moment 11 ∷ Moment 6 ∷ live) ≡ codes "PING\n"
  pub another_ping : asked (Moment 12 ∷ Moment 6 ∷ live) ≡ codes "PING\nPING\n"
  pub no_ping_where_heard : asked (Moment 8 ∷ DriverBytes 0 (codes "DATAOK\n") ∷ Moment 3 ∷ live) ≡ []
  pub accepted : IsAccepted room (Moment 6 ∷ live)
  pub no_such_ups : refusal (content room quiet) (DriverUp 1) ≡ Some NotConnected
  pub not_connected_before_too_long : refusal (content room quiet) (DriverBytes 0 (many (PIECE_MAX + 1) 65)) ≡ Some NotConnected
  pub long_report : refusal (content room joined_up) (DriverBytes 0 (many (PIECE_MAX + 1) 65)) ≡ Some PieceTooLong
  pub too_much : refusal (content room joined_up) (DriverTook 0 1) ≡ Some TooMuchTaken
  pub gone_already : refusal (content room (DriverDown 0 ∷ joined_up)) (DriverDown 0) ≡ Some NotConnected

-- a UPS whose driver has been connected since the start, and for whose driver n bytes wait
abbrev pub laden : ℕ → Device
laden n = record absent { connected = true; waits = many n 65 }

-- a connection that has said nothing but whether its requests are tracked
abbrev pub nobody : Bool → Caller
nobody tracking = record { user = None; password = None; login = None; tracking = tracking }

-- a request of 17 bytes, or with the number 1 of 28
abbrev pub sets_id : Option ℕ → DriverAsk
sets_id number = asks.Set (codes "ups.id") (codes "abc") number

-- what the server knows if so many numbers have been given to requests
abbrev pub scene_after : ℕ → Scene
scene_after given = record (scene room []) { given = given }

-- what just fits into the 4,096 bytes that may wait, and what doesn't; the last number of a request; and a third of a
-- MAXAGE that three doesn't divide
pub record EdgeExamples : Type 0 where
  pub most_fits : fits (many 28 65) (laden 4068) ≡ true
  pub one_byte_more : fits (many 29 65) (laden 4068) ≡ false
  pub one_byte_waits_more : fits (many 28 65) (laden 4069) ≡ false
  pub last_set_is_handed_on : handed_on SetFailed (scene room []) (nobody false) sets_id (laden 4079) ≡ Line Accepted
  pub first_set_is_refused : handed_on SetFailed (scene room []) (nobody false) sets_id (laden 4080) ≡ refused SetFailed
  pub last_numbered_set : handed_on SetFailed (scene room []) (nobody true) sets_id (laden 4068) ≡ Line (AcceptedAs 1)
  pub first_numbered_set_is_refused : handed_on SetFailed (scene room []) (nobody true) sets_id (laden 4069) ≡ refused SetFailed
  pub last_number : handed_on SetFailed (scene_after 999999998) (nobody true) sets_id (laden 0) ≡ Line (AcceptedAs 999999999)
  pub no_number_is_left : handed_on SetFailed (scene_after 999999999) (nobody true) sets_id (laden 0) ≡ refused SetFailed
  pub no_number_is_needed : handed_on SetFailed (scene_after 999999999) (nobody false) sets_id (laden 0) ≡ Line Accepted
  pub last_ping : needs_ping 15 6 (laden 4091) ≡ true
  pub first_ping_left_out : needs_ping 15 6 (laden 4092) ≡ false
  pub third_is_rounded_down : needs_ping 11 4 (laden 0) ≡ true
  pub third_has_not_passed : needs_ping 11 3 (laden 0) ≡ false

-- the lines with the user name and the password of `admin`
abbrev pub as_admin : List ℕ
as_admin = codes "USERNAME admin\nPASSWORD x\n"

-- the lines with the user name and the password of `guard`
abbrev pub as_guard : List ℕ
as_guard = codes "USERNAME guard\nPASSWORD y\n"

-- what users may do, and in which order the tests come
pub record UserExamples : Type 0 where
  pub no_user : answers_to (codes "SET VAR x x x\n") live ≡ codes "ERR USERNAME-REQUIRED\n"
  pub no_password : answers_to (codes "USERNAME admin\nSET VAR x x x\n") live ≡ codes "OK\nERR PASSWORD-REQUIRED\n"
  pub no_ups_before_wrong_password : answers_to (codes "USERNAME admin\nPASSWORD y\nFSD x\n") live ≡ codes "OK\nOK\nERR UNKNOWN-UPS\n"
  pub wrong_password_before_no_driver : answers_to (codes "USERNAME admin\nPASSWORD y\nSET VAR su700 x x\n") quiet ≡ codes "OK\nOK\nERR ACCESS-DENIED\n"
  pub no_driver_before_no_variable : answers_to (as_admin ++ codes "SET VAR su700 x x\n") quiet ≡ codes "OK\nOK\nERR DRIVER-NOT-CONNECTED\n"
  pub no_variable : answers_to (as_admin ++ codes "SET VAR su700 x x\n") live ≡ codes "OK\nOK\nERR VAR-NOT-SUPPORTED\n"
  pub read_only : answers_to (as_admin ++ codes "SET VAR su700 ups.status x\n") live ≡ codes "OK\nOK\nERR READONLY\n"
  pub read_only_before_too_long : answers_to (as_admin ++ codes "SET VAR su700 ups.status " ++ many (VALUE_MAX + 1) 65 ++ codes "\n") live ≡ codes "OK\nOK\nERR READONLY\n"
  pub too_long_before_out_of_range : answers_to (as_admin ++ codes "SET VAR su700 battery.charge.low " ++ many (VALUE_MAX + 1) 65 ++ codes "\n") live ≡ codes "OK\nOK\nERR TOO-LONG\n"
  pub out_of_range : answers_to (as_admin ++ codes "SET VAR su700 battery.charge.low 91\n") live ≡ codes "OK\nOK\nERR INVALID-VALUE\n"
  pub set : answers_to (as_admin ++ codes "SET VAR su700 battery.charge.low 90\n") live ≡ codes "OK\nOK\nOK\n"
  pub set_is_asked : asked (Bytes 1 (as_admin ++ codes "SET VAR su700 battery.charge.low 90\n") ∷ live) ≡ codes "SET battery.charge.low \"90\"\n"
  pub refused_is_not_asked : asked (Bytes 1 (as_guard ++ codes "SET VAR su700 battery.charge.low 90\n") ∷ live) ≡ []
  pub set_is_not_shown_yet :
      answers_to (codes "GET VAR su700 battery.charge.low\n") (Bytes 1 (as_admin ++ codes "SET VAR su700 battery.charge.low 90\n") ∷ live)
      ≡ codes "OK\nOK\nOK\nVAR su700 battery.charge.low \"20\"\n"
  pub command : answers_to (as_admin ++ codes "INSTCMD su700 load.off\nINSTCMD su700 x\n") live ≡ codes "OK\nOK\nOK\nERR CMD-NOT-SUPPORTED\n"
  pub command_is_asked : asked (Bytes 1 (as_admin ++ codes "INSTCMD su700 load.off\n") ∷ live) ≡ codes "INSTCMD load.off\n"
  pub no_command_for_guard : answers_to (as_guard ++ codes "INSTCMD su700 load.off\n") live ≡ codes "OK\nOK\nERR ACCESS-DENIED\n"
  pub name_given_once : answers_to (codes "USERNAME admin\nUSERNAME guard\n") quiet ≡ codes "OK\nERR ALREADY-SET-USERNAME\n"
  pub no_password_no_right : answers_to (codes "USERNAME guest\nPASSWORD x\nLOGIN su700\n") live ≡ codes "OK\nOK\nERR ACCESS-DENIED\n"
  pub login_without_driver : answers_to (as_guard ++ codes "LOGIN su700\nLOGIN su700\n") quiet ≡ codes "OK\nOK\nOK\nERR ALREADY-LOGGED-IN\n"
  pub logins : answers_to (as_guard ++ codes "LOGIN su700\nGET NUMLOGINS su700\n") live ≡ codes "OK\nOK\nOK\nNUMLOGINS su700 1\n"
  pub logins_of_closed :
      due 2 (past room (Bytes 2 (codes "GET NUMLOGINS su700\n") ∷ Close 1 ∷ Bytes 1 (as_guard ++ codes "LOGIN su700\n") ∷ Open (codes "::1") ∷ live)) ≡ codes "NUMLOGINS su700 0\n"
  pub clients :
      due 2 (past room (Bytes 2 (codes "LIST CLIENT su700\n") ∷ Bytes 1 (as_guard ++ codes "LOGIN su700\n") ∷ Open (codes "::1") ∷ live))
      ≡ codes "BEGIN LIST CLIENT su700\nCLIENT su700 192.0.2.1\nEND LIST CLIENT su700\n"
  pub secondary_is_no_primary : answers_to (as_guard ++ codes "PRIMARY su700\nFSD su700\n") live ≡ codes "OK\nOK\nERR ACCESS-DENIED\nERR ACCESS-DENIED\n"
  pub primary : answers_to (as_admin ++ codes "PRIMARY su700\n") quiet ≡ codes "OK\nOK\nOK\n"
  pub forced : answers_to (as_admin ++ codes "FSD su700\n" ++ get_status) live ≡ codes "OK\nOK\nOK FSD-SET\nVAR su700 ups.status \"FSD OL\"\n"
  pub forced_for_all :
      due 2 (past room (Bytes 2 get_status ∷ Bytes 1 (as_admin ++ codes "FSD su700\n") ∷ Open (codes "::1") ∷ live)) ≡ codes "VAR su700 ups.status \"FSD OL\"\n"
  pub forced_for_good :
      due 1 (past room (Bytes 1 get_status ∷ DriverBytes 0 told ∷ DriverUp 0 ∷ DriverDown 0 ∷ Bytes 1 (as_admin ++ codes "FSD su700\n") ∷ quiet))
      ≡ codes "OK\nOK\nOK FSD-SET\nVAR su700 ups.status \"FSD OL\"\n"

-- the lines in which `admin` lets the server track a SET
abbrev pub sets_tracked : List ℕ
sets_tracked = as_admin ++ codes "SET TRACKING ON\nSET VAR su700 battery.charge.low 90\n"

-- the driver has reported all that it knows, and is asked to set a variable; the request is tracked
abbrev pub tracked_set : List Event
tracked_set = Bytes 1 sets_tracked ∷ live

-- the answer to a new client that sends this text after the history h
abbrev pub told_to_another : List ℕ → List Event → List ℕ
told_to_another text h = due 2 (past room (Bytes 2 text ∷ Open (codes "::1") ∷ h))

-- the line that asks how the first tracked request ended
abbrev pub get_first : List ℕ
get_first = codes "GET TRACKING 1\n"

-- how requests are tracked, and what drivers report of them
pub record TrackingExamples : Type 0 where
  pub off_at_first : answers_to (codes "GET TRACKING\n") live ≡ codes "TRACKING OFF\n"
  pub switch_before_user : answers_to (codes "SET TRACKING 1\nSET TRACKING on\n") live ≡ codes "ERR INVALID-ARGUMENT\nERR USERNAME-REQUIRED\n"
  pub numbered : answers_to sets_tracked live ≡ codes "OK\nOK\nOK\nOK TRACKING 1\n"
  pub refusal_takes_no_number :
      answers_to (as_admin ++ codes "SET TRACKING ON\nSET VAR su700 ups.status x\nINSTCMD su700 load.off\n") live ≡ codes "OK\nOK\nOK\nERR READONLY\nOK TRACKING 1\n"
  pub number_is_asked : asked tracked_set ≡ codes "SET battery.charge.low \"90\" TRACKING 1\n"
  pub pending : told_to_another get_first tracked_set ≡ codes "TRACKING 1 PENDING\n"
  pub success : told_to_another get_first (DriverBytes 0 (codes "TRACKING 1 0\n") ∷ tracked_set) ≡ codes "TRACKING 1 SUCCESS\n"
  pub failure : told_to_another get_first (DriverBytes 0 (codes "TRACKING 01 007\n") ∷ tracked_set) ≡ codes "TRACKING 1 FAILED\n"
  pub first_counts : told_to_another get_first (DriverBytes 0 (codes "TRACKING 1 0\nTRACKING 1 1\n") ∷ tracked_set) ≡ codes "TRACKING 1 SUCCESS\n"
  pub driver_gone : told_to_another get_first (DriverDown 0 ∷ tracked_set) ≡ codes "TRACKING 1 FAILED\n"
  pub driver_came_anew : told_to_another get_first (DriverBytes 0 (codes "TRACKING 1 0\n") ∷ DriverUp 0 ∷ tracked_set) ≡ codes "TRACKING 1 FAILED\n"
  pub not_given : told_to_another (codes "GET TRACKING 2\n") tracked_set ≡ codes "TRACKING 2 UNKNOWN\n"
  pub parameter : asked (Bytes 1 (as_admin ++ codes "INSTCMD su700 load.off 5\n") ∷ live) ≡ codes "INSTCMD load.off \"5\"\n"
