-- Worked examples: histories with reloads, and what follows, computed from the definitions.
use Rattle.std.specs.Prelude.{◌≡◌, ℕ, List, [], ◌∷◌, ◌++◌, codes, Some, None}
use Rattle.nut_conf.specs.declared.users.Role.TheVariants as roles
use Rattle.nut_server_spec.specs.declared.Refused.TheVariants.{Busy, Full, NoSuchConnection, NotConnected}
use Rattle.nut_server_spec.specs.Configuration.{Configuration, Ups, User}
use Rattle.nut_server_spec.specs.Event.{Event, Moment, Open, Bytes, Took, DriverUp, DriverBytes, DriverTook, Reload}
use Rattle.nut_server_spec.specs.Content.{content, waits}
use Rattle.nut_server_spec.specs.Acceptance.{refusal, IsAccepted}
use Rattle.nut_server_spec.specs.Reloading.{drivers_ended, connections_ended}

-- three UPSes
abbrev pub su700 : Ups
su700 = record { name = codes "su700"; driver = codes "dummy-ups"; description = codes "Server room" }

abbrev pub old : Ups
old = record { name = codes "old"; driver = codes "dummy-ups"; description = codes "O" }

abbrev pub neu : Ups
neu = record { name = codes "neu"; driver = codes "dummy-ups"; description = codes "N" }

-- a user whose monitor is primary, and who may give each command
abbrev pub mon : User
mon = record { name = codes "mon"; password = Some (codes "x"); actions = []; commands = None ∷ []; role = Some roles.Primary }

-- a configuration with these UPSes and the user `mon`
abbrev pub site : List Ups → Configuration
site upses = record { upses = upses; users = mon ∷ []; max_age = 15; most_connections = 3; variable_texts = []; command_texts = [] }

-- the configuration at the start: `su700` has the number 0, and `old` the number 1
abbrev pub start : Configuration
start = site (su700 ∷ old ∷ [])

-- `old` went, `neu` came before `su700`, and `su700` has another description
abbrev pub moved : Configuration
moved = site (neu ∷ record su700 { description = codes "New room" } ∷ [])

-- the driver of the UPS u was connected, took the request for a dump, and reported all that it knows
abbrev pub live : ℕ → List Event → List Event
live u h = DriverBytes u (codes "SETINFO ups.status OL\nADDCMD load.off\nDATAOK\nDUMPDONE\n") ∷ DriverTook u 8 ∷ DriverUp u ∷ h

-- c sent this text, and took the n bytes of the answers
abbrev pub says : ℕ → List ℕ → ℕ → List Event → List Event
says c text n h = Took c n ∷ Bytes c text ∷ h

-- the lines with the user name and the password of `mon`
abbrev pub as_mon : List ℕ
as_mon = codes "USERNAME mon\nPASSWORD x\n"

-- Both drivers are live. The first connection is logged in to `old` and forced its shutdown, and the second is logged in to
-- `su700`.
abbrev pub served : List Event
served =
    says 2 (as_mon ++ codes "LOGIN su700\n") 9 (says 1 (as_mon ++ codes "LOGIN old\nFSD old\n") 20
    (live 1 (live 0 (Open (codes "::1") ∷ Open (codes "192.0.2.1") ∷ []))))

-- then the configuration was read anew
abbrev pub reloaded_to : Configuration → List Event
reloaded_to k = Reload k ∷ served

-- the answers that wait for the second connection, if it sends this text after the history h
abbrev pub told : List ℕ → List Event → List ℕ
told text h = waits start 2 (Bytes 2 text ∷ h)

-- the lines that ask for the status of each UPS
abbrev pub status_of_su700 : List ℕ
status_of_su700 = codes "GET VAR su700 ups.status\n"

abbrev pub status_of_old : List ℕ
status_of_old = codes "GET VAR old ups.status\n"

abbrev pub status_of_neu : List ℕ
status_of_neu = codes "GET VAR neu ups.status\n"

-- the numbers of the UPSes after a history, in the order of the configuration
abbrev pub numbered : List Event → List ℕ
numbered h = (content start h).numbers

-- one UPS goes, one comes, and one stays
pub record ReloadExamples : Type 0 where
  pub flag_before : told status_of_old served ≡ codes "VAR old ups.status \"FSD OL\"\n"
  pub numbers : numbered (reloaded_to moved) ≡ 1 ∷ 0 ∷ []
  pub drivers : drivers_ended moved (content start served) ≡ 1 ∷ []
  pub connections : connections_ended moved (content start served) ≡ 1 ∷ []
  pub closed : refusal (content start (reloaded_to moved)) (Bytes 1 (codes "VER\n")) ≡ Some NoSuchConnection
  pub list_ups :
      told (codes "LIST UPS\n") (reloaded_to moved) ≡ codes "BEGIN LIST UPS\nUPS neu \"N\"\nUPS su700 \"New room\"\nEND LIST UPS\n"
  pub login : told (codes "GET NUMLOGINS su700\n") (reloaded_to moved) ≡ codes "NUMLOGINS su700 1\n"
  pub table : told status_of_su700 (reloaded_to moved) ≡ codes "VAR su700 ups.status \"OL\"\n"
  pub gone : told status_of_old (reloaded_to moved) ≡ codes "ERR UNKNOWN-UPS\n"
  pub not_connected : told status_of_neu (reloaded_to moved) ≡ codes "ERR DRIVER-NOT-CONNECTED\n"
  pub no_report : refusal (content start (reloaded_to moved)) (DriverBytes 1 (codes "PONG\n")) ≡ Some NotConnected
  pub new_driver : told status_of_neu (live 1 (reloaded_to moved)) ≡ codes "VAR neu ups.status \"OL\"\n"
  pub back_again : numbered (Reload start ∷ reloaded_to moved) ≡ 0 ∷ 1 ∷ []
  pub no_login : told (codes "GET NUMLOGINS old\n") (live 1 (Reload start ∷ reloaded_to moved)) ≡ codes "NUMLOGINS old 0\n"
  pub no_flag : told status_of_old (live 1 (Reload start ∷ reloaded_to moved)) ≡ codes "VAR old ups.status \"OL\"\n"
  pub accepted : IsAccepted start (Bytes 2 status_of_old ∷ live 1 (Reload start ∷ reloaded_to moved))

-- the same UPSes in another order
abbrev pub turned : Configuration
turned = site (old ∷ su700 ∷ [])

-- `su700` has another name, and the rest is the same
abbrev pub renamed : Configuration
renamed = site (record su700 { name = codes "lab" } ∷ old ∷ [])

-- both UPSes have another driver
abbrev pub driven : Configuration
driven = site (record su700 { driver = codes "usbhid-ups" } ∷ record old { driver = codes "usbhid-ups" } ∷ [])

-- the same configuration without users
abbrev pub unguarded : Configuration
unguarded = record start { users = [] }

-- the same configuration, in which one connection may be open
abbrev pub narrow : Configuration
narrow = record start { most_connections = 1 }

-- the second connection asked `su700` to turn off the load, and the request is tracked
abbrev pub tracked : List Event
tracked = says 2 (codes "SET TRACKING ON\nINSTCMD su700 load.off\n") 17 served

-- other reloads, and reloads between the pieces of a line
pub record ReloadEdgeExamples : Type 0 where
  pub order_numbers : numbered (reloaded_to turned) ≡ 1 ∷ 0 ∷ []
  pub order_ends_no_driver : drivers_ended turned (content start served) ≡ []
  pub order_ends_no_connection : connections_ended turned (content start served) ≡ []
  pub order_flag : told status_of_old (reloaded_to turned) ≡ codes "VAR old ups.status \"FSD OL\"\n"
  pub order_list : told (codes "LIST UPS\n") (reloaded_to turned) ≡ codes "BEGIN LIST UPS\nUPS old \"O\"\nUPS su700 \"Server room\"\nEND LIST UPS\n"
  pub name_numbers : numbered (reloaded_to renamed) ≡ 0 ∷ 1 ∷ []
  pub name_ends_driver : drivers_ended renamed (content start served) ≡ 0 ∷ []
  pub name_ends_connection : connections_ended renamed (content start served) ≡ 2 ∷ []
  pub name_is_new : waits start 1 (Bytes 1 (codes "GET VAR lab ups.status\n") ∷ reloaded_to renamed) ≡ codes "ERR DRIVER-NOT-CONNECTED\n"
  pub driver_ends_drivers : drivers_ended driven (content start served) ≡ 0 ∷ 1 ∷ []
  pub driver_ends_no_connection : connections_ended driven (content start served) ≡ []
  pub driver_not_connected : told status_of_su700 (reloaded_to driven) ≡ codes "ERR DRIVER-NOT-CONNECTED\n"
  pub driver_keeps_login : told (codes "GET NUMLOGINS su700\n") (live 0 (reloaded_to driven)) ≡ codes "NUMLOGINS su700 1\n"
  pub driver_keeps_flag : told status_of_old (live 1 (reloaded_to driven)) ≡ codes "VAR old ups.status \"FSD OL\"\n"
  pub more_numbers : numbered (reloaded_to (site (neu ∷ su700 ∷ record neu { name = codes "lab" } ∷ old ∷ []))) ≡ 2 ∷ 0 ∷ 3 ∷ 1 ∷ []
  pub free_number_again : numbered (Reload (site (neu ∷ old ∷ [])) ∷ reloaded_to (site (old ∷ []))) ≡ 0 ∷ 1 ∷ []
  pub users_gone : told (codes "FSD su700\n") (reloaded_to unguarded) ≡ codes "ERR ACCESS-DENIED\n"
  pub users_gone_login : told (codes "GET NUMLOGINS su700\n") (reloaded_to unguarded) ≡ codes "NUMLOGINS su700 1\n"
  pub full : refusal (content start (reloaded_to narrow)) (Open (codes "::2")) ≡ Some Full
  pub open_stay : told (codes "GET NUMLOGINS old\n") (reloaded_to narrow) ≡ codes "NUMLOGINS old 1\n"
  pub max_age_before : told status_of_su700 (Moment 10 ∷ served) ≡ codes "VAR su700 ups.status \"OL\"\n"
  pub max_age : told status_of_su700 (Reload (record start { max_age = 9 }) ∷ Moment 10 ∷ served) ≡ codes "ERR DATA-STALE\n"
  pub line_in_two : told (codes "INS su700\n") (Reload moved ∷ Bytes 2 (codes "GET NUMLOG") ∷ served) ≡ codes "NUMLOGINS su700 1\n"
  pub report_in_two :
      told status_of_su700 (DriverBytes 0 (codes "tus OB\n") ∷ Reload moved ∷ DriverBytes 0 (codes "SETINFO ups.sta") ∷ served)
      ≡ codes "VAR su700 ups.status \"OB\"\n"
  pub answers_wait : waits start 2 (Reload moved ∷ Bytes 2 status_of_old ∷ served) ≡ codes "VAR old ups.status \"FSD OL\"\n"
  pub busy : refusal (content start (Reload moved ∷ Bytes 2 status_of_old ∷ served)) (Bytes 2 (codes "VER\n")) ≡ Some Busy
  pub tracked_stays : told (codes "GET TRACKING 1\n") (Reload moved ∷ tracked) ≡ codes "TRACKING 1 PENDING\n"
  pub tracked_fails : told (codes "GET TRACKING 1\n") (Reload driven ∷ tracked) ≡ codes "TRACKING 1 FAILED\n"
  pub tracked_gone :
      waits start 1 (Bytes 1 (codes "GET TRACKING 1\n") ∷ Reload renamed ∷ tracked) ≡ codes "TRACKING 1 UNKNOWN\n"
  pub accepted : IsAccepted start (Bytes 2 (codes "INS su700\n") ∷ Reload moved ∷ Bytes 2 (codes "GET NUMLOG") ∷ tracked)
