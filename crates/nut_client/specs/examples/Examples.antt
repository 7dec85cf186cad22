-- Examples, computed from the definitions.
use Rattle.std.specs.Prelude.{◌≡◌, ◌⊎◌, ◌<◌, ℕ, zero, suc, List, length, [], ◌∷◌, ◌++◌, codes, Option, Some, None, Result, Ok, Err}
use Rattle.clap.specs.declared.error.kind.ErrorKind.TheVariants as kinds
use Rattle.nut_client.specs.CommandLine.{CommandLine, line_of, target_of}
use Rattle.nut_client.specs.Forcing.{forcing_queries, in_turn}
use Rattle.nut_client.specs.Script.{Script, script}
use Rattle.nut_client.specs.Tool.{Ends, Failed, Printed, ending, run_of}
use Rattle.nut_client.specs.declared.failure.ToolFailure.{ToolFailure}
use Rattle.nut_client.specs.declared.failure.ToolFailure.TheVariants as failures
use Rattle.nut_client.specs.declared.tool.Tool.TheVariants.{Upsc, Upsrw, Upscmd}
use Rattle.nut_client.specs.declared.wanted.UpsDeed.TheVariants as deeds
use Rattle.nut_client.specs.declared.wanted.Until.TheVariants as untils
use Rattle.nut_proto.specs.declared.tracking.TrackingStatus.TheVariants as statuses
use Rattle.nut_client.specs.declared.wanted.Wanted.{Wanted}
use Rattle.nut_client.specs.declared.wanted.Wanted.TheVariants as wanteds

-- a command line that asks for this
abbrev pub asks : List ℕ → List ℕ → ℕ → Wanted → CommandLine
asks ups host port wanted = Ok (Ok (record { ups = ups; host = host; port = port; wanted = wanted }))

-- Words that ask for something, or are no combination that the tool knows; words that clap refuses; and the help.
pub record CommandLineExamples : Type 0 where
  pub all : line_of Upsc (codes "upsc" ∷ codes "su700" ∷ []) ≡ asks (codes "su700") (codes "localhost") 3493 wanteds.Variables
  pub object : line_of Upsc (codes "upsc" ∷ codes "-j" ∷ codes "su700" ∷ []) ≡ asks (codes "su700") (codes "localhost") 3493 wanteds.Object
  pub object_of_one : line_of Upsc (codes "upsc" ∷ codes "-j" ∷ codes "su700" ∷ codes "ups.status" ∷ []) ≡ asks (codes "su700") (codes "localhost") 3493 (wanteds.Member (codes "ups.status"))
  pub one : line_of Upsc (codes "upsc" ∷ codes "su700@h:5" ∷ codes "ups.status" ∷ []) ≡ asks (codes "su700") (codes "h") 5 (wanteds.Value (codes "ups.status"))
  pub server : line_of Upsc (codes "upsc" ∷ codes "-L" ∷ codes "h:5" ∷ []) ≡ asks (codes "u") (codes "h") 5 wanteds.Descriptions
  pub no_server : line_of Upsc (codes "upsc" ∷ codes "-l" ∷ []) ≡ asks (codes "u") (codes "localhost") 3493 wanteds.Names
  pub setting : line_of Upsrw (codes "upsrw" ∷ codes "-s" ∷ codes "ups.id=a=b" ∷ codes "-u" ∷ codes "admin" ∷ codes "-ppw" ∷ codes "su700" ∷ [])
      ≡ asks (codes "su700") (codes "localhost") 3493 (wanteds.Does (codes "admin") (codes "pw") (deeds.Set (codes "ups.id") (codes "a=b")) untils.Accepted)
  pub command : line_of Upscmd (codes "upscmd" ∷ codes "-u" ∷ codes "admin" ∷ codes "-p" ∷ codes "pw" ∷ codes "su700" ∷ codes "load.off" ∷ [])
      ≡ asks (codes "su700") (codes "localhost") 3493 (wanteds.Does (codes "admin") (codes "pw") (deeds.Command (codes "load.off") None) untils.Accepted)
  pub parameter : line_of Upscmd (codes "upscmd" ∷ codes "-u" ∷ codes "admin" ∷ codes "-p" ∷ codes "pw" ∷ codes "su700" ∷ codes "load.off" ∷ codes "5" ∷ [])
      ≡ asks (codes "su700") (codes "localhost") 3493 (wanteds.Does (codes "admin") (codes "pw") (deeds.Command (codes "load.off") (Some (codes "5"))) untils.Accepted)
  pub waiting : line_of Upscmd (codes "upscmd" ∷ codes "-wu" ∷ codes "admin" ∷ codes "-p" ∷ codes "pw" ∷ codes "su700" ∷ codes "load.off" ∷ [])
      ≡ asks (codes "su700") (codes "localhost") 3493 (wanteds.Does (codes "admin") (codes "pw") (deeds.Command (codes "load.off") None) untils.Ended)
  pub waiting_for_a_list : line_of Upscmd (codes "upscmd" ∷ codes "-lw" ∷ codes "su700" ∷ []) ≡ Ok (Err failures.BadArguments)
  pub waiting_for_nothing : line_of Upsrw (codes "upsrw" ∷ codes "-w" ∷ codes "su700" ∷ []) ≡ Ok (Err failures.BadArguments)
  pub dialed : target_of (line_of Upscmd (codes "upscmd" ∷ codes "-l" ∷ codes "su700@h:5" ∷ [])) ≡ Some (codes "h", 5)
  pub two_lists : line_of Upsc (codes "upsc" ∷ codes "-lc" ∷ codes "su700" ∷ []) ≡ Ok (Err failures.BadArguments)
  pub no_password : line_of Upsrw (codes "upsrw" ∷ codes "-s" ∷ codes "ups.id=a" ∷ codes "-u" ∷ codes "admin" ∷ codes "su700" ∷ []) ≡ Ok (Err failures.BadArguments)
  pub no_name : line_of Upsc (codes "upsc" ∷ []) ≡ Ok (Err failures.BadArguments)
  pub no_host : line_of Upsc (codes "upsc" ∷ codes "su700@" ∷ []) ≡ Ok (Err failures.BadName)
  pub unknown : line_of Upsc (codes "upsc" ∷ codes "-x" ∷ codes "su700" ∷ []) ≡ Err (kinds.UnknownArgument ∷ [])
  pub help : line_of Upsc (codes "upsc" ∷ codes "--help" ∷ []) ≡ Err (kinds.DisplayHelp ∷ [])
  pub version : line_of Upsc (codes "upsc" ∷ codes "-V" ∷ []) ≡ Err (kinds.DisplayVersion ∷ [])

-- `upsc u v`
abbrev pub value_of_v : Script
value_of_v = script (codes "u") (wanteds.Value (codes "v"))

-- `upsrw -w -s v=5 -u a -p p u`
abbrev pub set_v : Script
set_v = script (codes "u") (wanteds.Does (codes "a") (codes "p") (deeds.Set (codes "v") (codes "5")) untils.Ended)

-- what a server answers to `set_v` until it has numbered the request, and what it is asked
abbrev pub numbered : List ℕ
numbered = codes "OK\nOK\nOK\nOK TRACKING 7\n"

abbrev pub set_queries : List ℕ
set_queries = codes "USERNAME a\nPASSWORD p\nSET TRACKING ON\nSET VAR u v \"5\"\n"

-- a shutdown by hand
abbrev pub forces_u : Script
forces_u = in_turn (forcing_queries (codes "u") (codes "a") (codes "p"))

-- a text so many times
abbrev pub times : ℕ → List ℕ → List ℕ
times zero text = []
times (suc n) text = text ++ times n text

-- Bytes that a server sends, and what a tool asks and how it ends by them.
pub record RunExamples : Type 0 where
  pub answered : run_of value_of_v (codes "VAR u v \"1 2\"\n") ≡ record { queries = codes "GET VAR u v\n"; standing = Printed (codes "1 2\n") }
  pub bytes_behind : run_of value_of_v (codes "VAR u v \"1 2\"\nERR DATA-STALE\nVA") ≡ record { queries = codes "GET VAR u v\n"; standing = Printed (codes "1 2\n") }
  pub refused : run_of value_of_v (codes "ERR DATA-STALE\nVAR u v 1\n") ≡ record { queries = codes "GET VAR u v\n"; standing = Failed (failures.Refused (codes "DATA-STALE")) }
  pub of_another : run_of value_of_v (codes "VAR u w 1\nVAR u v 1\n") ≡ record { queries = codes "GET VAR u v\n"; standing = Failed failures.BadAnswer }
  pub longest : ending (run_of value_of_v (times 2048 (codes "a"))).standing ≡ Err failures.ConnectionLost
  pub too_long : run_of value_of_v (times 2049 (codes "a")) ≡ record { queries = codes "GET VAR u v\n"; standing = Failed failures.BadAnswer }
  pub unfinished : ending (run_of value_of_v (codes "VAR u v 1")).standing ≡ Err failures.ConnectionLost
  pub unwritable : run_of (script (codes "u") (wanteds.Value (codes "a\nb"))) (codes "VAR u v 1\n") ≡ record { queries = []; standing = Failed failures.BadQuery }
  pub listed : run_of (script (codes "u") wanteds.Variables) (codes "BEGIN LIST VAR u\nVAR u v \"1 2\"\nVAR u w 3\nEND LIST VAR u\n") ≡ record { queries = codes "LIST VAR u\n"; standing = Printed (codes "v: 1 2\nw: 3\n") }
  pub as_object : run_of (script (codes "u") wanteds.Object) (codes "BEGIN LIST VAR u\nVAR u v \"1 \\\"2\\\"\"\nVAR u w \\\\\nEND LIST VAR u\n")
      ≡ record { queries = codes "LIST VAR u\n"; standing = Printed (codes "{\"v\": \"1 \\\"2\\\"\", \"w\": \"\\\\\"}\n") }
  pub as_member : run_of (script (codes "u") (wanteds.Member (codes "v"))) (codes "VAR u v \"1 2\"\n") ≡ record { queries = codes "GET VAR u v\n"; standing = Printed (codes "{\"v\": \"1 2\"}\n") }
  pub no_rows : run_of (script (codes "u") wanteds.Object) (codes "BEGIN LIST VAR u\nEND LIST VAR u\n") ≡ record { queries = codes "LIST VAR u\n"; standing = Printed (codes "{}\n") }
  pub cut_list : ending (run_of (script (codes "u") wanteds.Variables) (codes "BEGIN LIST VAR u\nVAR u v \"1 2\"\n")).standing ≡ Err failures.ConnectionLost
  pub done : run_of (script (codes "u") (wanteds.Does (codes "a") (codes "p") (deeds.Command (codes "load.off") None) untils.Accepted)) (codes "OK\nOK\nOK TRACKING\n")
      ≡ record { queries = codes "USERNAME a\nPASSWORD p\nINSTCMD u load.off\n"; standing = Printed (codes "OK\n") }
  pub with_parameter : run_of (script (codes "u") (wanteds.Does (codes "a") (codes "p") (deeds.Command (codes "load.off") (Some (codes "5"))) untils.Accepted)) (codes "OK\nOK\nOK TRACKING 7\n")
      ≡ record { queries = codes "USERNAME a\nPASSWORD p\nINSTCMD u load.off \"5\"\n"; standing = Printed (codes "OK\n") }
  pub succeeded : run_of set_v (numbered ++ codes "TRACKING 7 PENDING\nTRACKING 7 SUCCESS\n") ≡ record { queries = set_queries ++ times 2 (codes "GET TRACKING 7\n"); standing = Printed (codes "SUCCESS\n") }
  pub failed : run_of set_v (numbered ++ codes "TRACKING 7 FAILED\n") ≡ record { queries = set_queries ++ codes "GET TRACKING 7\n"; standing = Failed (failures.Unconfirmed statuses.Failed) }
  pub pending : run_of set_v (numbered ++ times 11 (codes "TRACKING 7 PENDING\n"))
      ≡ record { queries = set_queries ++ times 11 (codes "GET TRACKING 7\n"); standing = Failed (failures.Unconfirmed statuses.Pending) }
  pub still_pending : ending (run_of set_v (numbered ++ times 10 (codes "TRACKING 7 PENDING\n"))).standing ≡ Err failures.ConnectionLost
  pub untracked : run_of set_v (codes "OK\nOK\nOK\nOK\n") ≡ record { queries = set_queries; standing = Failed failures.Untracked }
  pub never_tracks : run_of set_v (codes "OK\nOK\nERR INVALID-ARGUMENT\n") ≡ record { queries = codes "USERNAME a\nPASSWORD p\nSET TRACKING ON\n"; standing = Failed (failures.Refused (codes "INVALID-ARGUMENT")) }
  pub forced : run_of forces_u (codes "OK\nOK\nOK FSD-SET\n") ≡ record { queries = codes "USERNAME a\nPASSWORD p\nFSD u\n"; standing = Printed [] }
  pub no_right : run_of forces_u (codes "OK\nOK\nERR ACCESS-DENIED\nOK\n") ≡ record { queries = codes "USERNAME a\nPASSWORD p\nFSD u\n"; standing = Failed (failures.Refused (codes "ACCESS-DENIED")) }
  pub not_answered : ending (run_of forces_u (codes "OK\nOK\nOK FSD-SET")).standing ≡ Err failures.ConnectionLost
  -- Every run over a stream with these bytes ends so, unless memory or the connection is lacking.
  pub decided : (result : Result (List ℕ) ToolFailure) (left before after : Option (List ℕ)) → (e : Ends value_of_v result (Some (codes "VAR u v \"1 2\"\nERR DATA-STALE\nVA")) left before after)
      → (result ≡ Err failures.Memory)
      ⊎ ((result ≡ Err failures.ConnectionLost) × (left ≡ Some [] → length e.written < length (run_of value_of_v e.heard).queries)
      ⊎ (result ≡ Ok (codes "1 2\n")))
