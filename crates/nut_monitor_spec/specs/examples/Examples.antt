-- Runs of a monitor, and what it reports, asks and decides in them. Each example is computed from the definitions.
use Rattle.std.specs.Prelude.{◌≡◌, ℕ, ◌+◌, zero, suc, if◌then◌else◌, Bool, true, false, List, [], ◌∷◌, ◌++◌, codes, length, ◌&&◌, Some, None, is_none}
use Rattle.nut_words.specs.declared.limits.TheConstants.{PIECE_MAX}
use Rattle.nut_conf.specs.declared.notice.Notice.TheVariants as kinds
use Rattle.nut_monitor_spec.specs.declared.MonitorFault.TheVariants.{NoSuchLink, WrongLinkState, PieceTooLong, TooMuchTaken, Busy}
use Rattle.nut_monitor_spec.specs.declared.Notice.{Notice}
use Rattle.nut_monitor_spec.specs.declared.Phase.{Phase}
use Rattle.nut_monitor_spec.specs.declared.Phase.TheVariants.{Watching, Forcing, Final, Halted}
use Rattle.nut_monitor_spec.specs.Configuration.{Line, Configuration, with_defaults}
use Rattle.nut_monitor_spec.specs.Event.{Event, Moment, Linked, LinkBytes, LinkLost, LinkTook, OutOfMemory, NoticeTaken}
use Rattle.nut_monitor_spec.specs.Decision.{told, shutdown_told}
use Rattle.nut_monitor_spec.specs.Trace.{waits, phase, notices, notices_waiting, trace}
use Rattle.nut_monitor_spec.specs.Content.{Content, content}
use Rattle.nut_monitor_spec.specs.Acceptance.{refusal}

-- ---- runs

-- A move of a run: an event; or the server takes all that waits on link i and answers this line.
pub data Move : Type 0 where
  Happens : (event : Event) → Move
  Says : (i : ℕ) (text : List ℕ) → Move

-- the history after this many notices were taken
abbrev pub all_told : ℕ → List Event → List Event
all_told zero events = events
all_told (suc n) events = NoticeTaken ∷ all_told n events

-- the history after all waiting notices were taken
abbrev pub noticed : Configuration → List Event → List Event
noticed configuration events = all_told (length (notices_waiting (trace configuration events))) events

abbrev pub moved : Configuration → List Event → Move → List Event
moved configuration events (Happens event) = event ∷ events
moved configuration events (Says i text) =
    LinkBytes i (text ++ codes "\n") ∷ LinkTook i (length (waits configuration i (trace configuration events))) ∷ events

-- The events of a run. Moves are listed with the oldest first, and all waiting notices are handed out after each move.
abbrev pub played : Configuration → List Move → List Event → List Event
played configuration [] events = events
played configuration (move ∷ moves) events = played configuration moves (noticed configuration (moved configuration events move))

abbrev pub run : Configuration → List Move → List Event
run configuration moves = played configuration moves []

abbrev pub at_moment : ℕ → Move
at_moment t = Happens (Moment t)

-- all notices of a run, the phase after it, and what waits on the first link
abbrev pub all_notices : Configuration → List Move → List Notice
all_notices configuration moves = notices (trace configuration (run configuration moves))

abbrev pub phase_after : Configuration → List Move → Phase
phase_after configuration moves = phase configuration (trace configuration (run configuration moves))

abbrev pub asks : Configuration → List Move → List ℕ
asks configuration moves = waits configuration 0 (trace configuration (run configuration moves))

-- whether none of these events was refused
abbrev pub were_accepted : Configuration → List Event → Bool
were_accepted configuration [] = true
were_accepted configuration (event ∷ events) =
    were_accepted configuration events && is_none (refusal (content configuration events) event)

-- ---- configurations

-- MONITOR su700@localhost 1 mon m1
abbrev pub su700 : Bool → Line
su700 primary = record { ups = codes "su700"; power = 1; user = codes "mon"; password = codes "m1"; primary = primary }

abbrev pub su900 : Bool → Line
su900 primary = record { ups = codes "su900"; power = 1; user = codes "mon"; password = codes "m1"; primary = primary }

abbrev pub primary_room : Configuration
primary_room = with_defaults (su700 true ∷ [])

abbrev pub secondary_room : Configuration
secondary_room = with_defaults (su700 false ∷ [])

abbrev pub two_primaries : Configuration
two_primaries = with_defaults (su700 true ∷ su900 true ∷ [])

-- a configuration by which a UPS may be silent for 1,000,000 seconds before NOCOMM
abbrev pub patient_room : Configuration
patient_room = record secondary_room { no_comm_warn_time = 1_000_000 }

-- a configuration with two supplies, of which one is enough
abbrev pub two_supplies : Configuration
two_supplies = with_defaults (su700 false ∷ su900 false ∷ [])

-- link i is made, and its opening queries are answered OK
abbrev pub opens : Bool → ℕ → List Move
opens primary i =
    Happens (Linked i) ∷ Says i (codes "OK") ∷ Says i (codes "OK") ∷ Says i (codes "OK")
    ∷ (if primary then Says i (codes "OK") ∷ [] else [])

-- the status query on link 0 is answered by this status
abbrev pub shows : List ℕ → Move
shows value = Says 0 (codes "VAR su700 ups.status \"" ++ value ++ codes "\"")

abbrev pub shows_other : List ℕ → Move
shows_other value = Says 1 (codes "VAR su900 ups.status \"" ++ value ++ codes "\"")

abbrev pub logins_are : List ℕ → Move
logins_are count = Says 0 (codes "NUMLOGINS su700 " ++ count)

-- ---- a primary

-- a primary that hears this status at moment 0
abbrev pub primary_hears : List ℕ → List Move
primary_hears value = at_moment 0 ∷ opens true 0 ++ shows value ∷ []

-- its FSD is accepted, and the number of logins is this one
abbrev pub forces : List ℕ → List Move
forces count = Says 0 (codes "OK FSD-SET") ∷ logins_are count ∷ []

-- a primary that hears of a low battery, forces the shutdown, and waits until nobody else is logged in
pub record PrimaryExamples : Type 0 where
  pub first : asks primary_room (at_moment 0 ∷ Happens (Linked 0) ∷ []) ≡ codes "USERNAME mon\n"
  pub asks_status : asks primary_room (at_moment 0 ∷ opens true 0) ≡ codes "GET VAR su700 ups.status\n"
  pub tells : all_notices primary_room (primary_hears (codes "OB LB")) ≡ told kinds.Onbatt 0 ∷ told kinds.Lowbatt 0 ∷ []
  pub forcing : phase_after primary_room (primary_hears (codes "OB LB")) ≡ Forcing
  pub asks_fsd : asks primary_room (primary_hears (codes "OB LB")) ≡ codes "FSD su700\n"
  pub asks_logins :
      asks primary_room (primary_hears (codes "OB LB") ++ Says 0 (codes "OK FSD-SET") ∷ []) ≡ codes "GET NUMLOGINS su700\n"
  pub final : phase_after primary_room (primary_hears (codes "OB LB") ++ forces (codes "1")) ≡ Final
  pub tells_shutdown :
      all_notices primary_room (primary_hears (codes "OB LB") ++ forces (codes "1"))
      ≡ told kinds.Onbatt 0 ∷ told kinds.Lowbatt 0 ∷ shutdown_told ∷ []
  pub not_yet : phase_after primary_room (primary_hears (codes "OB LB") ++ forces (codes "1") ++ at_moment 4 ∷ []) ≡ Final
  pub halted : phase_after primary_room (primary_hears (codes "OB LB") ++ forces (codes "1") ++ at_moment 5 ∷ []) ≡ Halted true
  pub calibrating_tells : all_notices primary_room (primary_hears (codes "OB LB CAL")) ≡ told kinds.Onbatt 0 ∷ told kinds.Lowbatt 0 ∷ []
  pub calibrating : phase_after primary_room (primary_hears (codes "OB LB CAL")) ≡ Watching
  pub calibrating_waits : asks primary_room (primary_hears (codes "OB LB CAL") ++ at_moment 4 ∷ []) ≡ []
  pub calibrating_asks : asks primary_room (primary_hears (codes "OB LB CAL") ++ at_moment 5 ∷ []) ≡ codes "GET VAR su700 ups.status\n"
  pub refused_waits : asks primary_room (primary_hears (codes "OB LB") ++ Says 0 (codes "ERR ACCESS-DENIED") ∷ []) ≡ []
  pub refused_again :
      asks primary_room (primary_hears (codes "OB LB") ++ Says 0 (codes "ERR ACCESS-DENIED") ∷ at_moment 1 ∷ []) ≡ codes "FSD su700\n"
  pub others_stay : phase_after primary_room (primary_hears (codes "OB LB") ++ forces (codes "2") ++ at_moment 15 ∷ []) ≡ Forcing
  pub others_out : phase_after primary_room (primary_hears (codes "OB LB") ++ forces (codes "2") ++ at_moment 16 ∷ []) ≡ Final
  pub accepted :
      were_accepted primary_room (run primary_room (primary_hears (codes "OB LB") ++ forces (codes "1") ++ at_moment 5 ∷ [])) ≡ true

-- ---- a secondary

-- a secondary that hears this status at moment 0
abbrev pub secondary_hears : List ℕ → List Move
secondary_hears value = at_moment 0 ∷ opens false 0 ++ shows value ∷ []

-- at each of these moments it hears this status
abbrev pub hears_at : List ℕ → List ℕ → List Move
hears_at [] value = []
hears_at (t ∷ moments) value = at_moment t ∷ shows value ∷ hears_at moments value

-- on line at moment 0, and on battery with a low battery at moments 5, 10 and 15
abbrev pub low_run : List Move
low_run = secondary_hears (codes "OL") ++ hears_at (5 ∷ 10 ∷ 15 ∷ []) (codes "OB LB")

-- the status query is refused at moment 5
abbrev pub refused_run : List Move
refused_run = secondary_hears (codes "OL") ++ at_moment 5 ∷ Says 0 (codes "ERR DATA-STALE") ∷ []

-- a secondary, which has to wait for its primary
pub record SecondaryExamples : Type 0 where
  pub no_notice : all_notices secondary_room (secondary_hears (codes "OL")) ≡ []
  pub tells : all_notices secondary_room low_run ≡ told kinds.Onbatt 0 ∷ told kinds.Lowbatt 0 ∷ []
  pub watching : phase_after secondary_room low_run ≡ Watching
  pub final : phase_after secondary_room (low_run ++ at_moment 16 ∷ []) ≡ Final
  pub tells_shutdown :
      all_notices secondary_room (low_run ++ at_moment 16 ∷ []) ≡ told kinds.Onbatt 0 ∷ told kinds.Lowbatt 0 ∷ shutdown_told ∷ []
  pub not_yet : phase_after secondary_room (low_run ++ at_moment 16 ∷ at_moment 20 ∷ []) ≡ Final
  pub halted : phase_after secondary_room (low_run ++ at_moment 16 ∷ at_moment 21 ∷ []) ≡ Halted false
  pub forced_at_once : phase_after secondary_room (secondary_hears (codes "FSD OL")) ≡ Final
  pub accepted : were_accepted secondary_room (run secondary_room (low_run ++ at_moment 16 ∷ at_moment 21 ∷ [])) ≡ true

-- ---- communication

-- a piece of two lines, the first an answer; memory runs out behind k of them
abbrev pub out_of_memory : ℕ → Event
out_of_memory k = OutOfMemory 0 (codes "VAR su700 ups.status \"OB\"\nERR X\n") k

-- communication that turns bad and good, and the notices that are repeated
pub record CommunicationExamples : Type 0 where
  pub lost : all_notices secondary_room refused_run ≡ told kinds.Commbad 0 ∷ []
  pub established :
      all_notices secondary_room (refused_run ++ hears_at (10 ∷ []) (codes "OL")) ≡ told kinds.Commbad 0 ∷ told kinds.Commok 0 ∷ []
  pub never_had : all_notices secondary_room (at_moment 0 ∷ Happens (Linked 0) ∷ Happens (LinkLost 0) ∷ []) ≡ told kinds.Commbad 0 ∷ []
  pub told_once :
      all_notices secondary_room (refused_run ++ Happens (LinkLost 0) ∷ Happens (Linked 0) ∷ Happens (LinkLost 0) ∷ [])
      ≡ told kinds.Commbad 0 ∷ []
  pub silence_not_yet : all_notices secondary_room (at_moment 300 ∷ []) ≡ []
  pub silence : all_notices secondary_room (at_moment 300 ∷ at_moment 301 ∷ at_moment 601 ∷ []) ≡ told kinds.Nocomm 0 ∷ []
  pub silence_again :
      all_notices secondary_room (at_moment 300 ∷ at_moment 301 ∷ at_moment 601 ∷ at_moment 602 ∷ [])
      ≡ told kinds.Nocomm 0 ∷ told kinds.Nocomm 0 ∷ []
  pub replace :
      all_notices patient_room (secondary_hears (codes "OL RB") ++ hears_at (5 ∷ 43200 ∷ []) (codes "OL RB")) ≡ told kinds.Replbatt 0 ∷ []
  pub replace_again :
      all_notices patient_room (secondary_hears (codes "OL RB") ++ hears_at (5 ∷ 43201 ∷ []) (codes "OL RB"))
      ≡ told kinds.Replbatt 0 ∷ told kinds.Replbatt 0 ∷ []
  pub online_again :
      all_notices secondary_room (secondary_hears (codes "OB") ++ hears_at (5 ∷ []) (codes "OL"))
      ≡ told kinds.Onbatt 0 ∷ told kinds.Online 0 ∷ []
  pub one_line_too_many :
      all_notices secondary_room (at_moment 0 ∷ opens false 0 ++ Says 0 (codes "VAR su700 ups.status \"OB\"\nVAR su700 ups.status OL") ∷ [])
      ≡ told kinds.Onbatt 0 ∷ told kinds.Commbad 0 ∷ []
  pub not_all_taken :
      all_notices secondary_room (at_moment 0 ∷ Happens (Linked 0) ∷ Happens (LinkTook 0 12) ∷ Happens (LinkBytes 0 (codes "OK\n")) ∷ [])
      ≡ told kinds.Commbad 0 ∷ []
  pub other_ups :
      all_notices secondary_room (at_moment 0 ∷ opens false 0 ++ Says 0 (codes "VAR su900 ups.status OB") ∷ []) ≡ told kinds.Commbad 0 ∷ []
  pub blank_line : all_notices secondary_room (at_moment 0 ∷ opens false 0 ++ Says 0 [] ∷ []) ≡ told kinds.Commbad 0 ∷ []
  pub in_pieces :
      all_notices secondary_room
      (at_moment 0 ∷ opens false 0 ++ Happens (LinkTook 0 25) ∷ Happens (LinkBytes 0 (codes "VAR su700 ups.sta"))
      ∷ Happens (LinkBytes 0 (codes "tus OB\n")) ∷ [])
      ≡ told kinds.Onbatt 0 ∷ []

-- ---- what is critical, and the shutdown

-- configurations with two UPSes, and moments just before and just after a limit
pub record RoomExamples : Type 0 where
  pub dead_not_yet : phase_after primary_room (primary_hears (codes "OB CAL") ++ at_moment 15 ∷ []) ≡ Watching
  pub dead : phase_after primary_room (primary_hears (codes "OB CAL") ++ at_moment 16 ∷ []) ≡ Forcing
  pub dead_on_line : phase_after primary_room (primary_hears (codes "OL LB") ++ at_moment 1000000 ∷ []) ≡ Watching
  pub one_is_enough :
      phase_after two_supplies (at_moment 0 ∷ opens false 0 ++ opens false 1 ++ shows (codes "FSD OB") ∷ shows_other (codes "OL") ∷ [])
      ≡ Watching
  pub none_is_not :
      phase_after two_supplies (at_moment 0 ∷ opens false 0 ++ opens false 1 ++ shows (codes "FSD OB") ∷ shows_other (codes "FSD OL") ∷ [])
      ≡ Final
  pub unknown_is_not_critical :
      phase_after two_supplies (at_moment 0 ∷ opens false 0 ++ shows (codes "FSD OB") ∷ at_moment 1000 ∷ []) ≡ Watching
  pub lost_in_forcing_tells :
      all_notices primary_room (primary_hears (codes "OB LB") ++ Happens (LinkLost 0) ∷ [])
      ≡ told kinds.Onbatt 0 ∷ told kinds.Lowbatt 0 ∷ []
  pub lost_in_forcing : phase_after primary_room (primary_hears (codes "OB LB") ++ Happens (LinkLost 0) ∷ at_moment 15 ∷ []) ≡ Forcing
  pub lost_in_forcing_ends : phase_after primary_room (primary_hears (codes "OB LB") ++ Happens (LinkLost 0) ∷ at_moment 16 ∷ []) ≡ Final
  pub forces_on_a_new_link :
      asks primary_room (primary_hears (codes "OB LB") ++ Happens (LinkLost 0) ∷ opens true 0) ≡ codes "FSD su700\n"
  pub counts_on_a_new_link :
      asks primary_room (primary_hears (codes "OB LB") ++ Says 0 (codes "OK FSD-SET") ∷ Happens (LinkLost 0) ∷ opens true 0)
      ≡ codes "GET NUMLOGINS su700\n"
  pub one_primary_is_silent :
      phase_after two_primaries
      (at_moment 0 ∷ opens true 0 ++ opens true 1 ++ shows (codes "OB LB") ∷ shows_other (codes "OB LB")
      ∷ forces (codes "1") ++ at_moment 15 ∷ [])
      ≡ Forcing
  pub one_primary_is_waited_for :
      phase_after two_primaries
      (at_moment 0 ∷ opens true 0 ++ opens true 1 ++ shows (codes "OB LB") ∷ shows_other (codes "OB LB")
      ∷ forces (codes "1") ++ at_moment 16 ∷ [])
      ≡ Final
  pub not_taken_back :
      phase_after primary_room (primary_hears (codes "OB LB") ++ Says 0 (codes "OK FSD-SET")
      ∷ logins_are (codes "2") ∷ at_moment 1 ∷ logins_are (codes "0") ∷ [])
      ≡ Final
  pub memory_stands :
      phase_after primary_room (at_moment 0 ∷ opens true 0 ++ Happens (LinkTook 0 25) ∷ Happens (out_of_memory 1) ∷ at_moment 16 ∷ [])
      ≡ Forcing
  pub memory_leaves_no_trace :
      phase_after primary_room (at_moment 0 ∷ opens true 0 ++ Happens (LinkTook 0 25) ∷ Happens (out_of_memory 0) ∷ at_moment 16 ∷ [])
      ≡ Watching
  pub memory_tells :
      all_notices primary_room (at_moment 0 ∷ opens true 0 ++ Happens (LinkTook 0 25) ∷ Happens (out_of_memory 1) ∷ [])
      ≡ told kinds.Onbatt 0 ∷ told kinds.Commbad 0 ∷ []

-- ---- edges

-- a configuration by which the machine is halted as soon as SHUTDOWN was given
abbrev pub hasty_room : Configuration
hasty_room = record primary_room { final_delay = 0 }

-- a configuration by which both supplies are needed
abbrev pub both_supplies : Configuration
both_supplies = record two_supplies { min_supplies = 2 }

-- the status query is refused at each of these moments
abbrev pub refused_at : List ℕ → List Move
refused_at [] = []
refused_at (t ∷ moments) = at_moment t ∷ Says 0 (codes "ERR DATA-STALE") ∷ refused_at moments

-- the status query of a UPS on battery is refused at moments 5, 10 and 15
abbrev pub stale_run : List Move
stale_run = secondary_hears (codes "OB") ++ refused_at (5 ∷ 10 ∷ 15 ∷ [])

-- the battery is low at moment 5, not low at moment 10, and low again at moments 15, 20 and 25
abbrev pub calm_run : List Move
calm_run =
    secondary_hears (codes "OL") ++ hears_at (5 ∷ []) (codes "OB LB") ++ hears_at (10 ∷ []) (codes "OB")
    ++ hears_at (15 ∷ 20 ∷ 25 ∷ []) (codes "OB LB")

-- the UPS of link 0 is heard at moment 10 and never again
abbrev pub silent_run : List Move
silent_run = at_moment 10 ∷ opens false 0 ++ shows (codes "OL") ∷ at_moment 301 ∷ at_moment 310 ∷ at_moment 311 ∷ at_moment 602 ∷ []

-- a primary whose FSD is answered by a number of logins
abbrev pub unasked_run : List Move
unasked_run = primary_hears (codes "OB LB") ++ logins_are (codes "0") ∷ []

-- its FSD is refused at moments 0 and 1
abbrev pub denied_run : List Move
denied_run = primary_hears (codes "OB LB") ++ Says 0 (codes "ERR ACCESS-DENIED") ∷ at_moment 1 ∷ Says 0 (codes "ERR ACCESS-DENIED") ∷ []

-- moments at a limit, and lines at the edge of what is an answer
pub record EdgeExamples : Type 0 where
  pub halts_at_once : phase_after hasty_room (primary_hears (codes "OB LB") ++ forces (codes "1")) ≡ Halted true
  pub hasty_tells :
      all_notices hasty_room (primary_hears (codes "OB LB") ++ forces (codes "1"))
      ≡ told kinds.Onbatt 0 ∷ told kinds.Lowbatt 0 ∷ shutdown_told ∷ []
  pub final_asks_nothing : asks primary_room (primary_hears (codes "OB LB") ++ forces (codes "1") ++ at_moment 4 ∷ []) ≡ []
  pub both_are_needed :
      phase_after both_supplies (at_moment 0 ∷ opens false 0 ++ opens false 1 ++ shows_other (codes "OL") ∷ shows (codes "FSD OB") ∷ [])
      ≡ Final
  pub both_are_silent : all_notices two_supplies (at_moment 301 ∷ []) ≡ told kinds.Nocomm 0 ∷ told kinds.Nocomm 1 ∷ []
  pub each_is_silent : all_notices two_supplies silent_run ≡ told kinds.Nocomm 1 ∷ told kinds.Nocomm 0 ∷ told kinds.Nocomm 1 ∷ []
  pub established_on_line :
      all_notices secondary_room (secondary_hears (codes "OB") ++ refused_at (5 ∷ []) ++ hears_at (10 ∷ []) (codes "OL"))
      ≡ told kinds.Onbatt 0 ∷ told kinds.Commbad 0 ∷ told kinds.Commok 0 ∷ told kinds.Online 0 ∷ []
  pub all_at_once :
      all_notices secondary_room (secondary_hears (codes "FSD LB OB"))
      ≡ told kinds.Onbatt 0 ∷ told kinds.Lowbatt 0 ∷ told kinds.Fsd 0 ∷ shutdown_told ∷ []
  pub stale_tells : all_notices secondary_room stale_run ≡ told kinds.Onbatt 0 ∷ told kinds.Commbad 0 ∷ []
  pub stale_not_yet : phase_after secondary_room stale_run ≡ Watching
  pub stale_is_dead : phase_after secondary_room (stale_run ++ at_moment 16 ∷ []) ≡ Final
  pub calm_not_yet : phase_after secondary_room calm_run ≡ Watching
  pub calm_is_past : phase_after secondary_room (calm_run ++ at_moment 26 ∷ []) ≡ Final
  pub unasked_is_lost : asks primary_room unasked_run ≡ []
  pub unasked_counts_nothing : phase_after primary_room (unasked_run ++ at_moment 15 ∷ []) ≡ Forcing
  pub unasked_is_over : phase_after primary_room (unasked_run ++ at_moment 16 ∷ []) ≡ Final
  pub denied_asks_again : asks primary_room (denied_run ++ at_moment 15 ∷ []) ≡ codes "FSD su700\n"
  pub denied_counts_nothing : phase_after primary_room (denied_run ++ at_moment 15 ∷ []) ≡ Forcing
  pub denied_is_over : phase_after primary_room (denied_run ++ at_moment 16 ∷ []) ≡ Final
  pub accepted : were_accepted two_supplies (run two_supplies silent_run) ≡ true

-- ---- what is refused

-- the byte b, n times
abbrev pub many : ℕ → ℕ → List ℕ
many zero b = []
many (suc n) b = b ∷ many n b

-- the content after a run
abbrev pub content_after : List Move → Content
content_after moves = content primary_room (run primary_room moves)

-- a primary whose first query waits on link 0
abbrev pub linked_run : List Move
linked_run = at_moment 0 ∷ Happens (Linked 0) ∷ []

-- a monitor with a waiting notice and no link
abbrev pub busy : Content
busy = content primary_room (LinkLost 0 ∷ run primary_room linked_run)

pub record RefusalExamples : Type 0 where
  pub no_line : refusal (content_after []) (Linked 1) ≡ Some NoSuchLink
  pub not_linked : refusal (content_after []) (LinkLost 0) ≡ Some WrongLinkState
  pub linked_already : refusal (content_after linked_run) (Linked 0) ≡ Some WrongLinkState
  pub no_line_before_length : refusal (content_after linked_run) (LinkBytes 1 (many (PIECE_MAX + 1) 65)) ≡ Some NoSuchLink
  pub long_piece : refusal (content_after linked_run) (LinkBytes 0 (many (PIECE_MAX + 1) 65)) ≡ Some PieceTooLong
  pub whole_piece : refusal (content_after linked_run) (LinkBytes 0 (many PIECE_MAX 65)) ≡ None
  pub too_much : refusal (content_after linked_run) (LinkTook 0 14) ≡ Some TooMuchTaken
  pub whole_query : refusal (content_after linked_run) (LinkTook 0 13) ≡ None
  pub moment_is_busy : refusal busy (Moment 0) ≡ Some Busy
  pub link_is_not_busy : refusal busy (Linked 0) ≡ None

-- a monitor with a waiting notice, on a link that was made anew
abbrev pub busy_link : Content
busy_link = content primary_room (Linked 0 ∷ LinkLost 0 ∷ run primary_room linked_run)

-- which test comes first
pub record OrderExamples : Type 0 where
  pub bytes_without_line : refusal busy (LinkBytes 1 (many (PIECE_MAX + 1) 65)) ≡ Some NoSuchLink
  pub took_without_line : refusal busy (LinkTook 1 14) ≡ Some NoSuchLink
  pub lost_without_line : refusal busy (LinkLost 1) ≡ Some NoSuchLink
  pub bytes_without_link : refusal busy (LinkBytes 0 (many (PIECE_MAX + 1) 65)) ≡ Some WrongLinkState
  pub took_without_link : refusal busy (LinkTook 0 14) ≡ Some WrongLinkState
  pub length_before_busy : refusal busy_link (LinkBytes 0 (many (PIECE_MAX + 1) 65)) ≡ Some PieceTooLong
  pub bytes_are_busy : refusal busy_link (LinkBytes 0 (many PIECE_MAX 65)) ≡ Some Busy
  pub none_is_busy : refusal busy_link (LinkBytes 0 []) ≡ Some Busy
  pub too_much_when_busy : refusal busy_link (LinkTook 0 14) ≡ Some TooMuchTaken
  pub took_is_not_busy : refusal busy_link (LinkTook 0 13) ≡ None
  pub lost_is_not_busy : refusal busy_link (LinkLost 0) ≡ None
