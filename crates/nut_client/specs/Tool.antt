-- What a tool sends to its server and how it ends, by the bytes that the server sends.
use Rattle.std.proofs.Common.{inl, inr}
use Rattle.std.specs.Prelude.{◌≡◌, ℕ, ◌<◌, ◌≤◌, length, Bool, true, false, List, [], ◌∷◌, ◌++◌, codes, Option, Some, None, Result, Ok, Err, IfErr, ⊤, ◌⊎◌, if◌then◌else◌}
use Rattle.std.specs.Borrow.{MutBor}
use Rattle.clap.specs.Words.{IsAmong, Kinds}
use Rattle.clap.specs.declared.error.ErrorKind.{ErrorKind}
use Rattle.clap.specs.declared.error.ErrorKind.TheVariants as kinds
use Rattle.std.specs.Io.KnownBytes.{append_known, prepend_known}
use Rattle.std.specs.declared.io.ErrorKind.{ErrorKind as IoErrorKind}
use Rattle.std.specs.declared.io.ErrorKind.TheVariants as io_kinds
use Rattle.nut_words.specs.Lines.{LineText, Text, TooLong, lines, rest}
use Rattle.nut_words.specs.declared.limits.TheConstants.{PIECE_MAX}
use Rattle.nut_proto.specs.declared.request.Request.{Request}
use Rattle.nut_proto.specs.Requests.{request_line}
use Rattle.nut_proto.specs.Tracking.{status_word}
use Rattle.nut_link.specs.Exchange.{Exchange}
use Rattle.nut_link.specs.Exchange as stages
use Rattle.nut_client.specs.declared.failure.ToolFailure.{ToolFailure}
use Rattle.nut_client.specs.declared.failure.ToolFailure.TheVariants as failures
use Rattle.nut_link.specs.declared.fault.LinkFault.{LinkFault}
use Rattle.nut_link.specs.declared.fault.LinkFault.TheVariants as faults
use Rattle.nut_link.specs.declared.outcome.Outcome.{Outcome}
use Rattle.nut_link.specs.Asking.{query_of, is_writable}
use Rattle.nut_link.specs.Link.{heard, outcome_of}
use Rattle.nut_client.specs.CommandLine.{CommandLine, Options}
use Rattle.nut_client.specs.Output.{Written, HasAll, HasText, IsCutShort, IsUntouched}
use Rattle.nut_client.specs.Script.{Script, Prints, Fails, Asks, Pauses, script}

-- How far a tool has come: it waits for the answer to a query, and continues by its outcome; or it has a text to print;
-- or it has failed.
pub data Standing : Type 0 where
  Waits : Exchange → (Outcome → Script) → Standing
  Printed : List ℕ → Standing
  Failed : ToolFailure → Standing

-- A tool's run so far: the lines of the queries that it asked, joined, and how far it has come.
pub record Run : Type 0 where
  pub queries : List ℕ
  pub standing : Standing

-- the exchange after a query was asked and the server took all of it
abbrev pub sent : Request → Exchange
sent request = record { stage = stages.Asked (record (query_of request) { waits = [] }); fault = None }

-- the failure with which a link's fault ends a tool
abbrev pub failure_of : LinkFault → ToolFailure
failure_of faults.NotMine = failures.BadAnswer
failure_of faults.BadLine = failures.BadAnswer
failure_of faults.OutOfOrder = failures.BadAnswer
failure_of faults.TooMuchTaken = failures.BadAnswer
failure_of faults.Memory = failures.Memory
failure_of faults.BadQuery = failures.BadQuery

-- A script begins after these queries: its first query is asked if it is writable. A pause changes nothing but the
-- time.
abbrev pub begin : List ℕ → Script → Run
begin queries (Prints text) = record { queries = queries; standing = Printed text }
begin queries (Fails failure) = record { queries = queries; standing = Failed failure }
begin queries (Asks request next) =
    if is_writable request
    then record { queries = queries ++ request_line request; standing = Waits (sent request) next }
    else record { queries = queries; standing = Failed failures.BadQuery }
begin queries (Pauses next) = begin queries next

-- What follows from a line: the answer is complete; or the exchange failed; or the tool waits for more.
abbrev pub goes_on : List ℕ → (Outcome → Script) → Exchange → Option Outcome → Option LinkFault → Run
goes_on queries next e (Some outcome) fault = begin queries (next outcome)
goes_on queries next e None (Some fault) = record { queries = queries; standing = Failed (failure_of fault) }
goes_on queries next e None None = record { queries = queries; standing = Waits e next }

-- A run hears a line. A run that is over doesn't change.
abbrev pub hears : LineText → List ℕ → Standing → Run
hears line queries (Waits e next) = goes_on queries next (heard line e) (outcome_of (heard line e)) (heard line e).fault
hears line queries (Printed text) = record { queries = queries; standing = Printed text }
hears line queries (Failed failure) = record { queries = queries; standing = Failed failure }

-- the run after these lines in turn
abbrev pub after : List LineText → Run → Run
after [] run = run
after (line ∷ more) run = after more (hears line run.queries run.standing)

-- a line that is too long, before its line feed has come
abbrev pub overlong : LineText → List LineText
overlong (Text text) = []
overlong TooLong = TooLong ∷ []

-- The lines of these bytes of which a tool waits for no more: those that have ended, and the unfinished one if it is too
-- long already.
abbrev pub settled_lines : List ℕ → List LineText
settled_lines bytes = lines bytes ++ overlong (rest bytes)

-- The run of a tool whose server sends these bytes.
abbrev pub run_of : Script → List ℕ → Run
run_of script bytes = after (settled_lines bytes) (begin [] script)

-- How a tool ends if nothing more comes: with a text to print, or with a failure. If it still waits, it has lost its
-- connection.
abbrev pub ending : Standing → Result (List ℕ) ToolFailure
ending (Waits e next) = Err failures.ConnectionLost
ending (Printed text) = Ok text
ending (Failed failure) = Err failure

-- whether a tool asks nothing more
abbrev pub is_over : Standing → Bool
is_over (Waits e next) = false
is_over (Printed text) = true
is_over (Failed failure) = true

-- The bytes are some after which the run still waits, and then at most PIECE_MAX more.
pub record LastRead (run : List ℕ → Run) (bytes : List ℕ) : Type 0 where
  pub early : List ℕ
  pub late : List ℕ
  pub parted : bytes ≡ early ++ late
  pub few : length late ≤ PIECE_MAX
  pub waits : is_over (run early).standing ≡ false

-- What a tool has read: nothing, or at most PIECE_MAX bytes after some by which it still waited.
abbrev pub IsReadInTime : (List ℕ → Run) → List ℕ → Type 0
IsReadInTime run bytes = (bytes ≡ []) ⊎ LastRead run bytes

-- whether a query may have been sent in part at this failure
abbrev pub breaks_off : ToolFailure → Bool
breaks_off failures.BadArguments = false
breaks_off failures.BadName = false
breaks_off failures.NoConnection = false
breaks_off failures.ConnectionLost = true
breaks_off (failures.Refused name) = false
breaks_off failures.BadAnswer = false
breaks_off failures.Untracked = false
breaks_off (failures.Unconfirmed status) = false
breaks_off failures.BadQuery = false
breaks_off failures.Memory = true
breaks_off failures.OutputFailed = false

-- These bytes of the queries were written: all of them; or, if the connection was lost or memory could not be
-- allocated, perhaps only a beginning.
abbrev pub WasWrittenBy : ToolFailure → List ℕ → List ℕ → Type 0
WasWrittenBy failure written queries = (back : List ℕ) × (queries ≡ written ++ back) × (breaks_off failure ≡ false → back ≡ [])

abbrev pub WasWritten : {A : Type 0} → Result A ToolFailure → List ℕ → List ℕ → Type 0
WasWritten (Ok done) written queries = queries ≡ written
WasWritten (Err failure) written queries = WasWrittenBy failure written queries

-- A tool ends as its run over the bytes that it heard, unless memory could not be allocated. Of a connection whose
-- bytes are known, it heard the first, perhaps left some unheard that were read with them, and wrote its queries.
pub record Ends (script : Script) (result : Result (List ℕ) ToolFailure) (input left : Option (List ℕ))
    (before after : Option (List ℕ)) : Type 0 where
  pub heard : List ℕ
  pub unheard : List ℕ
  pub written : List ℕ
  pub read : input ≡ prepend_known (heard ++ unheard) left
  pub in_time : IsReadInTime (run_of script) (heard ++ unheard)
  pub wrote : after ≡ append_known before written
  pub ended : (result ≡ Err failures.Memory) ⊎ (result ≡ ending (run_of script heard).standing)
  pub queries : WasWritten result written (run_of script heard).queries
  -- If the connection was lost, all that was read was heard, or a query was sent only in part.
  pub lost : IfErr result (λ failure. failure ≡ failures.ConnectionLost
      → (unheard ≡ []) ⊎ (length written < length (run_of script heard).queries))

-- why the words of a command line are not available, by the kind of error with which their reading ended
abbrev pub words_failure : IoErrorKind → ToolFailure
words_failure io_kinds.OutOfMemory = failures.Memory
words_failure kind = failures.BadArguments

-- what is written of a failure to standard error
abbrev pub reason : ToolFailure → List ℕ
reason failures.BadArguments = codes "bad arguments"
reason failures.BadName = codes "bad UPS name"
reason failures.NoConnection = codes "connection failed"
reason failures.ConnectionLost = codes "connection lost"
reason (failures.Refused name) = name
reason failures.BadAnswer = codes "bad answer"
reason failures.Untracked = codes "not tracked"
reason (failures.Unconfirmed status) = status_word status
reason failures.BadQuery = codes "bad query"
reason failures.Memory = codes "out of memory"
reason failures.OutputFailed = codes "output failed"

abbrev pub error_text : ToolFailure → List ℕ
error_text failure = codes "Error: " ++ reason failure ++ 10 ∷ []

abbrev pub status_of : ToolFailure → ℕ
status_of failures.BadArguments = 2
status_of failures.BadName = 1
status_of failures.NoConnection = 1
status_of failures.ConnectionLost = 1
status_of (failures.Refused name) = 1
status_of failures.BadAnswer = 1
status_of failures.Untracked = 1
status_of (failures.Unconfirmed status) = 1
status_of failures.BadQuery = 1
status_of failures.Memory = 1
status_of failures.OutputFailed = 1

-- A failure's line is written to the error output.
abbrev pub Reports : ToolFailure → ℕ → Written → Type 0
Reports failure status err = (status ≡ status_of failure) × HasText (error_text failure) err

-- What a tool prints, and its status. A text is written to the output, with status 0; if the output fails, a beginning
-- of the text was written there, and that is reported. A failure is reported, and then nothing is written to the
-- output.
abbrev pub Tells : Result (List ℕ) ToolFailure → ℕ → Written → Written → Type 0
Tells (Ok text) status out err =
    ((status ≡ 0) × HasAll text out × IsUntouched err)
    ⊎ (IsCutShort text out × Reports failures.OutputFailed status err)
Tells (Err failure) status out err = IsUntouched out × Reports failure status err

-- The text that clap has for an error of this kind is printed as an output is, if it was asked for; else it is written
-- to the error output, with status 2.
abbrev pub is_asked_for : ErrorKind → Bool
is_asked_for kinds.DisplayHelp = true
is_asked_for kinds.DisplayVersion = true
is_asked_for other = false

abbrev pub Explains : Bool → ℕ → Written → Written → Type 0
Explains true status out err = (text : List ℕ) × Tells (Ok text) status out err
Explains false status out err = (text : List ℕ) × (status ≡ 2) × IsUntouched out × HasText text err

-- What comes back of a connection that was lent, if one was.
abbrev pub Back : Type 0 → Type 0
Back S = Unit {0} ⊎ ((MutBor S × Unit {0}) ⊎ ⊥)

module _ {S : Type 0} (remaining taken : S → Option (List ℕ)) (has_ended : S → Type 0) where
  -- How a tool ends over a connection, by its states before and after. A connection that was lost has ended or failed.
  abbrev pub EndsOver : S → S → Script → Result (List ℕ) ToolFailure → Type 0
  EndsOver before after script result =
      Ends script result (remaining before) (remaining after) (taken before) (taken after)
      × IfErr result (λ failure. failure ≡ failures.ConnectionLost → has_ended after)

  -- How a tool ends that was lent a connection, or none.
  abbrev pub EndsBy : Option (MutBor S) → Back S → Script → Result (List ℕ) ToolFailure → Type 0
  EndsBy (Some stream) (inr (inl back)) script result = EndsOver stream.now back.0.now script result
  EndsBy (Some stream) back script result = ⊥
  EndsBy None back script result = result ≡ Err failures.NoConnection

-- A connection that was lent comes back unchanged.
abbrev pub IsUnused : {S : Type 0} → Option (MutBor S) → Back S → Type 0
IsUnused (Some stream) (inr (inl back)) = back.0.now ≡ stream.now
IsUnused (Some stream) back = ⊥
IsUnused None back = ⊤

-- How a program ends. It did what its command line asks for, and tells the result. Or memory could not be allocated, or
-- its words are no such command line, and it tells that. Or clap finds a fault in the words, and its text is printed.
-- If nothing was asked, the connection isn't used.
pub data RunsAs (line : CommandLine) (ends : Script → Result (List ℕ) ToolFailure → Type 0) (unused : Type 0)
    (status : ℕ) (out err : Written) : Type 0 where
  asks : (options : Options) → line ≡ Ok (Ok options) → (result : Result (List ℕ) ToolFailure)
      → ends (script options.ups options.wanted) result → Tells result status out err → RunsAs line ends unused status out err
  refuses : (failure : ToolFailure) → (failure ≡ failures.Memory) ⊎ (line ≡ Ok (Err failure)) → unused
      → Tells (Err failure) status out err → RunsAs line ends unused status out err
  explains : (faults : Kinds) (kind : ErrorKind) → line ≡ Err faults → IsAmong kind faults → unused
      → Explains (is_asked_for kind) status out err → RunsAs line ends unused status out err
