-- How one query is sent and answered.
use Rattle.std.specs.Prelude.{◌≡◌, ℕ, ◌<◌, ◌≤◌, true, false, List, [], ◌++◌, length, Option, Some, None, Result, Ok, Err, IfErr, OnOk, ◌⊎◌}
use Rattle.std.specs.Io.KnownBytes.{append_known, prepend_known}
use Rattle.nut_words.specs.Hearing.{IsRest}
use Rattle.nut_words.specs.Lines.{LineText, Text, TooLong, joined, rest}
use Rattle.nut_words.specs.declared.limits.TheConstants.{PIECE_MAX}
use Rattle.nut_proto.specs.declared.request.Request.{Request}
use Rattle.nut_proto.specs.Requests.{request_line}
use Rattle.nut_link.specs.Exchange.{Exchange}
use Rattle.nut_client.specs.declared.failure.ToolFailure.{ToolFailure}
use Rattle.nut_client.specs.declared.failure.ToolFailure.TheVariants.{BadAnswer, BadQuery, ConnectionLost, Memory}
use Rattle.nut_link.specs.declared.fault.LinkFault.{LinkFault}
use Rattle.nut_link.specs.declared.outcome.Outcome.{Outcome}
use Rattle.nut_link.specs.Asking.{is_writable}
use Rattle.nut_link.specs.Link.{LinkValue, fed, outcome_of}
use Rattle.nut_client.specs.Script.{Script, Asks}
use Rattle.nut_client.specs.Tool.{IsReadInTime, Waits, failure_of, run_of, sent}
use Rattle.nut_client.specs.inside.Between.{IsAt, Point}
use Rattle.nut_client.specs.inside.Unread.{IsUnbroken, IsWhole}

-- A query waits for its answer.
abbrev pub IsWaiting : Exchange → Type 0
IsWaiting e = (e.fault ≡ None) × (outcome_of e ≡ None)

-- an unfinished line of this many bytes, which isn't too long
abbrev pub HasLength : LineText → ℕ → Type 0
HasLength line count = (text : List ℕ) × (line ≡ Text text) × (length text ≡ count)

-- A query was sent and waits for its answer, of which this many bytes of an unfinished line were heard.
pub record Awaits (link : LinkValue) (count : ℕ) : Type 0 where
  pub waits : IsWaiting link.exchange
  pub here : IsRest link.rest
  pub short : HasLength link.rest count

-- the link after a query was asked on it and sent
abbrev pub link_sent : Request → LinkValue
link_sent request = record { rest = Text []; exchange = sent request }

-- A query was sent; or it isn't writable; or the connection was lost before all of it was sent.
abbrev pub Sends : Request → Result (Unit {0}) ToolFailure → LinkValue → Option (List ℕ) → Option (List ℕ) → Type 0 → Type 0
Sends request (Ok done) link before after lost =
    (is_writable request ≡ true) × (link ≡ link_sent request) × (after ≡ append_known before (request_line request))
Sends request (Err failure) link before after lost =
    (failure ≡ BadQuery) × (is_writable request ≡ false) × (after ≡ before)
    ⊎ (failure ≡ ConnectionLost) × (is_writable request ≡ true) × lost
    × ((front : List ℕ) × (back : List ℕ) × (request_line request ≡ front ++ back)
    × (after ≡ append_known before front) × (0 < length back))

-- A part of a line, with or without its line feed, makes a query fail.
abbrev pub Spoils : LinkValue → List ℕ → ToolFailure → Type 0
Spoils before part failure =
    ((fault : LinkFault) × ((fed part before).exchange.fault ≡ Some fault) × (failure ≡ failure_of fault))
    ⊎ ((failure ≡ BadAnswer) × IsUnbroken part × (joined before.rest part ≡ TooLong))

-- The result of hearing such a part, after which this many bytes of an unfinished line were heard.
abbrev pub HearsPart : LinkValue → List ℕ → Result (Option Outcome) ToolFailure → LinkValue → ℕ → Type 0
HearsPart before part (Ok None) after count = (after ≡ fed part before) × Awaits after count
HearsPart before part (Ok (Some outcome)) after count = outcome_of (fed part before).exchange ≡ Some outcome
HearsPart before part (Err failure) after count =
    (failure ≡ Memory) ⊎ ((failure ≡ ConnectionLost) × (part ≡ [])) ⊎ Spoils before part failure

-- The next part of what the server sent was heard, at least a byte. More was read only if nothing was left to hear.
pub record Hears (before : LinkValue) (p : Point) (result : Result (Option Outcome) ToolFailure) (after : LinkValue) (count : ℕ) (p' : Point) : Type 0 where
  pub part : List ℕ
  pub read : prepend_known p.unread p.remaining ≡ prepend_known (part ++ p'.unread) p'.remaining
  pub broken : IsUnbroken part ⊎ IsWhole part
  pub reads : (part ++ p'.unread ≡ p.unread) ⊎ ((p.unread ≡ []) × (length (part ++ p'.unread) ≤ PIECE_MAX))
  pub taken : p'.taken ≡ p.taken
  pub some : OnOk result (0 < length part)
  pub lost : IfErr result (λ failure. failure ≡ ConnectionLost → (p'.unread ≡ []) × p'.has_ended)
  pub came : HearsPart before part result after count

-- A query of a script was sent and waits for its answer, by which the script continues.
pub record Listens (script : Script) (next : Outcome → Script) (input before : Option (List ℕ)) (link : LinkValue) (p : Point) : Type 0 where
  pub heard : List ℕ
  pub written : List ℕ
  pub here : link.rest ≡ rest heard
  pub runs : run_of script heard ≡ record { queries = written; standing = Waits link.exchange next }
  pub read : input ≡ prepend_known (heard ++ p.unread) p.remaining
  pub in_time : IsReadInTime (run_of script) (heard ++ p.unread)
  pub wrote : p.taken ≡ append_known before written

-- Such a query, whatever was left of a script before it was sent.
abbrev pub Asking : Request → Point → LinkValue → Point → Type 0
Asking request before link p =
    (script : Script) (next : Outcome → Script) (input taken : Option (List ℕ)) → IsAt script (Asks request next) input taken before → Listens script next input taken link p
