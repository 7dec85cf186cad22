-- What holds of every link. Each of these is the contract of a function of the crate.
use Rattle.std.specs.Prelude.{◌≡◌, ℕ, ℤ, ◌<◌, ◌^◌, Bool, false, if◌then◌else◌, List, [], ◌∷◌, ◌++◌, length, Option, Some, None, Ok, codes, decimal}
use Rattle.std.specs.Fmt.{signed_decimal}
use Rattle.std.specs.List.{All}
use Rattle.nut_words.specs.Lines.{Text}
use Rattle.nut_proto.specs.declared.answer.Answer.TheVariants as answers
use Rattle.nut_proto.specs.declared.reply.Reply.{Reply}
use Rattle.nut_proto.specs.declared.reply.Reply.TheVariants as replies
use Rattle.nut_proto.specs.declared.reply.VariableKind.{VariableKind}
use Rattle.nut_proto.specs.declared.limits.TheConstants.{ROWS_MAX}
use Rattle.nut_proto.specs.declared.request.ListQuery.{ListQuery}
use Rattle.nut_proto.specs.declared.request.ListQuery.TheVariants as queries
use Rattle.nut_proto.specs.declared.request.Request.{Request}
use Rattle.nut_proto.specs.declared.request.Request.TheVariants as requests
use Rattle.nut_proto.specs.declared.tracking.TrackingStatus.{TrackingStatus}
use Rattle.nut_proto.specs.Lines.{message_words, part_word}
use Rattle.nut_proto.specs.laws.ReadBack.{answer_to}
use Rattle.nut_proto.specs.Refusals.{refusal_name}
use Rattle.nut_proto.specs.Replies.{commands_parts, kind_part, version_parts}
use Rattle.nut_proto.specs.Requests.{query_parts}
use Rattle.nut_proto.specs.Tracking.{IsTrackingNumber, status_word, switch_word}
use Rattle.nut_proto.specs.declared.refusal.Refusal.{Refusal}
use Rattle.nut_link.specs.declared.outcome.Outcome.{Outcome}
use Rattle.nut_link.specs.declared.outcome.Outcome.TheVariants as outcomes
use Rattle.nut_link.specs.Hearing.{may_take_memory}
use Rattle.nut_link.specs.Exchange.{Exchange}
use Rattle.nut_link.specs.Bounds.{IsBounded, IsStageBounded}
use Rattle.nut_link.specs.Link.{LinkValue, asked, fed, fresh, taken, taken_out}
use Rattle.nut_link.specs.Matching.{Listing, Complete, expected, listing, progress}
use Rattle.nut_words.specs.Hearing.{IsRest}

-- However what the server sends is cut into pieces, it makes the same of a link.
abbrev pub CutsDoNotMatter : Type 0
CutsDoNotMatter = (v : LinkValue) (x y : List ℕ) → IsRest v.rest → fed (x ++ y) v ≡ fed y (fed x v)

-- What a link keeps stays the unfinished line of some stream.
abbrev pub RestsStay : Type 0
RestsStay = (v : LinkValue) (x : List ℕ) → IsRest v.rest → IsRest (fed x v).rest

-- The line `OK` takes no memory.
abbrev pub OkTakesNoMemory : Type 0
OkTakesNoMemory = may_take_memory (Text (codes "OK")) ≡ false

-- The server's reply answers the request, and this comes of it.
abbrev pub Answers : Request → Reply → Outcome → Type 0
Answers request reply outcome = progress (expected request) None (answer_to reply) ≡ Ok (Complete outcome)

-- The server's row adds these words to a list that has room for one more.
abbrev pub Adds : ListQuery → Reply → List (List ℕ) → Type 0
Adds query row words =
    (rows : List (List (List ℕ))) → length rows < ROWS_MAX → progress (listing query) (Some rows) (answer_to row) ≡ Ok (Listing (rows ++ words ∷ []))

-- what GET TYPE says of a variable: `RW` if it may be set, and the kind of its values
abbrev pub type_words : Bool → VariableKind → List (List ℕ)
type_words writable kind = if writable then codes "RW" ∷ part_word (kind_part kind) ∷ [] else part_word (kind_part kind) ∷ []

-- a request, the server's reply to it, and the words that a client then reads
abbrev pub Case : Type 0
Case = Request × Reply × List (List ℕ)

-- each GET
abbrev pub gets : (ups name text : List ℕ) (count number : ℕ) (flag : Bool) (kind : VariableKind) (status : TrackingStatus) → List Case
gets ups name text count number flag kind status =
    (requests.GetNumLogins ups, replies.NumLogins ups count, decimal count ∷ [])
    ∷ (requests.GetUpsDesc ups, replies.UpsDesc ups text, text ∷ [])
    ∷ (requests.GetVar ups name, replies.Var ups name text, text ∷ [])
    ∷ (requests.GetType ups name, replies.Type ups name flag kind, type_words flag kind)
    ∷ (requests.GetDesc ups name, replies.Desc ups name text, text ∷ [])
    ∷ (requests.GetCmdDesc ups name, replies.CmdDesc ups name text, text ∷ [])
    ∷ (requests.GetTracking, replies.TrackingIs flag, switch_word flag ∷ [])
    ∷ (requests.GetTrackingOf number, replies.Tracking number status, status_word status ∷ [])
    ∷ []

-- A link accepts what the server replies to each request as its answer, and each row of a list as one more row. A refusal is an
-- answer whatever was asked, and STARTTLS has no other. A count of logins has at most 9 digits.
pub record RepliesMatch : Type 0 where
  pub refused : (request : Request) (refusal : Refusal) →
      Answers request (replies.Refused refusal) (outcomes.Refused (refusal_name refusal))
  pub of_get : (ups name text : List ℕ) (count number : ℕ) (flag : Bool) (kind : VariableKind) (status : TrackingStatus) → count < 10 ^ 9 →
      All (λ case. Answers case.0 case.1 (outcomes.Said case.2)) (gets ups name text count number flag kind status)
  -- what changes something
  pub set : (ups variable text : List ℕ) → Answers (requests.SetVar ups variable text) replies.Accepted outcomes.Done
  pub set_as : (ups variable text : List ℕ) (number : ℕ) → IsTrackingNumber number →
      Answers (requests.SetVar ups variable text) (replies.AcceptedAs number) (outcomes.Said (decimal number ∷ []))
  pub instructed : (ups name : List ℕ) (parameter : Option (List ℕ)) →
      Answers (requests.InstCmd ups name parameter) replies.Accepted outcomes.Done
  pub instructed_as : (ups name : List ℕ) (parameter : Option (List ℕ)) (number : ℕ) → IsTrackingNumber number →
      Answers (requests.InstCmd ups name parameter) (replies.AcceptedAs number) (outcomes.Said (decimal number ∷ []))
  pub switched : (on : Bool) → Answers (requests.SetTracking on) replies.Accepted outcomes.Done
  pub user : (name : List ℕ) → Answers (requests.Username name) replies.Accepted outcomes.Done
  pub password : (text : List ℕ) → Answers (requests.Password text) replies.Accepted outcomes.Done
  pub login : (ups : List ℕ) → Answers (requests.Login ups) replies.Accepted outcomes.Done
  pub primary : (ups : List ℕ) → Answers (requests.Primary ups) replies.Accepted outcomes.Done
  pub shutdown : (ups : List ℕ) → Answers (requests.Fsd ups) replies.FsdSet outcomes.Done
  pub logout : Answers requests.Logout replies.Goodbye outcomes.Done
  -- what asks for a text
  pub version : Answers requests.Ver replies.Version (outcomes.Said (message_words version_parts))
  pub network_version : Answers requests.NetVer replies.NetworkVersion (outcomes.Said (codes "1.3" ∷ []))
  pub commands : Answers requests.Help replies.Commands (outcomes.Said (message_words commands_parts))
  -- LIST
  pub begins : (query : ListQuery) → progress (listing query) None (answers.Begin (message_words (query_parts query))) ≡ Ok (Listing [])
  pub of_ups : (ups text : List ℕ) → Adds queries.Ups (replies.Ups ups text) (ups ∷ text ∷ [])
  pub of_var : (ups variable text : List ℕ) → Adds (queries.Var ups) (replies.Var ups variable text) (variable ∷ text ∷ [])
  pub of_rw : (ups variable text : List ℕ) → Adds (queries.Rw ups) (replies.Rw ups variable text) (variable ∷ text ∷ [])
  pub of_cmd : (ups name : List ℕ) → Adds (queries.Cmd ups) (replies.Cmd ups name) (name ∷ [])
  pub of_enum : (ups variable text : List ℕ) → Adds (queries.Enum ups variable) (replies.Enum ups variable text) (text ∷ [])
  pub of_range : (ups variable : List ℕ) (minimum maximum : ℤ) →
      Adds (queries.Range ups variable) (replies.Range ups variable minimum maximum) (signed_decimal minimum ∷ signed_decimal maximum ∷ [])
  pub of_client : (ups address : List ℕ) → Adds (queries.Client ups) (replies.Client ups address) (address ∷ [])
  pub ends : (query : ListQuery) (rows : List (List (List ℕ))) →
      progress (listing query) (Some rows) (answers.End (message_words (query_parts query))) ≡ Ok (Complete (outcomes.List rows))

-- A new link keeps no more than it may, and no call but `feed` makes it keep more. Of `feed` its own contract says so.
pub record BoundsStay : Type 0 where
  pub begun : IsBounded fresh
  pub asks : (request : Request) (e : Exchange) → IsStageBounded e.stage → IsStageBounded (asked request e).stage
  pub takes : (n : ℕ) (e : Exchange) → IsStageBounded e.stage → IsStageBounded (taken n e).stage
  pub takes_out : (e : Exchange) → IsStageBounded e.stage → IsStageBounded (taken_out e).stage
