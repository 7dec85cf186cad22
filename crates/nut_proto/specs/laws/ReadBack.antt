-- What one side writes, the other reads as it was meant.
use Rattle.std.specs.Prelude.{◌≡◌, ℕ, ◌≤◌, List, [], ◌∷◌, length, Ok, Some, codes, decimal, IsTrue}
use Rattle.nut_words.specs.Reader.{spelled}
use Rattle.nut_words.specs.declared.limits.TheConstants.{WORDS_MAX}
use Rattle.nut_proto.specs.declared.part.Part.{Part}
use Rattle.nut_proto.specs.declared.request.Request.{Request}
use Rattle.nut_proto.specs.declared.request.Request.TheVariants as requests
use Rattle.nut_proto.specs.declared.request.ListQuery.{ListQuery}
use Rattle.nut_proto.specs.declared.reply.Reply.{Reply}
use Rattle.nut_proto.specs.declared.reply.Reply.TheVariants as replies
use Rattle.nut_proto.specs.declared.answer.Answer.{Answer}
use Rattle.nut_proto.specs.declared.answer.Answer.TheVariants as answers
use Rattle.nut_proto.specs.declared.driver_ask.DriverAsk.{DriverAsk}
use Rattle.nut_proto.specs.declared.driver_ask.DriverAsk.TheVariants as asks
use Rattle.nut_proto.specs.Tracking.{IsTrackingNumber}
use Rattle.nut_proto.specs.Lines.{AreWritable, message, message_words}
use Rattle.nut_proto.specs.Rules.{is_credential}
use Rattle.nut_proto.specs.Forms.{meaning}
use Rattle.nut_proto.specs.Refusals.{refusal_name}
use Rattle.nut_proto.specs.Requests.{request_parts, query_parts, begin_parts, end_parts}
use Rattle.nut_proto.specs.Replies.{reply_parts}
use Rattle.nut_proto.specs.DriverAsks.{ask_parts, ask_of}
use Rattle.nut_proto.specs.Answers.{answer_in}

-- At most WORDS_MAX parts spell their words.
abbrev pub MessagesSpell : Type 0
MessagesSpell = (parts : List Part) → AreWritable parts → length parts ≤ WORDS_MAX → spelled (message parts) ≡ Ok (message_words parts)

-- A user name and a password have 1 to CREDENTIAL_MAX bytes, and the number of a request is within its bounds; no other
-- word of a request has a bound of its own.
abbrev pub IsReadable : Request → Type 0
IsReadable (requests.Username name) = IsTrue (is_credential name)
IsReadable (requests.Password password) = IsTrue (is_credential password)
IsReadable (requests.GetTrackingOf number) = IsTrackingNumber number
IsReadable request = Unit {0}

-- If its parts are writable and it is readable, the line of a request spells words that mean this request.
abbrev pub RequestsAreRead : Type 0
RequestsAreRead =
    (request : Request) → AreWritable (request_parts request) → IsReadable request →
    (spelled (message (request_parts request)) ≡ Ok (message_words (request_parts request))) ×
    (meaning (message_words (request_parts request)) ≡ Ok request)

-- The request that words mean is readable.
abbrev pub ReadRequestsAreReadable : Type 0
ReadRequestsAreReadable = (words : List (List ℕ)) (request : Request) → meaning words ≡ Ok request → IsReadable request

-- what a reply is read as: a success, the name of a refusal, or else a row
abbrev pub answer_to : Reply → Answer
answer_to replies.Accepted = answers.Ok []
answer_to (replies.AcceptedAs number) = answers.Ok (codes "TRACKING" ∷ decimal number ∷ [])
answer_to replies.FsdSet = answers.Ok (codes "FSD-SET" ∷ [])
answer_to replies.Goodbye = answers.Ok (codes "Goodbye" ∷ [])
answer_to (replies.Refused refusal) = answers.Err (refusal_name refusal)
answer_to reply = answers.Row (message_words (reply_parts reply))

-- If its parts are writable, the line of a reply is read as `answer_to` that reply.
abbrev pub RepliesAreRead : Type 0
RepliesAreRead = (reply : Reply) → AreWritable (reply_parts reply) → answer_in (message (reply_parts reply)) ≡ Ok (answer_to reply)

-- If the parts of a query are writable, the lines before and after the rows of its list are read as the beginning and
-- the end of a list, with the words of the query.
abbrev pub ListsAreRead : Type 0
ListsAreRead =
    (query : ListQuery) → AreWritable (query_parts query) →
    (answer_in (message (begin_parts query)) ≡ Ok (answers.Begin (message_words (query_parts query)))) ×
    (answer_in (message (end_parts query)) ≡ Ok (answers.End (message_words (query_parts query))))

-- If a request to a driver has a number, it is within its bounds.
abbrev pub IsNumbered : DriverAsk → Type 0
IsNumbered (asks.Set variable value (Some number)) = IsTrackingNumber number
IsNumbered (asks.InstCmd command parameter (Some number)) = IsTrackingNumber number
IsNumbered ask = Unit {0}

-- If its parts are writable and its number is within its bounds, the line of a request to a driver spells words that
-- make this request.
abbrev pub AsksAreRead : Type 0
AsksAreRead =
    (ask : DriverAsk) → AreWritable (ask_parts ask) → IsNumbered ask →
    (spelled (message (ask_parts ask)) ≡ Ok (message_words (ask_parts ask))) ×
    (ask_of (message_words (ask_parts ask)) ≡ Some ask)
