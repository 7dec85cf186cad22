-- The words in which a message is written are read as what was meant.
use Rattle.std.proofs.Common.{◌≡◌, ℕ, ◌≤◌, Bool, true, false, List, [], ◌∷◌, length, IsTrue, refl, ◌∙◌, cond, ap, arith, Option, Some, None, Ok, codes, decimal}
use Rattle.std.specs.Option.{option_map, ok_or}
use Rattle.nut_words.specs.Quoting.{IsPrintable}
use Rattle.nut_proto.specs.declared.refusal.Refusal.TheVariants.{InvalidArgument}
use Rattle.nut_proto.specs.declared.request.Request.{Request}
use Rattle.nut_proto.specs.declared.request.Request.TheVariants as requests
use Rattle.nut_proto.specs.declared.request.ListQuery.{ListQuery}
use Rattle.nut_proto.specs.declared.request.ListQuery.TheVariants as queries
use Rattle.nut_proto.specs.declared.reply.Reply.{Reply}
use Rattle.nut_proto.specs.declared.reply.Reply.TheVariants as replies
use Rattle.nut_proto.specs.declared.answer.Answer.TheVariants as answers
use Rattle.nut_proto.specs.declared.driver_ask.DriverAsk.{DriverAsk}
use Rattle.nut_proto.specs.declared.driver_ask.DriverAsk.TheVariants as asks
use Rattle.nut_proto.specs.Lines.{message_words}
use Rattle.nut_proto.specs.Keywords.{command_of}
use Rattle.nut_proto.specs.Rules.{is_credential}
use Rattle.nut_proto.specs.Forms.{meaning}
use Rattle.nut_proto.specs.Requests.{about, begin_parts, end_parts, list_forms, query_parts, request_parts}
use Rattle.nut_proto.specs.Replies.{reply_parts}
use Rattle.nut_proto.specs.DriverAsks.{ask_parts, ask_of, number_of}
use Rattle.nut_proto.specs.Answers.{answer_of, answer_for}
use Rattle.nut_proto.specs.laws.ReadBack.{IsReadable, IsNumbered, RequestsAreRead, RepliesAreRead, ListsAreRead, AsksAreRead, answer_to}
use Rattle.nut_proto.specs.Tracking.{IsTrackingNumber}
use Rattle.nut_proto.proofs.Spelling.{message_spelled}
use Rattle.nut_proto.proofs.Numbers.{number_back}

accepted : (b : Bool) (x : List ℕ) (request : List ℕ → Request) → IsTrue b → ok_or (option_map (λ y. request y) (cond b (Some x) None)) InvalidArgument ≡ Ok (request x)
accepted true x request h = refl
accepted false x request h = cc

query_back : (query : ListQuery) → about list_forms (message_words (query_parts query)) ≡ Some query
query_back queries.Ups = refl
query_back query = refl

meaning_back : (request : Request) → IsReadable request → meaning (message_words (request_parts request)) ≡ Ok request
unfolding meaning command_of
meaning_back (requests.List query) h = ap (λ (made : Option ListQuery). ok_or (option_map (λ q. requests.List q) made) InvalidArgument) (query_back query)
meaning_back (requests.GetTrackingOf number) h = ap (λ (read : Option ℕ). ok_or (option_map (λ n. requests.GetTrackingOf n) read) InvalidArgument) (number_back number h)
meaning_back (requests.SetTracking true) h = refl
meaning_back (requests.SetTracking false) h = refl
meaning_back (requests.InstCmd ups command None) h = refl
meaning_back (requests.InstCmd ups command (Some parameter)) h = refl
meaning_back (requests.Username name) h = accepted (is_credential name) name requests.Username h
meaning_back (requests.Password password) h = accepted (is_credential password) password requests.Password h
meaning_back request h = refl

short_query : (query : ListQuery) → length (query_parts query) ≤ 3
short_query queries.Ups = omega arith
short_query query = omega arith

short_request : (request : Request) → length (request_parts request) ≤ 32
short_request (requests.List query) = omega (arith, short_query query)
short_request (requests.InstCmd ups command None) = omega arith
short_request (requests.InstCmd ups command (Some parameter)) = omega arith
short_request request = omega arith

pub requests_are_read : RequestsAreRead
requests_are_read request writable readable = (message_spelled (request_parts request) writable (short_request request), meaning_back request readable)

words_back : (reply : Reply) → answer_for (Ok (message_words (reply_parts reply))) ≡ Ok (answer_to reply)
unfolding answer_of
words_back (replies.Type ups variable true kind) = refl
words_back (replies.Type ups variable false kind) = refl
words_back reply = refl

short_reply : (reply : Reply) → length (reply_parts reply) ≤ 32
short_reply (replies.Type ups variable true kind) = omega arith
short_reply (replies.Type ups variable false kind) = omega arith
short_reply reply = omega arith

pub replies_are_read : RepliesAreRead
replies_are_read reply writable = ap answer_for (message_spelled (reply_parts reply) writable (short_reply reply)) ∙ words_back reply

begin_back : (query : ListQuery) → answer_for (Ok (message_words (begin_parts query))) ≡ Ok (answers.Begin (message_words (query_parts query)))
unfolding answer_of
begin_back query = refl

end_back : (query : ListQuery) → answer_for (Ok (message_words (end_parts query))) ≡ Ok (answers.End (message_words (query_parts query)))
unfolding answer_of
end_back query = refl

begin_writable : IsPrintable (codes "BEGIN")
begin_writable = (refl, (refl, (refl, (refl, (refl, tt)))))

end_writable : IsPrintable (codes "END")
end_writable = (refl, (refl, (refl, tt)))

list_writable : IsPrintable (codes "LIST")
list_writable = (refl, (refl, (refl, (refl, tt))))

pub lists_are_read : ListsAreRead
lists_are_read query writable = (
  ap answer_for (message_spelled (begin_parts query) (begin_writable, (list_writable, writable)) (omega (arith, short_query query))) ∙ begin_back query,
  ap answer_for (message_spelled (end_parts query) (end_writable, (list_writable, writable)) (omega (arith, short_query query))) ∙ end_back query,
)

numbered_back : (number : ℕ) → IsTrackingNumber number → number_of (codes "TRACKING" ∷ decimal number ∷ []) ≡ Some (Some number)
numbered_back number h = ap (λ (read : Option ℕ). option_map (λ n. Some n) read) (number_back number h)

ask_back : (ask : DriverAsk) → IsNumbered ask → ask_of (message_words (ask_parts ask)) ≡ Some ask
unfolding ask_of
ask_back (asks.Set variable value (Some number)) h = ap (λ (read : Option (Option ℕ)). option_map (λ n. asks.Set variable value n) read) (numbered_back number h)
ask_back (asks.InstCmd command None (Some number)) h = ap (λ (read : Option (Option ℕ)). option_map (λ n. asks.InstCmd command None n) read) (numbered_back number h)
ask_back (asks.InstCmd command (Some parameter) (Some number)) h = ap (λ (read : Option (Option ℕ)). option_map (λ n. asks.InstCmd command (Some parameter) n) read) (numbered_back number h)
ask_back ask h = refl

short_ask : (ask : DriverAsk) → length (ask_parts ask) ≤ 32
short_ask (asks.Set variable value (Some number)) = omega arith
short_ask (asks.InstCmd command None (Some number)) = omega arith
short_ask (asks.InstCmd command (Some parameter) (Some number)) = omega arith
short_ask ask = omega arith

pub asks_are_read : AsksAreRead
asks_are_read ask writable numbered = (message_spelled (ask_parts ask) writable (short_ask ask), ask_back ask numbered)
