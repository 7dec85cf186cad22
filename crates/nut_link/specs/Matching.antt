-- What answer a request expects, and when a line matches it (RFC 9271).
use Rattle.std.specs.Prelude.{ℕ, ◌+◌, ◌==◌, ◌&&◌, nat_le, nat_lt, Bool, true, false, List, [], ◌∷◌, ◌++◌, length, drop, Option, Some, None, is_some, Result, Ok, Err, codes, if◌then◌else◌}
use Rattle.std.specs.List.{list_all}
use Rattle.std.specs.Str.{bytes_eq}
use Rattle.nut_words.specs.Number.{is_natural}
use Rattle.nut_words.specs.declared.limits.TheConstants.{LINE_MAX}
use Rattle.nut_proto.specs.declared.answer.Answer.{Answer}
use Rattle.nut_proto.specs.declared.answer.Answer.TheVariants as answers
use Rattle.nut_proto.specs.declared.request.ListQuery.{ListQuery}
use Rattle.nut_proto.specs.declared.request.ListQuery.TheVariants as queries
use Rattle.nut_proto.specs.declared.request.Request.{Request}
use Rattle.nut_proto.specs.declared.request.Request.TheVariants as requests
use Rattle.nut_proto.specs.Lines.{message_words}
use Rattle.nut_proto.specs.Positions.{word_at}
use Rattle.nut_proto.specs.Requests.{query_parts, request_parts}
use Rattle.nut_proto.specs.Tracking.{tracking_number}
use Rattle.nut_link.specs.declared.expected.ExpectedAnswer.{ExpectedAnswer}
use Rattle.nut_link.specs.declared.expected.AnswerKind.{AnswerKind}
use Rattle.nut_link.specs.declared.expected.AnswerKind.TheVariants as kinds
use Rattle.nut_link.specs.declared.expected.More.{More}
use Rattle.nut_link.specs.declared.expected.More.TheVariants as mores
use Rattle.nut_link.specs.declared.fault.LinkFault.{LinkFault}
use Rattle.nut_link.specs.declared.fault.LinkFault.TheVariants.{NotMine, BadLine}
use Rattle.nut_link.specs.declared.outcome.Outcome.{Outcome}
use Rattle.nut_link.specs.declared.outcome.Outcome.TheVariants as outcomes
use Rattle.nut_proto.specs.declared.limits.TheConstants.{ROWS_MAX}

-- the words behind GET in a request, which its answer repeats
abbrev pub heading_of : Request → List (List ℕ)
heading_of request = drop 1 (message_words (request_parts request))

-- which words follow those of the query in the answer to a GET: one, which for NUMLOGINS is a number; for TYPE one or more
abbrev pub more_of : Request → More
more_of (requests.GetNumLogins ups) = mores.Number
more_of (requests.GetType ups variable) = mores.OneOrMore
more_of request = mores.One

-- how many words follow those of the query in a row of a list
abbrev pub columns : ListQuery → ℕ
columns queries.Ups = 2
columns (queries.Var ups) = 2
columns (queries.Rw ups) = 2
columns (queries.Cmd ups) = 1
columns (queries.Enum ups variable) = 1
columns (queries.Range ups variable) = 2
columns (queries.Client ups) = 1

-- what a LIST expects: the words behind LIST in its first and last line, and rows that begin with them and have this
-- many further words
abbrev pub listing : ListQuery → ExpectedAnswer
listing query = record { kind = kinds.Listing (columns query); heading = message_words (query_parts query) }

-- an answer that repeats no words
abbrev pub unheaded : AnswerKind → ExpectedAnswer
unheaded kind = record { kind = kind; heading = [] }

-- What a request expects. The commands that are answered `OK`: that, for SET VAR and INSTCMD perhaps with the number under
-- which they are tracked. VER, NETVER and HELP: any line. STARTTLS: only a refusal. Each GET: the words behind it and more.
abbrev pub expected : Request → ExpectedAnswer
expected (requests.List query) = listing query
expected (requests.SetVar ups variable value) = unheaded kinds.NumberedSuccess
expected (requests.SetTracking on) = unheaded kinds.Success
expected (requests.InstCmd ups command parameter) = unheaded kinds.NumberedSuccess
expected (requests.Username name) = unheaded kinds.Success
expected (requests.Password password) = unheaded kinds.Success
expected (requests.Login ups) = unheaded kinds.Success
expected (requests.Primary ups) = unheaded kinds.Success
expected (requests.Fsd ups) = unheaded kinds.Success
expected requests.Logout = unheaded kinds.Success
expected requests.Ver = unheaded kinds.AnyLine
expected requests.NetVer = unheaded kinds.AnyLine
expected requests.Help = unheaded kinds.AnyLine
expected requests.StartTls = unheaded kinds.Refusal
expected request = record { kind = kinds.Line (more_of request); heading = heading_of request }

-- These words begin with those of the heading, byte for byte.
abbrev pub begins : List (List ℕ) → List (List ℕ) → Bool
begins [] words = true
begins (first ∷ others) [] = false
begins (first ∷ others) (word ∷ words) = bytes_eq first word && begins others words

-- whether the words behind the query's are as many as there have to be, and of the right kind
abbrev pub has_more : More → List (List ℕ) → Bool
has_more mores.One words = length words == 1
has_more mores.Number words = length words == 1 && list_all is_natural words
has_more mores.OneOrMore words = nat_le 1 (length words)

-- whether the words behind OK are `TRACKING` and a number
abbrev pub is_numbered : List (List ℕ) → Bool
is_numbered words = length words == 2 && bytes_eq (word_at words 0) (codes "TRACKING") && is_some (tracking_number (word_at words 1))

-- What a line that matches does to a query: its list has more rows, with these so far, or it is complete.
pub data Progress : Type 0 where
  Listing : List (List (List ℕ)) → Progress
  Complete : Outcome → Progress

-- the words are exactly those of the heading
abbrev pub is_heading : List (List ℕ) → List (List ℕ) → Bool
is_heading heading words = length words == length heading && begins heading words

-- the words are those of the heading and `count` further ones
abbrev pub is_row : List (List ℕ) → ℕ → List (List ℕ) → Bool
is_row heading count words = length words == length heading + count && begins heading words

-- the words are those of the heading and further ones that fit
abbrev pub is_line : List (List ℕ) → More → List (List ℕ) → Bool
is_line heading more words = begins heading words && has_more more (drop (length heading) words)

-- What the first line does to a query. A refusal answers any query.
abbrev pub first : AnswerKind → List (List ℕ) → Answer → Result Progress LinkFault
first kind heading (answers.Err name) = Ok (Complete (outcomes.Refused name))
first kinds.Success heading (answers.Ok words) = Ok (Complete outcomes.Done)
first kinds.NumberedSuccess heading (answers.Ok words) =
    if is_numbered words then Ok (Complete (outcomes.Said (drop 1 words))) else Ok (Complete outcomes.Done)
first (kinds.Line more) heading (answers.Row words) =
    if is_line heading more words then Ok (Complete (outcomes.Said (drop (length heading) words))) else Err NotMine
first kinds.AnyLine heading (answers.Row words) = Ok (Complete (outcomes.Said words))
first (kinds.Listing count) heading (answers.Begin words) = if is_heading heading words then Ok (Listing []) else Err NotMine
first kind heading answer = Err NotMine

-- What a line behind the beginning of a list makes of it, which has these rows so far: one more, of ROWS_MAX, or its end.
abbrev pub next : AnswerKind → List (List ℕ) → List (List (List ℕ)) → Answer → Result Progress LinkFault
next (kinds.Listing count) heading rows (answers.Row words) =
    if is_row heading count words
    then (if nat_lt (length rows) ROWS_MAX then Ok (Listing (rows ++ drop (length heading) words ∷ [])) else Err BadLine)
    else Err NotMine
next (kinds.Listing count) heading rows (answers.End words) =
    if is_heading heading words then Ok (Complete (outcomes.List rows)) else Err NotMine
next kind heading rows answer = Err NotMine

-- What a line does to a query that expects this. `rows` are those of its list so far, once that has begun. A line that
-- doesn't match is `NotMine`.
abbrev pub progress : ExpectedAnswer → Option (List (List (List ℕ))) → Answer → Result Progress LinkFault
progress e None answer = first e.kind e.heading answer
progress e (Some rows) answer = next e.kind e.heading rows answer

-- more bytes than a line has
abbrev pub is_long : List ℕ → Bool
is_long word = nat_lt LINE_MAX (length word)
