-- A query that was asked.
use Rattle.std.specs.Prelude.{ℕ, ◌≤◌, nat_le, Bool, ◌&&◌, List, length, Option, None}
use Rattle.std.specs.Option.{option_map_or}
use Rattle.std.specs.List.{list_all}
use Rattle.nut_words.specs.Spelling.{is_printing}
use Rattle.nut_words.specs.declared.limits.TheConstants.{LINE_MAX}
use Rattle.nut_proto.specs.declared.request.Request.{Request}
use Rattle.nut_proto.specs.Lines.{message}
use Rattle.nut_proto.specs.Requests.{request_parts, request_line}
use Rattle.nut_link.specs.declared.expected.ExpectedAnswer.{ExpectedAnswer}
use Rattle.nut_link.specs.Matching.{expected}
use Rattle.nut_proto.specs.declared.limits.TheConstants.{ROWS_MAX}

-- What a query expects, the bytes of its line that the server hasn't taken yet, and the rows of its list so far once
-- the list has begun.
pub record Asked : Type 0 where
  pub expected : ExpectedAnswer
  pub waits : List ℕ
  pub rows : Option (List (List (List ℕ)))

-- the query of a request before the server took any of it
abbrev pub query_of : Request → Asked
query_of request = record { expected = expected request; waits = request_line request; rows = None }

-- whether a request can be written: its line has at most LINE_MAX bytes before its line feed, each of them 0x20 to 0x7E
abbrev pub is_writable : Request → Bool
is_writable request =
    nat_le (length (message (request_parts request))) LINE_MAX && list_all is_printing (message (request_parts request))

-- a list has at most ROWS_MAX rows
abbrev pub HasFewRows : Option (List (List (List ℕ))) → Type 0
HasFewRows rows = option_map_or (λ r. length r) rows 0 ≤ ROWS_MAX
