-- A query that is being sent.
use Rattle.std.specs.Prelude.{◌≡◌, ℕ, List, [], ◌++◌, Option, None}
use Rattle.std.specs.Io.KnownBytes.{append_known}
use Rattle.nut_words.specs.Lines.{Text}
use Rattle.nut_proto.specs.declared.request.Request.{Request}
use Rattle.nut_proto.specs.Requests.{request_line}
use Rattle.nut_link.specs.Exchange as stages
use Rattle.nut_link.specs.Asking.{query_of}
use Rattle.nut_link.specs.Link.{LinkValue}

-- the link on which a query was asked, while these of its bytes wait
abbrev pub link_sending : Request → List ℕ → LinkValue
link_sending request waits =
    record { rest = Text []; exchange = record { stage = stages.Asked (record (query_of request) { waits = waits }); fault = None } }

-- A front of the query was taken, and the rest waits.
pub record IsSending (request : Request) (link : LinkValue) (before after : Option (List ℕ)) : Type 0 where
  pub front : List ℕ
  pub back : List ℕ
  pub parted : request_line request ≡ front ++ back
  pub waits : link ≡ link_sending request back
  pub wrote : after ≡ append_known before front
