-- What a client is shown of the status of a UPS.
use Rattle.std.specs.Prelude.{ℕ, ◌≡◌, if◌then◌else◌, List, ◌++◌, codes, Option, Some, option_map}
use Rattle.nut_state.specs.Step.{table_of}
use Rattle.nut_state.specs.Table.{variable}
use Rattle.nut_proto.specs.declared.request.Request.TheVariants as requests
use Rattle.nut_proto.specs.declared.reply.Reply.TheVariants as replies
use Rattle.nut_server_spec.specs.Answer.{Caller, Line, answer_request, ups_number}
use Rattle.nut_server_spec.specs.Configuration.{Configuration}
use Rattle.nut_server_spec.specs.Content.{past}
use Rattle.nut_server_spec.specs.Event.{Event}
use Rattle.nut_server_spec.specs.Trace.{Entry, forced, reports, scene}

-- The status in the table of u, which the driver set last (law `every_table_holds` of nut_state), and before it `FSD ` if
-- a shutdown of u was forced. None if the driver set none, or deleted it since.
abbrev pub status_set : Configuration → ℕ → List Entry → Option (List ℕ)
status_set first u past =
    option_map (λ v. if forced first u past then codes "FSD " ++ v.value else v.value) (variable (table_of (reports u past)) (codes "ups.status"))

-- A status that a client is shown is what the driver of that UPS set last, with at most `FSD ` before it: the server has no
-- other word of its own.
abbrev pub StatusIsTheDrivers : Type 0
StatusIsTheDrivers =
    (first : Configuration) (h : List Event) (k : Caller) (ups text : List ℕ) →
    answer_request (scene first (past first h)) k (requests.GetVar ups (codes "ups.status")) ≡ Line (replies.Var ups (codes "ups.status") text) →
    (u : ℕ) × (ups_number (scene first (past first h)) ups ≡ Some u) × (status_set first u (past first h) ≡ Some text)
