-- How the shutdown of a UPS is forced by hand: queries in turn, the last of which is FSD.
use Rattle.std.specs.Prelude.{ℕ, List, [], ◌∷◌, Result, Ok, Err}
use Rattle.std.specs.List.{flat_map}
use Rattle.nut_proto.specs.Requests.{request_line}
use Rattle.nut_proto.specs.declared.request.Request.{Request}
use Rattle.nut_proto.specs.declared.request.Request.TheVariants as requests
use Rattle.nut_client.specs.Script.{Script, Prints, Asks, on_done}
use Rattle.nut_client.specs.declared.failure.ToolFailure.{ToolFailure}

-- Each of these queries is asked once the one before it was answered OK. Nothing is printed.
abbrev pub in_turn : List Request → Script
in_turn [] = Prints []
in_turn (query ∷ more) = Asks query (on_done (in_turn more))

-- this query as the user of this name and password
abbrev pub user_queries : List ℕ → List ℕ → Request → List Request
user_queries user password last = requests.Username user ∷ requests.Password password ∷ last ∷ []

-- what is asked to log in to a UPS, as the user of this name and password
abbrev pub login_queries : List ℕ → List ℕ → List ℕ → List Request
login_queries ups user password = user_queries user password (requests.Login ups)

-- what is asked to force the shutdown of a UPS, as the user of this name and password
abbrev pub forcing_queries : List ℕ → List ℕ → List ℕ → List Request
forcing_queries ups user password = user_queries user password (requests.Fsd ups)

-- the lines of these queries, joined
abbrev pub query_lines : List Request → List ℕ
query_lines queries = flat_map request_line queries

-- the result of a task that has nothing to print
abbrev pub without_text : Result (Unit {0}) ToolFailure → Result (List ℕ) ToolFailure
without_text (Ok done) = Ok []
without_text (Err failure) = Err failure
