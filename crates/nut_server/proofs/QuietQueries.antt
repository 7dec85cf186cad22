-- A plain query changes nothing.
use Rattle.std.proofs.Common.{ℕ, List, refl}
use Rattle.nut_proto.specs.declared.plain.PlainQuery.{PlainQuery}
use Rattle.nut_proto.specs.declared.plain.PlainQuery.TheVariants.{GetVar, GetUpsDesc, ListVar}
use Rattle.nut_proto.specs.declared.request.ListQuery.TheVariants as queries
use Rattle.nut_proto.specs.declared.request.Request.TheVariants as requests
use Rattle.nut_proto.specs.PlainQueries.{request_of}
use Rattle.nut_server_spec.specs.Answer.{Answer, Caller, Scene, answer}
use Rattle.nut_server_spec.specs.Command.{Asks, Blank}
use Rattle.nut_server.specs.declared.effect.Effect.TheVariants as effects
use Rattle.nut_server.specs.inside.Effects.{Does}
use Rattle.nut_server.proofs.Quiet.{IsQuiet, quiet_question}
use Rattle.nut_server_spec.specs.Numbering.{with_numbers}

does_nothing : (s : Scene) (reply : Answer) (line : List ℕ) → IsQuiet reply → Does s Blank reply effects.Nothing line
does_nothing s reply line quiet = (λ k. rw (quiet.0 k.logged_out, quiet.1 (with_numbers s.configuration.upses s.numbers) k.login) refl, λ supplies. refl, rw quiet.2 refl)

pub quiet_query : (s : Scene) (k : Caller) (query : PlainQuery) (line : List ℕ)
    → Does s (Asks (request_of query)) (answer s k (Asks (request_of query))) effects.Nothing line
quiet_query s k (GetVar front ups name) line = does_nothing s _ line (quiet_question s (requests.GetVar ups.now name.now) refl)
quiet_query s k (GetUpsDesc ups) line = does_nothing s _ line (quiet_question s (requests.GetUpsDesc ups.now) refl)
quiet_query s k (ListVar ups) line = does_nothing s _ line (quiet_question s (requests.List (queries.Var ups.now)) refl)
