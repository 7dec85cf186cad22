use Rattle.std.proofs.Common.{◌≡◌, ℕ, ◌++◌, Some, slice_get, [], List, ap, map, refl, subst, ◌∙◌}
use Rattle.std.proofs.lemmas.List.{append-nil}
use Rattle.nut_proto.specs.PlainQueries.{request_of}
use Rattle.nut_server_spec.specs.Answer.{Answer, answer, text_of}
use Rattle.nut_server_spec.specs.Command.{Asks}
use Rattle.nut_server_spec.specs.Content.{Content, Session, Supply}
use Rattle.nut_server_spec.specs.machine.Machine.{caller_of, scene_of}
use Rattle.nut_server.specs.declared.effect.Effect.TheVariants as effects
use Rattle.nut_server.specs.inside.Effects.{answered_by}
use Rattle.nut_server.specs.contracts.server.Parts.{the_view}
use Rattle.nut_server.specs.inside.Place.{Stands}
use Rattle.nut_server.proofs.QuietQueries.{quiet_query}
use Rattle.nut_server.proofs.Saying.{answered_all}
use Rattle.nut_server.proofs.server.Parts.answer_query.Goals as goal

pub returns-clause-ok : goal.returns-clause-ok
returns-clause-ok c =
    let new = the_view (record c.self.inside { connections = c.answer.new.self; scratch = c.write_answer.new.out }) in
    subst (λ (s : Content). (c' : ℕ) (k : Session) → Stands c' s.sessions c.args.at → slice_get s.sessions c.args.at ≡ Some k → new ≡ answered_by c' (Asks (request_of c.args.query)) (answer (scene_of s) (caller_of k) (Asks (request_of c.args.query))) s) c.self.view_is (λ c' k stands there.
    let v = the_view c.self.inside in
    let command = Asks (request_of c.args.query) in
    let R : List ℕ → List Supply → Answer = λ ns ds. answer (record (scene_of v) { numbers = ns; devices = map (λ d. d.device) ds }) (caller_of k) command in
    let is : R c.as_slice.result.now c.as_slice-2.result.now ≡ R v.numbers v.supplies =
    ap (λ ns. R ns c.as_slice-2.result.now) c.as_slice.ensures.value ∙ ap (R v.numbers) c.as_slice-2.ensures.value in
    let text = c.as_slice-3.ensures.value ∙ c.in_ok-write_answer.ensures (caller_of k) ∙ ap text_of is in
    let does = quiet_query (scene_of v) (caller_of k) c.args.query [] in
    let it : record v { sessions = c.answer.new.self; supplies = v.supplies; given = v.given } ≡ answered_by c' command (answer (scene_of v) (caller_of k) command) v =
    answered_all v c.answer.new.self v.supplies v.given c' command (R v.numbers v.supplies) effects.Nothing [] (c.as_slice-3.result.now ++ []) (append-nil c.as_slice-3.result.now ∙ text) does (c.in_ok-answer.ensures.ok c' stands) refl refl in
    it)
