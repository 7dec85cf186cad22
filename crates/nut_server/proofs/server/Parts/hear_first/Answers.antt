use Rattle.std.proofs.Common.{◌≡◌, Some, ap, sym, subst, ◌∙◌, slice_get}
use Rattle.nut_proto.specs.PlainQueries.{request_of}
use Rattle.std.proofs.lemmas.Result.{err_from_is_err_and}
use Rattle.nut_server_spec.specs.Answer.{answer}
use Rattle.nut_server_spec.specs.Command.{Asks}
use Rattle.nut_server_spec.specs.Content.{Content}
use Rattle.nut_server_spec.specs.machine.Machine.{caller_of, scene_of}
use Rattle.nut_server.specs.inside.Effects.{answered_by}
use Rattle.nut_server.specs.inside.Place.{Stands}
use Rattle.nut_server.proofs.PlainLines.{plain_heard, plain_missed}
use Rattle.nut_server.proofs.server.Parts.hear_first.Goals as goal

pub returns-in_err-hear_query : goal.returns-in_err-hear_query
returns-in_err-hear_query c = record {
  ok = λ c' k stands there.
      let found : Some c.at-client.result.now ≡ Some k = sym c.at-client.ensures ∙ ap (λ s. slice_get s.sessions c.args.at) c.self.view_is ∙ there in
      let same : c.at-client.result.now ≡ k = cc in
      let fault = err_from_is_err_and c.from_residual.result c.from_residual.ensures.1 in
      rw fault.1
      (plain_missed k c.args.bytes.now c.in-Some.after.now c.args.self.now _ (request_of c.in-Some.query) c.in-Some.ensures.told
      (ap (λ k. k.rest) (sym same) ∙ c.is_at_start.ensures.0 c.if-not-is_at_start.false)
      (ap (λ k. k.logged_out) (sym same) ∙ sym c.has_logged_out.ensures ∙ c.if-not-has_logged_out.true)
      (c.in_err-hear_query.ensures.err ∙ c.self.view_is));
}

pub returns : goal.returns
returns c = record {
  ok = λ c' k stands there.
      let found : Some c.at-client.result.now ≡ Some k = sym c.at-client.ensures ∙ ap (λ s. slice_get s.sessions c.args.at) c.self.view_is ∙ there in
      let same : c.at-client.result.now ≡ k = cc in
      plain_heard c' k c.args.bytes.now c.in-Some.after.now c.args.self.now c.hear_query.new.self (request_of c.in-Some.query) c.in-Some.ensures.told
      (ap (λ k. k.rest) (sym same) ∙ c.is_at_start.ensures.0 c.if-not-is_at_start.false)
      (ap (λ k. k.logged_out) (sym same) ∙ sym c.has_logged_out.ensures ∙ c.if-not-has_logged_out.true)
      (subst (λ (s : Content). Stands c' s.sessions c.args.at → slice_get s.sessions c.args.at ≡ Some k
      → c.hear_query.new.self ≡ answered_by c' (Asks (request_of c.in-Some.query)) (answer (scene_of s) (caller_of k) (Asks (request_of c.in-Some.query))) s)
      c.self.view_is (c.in_ok-hear_query.ensures.ok c' k) stands there);
}
