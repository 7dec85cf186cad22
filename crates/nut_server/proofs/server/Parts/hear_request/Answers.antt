use Rattle.std.proofs.Common.{◌≡◌, ℕ, ◌++◌, ◌<◌, List, [], Some, ap, arith, length, sym, subst, ◌∙◌, map}
use Rattle.nut_server_spec.specs.Answer.{Answer, answer, text_of}
use Rattle.nut_server_spec.specs.Command.{asked}
use Rattle.nut_server_spec.specs.Content.{Session, Supply}
use Rattle.nut_server_spec.specs.machine.Machine.{caller_of, scene_of}
use Rattle.nut_server.specs.inside.Answers.{given}
use Rattle.nut_server.specs.inside.Effects.{Does, acting}
use Rattle.nut_server.specs.contracts.server.Parts.{the_view}
use Rattle.nut_server.specs.inside.Decisions.{AreThere}
use Rattle.nut_server.proofs.Numbered.{are_there}
use Rattle.nut_server.proofs.Saying.{answered_all}
use Rattle.std.specs.List.{AllByRecursion}
use Rattle.std.proofs.lemmas.List.{append-nil}
use Rattle.std.proofs.lemmas.Result.{err_from_is_err_and}
use Rattle.nut_server_spec.specs.laws.Laws.{IsUpTo}
use Rattle.nut_server.proofs.server.Parts.hear_request.Goals as goal

pub returns-clause-ok : goal.returns-clause-ok
returns-clause-ok c =
    rw (← c.self.view_is) (λ c' k stands there.
    let v = the_view c.self.inside in
    let command = asked c.args.request.now in
    let found : Some c.at.result.now ≡ Some k = sym c.at.ensures ∙ there in
    let caller : c.at.result.now ≡ k = cc in
    let R : List ℕ → List Supply → Session → Answer = λ ns ds k. answer (record (scene_of v) { numbers = ns; devices = map (λ d. d.device) ds }) (caller_of k) command in
    let is : R c.as_slice.result.now c.as_slice-2.result.now c.at.result.now ≡ R v.numbers v.supplies k =
    ap (λ ns. R ns c.as_slice-2.result.now c.at.result.now) c.as_slice.ensures.value ∙ ap (λ ds. R v.numbers ds c.at.result.now) c.as_slice-2.ensures.value ∙ ap (R v.numbers v.supplies) caller in
    let effect = c.decide-answer.result.effect in
    let line = c.decide-answer.new.line.items in
    let text = c.as_slice-3.ensures.value ∙ c.in_ok-put_answer.ensures ∙ ap (λ front. front ++ text_of (given c.decide-answer.result.answer)) c.clear.ensures.items ∙ ap text_of (c.decide-answer.ensures.0 ∙ is) in
    let done = subst (λ reply. Does (record (scene_of v) { numbers = c.as_slice.result.now }) command reply effect line) is c.decide-answer.ensures.1 in
    let does = subst (λ ns. Does (record (scene_of v) { numbers = ns }) command (R v.numbers v.supplies k) effect line) c.as_slice.ensures.value done in
    answered_all v c.answer.new.self c.act.new.devices.items c.given_after-self-inside.result c' command (R v.numbers v.supplies k) effect line (c.as_slice-3.result.now ++ []) (append-nil c.as_slice-3.result.now ∙ text) does
    (c.in_ok-answer.ensures.ok c' stands) (c.act.ensures.value ∙ ap (λ l. acting effect l v.supplies) c.as_slice-4.ensures.value) c.given_after-self-inside.ensures)

pub decide-answer-requires-clause-there : goal.decide-answer-requires-clause-there
decide-answer-requires-clause-there c =
    let v = the_view c.self.inside in
    let there = are_there v c.self.invariant.placed in
    subst (λ ns. AreThere (record (scene_of v) { numbers = ns; devices = map (λ (d : Supply). d.device) c.as_slice-2.result.now })) (sym c.as_slice.ensures.value)
    (subst (λ ds. AreThere (record (scene_of v) { devices = map (λ (d : Supply). d.device) ds })) (sym c.as_slice-2.ensures.value) there)

pub invariant_of-self-in_err-answer : goal.invariant_of-self-in_err-answer
invariant_of-self-in_err-answer c = record {
  up_to = subst (IsUpTo c.self.inside.opened) (sym c.answer.ensures.numbers) c.self.invariant.up_to;
  few = c.self.invariant.few;
  within = omega (arith, ap length c.answer.ensures.numbers, c.self.invariant.within);
  limits = c.self.invariant.limits;
  placed = c.self.invariant.placed;
  places = c.self.invariant.places;
}

pub invariant_of-self-2 : goal.invariant_of-self-2
invariant_of-self-2 c = record {
  up_to = subst (IsUpTo c.self.inside.opened) (sym c.answer.ensures.numbers) c.self.invariant.up_to;
  few = c.self.invariant.few;
  within = omega (arith, ap length c.answer.ensures.numbers, c.self.invariant.within);
  limits = c.self.invariant.limits;
  placed = subst (λ m. AllByRecursion (λ n. n < m) c.self.inside.numbers.items) (sym c.act.ensures.len) c.self.invariant.placed;
  places = omega (arith, c.act.ensures.len, c.self.invariant.places);
}

pub returns-in_err-answer-clause-err : goal.returns-in_err-answer-clause-err
returns-in_err-answer-clause-err c =
    let error = err_from_is_err_and c.from_residual-in_err-answer.result c.from_residual-in_err-answer.ensures.1 in
    rw error.1 (ap (λ (ks : List Session). record (the_view c.self.inside) { sessions = ks }) c.in_err-answer.ensures.err ∙ c.self.view_is)
