use Rattle.std.proofs.Common.{◌≡◌, ◌++◌, ◌∷◌, [], ap, ◌∙◌}
use Rattle.nut_proto.specs.Lines.{message}
use Rattle.nut_proto.specs.Requests.{request_line, request_parts}
use Rattle.nut_link.proofs.Writable.{line_is, unwritable_line, unwritable_word, when_err, when_ok, writable_line}
use Rattle.nut_link.proofs.query.AskedQuery.ask.Goals as goal

pub returns-then-not-set-clause-exact : goal.returns-then-not-set-clause-exact
returns-then-not-set-clause-exact c = unwritable_word c.args.request.now (c.set.ensures.long c.if-not-set.true)

pub returns-then-is_err-clause-exact : goal.returns-then-is_err-clause-exact
returns-then-is_err-clause-exact c =
    unwritable_line c.args.request.now _ c.clear.ensures (when_err c.put.result c.if-is_err.ensures.value c.put.ensures.full)

pub returns-clause-exact : goal.returns-clause-exact
returns-clause-exact c =
    let request = c.args.request.now in
    let text = message (request_parts request) in
    let is : c.as_slice.result.now ≡ text ++ 10 ∷ [] =
    c.as_slice.ensures.value ∙ when_ok c.put.result c.if-is_err.ensures.value c.put.ensures.ok ∙ ap (λ front. front ++ request_line request) c.clear.ensures ∙ line_is request in
    c.is_printing_line.ensures.line text is ∙ writable_line request _ c.clear.ensures (when_ok c.put.result c.if-is_err.ensures.value c.put.ensures.fits)
