use Rattle.std.proofs.Common.{◌≡◌, ◌≢◌, ◌<◌, ◌≤◌, length, take, sym, ap, subst, ◌∙◌, arith, rules}
use Rattle.std.proofs.lemmas.Bool.{eqb-true}
use Rattle.std.proofs.lemmas.List.{take_all, length-take-le}
use Rattle.nut_poll.specs.declared.link.Heard.TheVariants.{Nothing, End}
use Rattle.nut_server_spec.specs.Acceptance.{kept, session_of}
use Rattle.nut_words.specs.Lines.{lines_after}
use Rattle.nut_server_sockets.specs.inside.Light.{others_in}
use Rattle.nut_server_sockets.proofs.BatchLemmas.{one_line}
use Rattle.nut_server_sockets.proofs.LightPieces.{heard_light, light_cut, light_line}
use Rattle.nut_server_sockets.proofs.client.Client.hear.Goals as goal

pub returns-then-is_one_line-clause-light : goal.returns-then-is_one_line-clause-light
returns-then-is_one_line-clause-light c =
    let piece = c.next_piece-heard.new.piece.items in
    let one = c.is_one_line.ensures c.if-is_one_line.true in
    heard_light c.next_piece-heard.result c.args.server.now c.args.self.now.number piece c.next_piece-heard.ensures.some
    (light_line c.args.server.now c.args.self.now.number piece (λ line. one_line line piece one.0 (sym c.as_slice.ensures.value ∙ one.1) one.2))

pub returns-then-is_empty-clause-light : goal.returns-then-is_empty-clause-light
returns-then-is_empty-clause-light c =
    let piece = c.next_piece-heard.new.piece.items in
    let keeps = c.kept-is_begun.ensures.value ∙ ap (λ n. kept (session_of n c.args.server.now.sessions)) c.next_piece-heard.ensures.number in
    let none : length c.split_at.result.1.now ≡ 0 = eqb-true _ _ (sym c.is_empty.ensures ∙ c.if-is_empty.true) in
    let short : length c.as_slice-2.result.now ≤ c.cut-end.result = search rules in
    let all : take c.cut-end.result c.as_slice-2.result.now ≡ piece = take_all c.cut-end.result c.as_slice-2.result.now short ∙ c.as_slice-2.ensures.value in
    heard_light c.next_piece-heard.result c.args.server.now c.args.self.now.number piece c.next_piece-heard.ensures.some
    (light_cut c.args.server.now c.args.self.now.number c.kept-is_begun.result piece keeps
    (λ line fits. subst (λ x. others_in (lines_after line x) ≤ 1) all (c.cut-end.ensures.one line fits)))

pub returns-clause-light : goal.returns-clause-light
returns-clause-light c =
    let given = c.truncate.new.self.items in
    let keeps = c.kept-is_begun.ensures.value ∙ ap (λ n. kept (session_of n c.args.server.now.sessions)) c.next_piece-heard.ensures.number in
    let front : take c.cut-end.result c.as_slice-2.result.now ≡ given = ap (take c.cut-end.result) c.as_slice-2.ensures.value ∙ sym c.truncate.ensures in
    let nothing : c.next_piece-heard.result ≢ Nothing = search rules in
    let end : c.next_piece-heard.result ≢ End = search rules in
    let some = c.next_piece-heard.ensures.some nothing end in
    let count : length (take c.cut-end.result c.as_slice-2.result.now) ≡ c.cut-end.result = length-take-le c.cut-end.result c.as_slice-2.result.now c.cut-end.ensures.within in
    let heard : 0 < length c.as_slice-2.result.now = omega (arith, some, ap length c.as_slice-2.ensures.value) in (
      omega (arith, c.cut-end.ensures.some heard, count, ap length front),
      light_cut c.args.server.now c.args.self.now.number c.kept-is_begun.result given keeps
          (λ line fits. subst (λ x. others_in (lines_after line x) ≤ 1) front (c.cut-end.ensures.one line fits)),
    )
