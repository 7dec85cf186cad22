use Rattle.std.proofs.Common.{◌≡◌, [], ◌∷◌, ◌++◌, length, refl, subst, ◌∙◌}
use Rattle.std.specs.List.{flat_map}
use Rattle.std.specs.Result.{OnOk, OnErr}
use Rattle.std.proofs.lemmas.Result.{on_ok_weaker, on_err_weaker}
use Rattle.nut_words.proofs.Written.{at_err}
use Rattle.nut_words.specs.Out.{Fits, Exceeds}
use Rattle.nut_proto.specs.inside.Written.{line_from}
use Rattle.nut_proto.proofs.Room.{begins_with, begins_with_itself, behind, front_kept, no_room_for_line, no_room_for_words, whole_line, words_and_parts}
use Rattle.nut_proto.proofs.line.append_line.Given.{Over}
use Rattle.nut_proto.proofs.line.append_line.Goals as goal

pub returns-in_err-append-clause-err : goal.returns-in_err-append-clause-err
returns-in_err-append-clause-err g c = at_err c.from_residual.result (begins_with_itself _ _ c.in_err-append.ensures.err)

pub returns-in_err-append-clause-full : goal.returns-in_err-append-clause-full
returns-in_err-append-clause-full g c =
    at_err c.from_residual.result
    (no_room_for_words g.O.Out.most (g.O.Out.held c.args.out.now) c.args.words.now (flat_map behind c.args.parts.now) c.in_err-append.ensures.full)

pub returns-in_err-append_parts-clause-err : goal.returns-in_err-append_parts-clause-err
returns-in_err-append_parts-clause-err g c =
    at_err c.from_residual-in_err-append_parts.result
    (front_kept _ c.args.words.now _ _ _ _ refl c.in_ok-append.ensures.ok c.in_err-append_parts.ensures.err)

pub returns-in_err-append_parts-clause-full : goal.returns-in_err-append_parts-clause-full
returns-in_err-append_parts-clause-full g c =
    at_err c.from_residual-in_err-append_parts.result
    (no_room_for_line g.O.Out.most (g.O.Out.held c.args.out.now) c.args.words.now _ _ c.in_ok-append.ensures.ok c.in_err-append_parts.ensures.full)

line_is : (g : Over) (c : goal.After-push g)
    → g.O.Out.held c.append_parts.new.out ++ 10 ∷ [] ≡ g.O.Out.held c.args.out.now ++ line_from c.args.words.now c.args.parts.now
line_is g c =
    whole_line (g.O.Out.held c.args.out.now) c.args.words.now (flat_map behind c.args.parts.now) (g.O.Out.held c.append.new.self)
    (g.O.Out.held c.append_parts.new.out) c.in_ok-append.ensures.ok c.in_ok-append_parts.ensures.ok

pub returns-clause-ok : goal.returns-clause-ok
returns-clause-ok g c = on_ok_weaker c.push.result (λ e. e ∙ line_is g c) c.push.ensures.ok

pub returns-clause-err : goal.returns-clause-err
returns-clause-err g c =
    on_err_weaker c.push.result
    (λ e. begins_with _ _ _ (e ∙ words_and_parts (g.O.Out.held c.args.out.now) c.args.words.now (flat_map behind c.args.parts.now) (g.O.Out.held c.append.new.self)
    (g.O.Out.held c.append_parts.new.out) c.in_ok-append.ensures.ok c.in_ok-append_parts.ensures.ok)) c.push.ensures.err

pub returns-clause-fits : goal.returns-clause-fits
returns-clause-fits g c = subst (λ held. OnOk c.push.result (Fits g.O.Out.most (length held))) (line_is g c) c.push.ensures.fits

pub returns-clause-full : goal.returns-clause-full
returns-clause-full g c = subst (λ held. OnErr c.push.result (Exceeds g.O.Out.most (length held))) (line_is g c) c.push.ensures.full
