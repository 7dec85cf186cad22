use Rattle.std.proofs.Common.{[], ◌∷◌, length, refl, subst, ◌∙◌}
use Rattle.std.specs.Result.{OnErr}
use Rattle.std.proofs.lemmas.Result.{on_ok_weaker, on_err_weaker}
use Rattle.nut_words.proofs.Written.{at_err}
use Rattle.nut_words.specs.Out.{Exceeds}
use Rattle.nut_proto.specs.Lines.{part_text}
use Rattle.nut_proto.proofs.Room.{begins_with, begins_with_itself, no_room_for_mark, whole}
use Rattle.nut_proto.proofs.part.Part.put_behind.Goals as goal

pub returns-in_err-push-clause-err : goal.returns-in_err-push-clause-err
returns-in_err-push-clause-err g c = at_err c.from_residual.result (begins_with_itself _ _ c.in_err-push.ensures.err)

pub returns-in_err-push-clause-full : goal.returns-in_err-push-clause-full
returns-in_err-push-clause-full g c =
    at_err c.from_residual.result
    (no_room_for_mark g.O.Out.most (g.O.Out.held c.args.out.now) (32 ∷ []) _ (part_text c.args.self.now) refl c.in_err-push.ensures.full)

pub returns-clause-ok : goal.returns-clause-ok
returns-clause-ok g c =
    on_ok_weaker c.put.result
    (λ e. e ∙ whole g.O.Out.most (g.O.Out.held c.args.out.now) (32 ∷ []) (g.O.Out.held c.push.new.self) (part_text c.args.self.now) c.in_ok-push.ensures.ok)
    c.put.ensures.ok

pub returns-clause-err : goal.returns-clause-err
returns-clause-err g c = on_err_weaker c.put.result (λ e. begins_with _ (32 ∷ []) _ (e ∙ c.in_ok-push.ensures.ok)) c.put.ensures.err

pub returns-clause-full : goal.returns-clause-full
returns-clause-full g c =
    subst (λ held. OnErr c.put.result (Exceeds g.O.Out.most (length held)))
    (whole g.O.Out.most (g.O.Out.held c.args.out.now) (32 ∷ []) (g.O.Out.held c.push.new.self) (part_text c.args.self.now) c.in_ok-push.ensures.ok)
    c.put.ensures.full
