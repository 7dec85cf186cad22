use Rattle.std.proofs.Common.{◌++◌, ◌∷◌, [], codes, inr, subst}
use Rattle.nut_client.specs.Output.{HasAll, IsCutShort, written}
use Rattle.nut_client.specs.Tool.{reason}
use Rattle.nut_client.proofs.Writing.{appends_on, cut_before, cut_behind, put_all, put_behind, put_part}
use Rattle.nut_client.proofs.engine.put_failure.Goals as goal

pub returns-then-not-put_all : goal.returns-then-not-put_all
returns-then-not-put_all g c =
    inr (cut_before _ (codes "Error: " ++ reason c.args.failure.now) (10 ∷ [])
    (cut_before _ (codes "Error: ") (reason c.args.failure.now) (put_part _ (codes "Error: ") _ c.if-not-put_all.true c.put_all.ensures)))

pub returns-then-not-put_all-2 : goal.returns-then-not-put_all-2
returns-then-not-put_all-2 g c =
    let cut = subst (λ r. IsCutShort r (written g.E.Output.contents g.E.Output.has_failed c.put_all.new.output c.put_all-2.new.output)) c.reason.ensures (put_part _ _ _ c.if-not-put_all-2.true c.put_all-2.ensures) in
    inr (cut_before _ (codes "Error: " ++ reason c.args.failure.now) (10 ∷ [])
    (cut_behind _ _ _ _ (codes "Error: ") (reason c.args.failure.now) (put_all _ (codes "Error: ") _ c.if-not-put_all.false c.put_all.ensures).1 cut))

pub returns : goal.returns
returns g c =
    let first = put_all _ (codes "Error: ") _ c.if-not-put_all.false c.put_all.ensures in
    let second = subst (λ r. HasAll r (written g.E.Output.contents g.E.Output.has_failed c.put_all.new.output c.put_all-2.new.output)) c.reason.ensures (put_all _ _ _ c.if-not-put_all-2.false c.put_all-2.ensures) in
    put_behind _ _ _ _ c.put_all-3.result (codes "Error: " ++ reason c.args.failure.now) (10 ∷ [])
    (appends_on _ _ _ (codes "Error: ") (reason c.args.failure.now) first.1 second.1) c.put_all-3.ensures
