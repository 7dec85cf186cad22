use Rattle.std.proofs.Common.{◌≡◌, rules, ◌∙◌, get_or}
use Rattle.std.specs.Prelude.{◌==◌, ◌&&◌, ◌||◌, not}
use Rattle.nut_server_sockets.specs.inside.Light.{is_plain}
use Rattle.nut_server_sockets.proofs.BatchLemmas.{cut_at_feed, one_at_end, one_to_feed, one_unended, reached}
use Rattle.nut_server_sockets.proofs.batches.cut.Goals as goal

pub returns-in_default-clause-one : goal.returns-in_default-clause-one
returns-in_default-clause-one c =
    one_unended c.args.is_begun c.args.piece.now c.loop-start.start c.loop-start.invariant (rw c.in_default.is at c.memchr.ensures)

pub returns-then-is_last-clause-one : goal.returns-then-is_last-clause-one
returns-then-is_last-clause-one c =
    one_to_feed c.args.is_begun c.args.piece.now c.loop-start.start c.loop-start.invariant c.in-Some.at (rw c.in-Some.is at c.memchr.ensures)

pub returns-then-is_last-clause-all : goal.returns-then-is_last-clause-all
returns-then-is_last-clause-all c more =
    let is : ((c.args.is_begun && (c.loop-start.start == 0)) || not (is_plain (get_or c.args.piece.now c.loop-start.start 0))) ≡ c.if-start-eq0.is_last = search rules in
    cut_at_feed c.args.is_begun c.args.piece.now c.loop-start.start c.loop-start.invariant c.in-Some.at (rw c.in-Some.is at c.memchr.ensures) (is ∙ c.if-is_last.true)

pub loop-start-preserved : goal.loop-start-preserved
loop-start-preserved c =
    let is : ((c.args.is_begun && (c.loop-start.start == 0)) || not (is_plain (get_or c.args.piece.now c.loop-start.start 0))) ≡ c.if-start-eq0.is_last = search rules in
    reached c.args.is_begun c.args.piece.now c.loop-start.start c.loop-start.invariant c.in-Some.at (rw c.in-Some.is at c.memchr.ensures) (is ∙ c.if-is_last.false)

pub returns-clause-one : goal.returns-clause-one
returns-clause-one c =
    one_at_end c.args.is_begun c.args.piece.now c.loop-start.start c.loop-start.invariant (search rules)
