use Rattle.std.proofs.Common.{◌≡◌, true, false, is_err, sym, subst, ◌∙◌}
use Rattle.nut_monitor.specs.inside.Sound.{IsCountAfter, IsSound, IsSoundLink}
use Rattle.nut_monitor.proofs.Links.{fed_count, fed_failed, fed_sound, ok_fault}
use Rattle.nut_monitor.proofs.line.feed.Goals as goal

pub returns-then-is_err-clause-feeds : goal.returns-then-is_err-clause-feeds
returns-then-is_err-clause-feeds c = λ v is.
    let err : is_err c.feed_lines-done.result.1 ≡ true = sym c.is_err.ensures.value ∙ c.if-is_err.true in
    fed_failed c.args.link.now v c.in-Some.going c.args.piece.now c.feed_lines-done.result.0 c.feed_lines-done.result.1 c.feed_lines-done.new.self c.answer-outcome.result c.cut.new.link
    is c.in-Some.is c.feed_lines-done.ensures.feeds err c.answer-outcome.ensures.answer c.cut.ensures

pub returns-then-is_err-clause-count : goal.returns-then-is_err-clause-count
returns-then-is_err-clause-count c =
    let sound : IsSoundLink c.args.last c.in-Some.going = subst (IsSound c.args.last) c.in-Some.is c.requires in
    subst (IsCountAfter c.args.last) (sym c.answer-outcome.ensures.answer) (fed_count c.args.last c.in-Some.going c.args.piece.now _ _ _ sound c.feed_lines-done.ensures.feeds)

pub returns-clause-count : goal.returns-clause-count
returns-clause-count c =
    let sound : IsSoundLink c.args.last c.in-Some.going = subst (IsSound c.args.last) c.in-Some.is c.requires in
    subst (IsCountAfter c.args.last) (sym c.answer-outcome.ensures.answer) (fed_count c.args.last c.in-Some.going c.args.piece.now _ _ _ sound c.feed_lines-done.ensures.feeds)

pub returns-clause-sound : goal.returns-clause-sound
returns-clause-sound c =
    let sound : IsSoundLink c.args.last c.in-Some.going = subst (IsSound c.args.last) c.in-Some.is c.requires in
    let ok : is_err c.feed_lines-done.result.1 ≡ false = sym c.is_err.ensures.value ∙ c.if-is_err.false in
    let feeds = c.feed_lines-done.ensures.feeds in
    subst (IsSoundLink c.args.last) (sym c.answer-outcome.ensures.stands)
    (fed_sound c.args.last c.in-Some.going c.args.piece.now _ _ _ sound feeds (ok_fault c.feed_lines-done.result.1 c.feed_lines-done.new.self.exchange.fault feeds.answered ok))
