use Rattle.std.proofs.Common.{ap, ◌∙◌}
use Rattle.nut_link.specs.Link.{answer_by}
use Rattle.nut_link.proofs.Matches.{without_memory}
use Rattle.nut_link.proofs.link.Link.feed.Goals as goal

pub returns-clause-no_memory : goal.returns-clause-no_memory
returns-clause-no_memory c = λ none.
    let fed = without_memory c.args.self.now c.feed_lines.new.self c.args.piece.now c.feed_lines.result.0 c.feed_lines.result.1 c.feed_lines.ensures.feeds none in
    (fed, c.feed_lines.ensures.feeds.answered ∙ ap (λ v. answer_by v.exchange.fault) fed)
