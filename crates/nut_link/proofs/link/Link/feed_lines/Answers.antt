use Rattle.std.proofs.Common.{sym}
use Rattle.nut_link.proofs.Bounded.{heard_stage_within, link_within}
use Rattle.nut_link.proofs.Feeding.{fed_link, fed_over, piece_heard}
use Rattle.nut_link.proofs.link.Link.feed_lines.Goals as goal

pub returns-in-Some-clause-feeds : goal.returns-in-Some-clause-feeds
returns-in-Some-clause-feeds c = rw (← c.self.view_is) (fed_over c.self.inside.cutter c.self.inside.exchange c.args.piece.now c.in-Some.fault (sym c.in-Some.ensures))

pub returns-in-Some-clause-bounded : goal.returns-in-Some-clause-bounded
returns-in-Some-clause-bounded c = rw (← c.self.view_is) (link_within c.self.inside.cutter c.self.inside.exchange c.self.invariant.0 c.self.invariant.1)

pub invariant_of-self : goal.invariant_of-self
invariant_of-self c =
    let v = c.self.inside in
    let h = c.hear_lines in
    let heard = piece_heard v.cutter h.new.cutter v.exchange h.new.hearer c.args.piece.now h.result.0 h.result.1 (sym c.in_default.ensures) h.ensures.rest h.ensures.count h.ensures.heard h.ensures.goes_on h.ensures.stops in (
      h.ensures.stream,
      heard_stage_within v.cutter h.new.cutter v.exchange h.new.hearer c.args.piece.now h.result.0 heard.1 c.self.invariant.1,
    )

pub returns-clause-feeds : goal.returns-clause-feeds
returns-clause-feeds c =
    let v = c.self.inside in
    let h = c.hear_lines in
    let heard = piece_heard v.cutter h.new.cutter v.exchange h.new.hearer c.args.piece.now h.result.0 h.result.1 (sym c.in_default.ensures) h.ensures.rest h.ensures.count h.ensures.heard h.ensures.goes_on h.ensures.stops in
    rw (← c.self.view_is) (fed_link v.cutter h.new.cutter v.exchange h.new.hearer c.args.piece.now h.result.0 h.result.1 (sym c.in_default.ensures) heard.0 heard.1)

pub returns-clause-bounded : goal.returns-clause-bounded
returns-clause-bounded c =
    let v = c.self.inside in
    let h = c.hear_lines in
    let heard = piece_heard v.cutter h.new.cutter v.exchange h.new.hearer c.args.piece.now h.result.0 h.result.1 (sym c.in_default.ensures) h.ensures.rest h.ensures.count h.ensures.heard h.ensures.goes_on h.ensures.stops in
    link_within h.new.cutter h.new.hearer h.ensures.stream (heard_stage_within v.cutter h.new.cutter v.exchange h.new.hearer c.args.piece.now h.result.0 heard.1 c.self.invariant.1)
