use Rattle.std.proofs.Common.{◌≡◌, false, true, min, length, is_some, sym, ◌∙◌, ap, arith}
use Rattle.std.proofs.lemmas.Grind.{common_steps}
use Rattle.nut_words.specs.declared.limits.TheConstants.{PIECE_MAX}
use Rattle.nut_server_spec.specs.Acceptance.{session_of}
use Rattle.nut_fleet.specs.World.{Skip, Rest}
use Rattle.nut_fleet.specs.Seen.{Ends}
use Rattle.nut_play.specs.machine.Next.{is_played, open_by, reach_by, told_by, reached_by}
use Rattle.nut_play.proofs.Deeds.{reach-skips, reach-rests}
use Rattle.nut_play.proofs.link.Link.reach.Goals as goal

pub returns-clause-link : goal.returns-clause-link
returns-clause-link c = grind (arith, common_steps)

pub returns-then-not-is_open : goal.returns-then-not-is_open
returns-then-not-is_open c =
    let server = c.args.server.now in
    let ends : Ends = c.args.self.now in
    let down : open_by server ends ≡ false = sym (c.is_open.ensures ∙ ap (λ (e : Ends). is_some (session_of e.connection server.sessions)) c.self.view_is) ∙ c.if-not-is_open.true in
    let skips : reach_by server ends c.args.n ≡ Skip = reach-skips server ends c.args.n down in record {
      played = sym (ap is_played skips);
      server = sym (ap (λ d. told_by d 0 server) skips);
      link = sym (ap (λ d. reached_by d ends) skips);
      lack = tt;
    }

pub returns-then-count-eq0 : goal.returns-then-count-eq0
returns-then-count-eq0 c =
    let server = c.args.server.now in
    let ends : Ends = c.args.self.now in
    let up : open_by server ends ≡ true = sym (c.is_open.ensures ∙ ap (λ (e : Ends). is_some (session_of e.connection server.sessions)) c.self.view_is) ∙ c.if-not-is_open.false in
    let none : min (min c.args.n PIECE_MAX) (length ends.to_server) ≡ 0 =
    sym (ap (λ (e : Ends). min (min c.args.n PIECE_MAX) (length e.to_server)) c.self.view_is)
    ∙ sym (ap (min (min c.args.n PIECE_MAX)) c.len.ensures.value) ∙ sym c.count_of-count.ensures.value ∙ c.if-count-eq0.true in
    let rests : reach_by server ends c.args.n ≡ Rest = reach-rests server ends c.args.n up none in record {
      played = sym (ap is_played rests);
      server = sym (ap (λ d. told_by d 0 server) rests);
      link = sym (ap (λ d. reached_by d ends) rests);
      lack = tt;
    }
