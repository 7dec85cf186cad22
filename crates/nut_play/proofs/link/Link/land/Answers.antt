use Rattle.std.proofs.Common.{◌≡◌, false, true, min, length, sym, ◌∙◌, ap}
use Rattle.nut_words.specs.declared.limits.TheConstants.{PIECE_MAX}
use Rattle.nut_monitor.specs.Monitors.{MonitorValue}
use Rattle.nut_fleet.specs.World.{Skip, Rest}
use Rattle.nut_fleet.specs.Seen.{Ends}
use Rattle.nut_play.specs.machine.Next.{is_played, land_by, heard_by, told_news, landed_by}
use Rattle.nut_play.proofs.Deeds.{log-same, land-skips, land-rests}
use Rattle.nut_play.proofs.link.Link.land.Goals as goal

pub returns-then-not-linked : goal.returns-then-not-linked
returns-then-not-linked c =
    let m = c.args.place.monitor in
    let i = c.args.place.link in
    let known = c.args.monitor.now.content in
    let ends : Ends = c.args.self.now in
    let skips : land_by m known i ends c.args.n ≡ Skip = land-skips m known i ends c.args.n (sym c.linked.ensures.value ∙ c.if-not-linked.true) in record {
      played = sym (ap is_played skips);
      monitor = sym (ap (λ d. let v : MonitorValue = record { config = c.args.monitor.now.config; content = heard_by d known } in v) skips);
      link = sym (ap (λ d. landed_by d i ends) skips);
      log = log-same _ c.args.place.step (land_by m known i ends c.args.n) known (ap (λ d. told_news d known) skips);
      lack = tt;
    }

pub returns-then-count-eq0 : goal.returns-then-count-eq0
returns-then-count-eq0 c =
    let m = c.args.place.monitor in
    let i = c.args.place.link in
    let known = c.args.monitor.now.content in
    let ends : Ends = c.args.self.now in
    let none : min (min c.args.n PIECE_MAX) (length ends.to_monitor) ≡ 0 =
    sym (ap (λ (e : Ends). min (min c.args.n PIECE_MAX) (length e.to_monitor)) c.self.view_is)
    ∙ sym (ap (min (min c.args.n PIECE_MAX)) c.len.ensures.value) ∙ sym c.count_of-count.ensures.value ∙ c.if-count-eq0.true in
    let rests : land_by m known i ends c.args.n ≡ Rest = land-rests m known i ends c.args.n (sym c.linked.ensures.value ∙ c.if-not-linked.false) none in record {
      played = sym (ap is_played rests);
      monitor = sym (ap (λ d. let v : MonitorValue = record { config = c.args.monitor.now.config; content = heard_by d known } in v) rests);
      link = sym (ap (λ d. landed_by d i ends) rests);
      log = log-same _ c.args.place.step (land_by m known i ends c.args.n) known (ap (λ d. told_news d known) rests);
      lack = tt;
    }
