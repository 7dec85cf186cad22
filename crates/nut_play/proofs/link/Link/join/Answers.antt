use Rattle.std.proofs.Common.{◌≡◌, ◌<◌, ◌+◌, suc, ◌++◌, true, false, [], length, map, is_some, is_none, IfOk, OnOk, sym, ◌∙◌, ap, subst, arith}
use Rattle.std.specs.Prelude.{if◌then◌else◌}
use Rattle.nut_server_spec.specs.Content.{Content}
use Rattle.nut_server_spec.specs.Acceptance.{refusal, session_of}
use Rattle.nut_server_spec.specs.Event.{Open}
use Rattle.nut_server_spec.specs.machine.Machine.{advance}
use Rattle.nut_monitor_spec.specs.Event.{Linked}
use Rattle.nut_monitor.specs.Monitors.{MonitorValue}
use Rattle.nut_fleet.specs.World.{Tell, Inform, Join, Skip, address_of}
use Rattle.nut_fleet.specs.Seen.{Ends}
use Rattle.nut_fleet.specs.Log.{logged}
use Rattle.nut_play.specs.Steps.{logged_of}
use Rattle.nut_play.specs.machine.Next.{is_played, open_by, linked_by, inform_by, link_by, told_by, heard_by, told_news, made_by}
use Rattle.nut_play.proofs.Lacks.{on-err, linked-lacks}
use Rattle.nut_play.proofs.Deeds.{on-any-ok, told-is_played, log-same, link-open, link-linked, link-refused, link-made, linked-accepted}
use Rattle.nut_play.proofs.link.Link.join.Goals.{then-is_open-via-then-is_open, then-is_open-via-else-is_open+then-linked}
use Rattle.nut_play.proofs.link.Link.join.Goals as goal

pub returns-then-is_open : goal.returns-then-is_open
returns-then-is_open c =
    let m = c.args.place.monitor in
    let i = c.args.place.link in
    let server = c.args.server.now in
    let known = c.args.monitor.now.content in
    let ends : Ends = c.args.self.now in
    let up : open_by server ends ≡ c.is_open.result = sym (c.is_open.ensures ∙ ap (λ (e : Ends). is_some (session_of e.connection server.sessions)) c.self.view_is) in
    let skips : link_by m server known i ends ≡ Skip =
    elim c.then-is_open.branch [
      | then-is_open-via-then-is_open w ↦ link-open m server known i ends (up ∙ w.if-is_open.true)
      | then-is_open-via-else-is_open+then-linked w ↦ link-linked m server known i ends (up ∙ w.if-is_open.false) (sym w.linked.ensures.value ∙ w.if-linked.true)
    ] in record {
      played = sym (ap is_played skips);
      server = sym (ap (λ d. told_by d m server) skips);
      monitor = sym (ap (λ d. let v : MonitorValue = record { config = c.args.monitor.now.config; content = heard_by d known } in v) skips);
      link = sym (ap (λ d. made_by d server ends) skips);
      log = log-same _ c.args.place.step (link_by m server known i ends) known (ap (λ d. told_news d known) skips);
      lack = tt;
    }

pub returns-then-not-branch : goal.returns-then-not-branch
returns-then-not-branch c =
    let m = c.args.place.monitor in
    let i = c.args.place.link in
    let server = c.args.server.now in
    let known = c.args.monitor.now.content in
    let ends : Ends = c.args.self.now in
    let event = Open c.as_slice.result.now in
    let down : open_by server ends ≡ false = sym (c.is_open.ensures ∙ ap (λ (e : Ends). is_some (session_of e.connection server.sessions)) c.self.view_is) ∙ c.if-is_open.false in
    let refused : is_none (refusal server event) ≡ false = told-is_played server event ∙ sym c.in_ok-tell.ensures.played ∙ c.if-not-branch.true in
    let skips : link_by m server known i ends ≡ Skip =
    link-refused m server known i ends down (sym c.linked.ensures.value ∙ c.if-linked.false)
    (sym (ap (λ a. is_none (refusal server (Open a))) (c.as_slice.ensures.value ∙ c.address_of-address.ensures)) ∙ refused) in record {
      played = sym (ap is_played skips);
      server = c.in_ok-tell.ensures.server ∙ ap (λ b. told_by (if b then Tell event else Skip) 0 server) refused ∙ sym (ap (λ d. told_by d m server) skips);
      monitor = sym (ap (λ d. let v : MonitorValue = record { config = c.args.monitor.now.config; content = heard_by d known } in v) skips);
      link = sym (ap (λ d. made_by d server ends) skips);
      log = log-same _ c.args.place.step (link_by m server known i ends) known (ap (λ d. told_news d known) skips);
      lack = tt;
    }

pub returns : goal.returns
returns c =
    let m = c.args.place.monitor in
    let i = c.args.place.link in
    let server = c.args.server.now in
    let known = c.args.monitor.now.content in
    let ends : Ends = c.args.self.now in
    let event = Open c.as_slice.result.now in
    let address : c.as_slice.result.now ≡ address_of m = c.as_slice.ensures.value ∙ c.address_of-address.ensures in
    let down : open_by server ends ≡ false = sym (c.is_open.ensures ∙ ap (λ (e : Ends). is_some (session_of e.connection server.sessions)) c.self.view_is) ∙ c.if-is_open.false in
    let lost : linked_by known i ≡ false = sym c.linked.ensures.value ∙ c.if-linked.false in
    let accepted : is_none (refusal server event) ≡ true = told-is_played server event ∙ sym c.in_ok-tell.ensures.played ∙ c.if-not-branch.false in
    let joins : link_by m server known i ends ≡ Join m i =
    link-made m server known i ends down lost (sym (ap (λ a. is_none (refusal server (Open a))) address) ∙ accepted) in
    let informs : inform_by m known (Linked i) ≡ Inform m (Linked i) = linked-accepted m known i c.requires.there lost in
    let told : c.tell.new.server ≡ advance server (Open (address_of m)) =
    c.in_ok-tell.ensures.server ∙ ap (λ b. told_by (if b then Tell event else Skip) 0 server) accepted ∙ ap (λ a. advance server (Open a)) address in
    let more : server.opened + 1 ≡ suc server.opened = omega arith in
    let news : told_news (inform_by m known (Linked i)) known ≡ told_news (link_by m server known i ends) known =
    ap (λ d. told_news d known) informs ∙ sym (ap (λ d. told_news d known) joins) in record {
      played = subst (λ b. IfOk c.inform.result (λ played. played ≡ b)) (ap is_played informs ∙ sym (ap is_played joins)) c.inform.ensures.played;
      server = on-any-ok _ c.inform.result (told ∙ sym (ap (λ d. told_by d m server) joins));
      monitor = subst (λ x. OnOk c.inform.result (c.inform.new.monitor ≡ (let v : MonitorValue = record { config = c.args.monitor.now.config; content = x } in v)))
          (ap (λ d. heard_by d known) informs ∙ sym (ap (λ d. heard_by d known) joins)) c.inform.ensures.monitor;
      link = on-any-ok _ c.inform.result
          (c.make.ensures ∙ ap (λ k. let e : Ends = record { connection = k; to_server = []; to_monitor = [] } in e) (c.opened.ensures.value ∙ ap (λ (s : Content). s.opened) told ∙ more)
          ∙ sym (ap (λ d. made_by d server ends) joins));
      log = subst (λ ns. OnOk c.inform.result (map logged_of c.inform.new.log.items ≡ map logged_of c.args.log.now.items ++ logged c.args.place.step ns)) news c.inform.ensures.log;
      lack = on-err _ _ c.inform.result (λ may. subst (λ ns. 0 < length ns) news (linked-lacks m known i may)) c.inform.ensures.lack;
    }
