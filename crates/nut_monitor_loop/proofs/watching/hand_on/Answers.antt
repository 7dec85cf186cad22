use Rattle.std.proofs.Common.{rules, Some, None, sym, ◌∙◌, ap}
use Rattle.std.specs.Prelude.{option_map}
use Rattle.nut_monitor.specs.Events.{event_of}
use Rattle.nut_monitor.specs.Monitors.{MonitorValue}
use Rattle.nut_monitor_loop.proofs.Steps.{faulted, follows, heard, stays}
use Rattle.nut_monitor_loop.proofs.Arrivals.{gave_ending, closes}
use Rattle.nut_monitor_loop.proofs.watching.hand_on.Goals as goal

pub returns-in_default : goal.returns-in_default
returns-in_default g c =
    record {
      goes = record {
        ok = stays g.since.first _ _ _ None (λ entries led. led.1 (sym c.event_of.ensures ∙ ap (option_map event_of) c.in_default.is)) c.requires.1.1.1.0;
        err = search rules;
        counted = search rules;
        config = search rules;
      };
      elsewhere = tt;
    }

pub returns-in-None : goal.returns-in-None
returns-in-None g c =
    record {
      goes = record {
        ok = (gave_ending g.since.first (g.W.MonWorld.did g.since.config g.since.start c.told.new.self) _ _ _ _ _ _ _ _ _ (None)
            (heard g.W.MonWorld.did g.W.MonWorld.awaits g.since _ _ _ (ap (λ (m : MonitorValue). m.config) c.step.ensures.content ∙ c.requires.1.1.1.1) _ c.told.ensures.did _ _
            (sym c.event_of.ensures ∙ ap (option_map event_of) c.in-Some.is) _ _ c.requires.1.1.1.0)
            c.event_of.ensures c.in-Some.is c.requires.1.1.0 c.step.ensures.answered
            (ap (λ (m : MonitorValue). m.content) c.step.ensures.content) c.sender_of-sender.ensures c.lost_link.ensures c.in-None.is);
        err = search rules;
        counted = search rules;
        config = search rules;
      };
      elsewhere = tt;
    }

pub returns-in-Some-lost_link : goal.returns-in-Some-lost_link
returns-in-Some-lost_link g c =
    record {
      goes = record {
        ok = closes _ g.since.first _ _ _ c.in-Some-lost_link.i
            (gave_ending g.since.first (g.W.MonWorld.did g.since.config g.since.start c.told.new.self) _ _ _ _ _ _ _ _ _ (Some c.in-Some-lost_link.i)
            (heard g.W.MonWorld.did g.W.MonWorld.awaits g.since _ _ _ (ap (λ (m : MonitorValue). m.config) c.step.ensures.content ∙ c.requires.1.1.1.1) _ c.told.ensures.did _ _
            (sym c.event_of.ensures ∙ ap (option_map event_of) c.in-Some.is) _ _ c.requires.1.1.1.0)
            c.event_of.ensures c.in-Some.is c.requires.1.1.0 c.step.ensures.answered
            (ap (λ (m : MonitorValue). m.content) c.step.ensures.content) c.sender_of-sender.ensures c.lost_link.ensures c.in-Some-lost_link.is)
            c.close.ensures.ok (follows g.W.MonWorld.did g.met.W.MonWorld.did_on g.since _ _ _ _ (ap (λ (m : MonitorValue). m.config) c.step.ensures.content ∙ c.requires.1.1.1.1));
        err = faulted _ g.since.first _ _ _ _
            (gave_ending g.since.first (g.W.MonWorld.did g.since.config g.since.start c.told.new.self) _ _ _ _ _ _ _ _ _ (Some c.in-Some-lost_link.i)
            (heard g.W.MonWorld.did g.W.MonWorld.awaits g.since _ _ _ (ap (λ (m : MonitorValue). m.config) c.step.ensures.content ∙ c.requires.1.1.1.1) _ c.told.ensures.did _ _
            (sym c.event_of.ensures ∙ ap (option_map event_of) c.in-Some.is) _ _ c.requires.1.1.1.0)
            c.event_of.ensures c.in-Some.is c.requires.1.1.0 c.step.ensures.answered
            (ap (λ (m : MonitorValue). m.content) c.step.ensures.content) c.sender_of-sender.ensures c.lost_link.ensures c.in-Some-lost_link.is)
            c.close.ensures.err (follows g.W.MonWorld.did g.met.W.MonWorld.did_on g.since _ _ _ _ (ap (λ (m : MonitorValue). m.config) c.step.ensures.content ∙ c.requires.1.1.1.1));
        counted = search rules;
        config = search rules;
      };
      elsewhere = c.close.ensures.elsewhere;
    }
