use Rattle.std.proofs.Common.{◌≡◌, ◌++◌, [], Some, true, false, is_err, sym, ap, ap₂, subst, ◌∙◌}
use Rattle.std.specs.Prelude.{if◌then◌else◌, is_some}
use Rattle.nut_monitor_spec.specs.Configuration.{configuration_of}
use Rattle.nut_monitor_spec.specs.Content.{Watch}
use Rattle.nut_monitor_spec.specs.machine.Machine.{told_heard, watch_heard}
use Rattle.nut_monitor.specs.inside.Sound.{IsSound, IsSoundLink}
use Rattle.nut_monitor.proofs.Links.{err_fault, ok_fault}
use Rattle.nut_monitor.proofs.Steps.{told_failed, told_goes_on, watch_failed, watch_goes_on}
use Rattle.nut_monitor.proofs.line.MonitorLine.hear.Goals as goal

pub returns-then-is_err-clause-hears : goal.returns-then-is_err-clause-hears
returns-then-is_err-clause-hears c = λ v is.
    let configuration = configuration_of c.args.config.now in
    let scene = c.args.scene in
    let w : Watch = record { link = c.self.inside.link; last = c.self.inside.last; answer = c.self.inside.answer; known = c.self.inside.known } in
    let link : c.self.inside.link ≡ Some v = ap (λ w. w.link) c.self.view_is ∙ is in
    let sound : IsSoundLink c.self.inside.last v = subst (IsSound c.self.inside.last) link c.self.invariant in
    let fed = c.feed-done.ensures.feeds v link in
    let err : is_err c.feed-done.result.1 ≡ true = sym c.is_err.ensures.value ∙ c.if-is_err.true in
    let fault = err_fault c.feed-done.result.1 fed.link.exchange.fault fed.feeds.answered err in
    record {
      going = sound.going;
      link = fed.link;
      feeds = fed.feeds;
      watch =
          ap₂ (λ a k. record { link = c.feed-done.new.link; last = c.self.inside.last; answer = a; known = k }) c.keep_answer.ensures c.with_loss-self-inside.ensures
          ∙ watch_failed configuration scene.clock scene.watching fed.link w c.feed-done.result.2 c.feed-done.new.link c.hear_answer-self-inside.result fault fed.answer fed.stands c.hear_answer-self-inside.ensures.known
          ∙ ap (λ w. watch_heard configuration scene.clock scene.watching fed.link w) c.self.view_is;
      tells = told_failed configuration scene.clock scene.line scene.watching fed.link w c.feed-done.result.2 c.hear_answer-self-inside.result c.args.notices.now c.hear_answer-self-inside.new.notices c.tell_loss.new.notices fault fed.answer
          c.hear_answer-self-inside.ensures.known c.hear_answer-self-inside.ensures.told c.tell_loss.ensures.told
          ∙ ap (λ w. c.args.notices.now ++ (if scene.watching then told_heard configuration scene.clock scene.line scene.watching fed.link w else [])) c.self.view_is;
    }

pub returns-else-is_err-clause-hears : goal.returns-else-is_err-clause-hears
returns-else-is_err-clause-hears c = λ v is.
    let configuration = configuration_of c.args.config.now in
    let scene = c.args.scene in
    let w : Watch = record { link = c.self.inside.link; last = c.self.inside.last; answer = c.self.inside.answer; known = c.self.inside.known } in
    let link : c.self.inside.link ≡ Some v = ap (λ w. w.link) c.self.view_is ∙ is in
    let sound : IsSoundLink c.self.inside.last v = subst (IsSound c.self.inside.last) link c.self.invariant in
    let fed = c.feed-done.ensures.feeds v link in
    let ok : is_err c.feed-done.result.1 ≡ false = sym c.is_err.ensures.value ∙ c.if-is_err.false in
    let fault : is_some fed.link.exchange.fault ≡ false = ap (λ f. is_some f) (ok_fault c.feed-done.result.1 fed.link.exchange.fault fed.feeds.answered ok) in
    record {
      going = sound.going;
      link = fed.link;
      feeds = fed.feeds;
      watch =
          ap (λ a. record { link = c.feed-done.new.link; last = c.self.inside.last; answer = a; known = c.hear_answer-self-inside.result }) c.keep_answer.ensures
          ∙ watch_goes_on configuration scene.clock scene.watching fed.link w c.feed-done.result.2 c.feed-done.new.link c.hear_answer-self-inside.result fault fed.answer fed.stands c.hear_answer-self-inside.ensures.known
          ∙ ap (λ w. watch_heard configuration scene.clock scene.watching fed.link w) c.self.view_is;
      tells = told_goes_on configuration scene.clock scene.line scene.watching fed.link w c.feed-done.result.2 c.args.notices.now c.hear_answer-self-inside.new.notices fault fed.answer c.hear_answer-self-inside.ensures.told
          ∙ ap (λ w. c.args.notices.now ++ (if scene.watching then told_heard configuration scene.clock scene.line scene.watching fed.link w else [])) c.self.view_is;
    }
