-- What a piece changes in a monitor's content.
use Rattle.std.proofs.Common.{◌≡◌, ℕ, ◌<◌, ◌≤◌, true, false, List, [], ◌++◌, length, refl, sym, ap, subst, ◌∙◌, Option, Some, None, is_some, is_none, Result, inl, inr, slice_set, slice_index_or}
use Rattle.std.specs.Prelude.{if◌then◌else◌}
use Rattle.std.proofs.lemmas.Bool.{false≢true}
use Rattle.nut_words.specs.Lines.{lines_after}
use Rattle.nut_link.specs.Hearing.{RunsOut}
use Rattle.nut_link.specs.Link.{LinkValue, answer_by}
use Rattle.nut_link.specs.declared.fault.LinkFault.{LinkFault}
use Rattle.nut_link.specs.declared.fault.LinkFault.TheVariants.{Memory}
use Rattle.nut_words.specs.declared.limits.TheConstants.{PIECE_MAX}
use Rattle.nut_monitor_spec.specs.Acceptance.{is_linked, refusal, watch_at}
use Rattle.nut_monitor_spec.specs.Content.{Watch, Content}
use Rattle.nut_monitor_spec.specs.Event.{LinkBytes, OutOfMemory}
use Rattle.nut_monitor_spec.specs.machine.Machine.{advance, settled, told_heard, watch_heard}
use Rattle.nut_monitor_spec.specs.Outcome.{IsRefusal, MayRunOut, MayRunOutIn}
use Rattle.nut_monitor_spec.specs.declared.MonitorFault.TheVariants as refusals
use Rattle.nut_monitor_spec.specs.declared.Notice.{Notice}
use Rattle.nut_monitor.specs.declared.answer.AnswerScene.{AnswerScene}
use Rattle.nut_monitor.specs.inside.Hearing.{HearsPiece}
use Rattle.nut_monitor.specs.inside.Sound.{is_memory, lacks_memory}
use Rattle.nut_monitor.specs.Bounds.{AreLinksBounded, IsLinkBounded}
use Rattle.nut_monitor.proofs.Bounded.{at_bounded, heard_bounded}
use Rattle.nut_monitor.proofs.Links.{ran_out}
use Rattle.nut_monitor.proofs.Steps.{bytes_accepted, heard_content, here, linked_here, out_content}

some_of : (o : Option LinkValue) → is_some o ≡ true → (v : LinkValue) × (o ≡ Some v)
some_of None h = absurd (false≢true h)
some_of (Some v) h = (v, refl)

memory_is : (f : LinkFault) → is_memory f ≡ true → f ≡ Memory
memory_is Memory h = refl
memory_is _ h = absurd (false≢true h)

lacking : (r : Result (Unit {0}) LinkFault) (f : Option LinkFault) → r ≡ answer_by f → lacks_memory r ≡ true → f ≡ Some Memory
lacking r None is h = absurd (false≢true (sym (ap lacks_memory is) ∙ h))
lacking r (Some fault) is h = ap Some (memory_is fault (sym (ap lacks_memory is) ∙ h))

not_lacking : (r : Result (Unit {0}) LinkFault) (f : Option LinkFault) → r ≡ answer_by f → f ≡ Some Memory → lacks_memory r ≡ true
not_lacking r f is memory = ap lacks_memory is ∙ ap (λ f. lacks_memory (answer_by f)) memory

module _ (s : Content) (i : ℕ) (p : List ℕ) (w w' : Watch) (scene : AnswerScene) (r : ℕ × Result (Unit {0}) LinkFault) (news : List Notice)
    (lt : i < length s.watches) (is : w ≡ slice_index_or s.watches i w) (linked : is_linked (watch_at i s.watches) ≡ true)
    (short : length p ≤ PIECE_MAX) (free : length s.notices ≤ 0)
    (seen : scene ≡ record { line = i; clock = s.clock; watching = is_none s.begun })
    (hears : (v : LinkValue) → w.link ≡ Some v → HearsPiece s.configuration scene p v w s.notices r w' news) where
  at : watch_at i s.watches ≡ Some w
  at = here i s.watches w lt is

  found : (v : LinkValue) × (w.link ≡ Some v)
  found = some_of w.link (linked_here (watch_at i s.watches) w true at linked)

  heard : HearsPiece s.configuration scene p found.0 w s.notices r w' news
  heard = hears found.0 found.1

  pub bytes_free : refusal s (LinkBytes i p) ≡ None
  bytes_free = bytes_accepted s p (watch_at i s.watches) w at linked short free

  watch_is : w' ≡ watch_heard s.configuration s.clock (is_none s.begun) heard.link w
  watch_is = heard.watch ∙ ap (λ scene. watch_heard s.configuration scene.clock scene.watching heard.link w) seen

  told_is : news ≡ s.notices ++ (if is_none s.begun then told_heard s.configuration s.clock i (is_none s.begun) heard.link w else [])
  told_is = heard.tells ∙ ap (λ scene. s.notices ++ (if scene.watching then told_heard s.configuration scene.clock scene.line scene.watching heard.link w else [])) seen

  pub bytes_done : lacks_memory r.1 ≡ false → settled (record s { notices = news; watches = slice_set s.watches i w' }) ≡ advance s (LinkBytes i p)
  bytes_done kept = elim heard.feeds.stands [
    | inl said ↦ ap settled (heard_content s i p w w' found.0 heard.link news lt is found.1 said.0 watch_is told_is)
    | inr out ↦ absurd (false≢true (sym kept ∙ not_lacking r.1 heard.link.exchange.fault heard.feeds.answered (ap (λ e. e.fault) out.0.stands.0)))
  ]

  lack : lacks_memory r.1 ≡ true → RunsOut (lines_after found.0.rest p) found.0.exchange r.0 heard.link.exchange
  lack wanting = ran_out found.0 p r.0 r.1 heard.link heard.going heard.feeds (lacking r.1 heard.link.exchange.fault heard.feeds.answered wanting)

  pub bytes_out : lacks_memory r.1 ≡ true → settled (record s { notices = news; watches = slice_set s.watches i w' }) ≡ advance s (OutOfMemory i p r.0)
  bytes_out wanting = ap settled (out_content found.0 p r.0 heard.link (lack wanting) s i w w' news lt is found.1 watch_is told_is)

  pub bytes_lack : lacks_memory r.1 ≡ true → IsRefusal s (LinkBytes i p) (refusals.Memory (Some i) r.0)
  bytes_lack wanting =
      let runs : MayRunOut r.0 p w.link = subst (MayRunOut r.0 p) (sym found.1) (heard.link.exchange, lack wanting) in
      (bytes_free, (refl, subst (MayRunOutIn r.0 p) (sym at) runs))

-- the link of a line that hears a piece stays within its bounds
pub piece_bounded : (s : Content) (i : ℕ) (p : List ℕ) (w w' : Watch) (scene : AnswerScene) (r : ℕ × Result (Unit {0}) LinkFault) (news : List Notice) → i < length s.watches → w ≡ slice_index_or s.watches i w
    → is_linked (watch_at i s.watches) ≡ true → ((v : LinkValue) → w.link ≡ Some v → HearsPiece s.configuration scene p v w s.notices r w' news) → AreLinksBounded s.watches → IsLinkBounded w'.link
piece_bounded s i p w w' scene r news lt is linked hears bounded =
    let found = some_of w.link (linked_here (watch_at i s.watches) w true (here i s.watches w lt is) linked) in
    let heard = hears found.0 found.1 in
    subst (λ (x : Watch). IsLinkBounded x.link) (sym heard.watch)
    (heard_bounded s.configuration scene.clock scene.watching found.0 heard.link w p r.0 r.1 heard.feeds found.1 (at_bounded s.watches i w lt is bounded))
