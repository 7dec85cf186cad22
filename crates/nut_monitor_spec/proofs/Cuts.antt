-- Cutting an unfinished line into pieces doesn't change the content.
use Rattle.std.proofs.Common.{arith}
use Rattle.std.proofs.Common.{◌≡◌, ℕ, suc, ◌<◌, true, false, not, ◌&&◌, eqb, List, [], ◌∷◌, ◌++◌, length, drop, refl, sym, ◌∙◌, ap, subst, Option, Some, None, is_none, if◌then◌else◌, append-nil, zero}
use mathlib.Core.Path.{fun_ext}
use Rattle.std.proofs.lemmas.Bool.{eq-eqb}
use Rattle.nut_words.specs.Lines.{rest, rest_after}
use Rattle.nut_words.proofs.StreamGrowth.{rest-append}
use Rattle.nut_link.specs.Link.{LinkValue, fed}
use Rattle.nut_link.proofs.Feeding.{rest_cut}
use Rattle.nut_words.proofs.HearLemmas.{lines_cut}
use Rattle.nut_monitor_spec.specs.Configuration.{Configuration, line_in}
use Rattle.nut_monitor_spec.specs.Event.{Event, LinkBytes}
use Rattle.nut_monitor_spec.specs.Decision.{next_query}
use Rattle.nut_monitor_spec.specs.Trace.{Entry, clock, input, linked, outstanding, waits, queries, answers, taken, known, may_ask, last_query, forced, begun, has_begun, has_ended, came, entry_of, first_answer, lost_by, brought, notices_of, query_put, notices_taken, trace, notices_waiting}
use Rattle.nut_monitor_spec.specs.Trace
use Rattle.nut_monitor_spec.specs.Content.{Watch, Content, link_at, watch, content_of}
use Rattle.nut_monitor_spec.specs.machine.Machine.{update, given, with_watch, piece_heard, settled, watch_heard, told_heard}
use Rattle.nut_monitor_spec.specs.laws.Laws.{CutsDoNotMatter}
use Rattle.nut_monitor_spec.proofs.Lists.{for_each-update, get_at, found_within}
use Rattle.nut_monitor_spec.proofs.Newest.{marked}
use Rattle.nut_monitor_spec.proofs.Apart.{watch_by}
use Rattle.nut_monitor_spec.proofs.Settled.{entry_is}
use Rattle.nut_monitor_spec.proofs.Quiet.{bare, none-told, quiet-begun, quiet-ended, quiet-phase, quiet-shutdown}
use Rattle.nut_monitor_spec.proofs.Kept.{Holds, IsThere, found, all-hold, bytes-there, keeps-heard, link-there}

-- ---- a piece that completes no line

update-twice : (i : ℕ) (f g : Watch → Watch) (watches : List Watch) → update i f (update i g watches) ≡ update i (λ w. f (g w)) watches
update-twice i f g [] = refl
update-twice zero f g (w ∷ watches) = refl
update-twice (suc i) f g (w ∷ watches) = ap (λ ws. w ∷ ws) (update-twice i f g watches)

-- a link whose unfinished line grows
abbrev link_on : List ℕ → Option LinkValue → Option LinkValue
link_on x None = None
link_on x (Some v) = Some (record v { rest = rest_after v.rest x })

abbrev goes_on_by : List ℕ → Watch → Watch
goes_on_by x w = record w { link = link_on x w.link }

module _ (configuration : Configuration) (newest : Entry) (older : List Entry) (i : ℕ) (x : List ℕ) (none : brought i (newest ∷ older) x ≡ []) where
  abbrev past : List Entry
  past = newest ∷ older

  abbrev event : Event
  event = LinkBytes i x

  came-bare : came configuration past event ≡ bare event
  came-bare = grind arith

  pub piece-entry : ((j : ℕ) → query_put configuration past j ≡ None) → entry_of configuration past event ≡ bare event
  piece-entry still =
      entry_is configuration past event
      ∙ ap (λ c. marked c (query_put configuration (c ∷ past)) (notices_of configuration past c)) came-bare
      ∙ ap (λ q. marked (bare event) q (notices_of configuration past (bare event)))
      (fun_ext (λ j. ap (λ p. next_query configuration (line_in configuration.lines j) (clock past) p (may_ask j past) (last_query j past) (forced j past))
      (quiet-phase configuration newest older event refl refl refl) ∙ still j))
      ∙ ap (λ ns. marked (bare event) (λ j. None) ns)
      (none-told configuration newest older (has_begun configuration past) (has_ended configuration (bare event ∷ past) && not (has_ended configuration past))
      (quiet-shutdown configuration newest older event refl refl refl))

  rest-on : rest (if eqb i i then input i past ++ x else input i past) ≡ rest_after (rest (input i past)) x
  rest-on = ap (λ b. rest (if b then input i past ++ x else input i past)) (eq-eqb i i refl) ∙ rest-append (input i past) x

  piece-own : watch configuration (bare event ∷ past) i ≡ goes_on_by x (watch configuration past i)
  piece-own = grind (arith, rest-on)

  piece-other : (j : ℕ) → eqb i j ≡ false → watch configuration (bare event ∷ past) j ≡ watch configuration past j
  piece-other j differ = grind (arith, watch_by)

  pub piece-law : content_of configuration (bare event ∷ past) ≡ (let s : Content = content_of configuration past in record s { watches = update i (goes_on_by x) s.watches })
  piece-law =
      let c : Content = content_of configuration (bare event ∷ past) in
      let s : Content = content_of configuration past in
      ap (λ m. let r : Content = record c { begun = m } in r) (quiet-begun configuration newest older event refl refl)
      ∙ ap (λ m. let r : Content = record c { begun = s.begun; ended = m } in r) (quiet-ended configuration newest older event refl refl refl)
      ∙ ap (λ ns. let r : Content = record c { begun = s.begun; ended = s.ended; notices = drop (notices_taken past) ns } in r) (append-nil (Trace.notices past))
      ∙ ap (λ ws. let r : Content = record s { watches = ws } in r)
      (for_each-update i (watch configuration past) (watch configuration (bare event ∷ past)) (goes_on_by x) configuration.lines piece-other piece-own)

  -- feeding the whole piece gives the link that feeding its two parts gives
  fed-same : (y : List ℕ) → fed y (link_at configuration (bare event ∷ past) i) ≡ fed (x ++ y) (link_at configuration past i)
  fed-same y = grind (arith, eq-eqb, rest_cut, lines_cut)

  pub pieces-same : (y : List ℕ) →
      piece_heard i y (watch configuration (bare event ∷ past) i) (Some (link_at configuration (bare event ∷ past) i)) (content_of configuration (bare event ∷ past))
      ≡ piece_heard i (x ++ y) (watch configuration past i) (Some (link_at configuration past i)) (content_of configuration past)
  pieces-same y =
      let w = watch configuration past i in
      let s : Content = content_of configuration past in
      let watching = is_none s.begun in
      let of = λ (v : LinkValue) (r : Content). with_watch i (watch_heard r.configuration r.clock (is_none r.begun) v) (told_heard r.configuration r.clock i (is_none r.begun) v w) r in
      let V = fed (x ++ y) (link_at configuration past i) in
      ap (λ v. of v (content_of configuration (bare event ∷ past))) (fed-same y)
      ∙ ap (of V) piece-law
      ∙ ap (λ ws. let r : Content = record s { notices = given (told_heard s.configuration s.clock i watching V w) s; watches = ws } in r)
      (update-twice i (watch_heard s.configuration s.clock watching V) (goes_on_by x) s.watches)

-- ---- the law

-- the content after a piece on a link that is up
heard-settled : (configuration : Configuration) (past : List Entry) (i : ℕ) (piece : List ℕ) → Holds configuration past → (there : IsThere configuration past i) →
    content_of configuration (entry_of configuration past (LinkBytes i piece) ∷ past)
    ≡ settled (piece_heard i piece (watch configuration past i) (Some (link_at configuration past i)) (content_of configuration past))
heard-settled configuration past i piece holds there = grind (arith, keeps-heard, link-there)

cut-by : (configuration : Configuration) (past : List Entry) (i : ℕ) (x y : List ℕ) → Holds configuration past → IsThere configuration past i → brought i past x ≡ [] →
    content_of configuration (entry_of configuration past (LinkBytes i (x ++ y)) ∷ past)
    ≡ (let more : List Entry = entry_of configuration past (LinkBytes i x) ∷ past in content_of configuration (entry_of configuration more (LinkBytes i y) ∷ more))
cut-by configuration [] i x y holds there none = let e : false ≡ true = there.1 in cc
cut-by configuration (newest ∷ older) i x y holds there none =
    let past : List Entry = newest ∷ older in
    let is = piece-entry configuration newest older i x none holds.still in
    let more : List Entry = bare (LinkBytes i x) ∷ past in
    let holds' : Holds configuration more = subst (λ e. Holds configuration (e ∷ past)) is (keeps-heard configuration past i x holds there).holds in
    let less : i < length configuration.lines = found_within i (watch configuration past) configuration.lines (watch configuration past i) there.0 in
    let there' : IsThere configuration more i = (get_at i (watch configuration more) configuration.lines less, there.1) in
    heard-settled configuration past i (x ++ y) holds there
    ∙ ap settled (sym (pieces-same configuration newest older i x none y))
    ∙ sym (heard-settled configuration more i y holds' there')
    ∙ ap (λ e. content_of configuration (entry_of configuration (e ∷ past) (LinkBytes i y) ∷ e ∷ past)) (sym is)

pub cut-law : CutsDoNotMatter
cut-law configuration events i x y accepted none = grind (arith, all-hold, cut-by, bytes-there, found)
