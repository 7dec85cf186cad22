-- A link that goes round keeps pace: what was asked before a round was answered in it.
use Rattle.std.proofs.Common.{◌≡◌, ◌⊎◌, ℕ, suc, ◌<◌, ◌≤◌, inl, inr, List, [], ◌∷◌, length, take, drop, true, Some, None, refl, sym, ◌∙◌, ap, subst, arith, length-append, length-drop}
use Rattle.std.specs.Prelude.{if◌then◌else◌}
use Rattle.std.specs.List.{AllByRecursion}
use Rattle.nut_words.specs.Lines.{lines}
use Rattle.nut_words.specs.Quoting.{Begins}
use Rattle.nut_server_spec.specs.Event as arrivals
use Rattle.nut_server_spec.specs.Content.{past as happened}
use Rattle.nut_server_spec.specs.Content as server
use Rattle.nut_server_spec.specs.Trace.{due as server_due}
use Rattle.nut_monitor_spec.specs.declared.Query.{Query}
use Rattle.nut_monitor_spec.specs.Configuration.{Configuration, Line}
use Rattle.nut_monitor_spec.specs.Event.{Event}
use Rattle.nut_monitor_spec.specs.Trace.{Asked, clock, queries, answers, outstanding, due, joined_queries, taken, trace, notices_waiting}
use Rattle.nut_monitor_spec.specs.Trace as monitor
use Rattle.nut_monitor_spec.proofs.Lists.{number-none}
use Rattle.nut_fleet.specs.Schedule.{Step, IsFront}
use Rattle.nut_fleet.specs.World.{Setup, monitor_of, line_of, world, has_link}
use Rattle.nut_fleet.specs.Exchange.{Exchange, exchanges}
use Rattle.nut_fleet.specs.Fleet.{IsSetup}
use Rattle.nut_fleet.proofs.Entries.{entry-taken, length-trace}
use Rattle.nut_fleet.proofs.Exchanges.{said-lines}
use Rattle.nut_fleet.proofs.Fronts.{front-self, lines-begin, length-0}
use Rattle.nut_fleet.proofs.Sound.{IsOwn, IsLawful, PipeSound}
use Rattle.nut_fleet.proofs.Steps.{spoken, line-within}
use Rattle.nut_fleet.proofs.Texts.{IsReply, queries-lines, due-lines}
use Rattle.nut_fleet.proofs.Turns.{all-map, length-in_turn}
use Rattle.nut_fleet.proofs.Worlds.{sound}
use Rattle.nut_in_time.specs.Pace.{seen_at}
use Rattle.nut_in_time.specs.Round.{WentRound, IsThere, RoundsAnswer, RoundsKeepPace}
use Rattle.nut_in_time.proofs.Asking.{not-made}
use Rattle.nut_in_time.proofs.Climbing.{front-of, each-event, each-event_with}
use Rattle.nut_in_time.proofs.Emptied.{whole, all-taken}
use Rattle.nut_in_time.proofs.Ending.{clock-entry}
use Rattle.nut_in_time.proofs.Recent.{Up, up-older, newly, put-cases, recent-next}
use Rattle.nut_in_time.proofs.Standing.{connection-kept, open-some, taken-grows, input-begins, sent-begins}

-- ---- texts

drop-later : (a b : ℕ) (x : List ℕ) → a ≤ b → drop a x ≡ [] → drop b x ≡ []
drop-later a b x le none =
    let first = ap length none in
    let one = length-drop a x in
    let two = length-drop b x in
    length-0 (drop b x) (omega (arith, first, one, two, le))

lines-more : (x y : List ℕ) → Begins x y → length (lines x) ≤ length (lines y)
lines-more x y b =
    let more = lines-begin x y b in
    let all = ap length more.1 in
    let both = length-append (lines x) more.0 in
    omega (arith, all, both)

module _ (setup : Setup) (law : IsLawful setup.server) (fine : IsSetup setup) (m i : ℕ) (there : has_link setup m i ≡ true) (start schedule : List Step)
    (up : IsThere setup m i start schedule) where
  abbrev config : Configuration
  config = monitor_of setup m

  abbrev line : Line
  line = line_of setup m i

  abbrev less : i < length (monitor_of setup m).lines
  less = line-within setup m i there

  abbrev Up' : List Event → Type 0
  Up' told = Up config i told

  up-at : (e : List Step) → IsFront start e → IsFront e schedule → Up' ((world setup e).monitor m)
  up-at e since within = record { accepted = ((sound setup law fine e).monitors m).accepted; there = up e within since }

  up-between : (early late : List Step) → IsFront start early → IsFront late schedule → (e : List Step) → IsFront e late → IsFront early e → Up' ((world setup e).monitor m)
  up-between early late since within e inside from = up-at e (front-of start early e since from) (front-of e late schedule inside within)

  pipes : (e : List Step) → PipeSound setup e m i ((world setup e).connection m i) (world setup e).server ((world setup e).monitor m)
  pipes e = ((sound setup law fine e).monitors m).links i there

  -- ---- queries that were put after some events and from a moment on

  module _ (n0 t0 : ℕ) (first : (n0 ≤ suc (length ((world setup start).monitor m))) × (t0 ≤ clock (seen_at setup m start))) where
    abbrev Fits : Asked → Type 0
    Fits a = (n0 ≤ a.event) × (t0 ≤ a.moment)

    abbrev Recent : List Event → Type 0
    Recent told = (a : Asked) → outstanding i (trace config told) ≡ Some a → Fits a

    abbrev Since : List Event → Type 0
    Since told = (n0 ≤ suc (length told)) × (t0 ≤ clock (trace config told))

    abbrev Behind : List Event → Type 0
    Behind told = (n0 ≤ length told) × (t0 ≤ clock (trace config told))

    behind-next : (told : List Event) (event : Event) → Since told → Behind (event ∷ told)
    behind-next told event s = grind (arith, clock-entry)

    since-of : (told : List Event) → Behind told → Since told
    since-of told b = let n = b.0 in (omega (arith, n), b.1)

    on : (told : List Event) (event : Event) → Behind told → Behind (event ∷ told)
    on told event b = behind-next told event (since-of told b)

    fits : (told : List Event) (event : Event) (query : Query) → Behind (event ∷ told) → Fits (newly config i told event query)
    fits told event query b = grind (arith, length-trace, clock-entry)

    since-at : (e : List Step) → IsFront start e → Since ((world setup e).monitor m)
    since-at e front = each-event setup m start e Since front first (λ told event s. since-of (event ∷ told) (behind-next told event s))

    -- once this holds of the query that waits, it stays so
    recent-later : (early late : List Step) → IsFront start early → IsFront early late → IsFront late schedule → Recent ((world setup early).monitor m) →
        Recent ((world setup late).monitor m)
    recent-later early late since front within r =
        (each-event_with setup m early late (λ t. Since t × Recent t) Up' front (up-older config i) (up-between early late since within) (since-at early since, r)
        (λ told event u u' before.
        let now = behind-next told event before.0 in
        (since-of (event ∷ told) now, recent-next config i less Behind on Fits fits told event now u u' before.1))).1

    -- this holds, or no query was put since `start`
    abbrev State : List Event → Type 0
    State told = Recent told ⊎ (queries i (trace config told) ≡ queries i (seen_at setup m start))

    state-next : (told : List Event) (event : Event) → Behind (event ∷ told) → Up' told → Up' (event ∷ told) → State told → State (event ∷ told)
    state-next told event now u u' (inl r) = inl (recent-next config i less Behind on Fits fits told event now u u' r)
    state-next told event now u u' (inr same) = elim (put-cases config i less told event u u') [
      | inl older ↦ inr (older.0 ∙ same)
      | inr new ↦ inl (λ a is. let n = new a is in subst Fits n.1 (fits told event n.0 now))
    ]

    state-at : (e : List Step) → IsFront start e → IsFront e schedule → State ((world setup e).monitor m)
    state-at e since within =
        (each-event_with setup m start e (λ t. Since t × State t) Up' since (up-older config i) (up-between start e (front-self start) within) (first, inr refl)
        (λ told event u u' before.
        let now = behind-next told event before.0 in
        (since-of (event ∷ told) now, state-next told event now u u' before.1))).1

  -- ---- what its monitor put only grows

  taken-later : (early late : List Step) → IsFront start early → IsFront early late → IsFront late schedule → taken i (seen_at setup m early) ≤ taken i (seen_at setup m late)
  taken-later early late since front within =
      each-event_with setup m early late More Up' front (up-older config i) (up-between early late since within) (omega arith) next
    where
      More : List Event → Type 0
      More told = taken i (seen_at setup m early) ≤ taken i (trace config told)

      next : (told : List Event) (event : Event) → Up' told → Up' (event ∷ told) → More told → More (event ∷ told)
      next told event u u' le =
          let same = entry-taken config (trace config told) event i in
          let grows = taken-grows i event (taken i (trace config told)) (not-made config told event i less u'.accepted.1 u.there) in
          omega (arith, same, grows, le)

  -- ---- a round

  module _ (round : WentRound setup m i start schedule) where
    abbrev at_reach : IsFront start round.reach
    at_reach = front-of start round.out round.reach round.first round.second

    abbrev at_back : IsFront start round.back
    at_back = front-of start round.reach round.back at_reach round.third

    abbrev at_land : IsFront start round.land
    at_land = front-of start round.back round.land at_back round.fourth

    abbrev from_back : IsFront round.back schedule
    from_back = front-of round.back round.land schedule round.fourth round.over

    abbrev from_reach : IsFront round.reach schedule
    from_reach = front-of round.reach round.back schedule round.third from_back

    abbrev from_out : IsFront round.out schedule
    from_out = front-of round.out round.reach schedule round.second from_reach

    abbrev asked : List Asked
    asked = queries i (seen_at setup m start)

    abbrev NoneAsked : List Step → Type 0
    NoneAsked e = queries i (seen_at setup m e) ≡ queries i (seen_at setup m start)

    -- all queries have reached the server
    all-heard : NoneAsked round.out → NoneAsked round.reach →
        length (lines (arrivals.input ((world setup round.reach).connection m i) (world setup round.reach).server)) ≡ length asked
    all-heard q1 q2 =
        let t1 = seen_at setup m round.out in
        let t2 = seen_at setup m round.reach in
        let c = (world setup round.reach).connection m i in
        let h = (world setup round.reach).server in
        let text = joined_queries line asked in
        let put : drop (taken i t1) (due config i t1) ≡ [] =
        sym (ap (λ b. if b then drop (taken i t1) (due config i t1) else []) (up round.out from_out round.first)) ∙ round.put in
        let put' : drop (taken i t1) text ≡ [] = sym (ap (λ q. drop (taken i t1) (joined_queries line q)) q1) ∙ put in
        let later : drop (taken i t2) text ≡ [] = drop-later (taken i t1) (taken i t2) text (taken-later round.out round.reach round.first round.second from_reach) put' in
        let sent : monitor.sent config i t2 ≡ text = ap (λ q. take (taken i t2) (joined_queries line q)) q2 ∙ all-taken (taken i t2) text later in
        let left : drop (length (arrivals.input c h)) (monitor.sent config i t2) ≡ [] =
        sym (ap (λ b. if b then drop (length (arrivals.input c h)) (monitor.sent config i t2) else []) round.is_open) ∙ round.reached in
        let input : text ≡ arrivals.input c h = sym sent ∙ whole (arrivals.input c h) (monitor.sent config i t2) (pipes round.reach).out left in
        ap (λ x. length (lines x)) (sym input) ∙ ap length (queries-lines line asked (spoken setup m i fine there).writable).0 ∙ length-in_turn _ asked

    -- all answers to what the server heard are put
    all-answered : let c = (world setup round.back).connection m i in let h = (world setup round.back).server in
        length (lines (server.sent setup.server c h)) ≡ length (lines (arrivals.input c h))
    all-answered =
        let c = (world setup round.back).connection m i in
        let h = (world setup round.back).server in
        let given = exchanges c (happened setup.server h) in
        let put : server.sent setup.server c h ≡ server_due c (happened setup.server h) = all-taken (arrivals.taken c h) (server_due c (happened setup.server h)) round.taken in
        let replies : AllByRecursion (λ (x : Exchange). IsReply x.answer) given =
        all-map (IsOwn line) (λ (x : Exchange). IsReply x.answer) (λ x own. own.1) given (pipes round.back).link.own in
        ap (λ x. length (lines x)) put ∙ ap length (due-lines c (happened setup.server h) replies).0 ∙ length-in_turn _ given
        ∙ sym (ap length (said-lines setup.server h c) ∙ length-in_turn _ given)

    -- and have arrived
    all-read : let c = (world setup round.land).connection m i in
        length (lines (server.sent setup.server c (world setup round.land).server)) ≡ length (answers i (seen_at setup m round.land))
    all-read =
        let t = seen_at setup m round.land in
        let c = (world setup round.land).connection m i in
        let h = (world setup round.land).server in
        let here = up round.land round.over at_land in
        let left : drop (length (monitor.input i t)) (server.sent setup.server c h) ≡ [] =
        sym (ap (λ b. if b then drop (length (monitor.input i t)) (server.sent setup.server c h) else []) here) ∙ round.landed in
        let read : server.sent setup.server c h ≡ monitor.input i t = whole (monitor.input i t) (server.sent setup.server c h) (pipes round.land).back left in
        ap (λ x. length (lines x)) read ∙ (pipes round.land).read here

    connection-at : (e : List Step) → IsFront round.reach e → IsFront e schedule → (world setup e).connection m i ≡ (world setup round.reach).connection m i
    connection-at e since within =
        connection-kept setup m i round.reach e since (open-some setup (world setup round.reach) m i round.is_open) (λ x from to. up x (front-of x e schedule to within) (front-of start round.reach x at_reach from))

    none-waits : NoneAsked round.out → NoneAsked round.reach → NoneAsked round.land → outstanding i (seen_at setup m round.land) ≡ None
    none-waits q1 q2 q4 =
        let t = seen_at setup m round.land in
        let c = (world setup round.reach).connection m i in
        let h2 = (world setup round.reach).server in
        let h3 = (world setup round.back).server in
        let h4 = (world setup round.land).server in
        let c3 = connection-at round.back round.third from_back in
        let c4 = connection-at round.land (front-of round.reach round.back round.land round.third round.fourth) round.over in
        let heard = all-heard q1 q2 in
        let answered : length (lines (server.sent setup.server c h3)) ≡ length (lines (arrivals.input c h3)) =
        subst (λ d. length (lines (server.sent setup.server d h3)) ≡ length (lines (arrivals.input d h3))) c3 all-answered in
        let read : length (lines (server.sent setup.server c h4)) ≡ length (answers i t) =
        subst (λ d. length (lines (server.sent setup.server d h4)) ≡ length (answers i t)) c4 all-read in
        let more : length (lines (arrivals.input c h2)) ≤ length (lines (arrivals.input c h3)) =
        lines-more (arrivals.input c h2) (arrivals.input c h3) (input-begins setup c round.reach round.back round.third) in
        let most : length (lines (server.sent setup.server c h3)) ≤ length (lines (server.sent setup.server c h4)) =
        lines-more (server.sent setup.server c h3) (server.sent setup.server c h4) (sent-begins setup law fine c round.back round.land round.fourth) in
        let same = ap length q4 in
        number-none (length (answers i t)) (queries i t) (omega (arith, heard, answered, read, more, most, same))

    abbrev n0 : ℕ
    n0 = suc (length (seen_at setup m start))

    abbrev t0 : ℕ
    t0 = clock (seen_at setup m start)

    first : (suc (length (seen_at setup m start)) ≤ suc (length ((world setup start).monitor m))) × (clock (seen_at setup m start) ≤ clock (seen_at setup m start))
    first = let n = length-trace config ((world setup start).monitor m) in (omega (arith, n), omega arith)

    pub round-recent : (a : Asked) → outstanding i (seen_at setup m schedule) ≡ Some a → (suc (length (seen_at setup m start)) ≤ a.event) × (clock (seen_at setup m start) ≤ a.moment)
    round-recent = elim (state-at n0 t0 first round.out round.first from_out) [
      | inl r ↦ recent-later n0 t0 first round.out schedule round.first from_out (front-self schedule) r
      | inr q1 ↦ elim (state-at n0 t0 first round.reach at_reach from_reach) [
        | inl r ↦ recent-later n0 t0 first round.reach schedule at_reach from_reach (front-self schedule) r
        | inr q2 ↦ elim (state-at n0 t0 first round.land at_land round.over) [
          | inl r ↦ recent-later n0 t0 first round.land schedule at_land round.over (front-self schedule) r
          | inr q4 ↦ recent-later n0 t0 first round.land schedule at_land round.over (front-self schedule)
              (λ a is. let bad : None ≡ Some a = sym (none-waits q1 q2 q4) ∙ is in cc)
        ]
      ]
    ]

pub rounds-answer : (setup : Setup) → IsLawful setup.server → IsSetup setup → (schedule : List Step) → RoundsAnswer setup schedule
rounds-answer setup law fine schedule m i start asked there up round is =
    let r = round-recent setup law fine m i there start schedule up round asked is in
    let n = r.0 in
    (omega (arith, n), r.1)

pub rounds-keep_pace : (setup : Setup) → IsLawful setup.server → IsSetup setup → (schedule : List Step) → RoundsKeepPace setup schedule
rounds-keep_pace setup law fine schedule pace m i start there up fresh goes = record {
  linked = up;
  prompt = λ early within since asked is. elim (goes early within since) [
    | inl soon ↦
        let up' : IsThere setup m i start early = λ e inside from. up e (front-of e early schedule inside within) from in
        let r = (recent-later setup law fine m i there start early up' 0 (clock (seen_at setup m start)) (omega arith, omega arith) start early (front-self start) since (front-self early)
        (λ a some. (omega arith, fresh a some)) asked is).1 in
        omega (arith, soon, r)
    | inr went ↦
        let up' : IsThere setup m i went.since early = λ e inside from. up e (front-of e early schedule inside within) (front-of start went.since e went.front from) in
        let r = (round-recent setup law fine m i there went.since early up' went.round asked is).1 in
        omega (arith, went.soon, r)
  ];
}
