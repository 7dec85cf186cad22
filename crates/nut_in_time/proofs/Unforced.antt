-- On a link of a primary, while nobody has forced the shutdown of its UPS, no FSD is accepted.
use Rattle.std.proofs.Common.{◌≡◌, ◌⊎◌, ℕ, ◌+◌, ◌<◌, ◌≤◌, inl, inr, List, [], ◌∷◌, length, true, false, Some, sym, ◌∙◌, subst, arith}
use Rattle.nut_proto.specs.declared.reply.Reply.{Reply}
use Rattle.nut_proto.specs.declared.reply.Reply.TheVariants as replies
use Rattle.nut_server_spec.specs.Answer.{Line as OneLine}
use Rattle.nut_server_spec.specs.Configuration.{number_of_ups}
use Rattle.nut_server_spec.specs.Content.{past}
use Rattle.nut_server_spec.specs.Event as arrivals
use Rattle.nut_server_spec.specs.Trace.{answer_to}
use Rattle.nut_monitor_spec.specs.declared.Query.TheVariants.{Primary, Fsd}
use Rattle.nut_monitor_spec.specs.Acceptance.{IsAccepted}
use Rattle.nut_monitor_spec.specs.Decision.{is_alone}
use Rattle.nut_monitor_spec.specs.Event.{Event}
use Rattle.nut_monitor_spec.specs.Trace.{Answer, Entry, begun, clock, forced, has_begun, logins, trace}
use Rattle.nut_fleet.specs.Schedule.{Step, IsFront}
use Rattle.nut_fleet.specs.World.{Setup, has_link, is_linked, line_of, monitor_of, world}
use Rattle.nut_fleet.specs.Exchange.{exchanges}
use Rattle.nut_fleet.specs.Fleet.{Exists, IsAnswered, IsSetup}
use Rattle.nut_fleet.specs.Shown.{query_line}
use Rattle.nut_fleet.proofs.Entries.{forced-by}
use Rattle.nut_fleet.proofs.Fronts.{front-older, fronts-compare}
use Rattle.nut_fleet.proofs.Primaries.{forced-genuine}
use Rattle.nut_fleet.proofs.Reading.{reply-same}
use Rattle.nut_fleet.proofs.Sound.{EachGenuine, ForAnswer, ForcedBy, Genuine, IsLawful}
use Rattle.nut_fleet.proofs.Steps.{spoken}
use Rattle.nut_fleet.proofs.Worlds.{sound}
use Rattle.nut_fleet.proofs.Rereads.{as-made, room-stays}
use Rattle.nut_in_time.specs.Pace.{FromOn, IsPolled, KeepsPace, Pace, seen_at}
use Rattle.nut_in_time.specs.Room.{IsGrant, WasGranted, is_forced}
use Rattle.nut_in_time.specs.RoomAsTold.{EachTaken}
use Rattle.nut_in_time.proofs.Climbing.{front-of}
use Rattle.nut_in_time.proofs.Ending.{false-if}
use Rattle.nut_in_time.proofs.Forced.{schedule-stays}
use Rattle.nut_in_time.proofs.Granted.{answered-forced, entitled, entitled-forces, said-keeps}
use Rattle.nut_in_time.proofs.Lasting.{kept-pace}
use Rattle.nut_in_time.proofs.RoomAsTold.{alone-forced, behind}
use Rattle.nut_in_time.proofs.Showing.{monitor-grows}
use Rattle.nut_in_time.proofs.Standing.{connection-kept, said-some, server-climb}

module _ (setup : Setup) (law : IsLawful setup.server) (fine : IsSetup setup) (p i u : ℕ) (start schedule : List Step) (front : IsFront start schedule)
    (there : has_link setup p i ≡ true) (number : number_of_ups (line_of setup p i).ups setup.server.upses ≡ Some u)
    (linked : FromOn start schedule (λ early. is_linked setup (world setup early) p i ≡ true)) (granted : WasGranted setup p i Primary start)
    (not_forced : is_forced setup u schedule ≡ false) where
  abbrev n0 : ℕ
  n0 = length ((world setup start).monitor p)

  -- no FSD was accepted
  none-accepted : (step : Step) (early : List Step) → IsFront (step ∷ early) schedule → IsAnswered setup p i Fsd replies.FsdSet step early → ⊥
  none-accepted step early played answered =
      let now = answered-forced setup p i u step early (spoken setup p i fine there) number answered in
      let bad : false ≡ true = sym not_forced ∙ schedule-stays setup (line_of setup p i).ups u number (step ∷ early) schedule played now in cc

  -- the server accepts each FSD on the link since `start`
  accepts : (early : List Step) (reply : Reply) → IsFront start early → IsFront early schedule →
      answer_to setup.server (past setup.server (world setup early).server) ((world setup early).connection p i) (query_line (line_of setup p i) Fsd) ≡ OneLine reply → reply ≡ replies.FsdSet
  accepts early reply since inside answered =
      let c0 = (world setup start).connection p i in
      let c = (world setup early).connection p i in
      let t = past setup.server (world setup early).server in
      let line = line_of setup p i in
      let line_fine = spoken setup p i fine there in
      let same : c ≡ c0 = connection-kept setup p i start early since
      (said-some setup (world setup start) p i (IsGrant line Primary) ((sound setup law fine start).accepted) granted) (λ e from to. linked e (front-of e early schedule to inside) from) in
      let said : Exists (IsGrant line Primary) (exchanges c0 t) =
      server-climb setup start early (λ h. Exists (IsGrant line Primary) (exchanges c0 (past setup.server h))) since granted
      (λ e event from before. said-keeps setup.server c0 (IsGrant line Primary) event (world setup e).server before) in
      let said' : Exists (IsGrant line Primary) (exchanges c t) = subst (λ d. Exists (IsGrant line Primary) (exchanges d t)) (sym same) said in
      let own = (((sound setup law fine early).monitors p).links i there).link.own in
      let none = room-stays setup early in
      let right = entitled setup.server line c (arrivals.steps (world setup early).server) none line_fine own said' in
      let made = as-made setup.server (arrivals.steps (world setup early).server) none in
      reply-same reply replies.FsdSet (sym answered ∙ entitled-forces setup.server line c t made line_fine own right)

  -- no FSD was answered OK
  pub none-forced : (n : ℕ) (past : List Entry) → EachGenuine setup schedule p past → ForcedBy i n past → ⊥
  none-forced n past all is =
      let forced = forced-genuine setup schedule p law i n past is all in
      none-accepted forced.step forced.early forced.played forced.answered

  unforced : (past : List Entry) → EachGenuine setup schedule p past → forced i past ≡ false
  unforced past all = false-if (forced i past) (λ is. none-forced (length past) past all (forced-by i (length past) past (omega arith) is))

  -- so no number of logins was read
  pub none-counted : (told : List Event) → EachGenuine setup schedule p (trace (monitor_of setup p) told) → is_alone (logins i (trace (monitor_of setup p) told)) ≡ true → ⊥
  none-counted told all alone = grind (arith, unforced, alone-forced)

  -- no answer to an FSD that was put since `start` was read
  pub none-read : (past : List Entry) (a : Answer) → Genuine setup schedule p past a → a.link ≡ i → a.asked.query ≡ Fsd → n0 < a.asked.event → ⊥
  none-read past a g link query late =
      let early = g.was.early in
      let inside : IsFront early schedule = front-older g.was.step early schedule g.was.played in
      let since : IsFront start early = elim (fronts-compare start early schedule front inside) [
        | inl is ↦ is
        | inr is ↦ let few = monitor-grows setup p early start is in let asked = g.asked in absurd (omega (arith, few, asked, late))
      ] in
      let answered : IsAnswered setup p i Fsd g.reply g.was.step early =
      subst (λ q. IsAnswered setup p i q g.reply g.was.step early) query (subst (λ j. IsAnswered setup p j a.asked.query g.reply g.was.step early) link g.was.answered) in
      none-accepted g.was.step early g.was.played
      (subst (λ r. IsAnswered setup p i Fsd r g.was.step early) (accepts early g.reply since inside answered.answered) answered)

  -- each answer to such an FSD would be OK, since there is none
  taken : (past : List Entry) → EachGenuine setup schedule p past → EachTaken i n0 past
  taken [] all = tt
  taken (entry ∷ past) all =
      ((λ a answer link query late. absurd (none-read past a (subst (λ o. ForAnswer o (Genuine setup schedule p past)) answer all.0) link query late)), taken past all.1)

  -- how long after the shutdown began it may be: as told
  module _ (pace : Pace) (within : i < length (monitor_of setup p).lines) (primary : (line_of setup p i).primary ≡ true) (long : pace.delay ≤ (monitor_of setup p).host_sync)
      (not_begun : has_begun (monitor_of setup p) (seen_at setup p start) ≡ false) (polled : IsPolled i (seen_at setup p start)) (keeps : KeepsPace setup pace p i start schedule) where
    pub led-behind : (has_begun (monitor_of setup p) (seen_at setup p schedule) ≡ false)
        ⊎ (clock (seen_at setup p schedule) ≤ clock (begun (monitor_of setup p) (seen_at setup p schedule)) + pace.delay + pace.delay)
    led-behind =
        let config = monitor_of setup p in
        let s = (sound setup law fine schedule).monitors p in
        let k = kept-pace setup law fine pace p i start schedule front keeps in
        subst (λ told. (has_begun config (trace config told) ≡ false) ⊎ (clock (trace config told) ≤ clock (begun config (trace config told)) + pace.delay + pace.delay)) (sym k.1)
        (behind config pace ((world setup start).monitor p) i within primary long not_begun polled k.0 (subst (IsAccepted config) k.1 s.accepted) k.2
        (subst (λ told. EachTaken i n0 (trace config told)) k.1 (taken (seen_at setup p schedule) s.genuine))
        (subst (λ told. forced i (trace config told) ≡ false) k.1 (unforced (seen_at setup p schedule) s.genuine)))
