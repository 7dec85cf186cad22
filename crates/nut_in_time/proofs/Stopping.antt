-- The primary of a room on a low battery: its FSD is accepted in time.
use Rattle.std.proofs.Common.{◌≡◌, ◌⊎◌, ℕ, zero, suc, ◌+◌, ◌<◌, ◌≤◌, ◌||◌, inl, inr, List, [], ◌∷◌, length, Bool, true, false, not, Some, refl, sym, ◌∙◌, ap, subst, arith}
use Rattle.std.proofs.lemmas.Bool.{cases_Bool, ltb-true, or_cases}
use Rattle.nut_server_spec.specs.Configuration.{number_of_ups}
use Rattle.nut_server_spec.specs.Content.{past}
use Rattle.nut_monitor_spec.specs.declared.Query.TheVariants.{Primary}
use Rattle.nut_monitor_spec.specs.Configuration.{Configuration, Line, has_primary, line_in}
use Rattle.nut_monitor_spec.specs.Decision.{power_where}
use Rattle.nut_monitor_spec.specs.Event.{Event}
use Rattle.nut_monitor_spec.specs.Trace.{Entry, clock, status, critical, is_any, is_short, supply, begun, has_begun, came, entry_of, trace}
use Rattle.nut_fleet.specs.Schedule.{Step, IsFront}
use Rattle.nut_fleet.specs.World.{Setup, has_link, line_of, monitor_of, world}
use Rattle.nut_fleet.specs.Fleet.{IsSetup}
use Rattle.nut_fleet.proofs.Entries.{entry-answer, forced-by, forced-entry, length-trace}
use Rattle.nut_fleet.proofs.Fronts.{front-self}
use Rattle.nut_fleet.proofs.Sound.{EachGenuine, ForAnswer, Genuine, IsLawful}
use Rattle.nut_fleet.proofs.Worlds.{sound}
use Rattle.nut_in_time.specs.Pace.{Pace, FromOn, IsPolled, IsSteady, IsWatched, KeepsPace, Says, seen_at, shown_at}
use Rattle.nut_in_time.specs.InTime.{BeginsBy, IsFailing, has_fsd, is_low, seen_by, turn}
use Rattle.nut_in_time.specs.Room.{WasGranted, is_forced}
use Rattle.nut_in_time.proofs.Asking.{not-made, waits-outstanding}
use Rattle.nut_in_time.proofs.Beginning.{begin-by, fsd-critical, low-critical, low-begun, linked-any}
use Rattle.nut_in_time.proofs.Ending.{clock-entry, clock-grows, earliest-now, each-steady, true-if, false-if, at-most}
use Rattle.nut_in_time.proofs.Forcing.{IsGone, Track, track-next}
use Rattle.nut_in_time.proofs.Lasting.{AllGood, Chosen, Lasts, all-good, good-before, lasts-first, lasts-next}
use Rattle.nut_in_time.proofs.Unforced.{none-counted, none-forced, none-read}
use Rattle.nut_fleet.proofs.Events.{genuine-front}
use Rattle.nut_fleet.proofs.Shutdowns.{enough-before, power-more}

-- ---- statuses that stop a primary at once

abbrev pub is_urgent : List (List ℕ) → Bool
is_urgent words = has_fsd words || is_low words

pub urgent-critical : (configuration : Configuration) (i : ℕ) (past : List Entry) → (line_in configuration.lines i).primary ≡ true →
    Says is_urgent (status i past) → critical configuration i past ≡ true
urgent-critical configuration i past primary says = grind (arith, or_cases, fsd-critical, low-critical)

pub none-power : (lines : List Line) → power_where (λ i. false) lines ≡ 0
none-power [] = refl
none-power (line ∷ lines) = let rest = none-power lines in omega (arith, rest)

pub line-primary : (lines : List Line) (i : ℕ) → i < length lines → (line_in lines i).primary ≡ true → has_primary lines ≡ true
line-primary [] i less is = absurd (omega (arith, less))
line-primary (line ∷ lines) zero less is = rw is refl
line-primary (line ∷ lines) (suc i) less is = elim (cases_Bool line.primary) [
  | inl t ↦ rw t refl
  | inr f ↦ rw f (line-primary lines i (omega (arith, less)) is)
]

abbrev pub every : ℕ → Bool
every i = true

-- ---- before a shutdown begins

-- if there is one line, it becomes critical as the shutdown begins
wild-now : (configuration : Configuration) (past : List Entry) (entry : Entry) → length configuration.lines ≡ 1 → is_any past ≡ true →
    has_begun configuration past ≡ false → has_begun configuration (entry ∷ past) ≡ true → critical configuration 0 (entry ∷ past) ≡ true
wild-now configuration past entry one any none begins = true-if (critical configuration 0 (entry ∷ past)) (λ f.
    let short = ltb-true (supply configuration (entry ∷ past)) configuration.min_supplies ((earliest-now (is_short configuration) entry past none begins).1) in
    let enough = enough-before configuration past any none in
    let more : supply configuration past ≤ supply configuration (entry ∷ past) =
    power-more (λ i. not (critical configuration i past)) (λ i. not (critical configuration i (entry ∷ past))) configuration.lines
    (by (λ i. not (critical configuration i past)) (λ i. not (critical configuration i (entry ∷ past))) (rw f refl)) in
    absurd (omega (arith, short, enough, more)))
  where
    by : (a b : ℕ → Bool) → b 0 ≡ true → (i : ℕ) → i < length configuration.lines → a i ≡ true → b i ≡ true
    by a b is zero less before = is
    by a b is (suc i) less before = absurd (omega (arith, one, less))

-- ---- a machine with one line

module _ (setup : Setup) (pace : Pace) (m : ℕ) (Words : List (List ℕ) → Bool) (start schedule : List Step) (front : IsFront start schedule)
    (steady : IsSteady setup pace m start schedule) (one : length (monitor_of setup m).lines ≡ 1) (needed : 0 < (monitor_of setup m).min_supplies)
    (watched : IsWatched setup pace m 0 Words start schedule) where
  pub lines-watched : (i : ℕ) → i < length (monitor_of setup m).lines → every i ≡ true → IsWatched setup pace m i Words start schedule
  lines-watched i within is = grind (arith, within, watched)

  pub failing : IsFailing setup pace m Words every start schedule
  failing = record {
    front = front;
    steady = steady;
    needs = record {
      one = 0;
      there = omega (arith, one);
      passes = refl;
      short = let none : power_where (λ i. not (every i)) (monitor_of setup m).lines ≡ 0 = none-power (monitor_of setup m).lines in omega (arith, none, needed);
    };
    lines = lines-watched;
  }

-- ---- the primary, while nobody has forced the shutdown

module _ (setup : Setup) (law : IsLawful setup.server) (fine : IsSetup setup) (pace : Pace) (ups : List ℕ) (u p : ℕ) (start schedule : List Step)
    (front : IsFront start schedule) (there : has_link setup p 0 ≡ true) (one : length (monitor_of setup p).lines ≡ 1) (needed : 0 < (monitor_of setup p).min_supplies)
    (primary : (line_of setup p 0).primary ≡ true) (name : (line_of setup p 0).ups ≡ ups) (number : number_of_ups ups setup.server.upses ≡ Some u)
    (polled : IsPolled 0 (seen_at setup p start)) (steady : IsSteady setup pace p start schedule) (keeps : KeepsPace setup pace p 0 start schedule)
    (shown : FromOn start schedule (λ early. Says is_urgent (shown_at setup early ups))) where
  abbrev config : Configuration
  config = monitor_of setup p

  abbrev line : Line
  line = line_of setup p 0

  abbrev t0 : ℕ
  t0 = clock (seen_at setup p start)

  abbrev n0 : ℕ
  n0 = length ((world setup start).monitor p)

  abbrev most : ℕ
  most = turn (monitor_of setup p) pace

  within : 0 < length config.lines
  within = omega (arith, one)

  watched : IsWatched setup pace p 0 is_urgent start schedule
  watched = record {
    keeps = keeps;
    polled = polled;
    shows = λ early inside since. subst (λ n. Says is_urgent (shown_at setup early n)) (sym name) (shown early inside since);
  }

  urgent : (past : List Entry) → Chosen config every (λ i. Says is_urgent (status i past) → critical config i past ≡ true)
  urgent past given less is says = grind (arith, urgent-critical)

  pub primary-begins : BeginsBy config (seen_by config pace t0) (seen_by config pace t0) (seen_at setup p schedule)
  primary-begins = begin-by setup law fine schedule pace p is_urgent every start (failing setup pace p is_urgent start schedule front steady one needed watched) urgent

  module _ (long : pace.delay ≤ config.host_sync) (granted : WasGranted setup p 0 Primary start) (not_begun : has_begun config (seen_at setup p start) ≡ false)
      (not_forced : is_forced setup u schedule ≡ false) where
    number' : number_of_ups (line_of setup p 0).ups setup.server.upses ≡ Some u
    number' = ap (λ n. number_of_ups n setup.server.upses) name ∙ number

    abbrev Is : List Event → Type 0
    Is told = (t0 ≤ clock (trace config told))
        × Lasts config n0 t0 most pace is_urgent every told
        × Track config 0 n0 t0 most pace is_urgent (trace config told)

    abbrev Goods : List Event → Type 0
    Goods told = AllGood config n0 pace is_urgent every told × EachGenuine setup schedule p (trace config told)

    turned : config.poll_freq + pace.skip ≤ most
    turned = omega arith

    soon : pace.delay ≤ most
    soon = omega arith

    is-next : (told : List Event) (event : Event) → Goods told → Goods (event ∷ told) →
        clock (trace config (event ∷ told)) ≤ clock (trace config told) + suc pace.skip → Is told → Is (event ∷ told)
    is-next told event before now little is =
        let before_ = trace config told in
        let b = before.0 0 within refl in
        let g = now.0 0 within refl in
        let time = clock-entry config before_ event in
        let grows = clock-grows event (clock before_) in
        let from = is.0 in
        let count = length-trace config told in
        let lasts = is.1 in
        let since = lasts.long in (
          omega (arith, time, grows, from),
          lasts-next config n0 t0 most pace is_urgent every turned soon told event before.0 now.0 little lasts,
          track-next config 0 n0 t0 most pace is_urgent before_ event within primary turned long
              (not-made config told event 0 within g.accepted.1 b.there) g.there little from (omega (arith, since, count)) b.prompt g.prompt
              (none-counted setup law fine p 0 u start schedule front there number' keeps.linked granted not_forced (event ∷ told) now.1)
              (λ f. let midway = came config before_ event ∷ before_ in
              none-forced setup law fine p 0 u start schedule front there number' keeps.linked granted not_forced (length midway) (trace config (event ∷ told)) now.1
              (forced-entry config before_ event 0 (length midway) (forced-by 0 (length midway) midway (omega arith) f)))
              (λ a answer. none-read setup law fine p 0 u start schedule front there number' keeps.linked granted not_forced before_ a
              (subst (λ o. ForAnswer o (Genuine setup schedule p before_)) (entry-answer config before_ event ∙ answer) now.1.0))
              (λ not_yet. false-if (critical config 0 before_) (λ t. let bad : false ≡ true = sym not_yet ∙ begun-if told before t in cc))
              (wild-now config before_ (entry_of config before_ event) one (linked-any 0 before_ b.there))
              (λ not_yet. (
                λ c. let bad : false ≡ true = sym not_yet ∙ begun-if told before (urgent-critical config 0 before_ primary c.fresh.says) in cc,
                lasts.polls not_yet 0 within refl,
              )) is.2,
        )
      where
        -- it has begun if its only line is critical
        begun-if : (told : List Event) → Goods told → critical config 0 (trace config told) ≡ true → has_begun config (trace config told) ≡ true
        begun-if told good t =
            let none : power_where (λ i. not (every i)) config.lines ≡ 0 = none-power config.lines in
            low-begun config every (trace config told) (linked-any 0 (trace config told) (good.0 0 within refl).there) (omega (arith, none, needed)) only
          where
            only : (i : ℕ) → i < length config.lines → every i ≡ true → critical config i (trace config told) ≡ true
            only zero less is = t
            only (suc i) less is = absurd (omega (arith, one, less))

    tracks : Track config 0 n0 t0 most pace is_urgent (seen_at setup p schedule)
    tracks =
        (each-steady setup p start schedule pace Is Goods front steady (λ t q. (good-before config n0 0 0 pace is_urgent every t q.0, q.1.1))
        (λ early inside since. (
          all-good setup law fine pace p start schedule front is_urgent every each early inside since,
          genuine-front setup p early schedule (seen_at setup p early) inside ((sound setup law fine early).monitors p).genuine,
        ))
        (omega arith, lasts-first setup law fine pace p start schedule front is_urgent every each most, inl not_begun) is-next).2
      where
        each : Chosen config every (λ i. IsWatched setup pace p i is_urgent start schedule)
        each = lines-watched setup pace p is_urgent start schedule front steady one needed watched

    -- how late it may be, and how long after the shutdown began
    pub not-later : clock (seen_at setup p schedule) ≤ seen_by config pace t0 + pace.delay
    not-later =
        let prompt = keeps.prompt schedule (front-self schedule) front in
        elim tracks [
          | inl f ↦
              let le = at-most (clock (seen_at setup p schedule)) (seen_by config pace t0) (λ late. let bad : false ≡ true = sym f ∙ primary-begins.begins late in cc) in
              omega (arith, le)
          | inr (inl w) ↦
              let in_time = prompt w.last (waits-outstanding 0 (seen_at setup p schedule) w.last w.waits) in
              let early = w.early.0 in
              omega (arith, in_time, early)
          | inr (inr a) ↦
              let in_time = prompt a.last (waits-outstanding 0 (seen_at setup p schedule) a.last a.waits) in
              let soon' = a.soon.0 in
              omega (arith, in_time, soon')
        ]

    pub soon-behind : (has_begun config (seen_at setup p schedule) ≡ false)
        ⊎ (clock (seen_at setup p schedule) ≤ clock (begun config (seen_at setup p schedule)) + pace.delay)
        ⊎ (IsGone config 0 (begun config (seen_at setup p schedule))
        × (clock (seen_at setup p schedule) < clock (begun config (seen_at setup p schedule)) + pace.delay + pace.delay))
    soon-behind =
        let prompt = keeps.prompt schedule (front-self schedule) front in
        elim tracks [
          | inl f ↦ inl f
          | inr (inl w) ↦
              let in_time = prompt w.last (waits-outstanding 0 (seen_at setup p schedule) w.last w.waits) in
              inr (inl (omega (arith, in_time, w.before)))
          | inr (inr a) ↦
              let in_time = prompt a.last (waits-outstanding 0 (seen_at setup p schedule) a.last a.waits) in
              elim a.soon.1 [
                | inl le ↦ inr (inl (omega (arith, in_time, le)))
                | inr late ↦ let lt = late.1 in inr (inr (late.0, omega (arith, in_time, lt)))
              ]
        ]
