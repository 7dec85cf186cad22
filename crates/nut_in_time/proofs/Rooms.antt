-- A room stops in time.
use Rattle.std.proofs.Common.{◌≡◌, ◌⊎◌, ℕ, zero, suc, ◌+◌, ◌-◌, ◌<◌, ◌≤◌, ◌||◌, ◌&&◌, inl, inr, List, [], ◌∷◌, length, Bool, true, false, not, refl, sym, ◌∙◌, ap, subst, arith, Contains}
use Rattle.std.specs.Prelude.{◌==◌, if◌then◌else◌, slice_index_or}
use Rattle.std.specs.List.{list_any}
use Rattle.std.specs.Str.{bytes_eq}
use Rattle.std.proofs.lemmas.Bool.{and_cases, and_from, and_parts, cases_Bool, eqb-true, lt-ltb, ltb-false, ltb-true, not-true, or_cases}
use Rattle.std.proofs.lemmas.Slice.Eq.{bytes_eq-Decides}
use Rattle.nut_state.specs.laws.Holds.{EveryTableHolds}
use Rattle.nut_server_spec.specs.Acceptance as server_tests
use Rattle.nut_server_spec.specs.Content.{past as happened}
use Rattle.nut_server_spec.specs.Content as server
use Rattle.nut_monitor_spec.specs.declared.Query.TheVariants.{Login}
use Rattle.nut_monitor_spec.specs.Configuration.{Configuration, Line, has_primary, line_in}
use Rattle.nut_monitor_spec.specs.Decision.{each_primary, is_halted, power_where}
use Rattle.nut_monitor_spec.specs.Query.{logins_in}
use Rattle.nut_monitor_spec.specs.Trace.{Entry, begun, clock, ended, gives, has_begun, has_ended, is_over_at, is_short, phase}
use Rattle.std.specs.Prelude.{is_some}
use Rattle.nut_fleet.specs.Schedule.{Step, IsFront}
use Rattle.nut_fleet.specs.World.{Setup, has_link, line_of, monitor_of, no_monitor, world}
use Rattle.nut_fleet.specs.Exchange.{exchanges}
use Rattle.nut_fleet.specs.Fleet.{Exists, IsSetup, WasAlone, at_count}
use Rattle.nut_fleet.specs.Shown.{logins}
use Rattle.nut_fleet.proofs.Entries.{length-trace}
use Rattle.nut_fleet.proofs.Fronts.{front-older, front-self, fronts-compare}
use Rattle.nut_fleet.proofs.Primaries.{primaries-go_last, each_primary-at, same-one}
use Rattle.nut_fleet.proofs.Sound.{IsLawful}
use Rattle.nut_fleet.proofs.Others.{some-there}
use Rattle.nut_fleet.proofs.Steps.{spoken, zero-closed}
use Rattle.nut_fleet.proofs.Rereads.{room-stays}
use Rattle.nut_fleet.proofs.Worlds.{sound}
use Rattle.nut_fleet.proofs.Shutdowns.{or-right, power-more}
use Rattle.nut_in_time.specs.Pace.{Pace, FromOn, IsSteady, IsWatched, Says, seen_at, shown_at}
use Rattle.nut_in_time.specs.InTime.{BeginsBy, IsFailing, IsHaltedBy, halted_in, has_fsd, is_low, is_stopped, reads_in, seen_by, to_halted, turn}
use Rattle.nut_in_time.specs.Room.{Follows, IsGrant, IsPatient, IsReady, IsRoom, IsStopping, KeepsStep, RoomStopsInTime, accepted_in, are_forced, forced_in, host_sync_for, is_forced, leads, other_halted_in}
use Rattle.nut_in_time.proofs.Beginning.{begin-by, forced-begin_in_time}
use Rattle.nut_in_time.proofs.Climbing.{front-of}
use Rattle.nut_in_time.proofs.Emptied.{pace-kept}
use Rattle.nut_in_time.proofs.Ending.{earliest-sooner, ended-begun, halted-by_then, true-if, false-if, front-stays, if-not}
use Rattle.nut_in_time.proofs.Forced.{forced-is_shown, schedule-stays}
use Rattle.nut_in_time.proofs.Granted.{answered-forced, said-keeps}
use Rattle.nut_in_time.proofs.Lasting.{Chosen, lasts}
use Rattle.nut_in_time.proofs.Patient.{not-gone}
use Rattle.nut_in_time.proofs.RoomSteps.{begins-later, begun-ending, earliest-shorter, is-halted, latest-shorter, not-ended, pace-front, polls-polled, step-front, stood}
use Rattle.nut_in_time.proofs.Standing.{connection-kept, open-some, server-climb}
use Rattle.nut_in_time.proofs.Stopping.{is_urgent, line-primary, not-later, soon-behind, urgent-critical}
use Rattle.nut_in_time.proofs.Unforced.{led-behind}

-- ---- lines that are led

abbrev is_led : List Line → List ℕ → Bool
is_led lines ups = list_any (λ line. line.primary && bytes_eq line.ups ups) lines

led-by : (lines : List Line) (ups : List ℕ) → is_led lines ups ≡ true → (i : ℕ) × (i < length lines) × ((line_in lines i).primary ≡ true) × ((line_in lines i).ups ≡ ups)
led-by [] ups is = cc
led-by (line ∷ lines) ups is = elim (or_cases (line.primary && bytes_eq line.ups ups) (is_led lines ups) is) [
  | inl here ↦
      let parts = and_parts line.primary (bytes_eq line.ups ups) here in
      (0, omega arith, parts.0, (bytes_eq-Decides line.ups ups).0 parts.1)
  | inr there ↦
      let rest = led-by lines ups there in
      let less = rest.1 in
      (suc rest.0, omega (arith, less), rest.2, rest.3)
]

pub led-own : (lines : List Line) (i : ℕ) → i < length lines → (line_in lines i).primary ≡ true → is_led lines (line_in lines i).ups ≡ true
led-own [] i less primary = absurd (omega (arith, less))
led-own (line ∷ lines) zero less primary = rw (primary, (bytes_eq-Decides line.ups line.ups).1 refl) refl
led-own (line ∷ lines) (suc i) less primary =
    ap (λ b. (line.primary && bytes_eq line.ups (line_in lines i).ups) || b) (led-own lines i (omega (arith, less)) primary)
    ∙ or-right (line.primary && bytes_eq line.ups (line_in lines i).ups)

-- a primary line that doesn't pass a test
some-primary : (test : ℕ → Bool) (lines : List Line) → each_primary test lines ≡ false → (i : ℕ) × (i < length lines) × ((line_in lines i).primary ≡ true) × (test i ≡ false)
some-primary test [] none = let bad : true ≡ false = none in cc
some-primary test (line ∷ lines) none = elim (and_cases (not line.primary || test 0) (each_primary (λ i. test (suc i)) lines) none) [
  | inl here ↦ elim (cases_Bool line.primary) [
    | inl t ↦ (0, omega arith, t, rw t at here)
    | inr f ↦ let bad : true ≡ false = rw f at here in cc
  ]
  | inr there ↦
      let rest = some-primary (λ i. test (suc i)) lines there in
      let less = rest.1 in
      (suc rest.0, omega (arith, less), rest.2, rest.3)
]

-- a number with a line is that of a monitor
pub has-monitor : (monitors : List Configuration) (m i : ℕ) → i < length (slice_index_or monitors m no_monitor).lines → m < length monitors
has-monitor [] m i less = absurd (omega (arith, less))
has-monitor (monitor ∷ monitors) zero i less = omega arith
has-monitor (monitor ∷ monitors) (suc m) i less = let rest = has-monitor monitors m i less in omega (arith, rest)

-- ---- the room

module _ (tables : EveryTableHolds) (setup : Setup) (law : IsLawful setup.server) (fine : IsSetup setup) (pace : ℕ → Pace) (drift : ℕ) (weak : ℕ → Bool) (u : ℕ → ℕ) (p : ℕ) (start schedule : List Step)
    (room : IsRoom setup weak u p) (ready : IsReady setup u p start) (stops : IsStopping setup pace drift weak u p start schedule)
    (long : (pace p).delay ≤ (monitor_of setup p).host_sync) (patient : Bool) (waits : patient ≡ true → IsPatient setup (pace p) p start) where
  there-at : (m i : ℕ) → i < length (monitor_of setup m).lines → has_link setup m i ≡ true
  there-at m i within = grind (arith, and_from, lt-ltb, has-monitor)

  -- whether p has a single line
  abbrev single : Bool
  single = length (monitor_of setup p).lines == 1

  alone : single ≡ true → length (monitor_of setup p).lines ≡ 1
  alone is = eqb-true (length (monitor_of setup p).lines) 1 is

  -- within which FSD is accepted then
  abbrev single_in : ℕ
  single_in = (pace p).delay + (if patient then 0 else (pace p).delay - 1)

  -- p follows itself
  self : Follows setup p p
  self = record {
    one = room.needs.one;
    there = room.needs.there;
    passes = led-own (monitor_of setup p).lines room.needs.one room.needs.there (room.primary room.needs.one room.needs.there room.needs.passes);
    short =
        let less : power_where (λ i. not (leads setup p p i)) (monitor_of setup p).lines ≤ power_where (λ i. not (weak i)) (monitor_of setup p).lines =
        power-more (λ i. not (leads setup p p i)) (λ i. not (weak i)) (monitor_of setup p).lines
        (λ i within tame. elim (cases_Bool (weak i)) [
          | inl is ↦
              let bad : false ≡ true = sym (not-true (leads setup p p i) tame) ∙ led-own (monitor_of setup p).lines i within (room.primary i within is) in cc
          | inr is_not ↦ rw is_not refl
        ]) in
        omega (arith, less, room.needs.short);
  }

  -- one of its UPSes isn't forced
  unforced : (i : ℕ) → i < length (monitor_of setup p).lines → (line_of setup p i).primary ≡ true → (e : List Step) → is_forced setup (u i) e ≡ false → are_forced setup u p e ≡ false
  unforced i within primary e none = false-if (are_forced setup u p e) (λ t. let bad : false ≡ true = sym none ∙ each_primary-at (λ j. is_forced setup (u j) e) (monitor_of setup p).lines i t within primary in cc)

  -- the status that is shown stops the primary at once
  urgent-at : (i : ℕ) → i < length (monitor_of setup p).lines → weak i ≡ true → FromOn start schedule (λ early. Says is_urgent (shown_at setup early (line_of setup p i).ups))
  urgent-at i within is early inside since = elim (cases_Bool (is_forced setup (u i) early)) [
    | inl t ↦
        let primary = room.primary i within is in
        let s = stops.shown i within primary early inside since in
        (s.0, s.1, by-fsd (has_fsd s.0) (is_low s.0) (forced-is_shown tables setup early (u i) (line_of setup p i).ups early s.0 (front-self early) (room.number i within primary) t s.1))
    | inr f ↦ let s = stops.low i within is early inside since f in (s.0, s.1, by-low (has_fsd s.0) (is_low s.0) s.2)
  ]
    where
      by-fsd : (a b : Bool) → a ≡ true → (a || b) ≡ true
      by-fsd a b is = rw is refl

      by-low : (a b : Bool) → b ≡ true → (a || b) ≡ true
      by-low true b is = refl
      by-low false b is = is

  begins : (e : List Step) → IsFront e schedule → IsFront start e → KeepsStep setup (pace p) drift p p start e →
      BeginsBy (monitor_of setup p) (seen_by (monitor_of setup p) (pace p) (clock (seen_at setup p start))) (seen_by (monitor_of setup p) (pace p) (clock (seen_at setup p start))) (seen_at setup p e)
  begins e inside since k =
      begin-by setup law fine e (pace p) p is_urgent weak start failing
      (λ past i within is says. urgent-critical (monitor_of setup p) i past (room.primary i within is) says)
    where
      own : (i : ℕ) → i < length (monitor_of setup p).lines → weak i ≡ true → leads setup p p i ≡ true
      own i within is = led-own (monitor_of setup p).lines i within (room.primary i within is)

      failing : IsFailing setup (pace p) p is_urgent weak start e
      failing = record {
        front = since;
        steady = k.steady;
        needs = room.needs;
        lines = λ i within is. record {
          keeps = k.keeps i within (own i within is);
          polled = ready.polled p self i within (own i within is);
          shows = λ x within' from. urgent-at i within is x (front-of x e schedule within' inside) from;
        };
      }

  -- how late it may be while one of its UPSes isn't forced
  behind-at : (e : List Step) → IsFront e schedule → IsFront start e → are_forced setup u p e ≡ false → (has_begun (monitor_of setup p) (seen_at setup p e) ≡ false)
      ⊎ (clock (seen_at setup p e) ≤ clock (begun (monitor_of setup p) (seen_at setup p e)) + (pace p).delay + (pace p).delay)
  behind-at e inside since none =
      let one = some-primary (λ i. is_forced setup (u i) e) (monitor_of setup p).lines none in
      let i = one.0 in
      let within = one.1 in
      let primary = one.2 in
      let led = led-own (monitor_of setup p).lines i within primary in
      let k = stops.primary e inside since none in
      led-behind setup law fine p i (u i) start e since (there-at p i within) (room.number i within primary) (k.keeps i within led).linked (ready.primary i within primary) one.3
      (pace p) within primary long ready.not_begun (ready.polled p self i within led) (k.keeps i within led)

  -- ---- if p has a single line

  module _ (only : length (monitor_of setup p).lines ≡ 1) where
    weak-only : weak 0 ≡ true
    weak-only = grind arith

    within-only : 0 < length (monitor_of setup p).lines
    within-only = omega (arith, only)

    needed-only : 0 < (monitor_of setup p).min_supplies
    needed-only = let short = room.needs.short in omega (arith, short)

    unforced-only : (e : List Step) → are_forced setup u p e ≡ false → is_forced setup (u 0) e ≡ false
    unforced-only e none = grind (arith, some-primary)

    late-only : (e : List Step) → IsFront e schedule → IsFront start e → are_forced setup u p e ≡ false →
        clock (seen_at setup p e) ≤ seen_by (monitor_of setup p) (pace p) (clock (seen_at setup p start)) + (pace p).delay
    late-only e inside since none =
        let primary = room.primary 0 within-only weak-only in
        let led = led-own (monitor_of setup p).lines 0 within-only primary in
        let k = stops.primary e inside since none in
        not-later setup law fine (pace p) (line_of setup p 0).ups (u 0) p start e since (there-at p 0 within-only) only needed-only primary refl (room.number 0 within-only primary)
        (ready.polled p self 0 within-only led) k.steady (k.keeps 0 within-only led) (λ x within' from. urgent-at 0 within-only weak-only x (front-of x e schedule within' inside) from)
        long (ready.primary 0 within-only primary) ready.not_begun (unforced-only e none)

    soon-only : (e : List Step) → IsFront e schedule → IsFront start e → are_forced setup u p e ≡ false → (has_begun (monitor_of setup p) (seen_at setup p e) ≡ false)
        ⊎ (clock (seen_at setup p e) ≤ clock (begun (monitor_of setup p) (seen_at setup p e)) + single_in)
    soon-only e inside since none =
        let primary = room.primary 0 within-only weak-only in
        let led = led-own (monitor_of setup p).lines 0 within-only primary in
        let k = stops.primary e inside since none in
        elim (soon-behind setup law fine (pace p) (line_of setup p 0).ups (u 0) p start e since (there-at p 0 within-only) only needed-only primary refl (room.number 0 within-only primary)
        (ready.polled p self 0 within-only led) k.steady (k.keeps 0 within-only led) (λ x within' from. urgent-at 0 within-only weak-only x (front-of x e schedule within' inside) from)
        long (ready.primary 0 within-only primary) ready.not_begun (unforced-only e none)) [
          | inl not_yet ↦ inl not_yet
          | inr (inl le) ↦ inr (omega (arith, le))
          | inr (inr late) ↦ elim (cases_Bool patient) [
            | inr hasty ↦
                let lt = late.1 in
                let in_ : single_in ≡ (pace p).delay + ((pace p).delay - 1) = rw hasty refl in
                inr (omega (arith, lt, in_))
            | inl calm ↦ elim (cases_Bool (has_begun (monitor_of setup p) (seen_at setup p e))) [
              | inr not_yet ↦ inl not_yet
              | inl t ↦
                  absurd (not-gone setup (pace p) p start e since (waits calm) law fine only needed-only k.steady (k.keeps 0 within-only led)
                  (λ x within' from. stops.shown 0 within-only primary x (front-of x e schedule within' inside) from) t (begins-later setup p start e since ready.not_begun t) late.0)
            ]
          ]
        ]

  -- ---- in any case

  late-at : (e : List Step) → IsFront e schedule → IsFront start e → are_forced setup u p e ≡ false →
      clock (seen_at setup p e) ≤ clock (seen_at setup p start) + forced_in (monitor_of setup p) (pace p)
  late-at e inside since none = grind (arith, cases_Bool, late-only, alone, begins, ltb-false, ltb-true, behind-at)

  soon-at : (e : List Step) → IsFront e schedule → IsFront start e → are_forced setup u p e ≡ false → (has_begun (monitor_of setup p) (seen_at setup p e) ≡ false)
      ⊎ (clock (seen_at setup p e) ≤ clock (begun (monitor_of setup p) (seen_at setup p e)) + accepted_in (monitor_of setup p) (pace p) patient)
  soon-at e inside since none = grind (arith, cases_Bool, soon-only, alone, behind-at)

  soon-forced : (e : List Step) → IsFront e schedule → IsFront start e → has_begun (monitor_of setup p) (seen_at setup p schedule) ≡ true → are_forced setup u p e ≡ false →
      clock (seen_at setup p e) ≤ clock (begun (monitor_of setup p) (seen_at setup p schedule)) + accepted_in (monitor_of setup p) (pace p) patient
  soon-forced e inside since over none = grind (arith, cases_Bool, front-stays, soon-at, begins-later)

  pub soon-accepted : has_begun (monitor_of setup p) (seen_at setup p schedule) ≡ true →
      clock (begun (monitor_of setup p) (seen_at setup p schedule)) + accepted_in (monitor_of setup p) (pace p) patient < clock (seen_at setup p schedule) → are_forced setup u p schedule ≡ true
  soon-accepted begun' late = true-if (are_forced setup u p schedule) (λ none. let le = soon-forced schedule (front-self schedule) stops.front begun' none in absurd (omega (arith, le, late)))

  pub all-forced : clock (seen_at setup p start) + forced_in (monitor_of setup p) (pace p) < clock (seen_at setup p schedule) → are_forced setup u p schedule ≡ true
  all-forced late = true-if (are_forced setup u p schedule) (λ f. let le = late-at schedule (front-self schedule) stops.front f in absurd (omega (arith, le, late)))

  -- ---- the primary

  pub stays-up : (monitor_of setup p).host_sync < to_halted (monitor_of setup p) (pace p)
  stays-up = grind (arith, line-primary)

  pub leader-halted : clock (seen_at setup p start) + halted_in (monitor_of setup p) (pace p) ≤ clock (seen_at setup p schedule) → is_stopped setup p schedule ≡ true
  leader-halted late = if-not (is_halted (phase (monitor_of setup p) (seen_at setup p schedule))) (λ f.
      let config = monitor_of setup p in
      let k = stops.keeps p self schedule (front-self schedule) stops.front f in
      let b = begins schedule (front-self schedule) stops.front k in
      let begun' = b.begins (let more = stays-up in omega (arith, late, more)) in
      is-halted (phase config (seen_at setup p schedule)) (has_primary config.lines)
      (halted-by_then setup schedule (pace p) p start schedule (seen_by config (pace p) (clock (seen_at setup p start))) stops.front (front-self schedule) (omega arith) begun' (b.began begun')
      k.steady (omega (arith, late))))

  -- ---- the time at which all of them are forced

  pub record Firsts : Type 0 where
    pub step : Step
    pub early : List Step
    pub played : IsFront (step ∷ early) schedule
    pub since : IsFront start early
    pub not_yet : are_forced setup u p early ≡ false
    pub now : are_forced setup u p (step ∷ early) ≡ true

  none-at : are_forced setup u p start ≡ false
  none-at = grind (arith, unforced)

  firsts : (e : List Step) → IsFront start e → IsFront e schedule → are_forced setup u p e ≡ true → Firsts
  firsts [] front inside is = let bad : false ≡ true = sym none-at ∙ ap (are_forced setup u p) front ∙ is in cc
  firsts (step ∷ earlier) (inl front) inside is = let bad : false ≡ true = sym none-at ∙ ap (are_forced setup u p) front ∙ is in cc
  firsts (step ∷ earlier) (inr front) inside is = elim (cases_Bool (are_forced setup u p earlier)) [
    | inl before ↦ firsts earlier front (front-older step earlier schedule inside) before
    | inr not_before ↦ record { step = step; early = earlier; played = inside; since = front; not_yet = not_before; now = is }
  ]

  -- the monitors' clocks don't move then
  stands-at : (m : ℕ) (f : Firsts) → clock (seen_at setup m (f.step ∷ f.early)) ≡ clock (seen_at setup m f.early)
  stands-at m f = grind (arith, some-primary, stood, each_primary-at)

  -- ---- a machine that follows

  module _ (m : ℕ) (follows : Follows setup p m) where
    abbrev config : Configuration
    config = monitor_of setup m

    -- its UPSes are shown
    shown-at : (i : ℕ) → leads setup p m i ≡ true → FromOn start schedule (λ e. Says (λ words. true) (shown_at setup e (line_of setup m i).ups))
    shown-at i led e inside since =
        let by = led-by (monitor_of setup p).lines (line_of setup m i).ups led in
        subst (λ name. Says (λ words. true) (shown_at setup e name)) by.3 (stops.shown by.0 by.1 by.2 e inside since)

    -- as forced, once they are
    forced-at : (f : List Step) → IsFront start f → are_forced setup u p f ≡ true → (i : ℕ) → leads setup p m i ≡ true →
        FromOn f schedule (λ e. Says has_fsd (shown_at setup e (line_of setup m i).ups))
    forced-at f since is i led e inside from =
        let by = led-by (monitor_of setup p).lines (line_of setup m i).ups led in
        let s = stops.shown by.0 by.1 by.2 e inside (front-of start f e since from) in
        let was = each_primary-at (λ j. is_forced setup (u j) f) (monitor_of setup p).lines by.0 is by.1 by.2 in
        subst (λ name. Says has_fsd (shown_at setup e name)) by.3
        (s.0, s.1, forced-is_shown tables setup e (u by.0) (line_of setup p by.0).ups f s.0 from (room.number by.0 by.1 by.2) was s.1)

    -- from a time at which they were
    stops-behind : (f : List Step) → IsFront start f → IsFront f schedule → are_forced setup u p f ≡ true → KeepsStep setup (pace m) drift p m start schedule →
        seen_by (monitor_of setup m) (pace m) (clock (seen_at setup m f)) < clock (seen_at setup m schedule) →
        seen_by (monitor_of setup m) (pace m) (clock (seen_at setup m f)) + to_halted (monitor_of setup m) (pace m) ≤ clock (seen_at setup m schedule) →
        is_stopped setup m schedule ≡ true
    stops-behind f since within is k over late =
        let t1 = clock (seen_at setup m f) in
        let last = seen_by config (pace m) t1 in
        let steady : IsSteady setup (pace m) m f schedule = λ step early inside from. k.steady step early inside (front-of start f early since from) in
        let all : IsHaltedBy setup (pace m) m last f schedule = elim (cases_Bool (has_begun config (seen_at setup m f))) [
          | inl t ↦
              let sooner = earliest-sooner (is_short config) (seen_at setup m f) in
              halted-by_then setup schedule (pace m) m f f last (front-self f) within (omega arith) t (omega (arith, sooner))
          | inr n ↦
              let watched0 : Chosen config (leads setup p m) (λ i. IsWatched setup (pace m) m i (λ words. true) start f) = λ i less led. record {
                keeps = pace-front setup (pace m) m i start f schedule within (k.keeps i less led);
                polled = ready.polled m follows i less led;
                shows = λ e inside from. shown-at i led e (front-of e f schedule inside within) from;
              } in
              let steady0 : IsSteady setup (pace m) m start f = λ step early inside from. k.steady step early (front-of (step ∷ early) f schedule inside within) from in
              let l = lasts setup law fine (pace m) m start f since (λ words. true) (leads setup p m) watched0 (turn config (pace m)) (omega arith) (omega arith) steady0 in
              let watched : Chosen config (leads setup p m) (λ i. IsWatched setup (pace m) m i has_fsd f schedule) = λ i less led. record {
                keeps = pace-kept setup schedule (pace m) m i start f since (k.keeps i less led);
                polled = polls-polled config i (length ((world setup start).monitor m)) (clock (seen_at setup m start)) (turn config (pace m)) (pace m) (λ words. true) (seen_at setup m f)
                    (l.polls n i less led);
                shows = forced-at f since is i led;
              } in
              let failing : IsFailing setup (pace m) m has_fsd (leads setup p m) f schedule = record {
                front = within;
                steady = steady;
                needs = follows;
                lines = watched;
              } in
              let b = forced-begin_in_time setup law fine schedule (pace m) m (leads setup p m) f failing in
              let begun' = b.begins over in
              halted-by_then setup schedule (pace m) m f schedule last within (front-self schedule) (omega arith) begun' (b.began begun')
        ] in
        is-halted (phase config (seen_at setup m schedule)) (has_primary config.lines) (all steady late)

    pub follower-halted : clock (seen_at setup m start) + other_halted_in (monitor_of setup p) (pace p) (monitor_of setup m) (pace m) drift ≤ clock (seen_at setup m schedule) →
        is_stopped setup m schedule ≡ true
    follower-halted late = if-not (is_halted (phase (monitor_of setup m) (seen_at setup m schedule))) (λ n.
        let k = stops.keeps m follows schedule (front-self schedule) stops.front n in
        let all = k.ahead start schedule (front-self start) stops.front (front-self schedule) in
        let is = all-forced (omega (arith, late, all)) in
        let f = firsts schedule stops.front (front-self schedule) is in
        let early_in : IsFront f.early schedule = front-older f.step f.early schedule f.played in
        let stands = stands-at p f in
        let le = late-at f.early early_in f.since f.not_yet in
        let ahead = k.ahead start (f.step ∷ f.early) (front-self start) (inr f.since) f.played in
        stops-behind (f.step ∷ f.early) (inr f.since) f.played f.now k (omega (arith, late, ahead, le, stands)) (omega (arith, late, ahead, le, stands)))

  -- ---- the primary leaves Forcing

  -- a connection that was logged in at `start` is logged in while it is open
  logged-in : (k : ℕ) (follows : Follows setup p k) (i : ℕ) (within : i < length (monitor_of setup k).lines) (led : leads setup p k i ≡ true) (e : List Step) → IsFront start e →
      KeepsStep setup (pace k) drift p k start e →
      Contains (logins setup.server (happened setup.server (world setup e).server) (line_of setup k i).ups) ((world setup e).connection k i)
  logged-in k follows i within led e since step =
      let c0 = (world setup start).connection k i in
      let c = (world setup e).connection k i in
      let h = (world setup e).server in
      let line = line_of setup k i in
      let s = sound setup law fine e in
      let there = there-at k i within in
      let same : c ≡ c0 = connection-kept setup k i start e since (open-some setup (world setup start) k i (step.both_ends i within led start since (front-self start))) (λ x from to. (step.keeps i within led).linked x to from) in
      let said : Exists (IsGrant line Login) (exchanges c0 (happened setup.server h)) =
      server-climb setup start e (λ x. Exists (IsGrant line Login) (exchanges c0 (happened setup.server x))) since (ready.logged_in k follows i within led)
      (λ x event from before. said-keeps setup.server c0 (IsGrant line Login) event (world setup x).server before) in
      let said' : Exists (IsGrant line Login) (exchanges c (happened setup.server h)) = subst (λ d. Exists (IsGrant line Login) (exchanges d (happened setup.server h))) (sym same) said in
      law.stays h c line s.accepted (room-stays setup e) (spoken setup k i fine there) ((s.monitors k).links i there).link.own said'
      (some-there (server_tests.session_of c (server.content setup.server h).sessions) (step.both_ends i within led e (front-self e) since))

  module _ (m : ℕ) (follows : Follows setup p m) (other : m ≡ p → ⊥) where
    not-alone : (i : ℕ) → i < length (monitor_of setup p).lines → (line_of setup p i).primary ≡ true → (line_of setup p i).ups ≡ (line_of setup m follows.one).ups →
        KeepsStep setup (pace m) drift p m start schedule → WasAlone setup schedule p i (ended (monitor_of setup p) (seen_at setup p schedule)) → ⊥
    not-alone i within primary name k w =
        let early = w.early in
        let inside : IsFront early schedule = w.between.front in
        let since : IsFront start early = elim (fronts-compare start early schedule stops.front inside) [
          | inl is ↦ is
          | inr is ↦
              let now = answered-forced setup p i (u i) w.force_step w.force_early (spoken setup p i fine (there-at p i within)) (room.number i within primary) w.forced in
              let bad : false ≡ true = sym (ready.not_forced i within primary)
              ∙ schedule-stays setup (line_of setup p i).ups (u i) (room.number i within primary) (w.force_step ∷ w.force_early) start (front-of (w.force_step ∷ w.force_early) early start w.forced_before is) now in cc
        ] in
        let config_p = monitor_of setup p in
        let running : has_ended config_p (seen_at setup p early) ≡ false = false-if (has_ended config_p (seen_at setup p early)) (λ any.
        let same = ap length (front-stays setup (is_over_at config_p) p early schedule inside any) in
        let a = earliest-shorter (is_over_at config_p) (seen_at setup p early) in
        let count = length-trace config_p ((world setup early).monitor p) in
        let b = at-count-shorter (ended config_p (seen_at setup p schedule)) in
        absurd (omega (arith, same, a, count, b, w.between.unread))) in
        let step_p = stops.keeps p self early inside since (not-ended config_p (seen_at setup p early) running) in
        let step_m = step-front setup (pace m) drift p m start early schedule inside k in
        let led = led-own config_p.lines i within primary in
        let one = logged-in p self i within led early since step_p in
        let two = subst (λ n. Contains (logins setup.server (happened setup.server (world setup early).server) n) ((world setup early).connection m follows.one)) (sym name)
        (logged-in m follows follows.one follows.there follows.passes early since step_m) in
        let same : (world setup early).connection m follows.one ≡ (world setup early).connection p i =
        same-one (logins setup.server (happened setup.server (world setup early).server) (line_of setup p i).ups) ((world setup early).connection p i) ((world setup early).connection m follows.one)
        (omega (arith, w.at_most_one, w.counted)) one two in
        elim ((sound setup law fine early).distinct m follows.one p i (there-at m follows.one follows.there) (there-at p i within) same) [
          | inl none ↦
              some-there (server_tests.session_of ((world setup early).connection m follows.one) (server.content setup.server (world setup early).server).sessions)
              (step_m.both_ends follows.one follows.there follows.passes early (front-self early) since)
              (ap (λ c. server_tests.session_of c (server.content setup.server (world setup early).server).sessions) none ∙ zero-closed setup (world setup early).server)
          | inr equal ↦ other equal.0
        ]
      where
        at-count-shorter : (past : List Entry) → length (at_count i past) ≤ length past
        at-count-shorter past = latest-shorter (λ entry before. gives (λ query outcome. is_some (logins_in query outcome)) i entry.answer) past

    pub follower-first : host_sync_for (monitor_of setup p) (pace p) patient (monitor_of setup m) (pace m) drift ≤ (monitor_of setup p).host_sync → has_ended (monitor_of setup p) (seen_at setup p schedule) ≡ true →
        is_stopped setup m schedule ≡ true
    follower-first suffices over = if-not (is_halted (phase (monitor_of setup m) (seen_at setup m schedule))) (λ n.
        let config_p = monitor_of setup p in
        let k = stops.keeps m follows schedule (front-self schedule) stops.front n in
        let by = led-by config_p.lines (line_of setup m follows.one).ups follows.passes in
        elim (primaries-go_last setup law fine schedule p over) [
          | inr alone ↦ absurd (not-alone by.0 by.1 by.2 by.3 k (alone by.0 by.1 by.2))
          | inl waited ↦
              let begun-over = ended-begun config_p (seen_at setup p schedule) over in
              let same = ap clock (begun-ending config_p (seen_at setup p schedule) over) in
              let sooner = earliest-sooner (is_over_at config_p) (seen_at setup p schedule) in
              let late : clock (begun config_p (seen_at setup p schedule)) + config_p.host_sync < clock (seen_at setup p schedule) = omega (arith, waited, same, sooner) in
              let is = soon-accepted begun-over (omega (arith, late, suffices)) in
              let f = firsts schedule stops.front (front-self schedule) is in
              let early_in : IsFront f.early schedule = front-older f.step f.early schedule f.played in
              let stands = stands-at p f in
              let le = soon-forced f.early early_in f.since begun-over f.not_yet in
              let behind = k.behind (f.step ∷ f.early) schedule (inr f.since) f.played (front-self schedule) in
              stops-behind m follows (f.step ∷ f.early) (inr f.since) f.played f.now k (omega (arith, late, stands, le, behind, suffices)) (omega (arith, late, stands, le, behind, suffices))
        ])

forced-within : (primary : Configuration) (pace : Pace) (patient : Bool) → forced_in primary pace ≤ reads_in primary pace + accepted_in primary pace patient
forced-within primary pace patient = grind arith

pub room-stops : EveryTableHolds → (setup : Setup) → IsLawful setup.server → IsSetup setup → (schedule : List Step) → RoomStopsInTime setup schedule
room-stops tables setup law fine schedule pace drift patient weak u p start room ready stops long waits = record {
  forced = all-forced tables setup law fine pace drift weak u p start schedule room ready stops long patient waits;
  soon = soon-accepted tables setup law fine pace drift weak u p start schedule room ready stops long patient waits;
  shown = λ i less primary is.
      let shows = stops.shown i less primary schedule (front-self schedule) stops.front in
      (shows.0, shows.1, forced-is_shown tables setup schedule (u i) (line_of setup p i).ups schedule shows.0 (front-self schedule) (room.number i less primary) is shows.1);
  primary = leader-halted tables setup law fine pace drift weak u p start schedule room ready stops long patient waits;
  others = λ m follows. follower-halted tables setup law fine pace drift weak u p start schedule room ready stops long patient waits m follows;
  all = λ m follows suffices late. follower-halted tables setup law fine pace drift weak u p start schedule room ready stops long patient waits m follows
      (let le = forced-within (monitor_of setup p) (pace p) patient in
      let more = stays-up tables setup law fine pace drift weak u p start schedule room ready stops long patient waits in
      omega (arith, suffices, late, le, more));
  before = λ m follows other suffices over. follower-first tables setup law fine pace drift weak u p start schedule room ready stops long patient waits m follows other suffices over;
}
