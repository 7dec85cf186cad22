-- The premises of a room that stops, by tests of schedules that are written down: the newest steps behind `start`.
use Rattle.std.proofs.Common.{◌≡◌, ℕ, ◌+◌, ◌≤◌, ◌<◌, ◌&&◌, nat_le, List, ◌++◌, length, Bool, true, false, not, Some, arith}
use Rattle.std.specs.Prelude.{if◌then◌else◌}
use Rattle.std.proofs.lemmas.Bool.{and_parts, leb-true, not-true}
use Rattle.nut_server_spec.specs.Configuration.{number_of_ups}
use Rattle.nut_monitor_spec.specs.declared.Query.TheVariants.{Login, Primary}
use Rattle.nut_monitor_spec.specs.Trace.{clock, last_query}
use Rattle.nut_fleet.specs.Schedule.{Step}
use Rattle.nut_fleet.specs.World.{Setup, is_open, line_of, monitor_of, world}
use Rattle.nut_in_time.specs.InTime.{Needs, has_begun_at, is_low}
use Rattle.nut_in_time.specs.Pace.{Pace, FromOn, seen_at, shown_at}
use Rattle.nut_in_time.specs.Room.{IsReady, IsRoom, IsStopping, KeepsStep, WasGranted, is_forced, is_primary}
use Rattle.nut_in_time.specs.Tests.{each_since, is_polled, is_steady, keeps_pace, says}
use Rattle.nut_in_time.proofs.Climbing.{front-of}
use Rattle.nut_in_time.proofs.RoomSteps.{step-front}
use Rattle.nut_in_time.proofs.Rooms.{has-monitor}
use Rattle.nut_in_time.proofs.Testing.{Below, below, each-holds, front-append, pace-from, polled-holds, says-holds, steady-holds}

-- The clock of m plus y is never behind that of p plus x, and at most `drift` seconds ahead of it.
abbrev pub is_together : Setup → ℕ → ℕ → ℕ → ℕ → ℕ → List Step → Bool
is_together setup drift p m x y early =
    nat_le (clock (seen_at setup p early) + x) (clock (seen_at setup m early) + y)
    && nat_le (clock (seen_at setup m early) + y) (clock (seen_at setup p early) + x + drift)

together-holds : (setup : Setup) (drift p m x y : ℕ) (early : List Step) → is_together setup drift p m x y early ≡ true →
    (clock (seen_at setup p early) + x ≤ clock (seen_at setup m early) + y) × (clock (seen_at setup m early) + y ≤ clock (seen_at setup p early) + x + drift)
together-holds setup drift p m x y early is = grind (arith, nat_le, and_parts, leb-true)

-- the UPS is shown at this time, and on a low battery if it has to be, and nobody has forced its shutdown
abbrev pub is_shown_low : Setup → List ℕ → ℕ → Bool → List Step → Bool
is_shown_low setup ups u weak early =
    says (λ words. true) (shown_at setup early ups) && (if weak && not (is_forced setup u early) then says is_low (shown_at setup early ups) else true)

low-then : (weak forced low : Bool) → weak ≡ true → forced ≡ false → (if weak && not forced then low else true) ≡ true → low ≡ true
low-then weak forced low a b is = rw (a, b) at is

module _ (setup : Setup) (pace : ℕ → Pace) (drift : ℕ) (x y : ℕ → ℕ) (weak : ℕ → Bool) (u : ℕ → ℕ) (p : ℕ) (start newest : List Step) where
  -- at `start` the link is logged in, and its status is asked for; since then it keeps pace, open at both ends
  abbrev pub LinkTests : ℕ → ℕ → Type 0
  LinkTests m i =
      ((is_polled (last_query i (seen_at setup m start)) && each_since (λ e. keeps_pace setup (pace m) m i e && is_open setup (world setup e) m i) start newest) ≡ true)
      × WasGranted setup m i Login start

  abbrev pub MachineTests : ℕ → Type 0
  MachineTests m =
      ((is_steady setup (pace m) m start newest && each_since (is_together setup drift p m (x m) (y m)) start newest) ≡ true)
      × Below (length (monitor_of setup m).lines) (LinkTests m)

  abbrev shows : ℕ → List Step → Bool
  shows i = is_shown_low setup (line_of setup p i).ups (u i) (weak i)

  abbrev pub UpsTests : ℕ → Type 0
  UpsTests i =
      ((is_primary setup p i && (not (is_forced setup (u i) start) && each_since (is_shown_low setup (line_of setup p i).ups (u i) (weak i)) start newest)) ≡ true)
      × (number_of_ups (line_of setup p i).ups setup.server.upses ≡ Some (u i)) × WasGranted setup p i Primary start

  pub record RoomTests : Type 0 where
    pub needs : Needs (monitor_of setup p) weak
    pub machines : Below (length setup.monitors) MachineTests
    pub upses : Below (length (monitor_of setup p).lines) UpsTests
    pub not_begun : has_begun_at setup p start ≡ false

  pub record RoomHolds : Type 0 where
    pub room : IsRoom setup weak u p
    pub ready : IsReady setup u p start
    pub stopping : IsStopping setup pace drift weak u p start (newest ++ start)

  pub room-holds : RoomTests → RoomHolds
  room-holds tests = record {
    room = record {
      needs = tests.needs;
      primary = λ i less is. (ups i less).0;
      number = λ i less is. (ups-at i less).1;
    };
    ready = record {
      polled = λ m follows i less led. polled-holds (last_query i (seen_at setup m start)) (link i m less).0;
      logged_in = λ m follows i less led. (link-at i m less).1;
      primary = λ i less is. (ups-at i less).2;
      not_begun = tests.not_begun;
      not_forced = λ i less is. not-true (is_forced setup (u i) start) (ups i less).1;
    };
    stopping = record {
      front = front-append newest start;
      keeps = λ m follows early inside since up. step-front setup (pace m) drift p m start early (newest ++ start) inside (steps m (has-monitor setup.monitors m follows.one follows.there));
      primary = λ early inside since none. step-front setup (pace p) drift p p start early (newest ++ start) inside (steps p (has-monitor setup.monitors p tests.needs.one tests.needs.there));
      shown = λ i less is early inside since. says-holds (λ words. true) (shown_at setup early (line_of setup p i).ups) (shown i less early inside since).0;
      low = λ i less is early inside since none. says-holds is_low (shown_at setup early (line_of setup p i).ups)
          (low-then (weak i) (is_forced setup (u i) early) (says is_low (shown_at setup early (line_of setup p i).ups)) is none (shown i less early inside since).1);
    };
  }
    where
      ups-at : (i : ℕ) → i < length (monitor_of setup p).lines → UpsTests i
      ups-at i less = below (length (monitor_of setup p).lines) UpsTests tests.upses i less

      ups : (i : ℕ) → i < length (monitor_of setup p).lines → (is_primary setup p i ≡ true) × (not (is_forced setup (u i) start) ≡ true) × (each_since (shows i) start newest ≡ true)
      ups i less =
          let one = and_parts (is_primary setup p i) (not (is_forced setup (u i) start) && each_since (shows i) start newest) (ups-at i less).0 in
          let two = and_parts (not (is_forced setup (u i) start)) (each_since (shows i) start newest) one.1 in
          (one.0, two.0, two.1)

      shown : (i : ℕ) → i < length (monitor_of setup p).lines → FromOn start (newest ++ start) (λ e. (says (λ words. true) (shown_at setup e (line_of setup p i).ups) ≡ true)
          × ((if weak i && not (is_forced setup (u i) e) then says is_low (shown_at setup e (line_of setup p i).ups) else true) ≡ true))
      shown i less e inside since =
          and_parts (says (λ words. true) (shown_at setup e (line_of setup p i).ups)) (if weak i && not (is_forced setup (u i) e) then says is_low (shown_at setup e (line_of setup p i).ups) else true)
          (each-holds (shows i) start newest (ups i less).2 e inside since)

      machine-at : (m : ℕ) → m < length setup.monitors → MachineTests m
      machine-at m there = below (length setup.monitors) MachineTests tests.machines m there

      link-at : (i m : ℕ) → i < length (monitor_of setup m).lines → LinkTests m i
      link-at i m less = below (length (monitor_of setup m).lines) (LinkTests m) (machine-at m (has-monitor setup.monitors m i less)).1 i less

      link : (i m : ℕ) → i < length (monitor_of setup m).lines → (is_polled (last_query i (seen_at setup m start)) ≡ true)
          × (each_since (λ e. keeps_pace setup (pace m) m i e && is_open setup (world setup e) m i) start newest ≡ true)
      link i m less =
          and_parts (is_polled (last_query i (seen_at setup m start))) (each_since (λ e. keeps_pace setup (pace m) m i e && is_open setup (world setup e) m i) start newest) (link-at i m less).0

      both : (i m : ℕ) → i < length (monitor_of setup m).lines → FromOn start (newest ++ start) (λ e. (keeps_pace setup (pace m) m i e ≡ true) × (is_open setup (world setup e) m i ≡ true))
      both i m less e inside since =
          and_parts (keeps_pace setup (pace m) m i e) (is_open setup (world setup e) m i)
          (each-holds (λ f. keeps_pace setup (pace m) m i f && is_open setup (world setup f) m i) start newest (link i m less).1 e inside since)

      steps : (m : ℕ) → m < length setup.monitors → KeepsStep setup (pace m) drift p m start (newest ++ start)
      steps m there =
          let whole = newest ++ start in
          let together = is_together setup drift p m (x m) (y m) in
          let parts = and_parts (is_steady setup (pace m) m start newest) (each_since together start newest) (machine-at m there).0 in
          let band : FromOn start whole (λ e. (clock (seen_at setup p e) + x m ≤ clock (seen_at setup m e) + y m) × (clock (seen_at setup m e) + y m ≤ clock (seen_at setup p e) + x m + drift)) =
          λ e inside since. together-holds setup drift p m (x m) (y m) e (each-holds together start newest parts.1 e inside since) in
          record {
            steady = steady-holds setup (pace m) m start newest parts.0;
            keeps = λ i less led. pace-from setup (pace m) m i start whole (λ e inside since. (both i m less e inside since).0);
            both_ends = λ i less led e inside since. (both i m less e inside since).1;
            ahead = λ one other from to inside.
                let e1 = (band one (front-of one other whole to inside) from).0 in
                let e2 = (band other inside (front-of start one other from to)).1 in
                omega (arith, e1, e2);
            behind = λ one other from to inside.
                let e1 = (band one (front-of one other whole to inside) from).1 in
                let e2 = (band other inside (front-of start one other from to)).0 in
                omega (arith, e1, e2);
          }
