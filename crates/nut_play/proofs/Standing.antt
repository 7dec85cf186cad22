-- A fleet that is that of a world continues as the world does.
use Rattle.std.proofs.Common.{◌≡◌, ℕ, zero, suc, Bool, true, false, ◌&&◌, ◌||◌, List, [], ◌∷◌, ◌++◌, length, map, slice_get, slice_index_or, refl, sym, ◌∙◌, ap, subst}
use Rattle.std.specs.Prelude.{nat_lt}
use Rattle.std.specs.List.{AllByRecursion}
use Rattle.std.proofs.lemmas.List.{length-map}
use Rattle.nut_words.specs.declared.limits.TheConstants.{PIECE_MAX}
use Rattle.nut_conf.specs.declared.upsmon.MonConfig.{MonConfig}
use Rattle.nut_server_spec.specs.Configuration.{Configuration as ServerConfiguration}
use Rattle.nut_server_spec.specs.Content as server
use Rattle.nut_server_spec.specs.Content.{past}
use Rattle.nut_server_spec.specs.Trace.{configuration}
use Rattle.nut_monitor_spec.specs.Configuration.{Configuration, Line, configuration_of}
use Rattle.nut_monitor_spec.specs.Content as knowledge
use Rattle.nut_monitor_spec.specs.Content.{for_each_line}
use Rattle.nut_fleet.specs.Schedule.{Step, MonitorClock, Up, Driver, Down, Link, Out, Reach, Back, Land, CutServer, CutMonitor, Call, Accept, Other}
use Rattle.nut_fleet.specs.World.{Setup, no_monitor, monitor_of, world, nothing, deed_of, is_fit, is_other, has_link, has_ups}
use Rattle.nut_fleet.specs.Fleet.{IsMonitor, ConfigurationsAreSpoken}
use Rattle.nut_fleet.specs.Log.{logged, log, news}
use Rattle.nut_fleet.specs.machine.Going.{FleetsGoOn}
use Rattle.nut_fleet.specs.Seen.{Keeps, KeepsLink}
use Rattle.nut_fleet.proofs.Deeds.{if-played}
use Rattle.nut_play.proofs.Counting.{same-upses}
use Rattle.nut_play.specs.Kept.{Seat, Kept, fleet_of, no_ends, ends_at, links_in, known_in, fresh_seat, fresh_fleet, IsFleet}
use Rattle.nut_play.specs.machine.Next.{known_of, changed_at, next, fits, fits_link, reach_seat, back_seat, out_seat, land_seat, join_seat}
use Rattle.nut_play.specs.machine.Play.{told_at, run, run_log, AreFit}
use Rattle.nut_play.proofs.Changes.{map-changed, length-changed}
use Rattle.nut_play.proofs.Stepping.{goes, same-keeps}

-- ---- which steps fit

links-count : (seats : List Seat) (m : ℕ) → length (links_in (slice_get seats m)) ≡ slice_index_or (map (λ (seat : Seat). length seat.links) seats) m 0
links-count (seat ∷ seats) (suc m) = links-count seats m
links-count _ _ = refl

lines-count : (monitors : List Configuration) (m : ℕ) →
    length (slice_index_or monitors m no_monitor).lines ≡ slice_index_or (map (λ (c : Configuration). length c.lines) monitors) m 0
lines-count (c ∷ monitors) (suc m) = lines-count monitors m
lines-count _ _ = refl

length-for_each : {A : Type 0} (of : ℕ → A) (lines : List Line) → length (for_each_line of lines) ≡ length lines
length-for_each of [] = refl
length-for_each of (line ∷ lines) = ap suc (length-for_each (λ i. of (suc i)) lines)

twice : (a b : Bool) → (a && b) && b ≡ a && b
twice true true = refl
twice true false = refl
twice false true = refl
twice false false = refl

module _ (setup : Setup) (schedule : List Step) (k : Kept) (is : IsFleet setup (world setup schedule) k) where
  seats : length k.seats ≡ length setup.monitors
  seats = sym (length-map k.seats (λ (seat : Seat). configuration_of seat.monitor.config)) ∙ ap length is.monitors

  links : (m : ℕ) → length (links_in (slice_get k.seats m)) ≡ length (monitor_of setup m).lines
  links m = links-count k.seats m ∙ ap (λ ns. slice_index_or ns m 0) is.links ∙ sym (lines-count setup.monitors m)

  watches : (m : ℕ) → length (known_of k m).watches ≡ length (monitor_of setup m).lines
  watches m =
      ap (λ s. let t : knowledge.Content = s in length t.watches) (is.keeps.monitor m)
      ∙ length-for_each _ (monitor_of setup m).lines

  same-ups : (u : ℕ) → nat_lt u (length k.server.configuration.upses) ≡ has_ups setup u
  same-ups u = ap (nat_lt u) is.upses

  same-link_there : (m i : ℕ) → fits_link k m i ≡ has_link setup m i
  same-link_there m i =
      ap (λ n. nat_lt m n && nat_lt i (length (links_in (slice_get k.seats m))) && nat_lt i (length (known_of k m).watches)) seats
      ∙ ap (λ n. nat_lt m (length setup.monitors) && nat_lt i n && nat_lt i (length (known_of k m).watches)) (links m)
      ∙ ap (λ n. nat_lt m (length setup.monitors) && nat_lt i (length (monitor_of setup m).lines) && nat_lt i n) (watches m)
      ∙ twice (nat_lt m (length setup.monitors)) (nat_lt i (length (monitor_of setup m).lines))

  -- the same steps fit a fleet and its world
  pub same-fit : (step : Step) → fits k step ≡ is_fit setup step
  same-fit (MonitorClock m t) = ap (nat_lt m) seats
  same-fit (Up u) = same-ups u
  same-fit (Driver u line) = ap (λ b. b && nat_lt (length line) PIECE_MAX) (same-ups u)
  same-fit (Down u) = same-ups u
  same-fit (Link m i) = same-link_there m i
  same-fit (Out m i n) = same-link_there m i
  same-fit (Reach m i n) = same-link_there m i
  same-fit (Back m i n) = same-link_there m i
  same-fit (Land m i n) = same-link_there m i
  same-fit (CutServer m i) = same-link_there m i
  same-fit (CutMonitor m i) = same-link_there m i
  same-fit _ = refl

-- ---- what a step leaves unchanged

abbrev config_of : Seat → Configuration
config_of seat = configuration_of seat.monitor.config

abbrev links_of : Seat → ℕ
links_of seat = length seat.links

record Stays (k new : Kept) : Type 0 where
  monitors : map config_of new.seats ≡ map config_of k.seats
  links : map links_of new.seats ≡ map links_of k.seats
  works : new.failed ≡ k.failed

seats-stay : (m : ℕ) (change : Seat → Seat) (s : server.Content) (k : Kept) → ((x : Seat) → config_of (change x) ≡ config_of x) → ((x : Seat) → links_of (change x) ≡ links_of x) →
    Stays k (record { server = s; seats = changed_at m change k.seats; failed = k.failed })
seats-stay m change s k same same' = record {
  monitors = map-changed config_of m change k.seats same;
  links = map-changed links_of m change k.seats same';
  works = refl;
}

server-stays : (s : server.Content) (k : Kept) → Stays k (record k { server = s })
server-stays s k = record { monitors = refl; links = refl; works = refl }

same-stays : (k : Kept) → Stays k k
same-stays k = record { monitors = refl; links = refl; works = refl }

stays : (k : Kept) (step : Step) → Stays k (next k step)
stays k (MonitorClock m t) = seats-stay m _ k.server k (λ x. refl) (λ x. refl)
stays k (Link m i) = seats-stay m (join_seat k.server m i) _ k (λ x. refl) (λ x. length-changed i _ x.links)
stays k (Out m i n) = seats-stay m (out_seat k.server m i n) k.server k (λ x. refl) (λ x. length-changed i _ x.links)
stays k (Reach m i n) = seats-stay m (reach_seat k.server i n) _ k (λ x. refl) (λ x. length-changed i _ x.links)
stays k (Back m i n) = seats-stay m (back_seat k.server i n) _ k (λ x. refl) (λ x. length-changed i _ x.links)
stays k (Land m i n) = seats-stay m (land_seat m i n) k.server k (λ x. refl) (λ x. length-changed i _ x.links)
stays k (CutMonitor m i) = seats-stay m _ k.server k (λ x. refl) (λ x. refl)
stays k (Call m i) = same-stays k
stays k (Accept m i c) = same-stays k
stays k (Other event) = same-stays k
stays k _ = server-stays _ k

-- ---- a step

module _ (setup : Setup) (earlier : List Step) (k : Kept) (step : Step) (go : FleetsGoOn setup earlier) (is : IsFleet setup (world setup earlier) k)
    (ok : fits k step ≡ true) where
  step-fits : is_fit setup step ≡ true
  step-fits = sym (same-fit setup earlier k is step) ∙ ok

  pub stands-on : IsFleet setup (world setup (step ∷ earlier)) (next k step)
  stands-on =
      let stay : Stays k (next k step) = stays k step in
      let keeps : Keeps setup (world setup (step ∷ earlier)) (fleet_of (next k step)) =
      same-keeps setup (world setup (step ∷ earlier)) (fleet_of (next k step)) _ (goes k step ok).0 (go.goes_on (fleet_of k) step step-fits is.keeps) in
      let w = world setup earlier in
      let many : length (configuration setup.server (past setup.server (world setup (step ∷ earlier)).server)).upses ≡ length (configuration setup.server (past setup.server w.server)).upses =
      if-played (λ v. length (configuration setup.server (past setup.server v.server)).upses ≡ length (configuration setup.server (past setup.server w.server)).upses) setup w
      (is_other setup step || is_fit setup step) (deed_of setup w step) refl (λ either. ap (λ us. length us) (same-upses setup w step step-fits)) in
      record {
        monitors = stay.monitors ∙ is.monitors;
        links = stay.links ∙ is.links;
        keeps = keeps;
        upses =
            ap (λ s. let t : server.Content = s in length t.configuration.upses) keeps.server ∙ many
            ∙ sym (ap (λ s. let t : server.Content = s in length t.configuration.upses) is.keeps.server) ∙ is.upses;
        works = stay.works ∙ is.works;
      }

  pub tells-on : told_at k step ≡ news setup (world setup earlier) step
  tells-on = (goes k step ok).1 ∙ go.tells (fleet_of k) step step-fits is.keeps

-- ---- a call

module _ (setup : Setup) (before : List Step) (k : Kept) (go : (schedule : List Step) → FleetsGoOn setup schedule) (is : IsFleet setup (world setup before) k) where
  pub run-stands : (steps : List Step) → AreFit k steps → IsFleet setup (world setup (steps ++ before)) (run k steps)
  run-stands [] fit = is
  run-stands (step ∷ steps) fit = stands-on setup (steps ++ before) (run k steps) step (go (steps ++ before)) (run-stands steps fit.0) fit.1

  pub run-tells : (steps : List Step) → AreFit k steps → run_log k steps ≡ log setup before steps
  run-tells [] fit = refl
  run-tells (step ∷ steps) fit =
      ap (λ told. told ++ logged (suc (length steps)) (told_at (run k steps) step)) (run-tells steps fit.0)
      ∙ ap (λ told. log setup before steps ++ logged (suc (length steps)) told) (tells-on setup (steps ++ before) (run k steps) step (go (steps ++ before)) (run-stands steps fit.0) fit.1)

  pub run-fits : (steps : List Step) → AreFit k steps → AllByRecursion (λ step. is_fit setup step ≡ true) steps
  run-fits [] fit = tt
  run-fits (step ∷ steps) fit =
      (sym (same-fit setup (steps ++ before) (run k steps) (run-stands steps fit.0) step) ∙ fit.1, run-fits steps fit.0)

-- ---- the monitors of a fleet

-- the monitors were read from files, so the laws hold of them
pub monitors-fine : ConfigurationsAreSpoken → (seats : List Seat) (monitors : List Configuration) → map config_of seats ≡ monitors → AllByRecursion IsMonitor monitors
monitors-fine spoken [] monitors is = subst (AllByRecursion IsMonitor) is tt
monitors-fine spoken (seat ∷ seats) monitors is =
    subst (AllByRecursion IsMonitor) is (spoken seat.monitor.config, monitors-fine spoken seats (map config_of seats) refl)

-- ---- before any step

module _ (first : ServerConfiguration) where
  fresh-monitors : (confs : List MonConfig) → map config_of (map fresh_seat confs) ≡ map configuration_of confs
  fresh-monitors [] = refl
  fresh-monitors (c ∷ confs) = ap (λ cs. configuration_of c ∷ cs) (fresh-monitors confs)

  fresh-links : (confs : List MonConfig) → map links_of (map fresh_seat confs) ≡ map (λ (c : Configuration). length c.lines) (map configuration_of confs)
  fresh-links [] = refl
  fresh-links (c ∷ confs) =
      ap (λ n. n ∷ map links_of (map fresh_seat confs)) (length-map (configuration_of c).lines (λ line. no_ends))
      ∙ ap (λ ns. length (configuration_of c).lines ∷ ns) (fresh-links confs)

  fresh-known : (confs : List MonConfig) (m : ℕ) →
      known_in (slice_get (map fresh_seat confs) m) ≡ knowledge.content (slice_index_or (map configuration_of confs) m no_monitor) []
  fresh-known (c ∷ confs) (suc m) = fresh-known confs m
  fresh-known _ _ = refl

  no-ends : {A : Type 0} (lines : List A) (i : ℕ) → ends_at (map (λ line. no_ends) lines) i ≡ no_ends
  no-ends (line ∷ lines) (suc i) = no-ends lines i
  no-ends _ _ = refl

  fresh-ends : (confs : List MonConfig) (m i : ℕ) → ends_at (links_in (slice_get (map fresh_seat confs) m)) i ≡ no_ends
  fresh-ends [] m i = refl
  fresh-ends (c ∷ confs) zero i = no-ends (configuration_of c).lines i
  fresh-ends (c ∷ confs) (suc m) i = fresh-ends confs m i

  pub fresh-stands : (confs : List MonConfig) →
      IsFleet (record { server = first; monitors = map configuration_of confs }) nothing (fresh_fleet first confs)
  fresh-stands confs = record {
    monitors = fresh-monitors confs;
    links = fresh-links confs;
    keeps = record {
      server = refl;
      monitor = fresh-known confs;
      link = λ m i there.
          subst (λ e. KeepsLink (record { server = first; monitors = map configuration_of confs }) m i 0 [] [] e) (sym (fresh-ends confs m i))
          (record { connection = refl; to_server = λ up. absurd (cc); to_monitor = λ up. absurd (cc) });
    };
    upses = refl;
    works = refl;
  }
