-- No step that fits changes how many UPSes a fleet's server has.
use Rattle.std.proofs.Common.{◌≡◌, ℕ, ◌&&◌, ◌++◌, not, min, take, is_none, List, [], ◌∷◌, refl, ap, true}
use Rattle.nut_words.specs.declared.limits.TheConstants.{PIECE_MAX}
use Rattle.nut_server_spec.specs.Acceptance as server_tests
use Rattle.nut_server_spec.specs.Configuration.{Ups}
use Rattle.nut_server_spec.specs.Content.{past}
use Rattle.nut_server_spec.specs.Event as arrivals
use Rattle.nut_server_spec.specs.Trace.{configuration}
use Rattle.nut_server_spec.proofs.Others.{configuration_lines, configuration_reports}
use Rattle.nut_monitor_spec.specs.Acceptance as monitor_tests
use Rattle.nut_monitor_spec.specs.Event as events
use Rattle.nut_fleet.specs.Schedule.{Step, ServerClock, MonitorClock, Up, Driver, Down, Link, Out, Reach, Back, Land, CutServer, CutMonitor}
use Rattle.nut_fleet.specs.World.{Setup, World, Inform, Join, Tell, address_of, after, deed_of, inform, is_fit, is_linked, is_open, known, monitor_waits, moved, served, server_waits, tell, to_monitor, to_server}
use Rattle.nut_fleet.proofs.Deeds.{if-carried, if-counted, if-played}

-- the UPSes of the server
abbrev upses_of : Setup → World → List Ups
upses_of setup w = (configuration setup.server (past setup.server w.server)).upses

module _ (setup : Setup) (w : World) where
  abbrev Same : World → Type 0
  Same v = upses_of setup v ≡ upses_of setup w

  told : (e : arrivals.Event) → Same (after setup w (Tell e)) → Same (after setup w (tell setup w e))
  told e same = if-played Same setup w (is_none (server_tests.refusal (served setup w) e)) (Tell e) refl (λ ok. same)

  heard : (m : ℕ) (e : events.Event) → Same (after setup w (inform setup w m e))
  heard m e = if-played Same setup w (is_none (monitor_tests.refusal (known setup w m) e)) (Inform m e) refl (λ ok. refl)

  bytes : (c : ℕ) (piece : List ℕ) → Same (after setup w (tell setup w (arrivals.Bytes c piece)))
  bytes c piece = told (arrivals.Bytes c piece)
      (ap (λ k. k.upses) (configuration_lines setup.server c (arrivals.brought (arrivals.input c w.server) piece) (arrivals.steps w.server)))

  pub same-upses : (step : Step) → is_fit setup step ≡ true → Same (after setup w (deed_of setup w step))
  same-upses (ServerClock t) fits = told (arrivals.Moment t) refl
  same-upses (MonitorClock m t) fits = heard m (events.Moment t)
  same-upses (Up u) fits = told (arrivals.DriverUp u) refl
  same-upses (Driver u line) fits =
      told (arrivals.DriverBytes u (line ++ 10 ∷ []))
      (ap (λ k. k.upses) (configuration_reports setup.server u (arrivals.brought (arrivals.driver_input u w.server) (line ++ 10 ∷ [])) (arrivals.steps w.server)))
  same-upses (Down u) fits = told (arrivals.DriverDown u) refl
  same-upses (Link m i) fits =
      if-played Same setup w
      (not (is_open setup w m i) && not (is_linked setup w m i) && is_none (server_tests.refusal (served setup w) (arrivals.Open (address_of m)))) (Join m i) refl (λ ok. refl)
  same-upses (Out m i n) fits =
      let k = moved n (monitor_waits setup w m i) in
      if-played Same setup w (is_linked setup w m i) _ refl (λ ok. if-counted Same setup w k (λ j. inform setup w m (events.LinkTook i j)) refl (heard m (events.LinkTook i k)))
  same-upses (Reach m i n) fits =
      let piece = take (min n PIECE_MAX) (to_server setup w m i) in
      if-played Same setup w (is_open setup w m i) _ refl
      (λ ok. if-carried Same setup w piece (λ x. tell setup w (arrivals.Bytes (w.connection m i) x)) refl (bytes (w.connection m i) piece))
  same-upses (Back m i n) fits =
      let k = moved n (server_waits setup w m i) in
      if-played Same setup w (is_open setup w m i) _ refl
      (λ ok. if-counted Same setup w k (λ j. tell setup w (arrivals.Took (w.connection m i) j)) refl (told (arrivals.Took (w.connection m i) k) refl))
  same-upses (Land m i n) fits =
      let piece = take (min n PIECE_MAX) (to_monitor setup w m i) in
      if-played Same setup w (is_linked setup w m i) _ refl (λ ok. if-carried Same setup w piece (λ x. inform setup w m (events.LinkBytes i x)) refl (heard m (events.LinkBytes i piece)))
  same-upses (CutServer m i) fits = told (arrivals.Close (w.connection m i)) refl
  same-upses (CutMonitor m i) fits = heard m (events.LinkLost i)
  same-upses step fits = cc
