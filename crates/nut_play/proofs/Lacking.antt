-- Where memory may be lacking by what is kept, it may by the world.
use Rattle.std.proofs.Common.{◌≡◌, ◌<◌, ◌++◌, ℕ, Bool, true, false, inl, inr, List, [], ◌∷◌, length, Result, Err, refl, sym, ◌∙◌, ap, subst, arith}
use Rattle.std.specs.Prelude.{◌⊎◌, IsTrue}
use Rattle.nut_server_spec.specs.declared.Refused.{Refused}
use Rattle.nut_server_spec.specs.declared.Refused.TheVariants.{Memory}
use Rattle.nut_server_spec.specs.Event as arrivals
use Rattle.nut_server_spec.proofs.Tells.{answers-told}
use Rattle.nut_monitor_spec.specs.Event as events
use Rattle.nut_monitor_spec.specs.Content as knowledge
use Rattle.nut_monitor_spec.specs.Outcome as monitor
use Rattle.nut_fleet.specs.Schedule.{Step, ServerClock, MonitorClock, Up, Driver, Down, Link, Out, Reach, Back, Land, CutServer, CutMonitor}
use Rattle.nut_fleet.specs.World.{Setup, Deed, Tell, Inform, world, known, is_fit, has_link, is_open, is_linked}
use Rattle.nut_fleet.specs.Fleet.{EventsAreAccepted}
use Rattle.nut_fleet.specs.Log.{News, news}
use Rattle.nut_fleet.specs.Seen.{deed_by}
use Rattle.nut_fleet.specs.machine.Going.{FleetsGoOn}
use Rattle.nut_play.specs.Lack.{CoreMayLack, pipe_grows, MayLack}
use Rattle.nut_play.specs.Kept.{Kept, fleet_of, IsFleet}
use Rattle.nut_play.specs.machine.Next.{known_of, link_of, is_played, tell_by, inform_by, open_by, linked_by, reach_by, back_by, out_by, land_by, told_news, fits}
use Rattle.nut_play.specs.machine.Lacking.{ServerLacks, CoreLacks, MonitorLacks, StepLacks, out_grows, back_grows}
use Rattle.nut_play.specs.machine.Play.{told_if, told_at, LacksAt}
use Rattle.nut_play.proofs.Standing.{same-fit, tells-on}

-- a step that is skipped is logged
told-more : (is_played : Bool) (told : List News) → 0 < length told → 0 < length (told_if is_played told)
told-more true told some = some
told-more false told some = omega arith

module _ (setup : Setup) (earlier : List Step) (k : Kept) (go : FleetsGoOn setup earlier) (accepted : EventsAreAccepted setup (world setup earlier))
    (is : IsFleet setup (world setup earlier) k) where
  server-may : (d : Deed) → ServerLacks k.server d → CoreMayLack setup (world setup earlier) d
  server-may (Tell event) may =
      let answer : Result (Unit {0}) Refused = Err (Memory may.0) in
      (may.0, (answers-told setup.server (world setup earlier).server k.server event answer (accepted.server, is.keeps.server) may.1).1)
  server-may _ may = absurd may

  monitor-may : (m : ℕ) (d : Deed) → CoreLacks m (known_of k m) d → CoreMayLack setup (world setup earlier) d
  monitor-may m (Inform j event) may = (
    may.1,
    may.2,
    subst (λ s. monitor.MayLack s may.1 may.2 event) (is.keeps.monitor m ∙ ap (known setup (world setup earlier)) (sym may.0)) may.3,
  )
  monitor-may m _ may = absurd may

  -- what is said of a step whose deed is this
  abbrev Why : Step → Deed → Type 0
  Why step d = CoreMayLack setup (world setup earlier) d ⊎ (IsTrue (pipe_grows setup (world setup earlier) step d) ⊎ (0 < length (news setup (world setup earlier) step)))

  is-told : (step : Step) (d : Deed) → fits k step ≡ true → 0 < length (told_at k step) → Why step d
  is-told step d ok some = inr (inr (subst (λ told. 0 < length told) (tells-on setup earlier k step go is ok) some))

  heard : (m : ℕ) (step : Step) (d : Deed) → fits k step ≡ true → told_at k step ≡ told_if (is_played d) (told_news d (known_of k m)) →
      MonitorLacks m (known_of k m) d → Why step d
  heard m step d ok same (inl core) = inl (monitor-may m d core)
  heard m step d ok same (inr some) =
      is-told step d ok (subst (λ told. 0 < length told) (sym same) (told-more (is_played d) (told_news d (known_of k m)) some))

  module _ (m i n : ℕ) (there : has_link setup m i ≡ true) where
    out-grows : (d : Deed) → IsTrue (out_grows (open_by k.server (link_of k m i)) d) → IsTrue (pipe_grows setup (world setup earlier) (Out m i n) d)
    out-grows (Inform j event) may = sym (go.ends (fleet_of k) is.keeps m i there).0 ∙ may
    out-grows _ may = may

    back-grows : (d : Deed) → IsTrue (back_grows (linked_by (known_of k m) i) d) → IsTrue (pipe_grows setup (world setup earlier) (Back m i n) d)
    back-grows (Tell event) may = sym (go.ends (fleet_of k) is.keeps m i there).1 ∙ may
    back-grows _ may = may

  fits-too : (step : Step) → fits k step ≡ true → is_fit setup step ≡ true
  fits-too step ok = sym (same-fit setup earlier k is step) ∙ ok

  why : (step : Step) → fits k step ≡ true → StepLacks k step → Why step (deed_by (fleet_of k) step)
  why (ServerClock t) ok may = inl (server-may (tell_by k.server (arrivals.Moment t)) may)
  why (MonitorClock m t) ok may = heard m (MonitorClock m t) (inform_by m (known_of k m) (events.Moment t)) ok refl may
  why (Up u) ok may = inl (server-may (tell_by k.server (arrivals.DriverUp u)) may)
  why (Driver u line) ok may = inl (server-may (tell_by k.server (arrivals.DriverBytes u (line ++ 10 ∷ []))) may)
  why (Down u) ok may = inl (server-may (tell_by k.server (arrivals.DriverDown u)) may)
  why (Link m i) ok may = is-told (Link m i) _ ok (told-more (is_played (deed_by (fleet_of k) (Link m i))) _ may)
  why (Out m i n) ok (inl grows) = inr (inl (out-grows m i n (fits-too (Out m i n) ok) (out_by m (known_of k m) i n) grows))
  why (Out m i n) ok (inr may) = heard m (Out m i n) (out_by m (known_of k m) i n) ok refl may
  why (Reach m i n) ok may = inl (server-may (reach_by k.server (link_of k m i) n) may)
  why (Back m i n) ok may = inr (inl (back-grows m i n (fits-too (Back m i n) ok) (back_by k.server (link_of k m i) n) may))
  why (Land m i n) ok may = heard m (Land m i n) (land_by m (known_of k m) i (link_of k m i) n) ok refl may
  why (CutServer m i) ok may = inl (server-may (tell_by k.server (arrivals.Close (link_of k m i).connection)) may)
  why (CutMonitor m i) ok may = heard m (CutMonitor m i) (inform_by m (known_of k m) (events.LinkLost i)) ok refl may
  why step ok may = absurd may

  pub may-lack : (step : Step) → fits k step ≡ true → LacksAt k step → MayLack setup (world setup earlier) step
  may-lack step ok (inl may) = subst (Why step) (go.does (fleet_of k) step (fits-too step ok) is.keeps) (why step ok may)
  may-lack step ok (inr some) = is-told step _ ok some
