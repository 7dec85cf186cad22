-- Who makes a machine stop.
use Rattle.std.proofs.Common.{◌≡◌, ℕ, ◌+◌, inl, inr, List, Bool, true, false, not, ◌||◌, Option, Some, None, is_none, refl, sym, ◌∙◌, ap, subst, codes}
use Rattle.std.specs.Prelude.{if◌then◌else◌, option_map, unwrap_or}
use Rattle.std.specs.Option.{option_and_then}
use Rattle.std.proofs.lemmas.Bool.{cases_Bool, ltb-false, ltb-true}
use Rattle.nut_proto.specs.declared.refusal.Refusal.{Refusal}
use Rattle.nut_proto.specs.declared.refusal.Refusal.TheVariants.{DataStale, DriverNotConnected}
use Rattle.nut_state.specs.Step.{table_of}
use Rattle.nut_state.specs.Table.{Entry as Variable, variable}
use Rattle.nut_server_spec.specs.Answer.{shown}
use Rattle.nut_server_spec.specs.Configuration.{Configuration as ServerConfiguration}
use Rattle.nut_server_spec.specs.Content.{past}
use Rattle.nut_server_spec.specs.Device.{Device, is_past, trouble}
use Rattle.nut_server_spec.specs.Event as arrivals
use Rattle.nut_server_spec.specs.Event.{Said, Reloaded}
use Rattle.nut_server_spec.specs.Numbering.{number_of}
use Rattle.nut_server_spec.specs.Trace.{clock, device, forced, heard_at, numbering, reports, trace}
use Rattle.nut_monitor_spec.specs.Query.{parted}
use Rattle.nut_monitor_spec.specs.Trace.{Entry, begun, critical, is_short, supply}
use Rattle.nut_fleet.specs.Fleet.{Cause, IsReasonAt, IsSetup}
use Rattle.nut_fleet.specs.Halting.{CalledFor, DriverSays, NobodyElseHalts}
use Rattle.nut_fleet.specs.Schedule.{Step}
use Rattle.nut_fleet.specs.Shown.{shown_status, status_of}
use Rattle.nut_fleet.specs.World.{Setup, line_of, monitor_of, seen, world}
use Rattle.nut_fleet.proofs.Rereads.{room-stays}
use Rattle.nut_fleet.proofs.Shutdowns.{any-empty, critical-cause, earliest-passes, genuine-earliest}
use Rattle.nut_fleet.proofs.Sound.{IsLawful}
use Rattle.nut_fleet.proofs.Worlds.{sound}
use Rattle.nut_fleet.proofs.Forces.{user-forced}

some-same : {A : Type 0} {x y : A} → Some x ≡ Some y → x ≡ y
some-same {A} {x} {y} is = ap (λ o. unwrap_or o x) is

-- ---- what is shown

-- a status that is shown without FSD before it is the driver's value
shown-value : (d : Device) (v : Variable) → d.forced ≡ false → shown d v ≡ v.value
shown-value d v none = rw none refl

trouble-none : (connected dumped ok past : Bool) (a b : Refusal) →
    is_none (if not connected then Some a else if not dumped || not ok || past then Some b else None) ≡ true → (connected ≡ true) × (past ≡ false)
trouble-none false dumped ok past a b is = cc
trouble-none true false ok past a b is = cc
trouble-none true true false past a b is = cc
trouble-none true true true true a b is = cc
trouble-none true true true false a b is = (refl, refl)

-- a UPS whose status is shown: its number, and its variable
record IsShown (first : ServerConfiguration) (s : List arrivals.Step) (name : List ℕ) (words : List (List ℕ)) : Type 0 where
  pub ups : ℕ
  pub number : number_of name (numbering first (trace first s)) ≡ Some ups
  pub fine : is_none (trouble first.max_age (clock (trace first s)) (device first (trace first s) ups)) ≡ true
  pub status : Variable
  pub there : variable (table_of (reports ups (trace first s))) (codes "ups.status") ≡ Some status
  pub words_are : parted (shown (device first (trace first s) ups) status) ≡ words

is-shown : (first : ServerConfiguration) (s : List arrivals.Step) (name : List ℕ) (words : List (List ℕ)) →
    shown_status first (trace first s) name ≡ Some words → IsShown first s name words
is-shown first s name words is = by_number (number_of name (numbering first (trace first s))) refl is
  where
    by_variable : (u : ℕ) → number_of name (numbering first (trace first s)) ≡ Some u →
        is_none (trouble first.max_age (clock (trace first s)) (device first (trace first s) u)) ≡ true → (o : Option Variable) →
        variable (table_of (reports u (trace first s))) (codes "ups.status") ≡ o →
        option_map (λ v. parted (shown (device first (trace first s) u) v)) o ≡ Some words → IsShown first s name words
    by_variable u number fine None there is = cc
    by_variable u number fine (Some v) there is = record { ups = u; number = number; fine = fine; status = v; there = there; words_are = some-same is }

    by_number : (o : Option ℕ) → number_of name (numbering first (trace first s)) ≡ o → option_and_then (status_of first (trace first s)) o ≡ Some words → IsShown first s name words
    by_number None number is = cc
    by_number (Some u) number is = elim (cases_Bool (is_none (trouble first.max_age (clock (trace first s)) (device first (trace first s) u)))) [
      | inl fine ↦ by_variable u number fine (variable (table_of (reports u (trace first s))) (codes "ups.status")) refl (rw fine at is)
      | inr silent ↦ let bad : None ≡ Some words = rw silent at is in cc
    ]

module _ (setup : Setup) (schedule : List Step) (m i : ℕ) (beginning : List Entry) where
  driver-says : (s : List arrivals.Step) (words : List (List ℕ)) (is : IsShown setup.server s (line_of setup m i).ups words) →
      forced setup.server is.ups (trace setup.server s) ≡ false → IsReasonAt setup m i beginning words → DriverSays setup m i beginning (trace setup.server s)
  driver-says s words is none reason =
      let t = trace setup.server s in
      let d = device setup.server t is.ups in
      let fine = trouble-none d.connected d.table.dump_done d.table.data_ok (is_past setup.server.max_age (clock t) d.heard_at) DriverNotConnected DataStale is.fine in
      let said : parted is.status.value ≡ words = sym (ap parted (shown-value d is.status none)) ∙ is.words_are in
      record {
        ups = is.ups;
        number = is.number;
        connected = fine.0;
        heard = ltb-false (heard_at is.ups t + setup.server.max_age) (clock t) fine.1;
        status = is.status;
        last = is.there;
        reason = subst (λ x. IsReasonAt setup m i beginning x) (sym said) reason;
      }

  called-for : (cause : Cause setup schedule m i beginning) → CalledFor setup schedule m i beginning
  called-for cause =
      let s = arrivals.steps (world setup cause.shown.early).server in
      let is = is-shown setup.server s (line_of setup m i).ups cause.words cause.shown.shown in
      record {
        cause = cause;
        by_whom = elim (cases_Bool (forced setup.server is.ups (trace setup.server s))) [
          | inl forced ↦ inr (user-forced setup.server s (line_of setup m i).ups is.ups (room-stays setup cause.shown.early) is.number forced)
          | inr none ↦ inl (driver-says s cause.words is none cause.reason)
        ];
      }

-- ---- the law

pub nobody-else : (setup : Setup) → IsLawful setup.server → IsSetup setup → (schedule : List Step) → NobodyElseHalts setup schedule
nobody-else setup law fine schedule m over =
    let configuration = monitor_of setup m in
    let trace = seen setup (world setup schedule) m in
    let beginning = begun configuration trace in
    let all = genuine-earliest setup schedule m (is_short configuration) trace (((sound setup law fine schedule).monitors m).genuine) in
    elim (earliest-passes (is_short configuration) trace) [
      | inl none ↦ absurd (any-empty beginning over none)
      | inr short ↦ (
        λ i. critical configuration i beginning,
        λ i is. called-for setup schedule m i beginning (critical-cause setup law schedule m i beginning all is),
        ltb-true (supply configuration beginning) configuration.min_supplies short,
      )
    ]
