-- A machine is in Halted within the seconds that upsmon prints.
use Rattle.std.proofs.Common.{◌≡◌, ℕ, zero, suc, ◌+◌, ◌<◌, ◌≤◌, inl, inr, List, [], ◌∷◌, ◌++◌, length, Bool, true, false, Option, Some, None, refl, sym, ◌∙◌, ap, arith}
use Rattle.std.specs.Prelude.{max, if◌then◌else◌}
use Rattle.std.specs.List.{list_any}
use Rattle.std.proofs.lemmas.Bool.{cases_Bool, lt-ltb}
use Rattle.nut_monitor_spec.specs.Configuration.{Configuration, Line, has_primary, line_in}
use Rattle.nut_monitor_spec.specs.Event.{Event}
use Rattle.nut_monitor_spec.specs.Trace.{clock, has_begun, trace}
use Rattle.nut_in_time.specs.AnyServers.{MachinesStopAsTold}
use Rattle.nut_in_time.specs.InTime.{BeginsBy, secondary_by, to_halted, turn}
use Rattle.nut_in_time.specs.Pace.{Pace}
use Rattle.nut_upsmon.specs.Stopping.{StopsWithin, begins_within, is_led, prompt, stops_within}

-- ---- lines

led-by : (primary : Bool) (line : Line) → line.primary ≡ primary → is_led line ≡ false → 0 < line.power → primary ≡ true
led-by true line is none feeds = refl
led-by false line is none feeds = let led : is_led line ≡ true = rw (is, lt-ltb 0 line.power feeds) refl in let bad : true ≡ false = sym led ∙ none in cc

none-led : (lines : List Line) (i : ℕ) → list_any is_led lines ≡ false → i < length lines → is_led (line_in lines i) ≡ false
none-led [] i none lt = absurd (omega (arith, lt))
none-led (line ∷ lines) zero none lt = elim (cases_Bool (is_led line)) [
  | inl led ↦ let bad : true ≡ false = rw led at none in cc
  | inr is ↦ is
]
none-led (line ∷ lines) (suc i) none lt = elim (cases_Bool (is_led line)) [
  | inl led ↦ let bad : true ≡ false = rw led at none in cc
  | inr is ↦ none-led lines i (rw is at none) (omega (arith, lt))
]

some-primary : (lines : List Line) (i : ℕ) → i < length lines → (line_in lines i).primary ≡ true → has_primary lines ≡ true
some-primary [] i lt is = absurd (omega (arith, lt))
some-primary (line ∷ lines) zero lt is = rw is refl
some-primary (line ∷ lines) (suc i) lt is = elim (cases_Bool line.primary) [
  | inl here ↦ rw here refl
  | inr other ↦ rw other (some-primary lines i (omega (arith, lt)) is)
]

-- ---- seconds

bound-by : (b : Bool) (n seconds : ℕ) → (let o : Option ℕ = if b then None else Some n in o) ≡ Some seconds → seconds ≡ n
bound-by true n seconds is = cc
bound-by false n seconds is = cc

shift : (a d h t : ℕ) → max (t + a + d) (t + a + d + h) ≡ t + max (0 + a + d) (0 + a + d + h)
shift a d h t = omega arith

later-by : (configuration : Configuration) (pace : Pace) (t : ℕ) → secondary_by configuration pace false t ≡ t + secondary_by configuration pace false 0
later-by configuration pace t = shift (turn configuration pace) pace.delay configuration.host_sync t

takes-time : (configuration : Configuration) (pace : Pace) → has_primary configuration.lines ≡ true → 0 < to_halted configuration pace
takes-time configuration pace is =
    let all : to_halted configuration pace ≡ configuration.host_sync + suc pace.skip + configuration.final_delay = rw is refl in omega (arith, all)

-- ---- the law

module _ (configuration : Configuration) (first newest later : List Event)
    (until : has_begun configuration (trace configuration (newest ++ first)) ≡ false → later ≡ []) where
  -- the shutdown has begun
  begun : (known latest end : ℕ) → BeginsBy configuration known latest (trace configuration (newest ++ first)) → known < end →
      end ≤ clock (trace configuration (later ++ (newest ++ first))) → has_begun configuration (trace configuration (newest ++ first)) ≡ true
  begun known latest end by less late = elim (cases_Bool (has_begun configuration (trace configuration (newest ++ first)))) [
    | inl over ↦ over
    | inr not_yet ↦
        let same : clock (trace configuration (later ++ (newest ++ first))) ≡ clock (trace configuration (newest ++ first)) =
        ap (λ events. clock (trace configuration (events ++ (newest ++ first)))) (until not_yet) in
        by.begins (omega (arith, less, late, same))
  ]

pub stops-within : ((configuration : Configuration) (pace : Pace) (low : ℕ → Bool) → MachinesStopAsTold configuration pace low) → StopsWithin
stops-within law configuration delay seconds low first newest later is told feeds even until late =
    let pace = prompt delay in
    let t = clock (trace configuration first) in
    let total : seconds ≡ begins_within configuration pace + to_halted configuration pace = bound-by _ (stops_within configuration pace) seconds is in
    elim (cases_Bool (list_any is_led configuration.lines)) [
      | inl led ↦
          let begins : begins_within configuration pace ≡ secondary_by configuration pace false 0 + 1 = rw led refl in
          let moved = later-by configuration pace t in
          let stops = (law configuration pace low).secondaries false first newest later told (λ i within is_low known. cc) in
          stops.1 (begun configuration first newest later until _ _ (t + seconds) stops.0 (omega (arith, total, begins, moved)) late) even
          (omega (arith, total, begins, moved, late))
      | inr none ↦
          let begins : begins_within configuration pace ≡ 0 + turn configuration pace + delay = rw none refl in
          let primary = λ (i : ℕ) (within : i < length configuration.lines) (is_low : low i ≡ true).
          led-by (line_in configuration.lines i).primary (line_in configuration.lines i) refl (none-led configuration.lines i none within) (feeds i within is_low) in
          let some = takes-time configuration pace
          (some-primary configuration.lines told.needs.one told.needs.there (primary told.needs.one told.needs.there told.needs.passes)) in
          let stops = (law configuration pace low).primaries first newest later told primary in
          stops.1 (begun configuration first newest later until _ _ (t + seconds) stops.0 (omega (arith, total, begins, some)) late) even
          (omega (arith, total, begins, late))
    ]
