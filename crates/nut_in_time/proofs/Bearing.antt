-- Lines that give no reason for a shutdown, by what is known of them.
use Rattle.std.proofs.Common.{◌≡◌, ◌⊎◌, ℕ, suc, ◌+◌, ◌<◌, ◌≤◌, ◌&&◌, inl, inr, List, ◌∷◌, length, Bool, true, false, Option, Some, None, is_some, refl, sym, ◌∙◌, ap, subst, arith}
use Rattle.std.specs.Prelude.{nat_lt}
use Rattle.std.proofs.lemmas.Bool.{cases_Bool, and_parts, eq-eqb, lt-ltb, ltb-true, not-true}
use Rattle.nut_monitor_spec.specs.Configuration.{Configuration}
use Rattle.nut_monitor_spec.specs.Decision.{power_where}
use Rattle.nut_monitor_spec.specs.Event.{Event}
use Rattle.nut_monitor_spec.specs.Query.{status_in}
use Rattle.nut_monitor_spec.specs.Trace.{Asked, Entry, clock, at_status, status, status_of_answer, newest_answer, polled, gives_status, is_short, begun, has_begun, answer_of, entry_of, trace}
use Rattle.nut_fleet.specs.Schedule.{Step, IsFront}
use Rattle.nut_fleet.specs.World.{Setup, monitor_of, line_of, world}
use Rattle.nut_fleet.specs.Fleet.{IsSetup, IsReason, Cause}
use Rattle.nut_fleet.proofs.Entries.{entry-answer, is_made}
use Rattle.nut_fleet.proofs.Fronts.{fronts-compare}
use Rattle.nut_fleet.proofs.Shutdowns.{shutdowns-have_causes, power-more}
use Rattle.nut_fleet.proofs.Sound.{IsLawful}
use Rattle.nut_in_time.specs.Pace.{Pace, IsPrompt, Says, seen_at, shown_at}
use Rattle.nut_in_time.specs.InTime.{turn, seen_by}
use Rattle.nut_in_time.specs.InVain.{is_bearable, NoneBeginsLater, NoneBeginsAnyMore, WasBorne, NoneBegins}
use Rattle.nut_in_time.proofs.Asking.{wait-comes, rest-stays, waits-on, waits-outstanding, not-made}
use Rattle.nut_in_time.proofs.Climbing.{each-event}
use Rattle.nut_in_time.proofs.Ending.{clock-entry, clock-grows, earliest-sooner, false-if, at-most, begun-by}
use Rattle.nut_in_time.proofs.Polling.{IsGiven, Current, late-next, status-unread, status-read}
use Rattle.nut_in_time.proofs.Lasting.{Chosen, AllGood, Lasts, lasts-next, lasts-first, event-by-event}
use Rattle.nut_in_time.proofs.RoomSteps.{begins-later}

-- ---- an event of a monitor that is up to date

module _ (configuration : Configuration) (i n0 t0 turn : ℕ) (pace : Pace) (Words : List (List ℕ) → Bool) where
  -- the status has such words, and it isn't old
  pub record Bears (past : List Entry) : Type 0 where
    pub says : Says Words (status i past)
    pub young : clock past ≤ polled i past + configuration.poll_freq + pace.skip + pace.delay

  module _ (past : List Entry) (event : Event) (made : is_made i event ≡ false) where
    abbrev next : List Entry
    next = entry_of configuration past event ∷ past

    pub bears-next : clock next ≤ clock past + suc pace.skip → IsPrompt pace i next → IsGiven i n0 Words (answer_of configuration past event) →
        Current configuration i n0 t0 turn pace Words past → Bears next
    bears-next steady prompt given c =
        let last = c.last in
        elim c.stage [
          | inl w ↦ elim (wait-comes configuration i past event last made w.0) [
            | inl on ↦
                let same = status-unread configuration i n0 t0 turn pace Words past event on.1 in
                let at : polled i next ≡ polled i past = ap clock same in
                let in_time : clock next ≤ last.moment + pace.delay = prompt last (waits-outstanding i next last (waits-on configuration i past event last on.0)) in
                let bound = w.1 in
                record {
                  says = subst (λ front. Says Words (status_of_answer (newest_answer front))) (sym same) c.fresh.says;
                  young = omega (arith, at, in_time, bound);
                }
            | inr came ↦
                let read = came.1 in
                let a = read.0 in
                let is : answer_of configuration past event ≡ Some a = read.1 in
                let link : a.link ≡ i = read.2 in
                let says : Says Words (status_in a.asked.query a.outcome) =
                given a is link (ap (λ (x : Asked). x.query) read.3 ∙ c.is_status) (subst (λ (x : Asked). n0 < x.event) (sym read.3) c.after) in
                let gives : gives_status i (answer_of configuration past event) ≡ true =
                ap (gives_status i) is ∙ ap (λ b. b && is_some (status_in a.asked.query a.outcome)) (eq-eqb a.link i link) ∙ ap is_some says.1 in
                let front : at_status i next ≡ next = status-read configuration i n0 t0 turn pace Words past event gives in
                let newest : newest_answer (at_status i next) ≡ Some a = ap newest_answer front ∙ entry-answer configuration past event ∙ is in
                let at : polled i next ≡ clock next = ap clock front in
                record {
                  says = subst (λ o. Says Words (status_of_answer o)) (sym newest) says;
                  young = omega (arith, at);
                }
          ]
          | inr r ↦
              let on = rest-stays configuration i past event last made r.0 in
              let same = status-unread configuration i n0 t0 turn pace Words past event on.1 in
              let at : polled i next ≡ polled i past = ap clock same in
              let early = r.1 in
              let bound = r.2 in
              record {
                says = subst (λ front. Says Words (status_of_answer (newest_answer front))) (sym same) c.fresh.says;
                young = omega (arith, at, early, bound, steady);
              }
        ]

-- ---- over a schedule

module _ (configuration : Configuration) (n0 t0 turn : ℕ) (pace : Pace) (Words : List (List ℕ) → Bool) (fine : ℕ → Bool)
    (turned : configuration.poll_freq + pace.skip ≤ turn) (soon : pace.delay ≤ turn) where
  -- a shutdown that began late began in spite of these lines
  pub record Borne (told : List Event) : Type 0 where
    pub lasts : Lasts configuration n0 t0 turn pace Words fine told
    pub began : has_begun configuration (trace configuration told) ≡ true → t0 + turn + pace.delay < clock (begun configuration (trace configuration told)) →
        Chosen configuration fine (λ i. Bears configuration i n0 t0 turn pace Words (begun configuration (trace configuration told)))

  pub borne-next : (told : List Event) (event : Event) → AllGood configuration n0 pace Words fine told → AllGood configuration n0 pace Words fine (event ∷ told) →
      clock (trace configuration (event ∷ told)) ≤ clock (trace configuration told) + suc pace.skip → Borne told → Borne (event ∷ told)
  borne-next told event before now steady p =
      let past = trace configuration told in
      let entry = entry_of configuration past event in
      record {
        lasts = lasts-next configuration n0 t0 turn pace Words fine turned soon told event before now steady p.lasts;
        began = begun-by configuration entry past
            (λ front. t0 + turn + pace.delay < clock front → Chosen configuration fine (λ i. Bears configuration i n0 t0 turn pace Words front)) p.began
            (λ was_not late i within is.
            let b = before i within is in
            let g = now i within is in
            let made = not-made configuration told event i within g.accepted.1 b.there in
            bears-next configuration i n0 t0 turn pace Words past event made steady g.prompt
            (subst (λ o. IsGiven i n0 Words o) (entry-answer configuration past event) g.given.0)
            (late-next configuration i n0 t0 turn pace Words past event turned made steady b.prompt (p.lasts.polls was_not i within is) g.prompt late));
      }

-- ---- what is no cause

no-reason : (setup : Setup) (m i : ℕ) (time calm polled : ℕ) (words : List (List ℕ)) → is_bearable words ≡ true →
    time ≤ polled + (monitor_of setup m).dead_time → IsReason (monitor_of setup m) (line_of setup m i) time calm polled words → ⊥
no-reason setup m i time calm polled words fine young reason = grind (arith, and_parts, not-true)

same-words : (o : Option (List (List ℕ))) (a b : List (List ℕ)) → o ≡ Some a → o ≡ Some b → a ≡ b
same-words o a b p q = let e : Some a ≡ Some b = sym p ∙ q in cc

says-words : (o : Option (List (List ℕ))) (words : List (List ℕ)) → Says is_bearable o → o ≡ Some words → is_bearable words ≡ true
says-words o words says is = subst (λ w. is_bearable w ≡ true) (same-words o says.0 words says.1 is) says.2

-- those of the lines whose number is less than `count`
abbrev among : ℕ → (ℕ → Bool) → ℕ → Bool
among count fine i = fine i && nat_lt i count

-- A shutdown has begun: if none of these lines were a cause, they would have supplied enough.
no-causes : (setup : Setup) → IsLawful setup.server → IsSetup setup → (schedule : List Step) (m : ℕ) (fine : ℕ → Bool) →
    (monitor_of setup m).min_supplies ≤ power_where fine (monitor_of setup m).lines →
    has_begun (monitor_of setup m) (seen_at setup m schedule) ≡ true →
    Chosen (monitor_of setup m) fine (λ i. Cause setup schedule m i (begun (monitor_of setup m) (seen_at setup m schedule)) → ⊥) → ⊥
no-causes setup law fine_setup schedule m fine enough over none =
    let config = monitor_of setup m in
    let count = length config.lines in
    let few = shutdowns-have_causes setup law fine_setup schedule m (among count fine) over
    (λ i is cause. let parts = and_parts (fine i) (nat_lt i count) is in none i (ltb-true i count parts.1) parts.0 cause) in
    let more = power-more fine (among count fine) config.lines (λ i within is. rw (is, lt-ltb i count within) refl) in
    omega (arith, enough, few, more)

module _ (setup : Setup) (law : IsLawful setup.server) (fine_setup : IsSetup setup) (schedule : List Step) where
  pub none-begins_later : NoneBeginsLater setup schedule
  none-begins_later pace m fine start b over =
      let config = monitor_of setup m in
      let past = seen_at setup m schedule in
      let n0 = length ((world setup start).monitor m) in
      let t0 = clock (seen_at setup m start) in
      let most = turn config pace in
      let turned : config.poll_freq + pace.skip ≤ most = omega arith in
      let soon : pace.delay ≤ most = omega arith in
      let sooner = earliest-sooner (is_short config) (seen_at setup m start) in
      let p : Borne config n0 t0 most pace is_bearable fine turned soon ((world setup schedule).monitor m) =
      event-by-event setup law fine_setup pace m start schedule b.front is_bearable fine b.lines b.steady
      (Borne config n0 t0 most pace is_bearable fine turned soon)
      (record { lasts = lasts-first setup law fine_setup pace m start schedule b.front is_bearable fine b.lines most; began = λ any late. absurd (omega (arith, sooner, late)) })
      (borne-next config n0 t0 most pace is_bearable fine turned soon) in
      at-most (clock (begun config past)) (seen_by config pace t0) (λ late. no-causes setup law fine_setup schedule m fine b.enough over (λ i within is cause.
      let bears = p.began over late i within is in
      no-reason setup m i (clock (begun config past)) _ (polled i (begun config past)) cause.words (says-words (status i (begun config past)) cause.words bears.says cause.status_is)
      (omega (arith, bears.young, b.patient)) cause.reason))

  pub none-begins_any_more : NoneBeginsAnyMore setup schedule
  none-begins_any_more pace m fine start middle b within late not_begun = false-if (has_begun (monitor_of setup m) (seen_at setup m schedule)) (λ over.
      let soon = none-begins_later pace m fine start b over in
      let on = begins-later setup m middle schedule within not_begun over in
      absurd (omega (arith, soon, on, late)))

  -- ---- from before the monitor is up to date

  module _ (pace : Pace) (m i : ℕ) (start : List Step) where
    abbrev seen_first : ℕ
    seen_first = seen_by (monitor_of setup m) pace (clock (seen_at setup m start))

    -- there is no status, or the last one is young enough to last until then
    abbrev Lasting : List Entry → Type 0
    Lasting past = (status i past ≡ None) ⊎ (seen_by (monitor_of setup m) pace (clock (seen_at setup m start)) ≤ polled i past + (monitor_of setup m).dead_time)

    pub record Kept (told : List Event) : Type 0 where
      pub since : clock (seen_at setup m start) ≤ clock (trace (monitor_of setup m) told)
      pub last : Lasting (trace (monitor_of setup m) told)
      pub began : has_begun (monitor_of setup m) (trace (monitor_of setup m) told) ≡ true → Lasting (begun (monitor_of setup m) (trace (monitor_of setup m) told))

    kept-next : seen_by (monitor_of setup m) pace 0 ≤ (monitor_of setup m).dead_time → (told : List Event) (event : Event) → Kept told → Kept (event ∷ told)
    kept-next patient told event k =
        let config = monitor_of setup m in
        let past = trace config told in
        let entry = entry_of config past event in
        let time = clock-entry config past event in
        let grows = clock-grows event (clock past) in
        let last : Lasting (entry ∷ past) = elim (cases_Bool (gives_status i (answer_of config past event))) [
          | inl read ↦
              let at : polled i (entry ∷ past) ≡ clock (entry ∷ past) = ap clock (status-read config i 0 0 0 pace is_bearable past event read) in
              inr (omega (arith, at, time, grows, k.since, patient))
          | inr unread ↦
              let same = status-unread config i 0 0 0 pace is_bearable past event unread in
              subst (λ front. (status_of_answer (newest_answer front) ≡ None) ⊎ (seen_first ≤ clock front + config.dead_time)) (sym same) k.last
        ] in
        record {
          since = omega (arith, time, grows, k.since);
          last = last;
          began = begun-by config entry past Lasting k.began (λ was_not. last);
        }

    kept : IsFront start schedule → seen_by (monitor_of setup m) pace 0 ≤ (monitor_of setup m).dead_time → Kept ((world setup start).monitor m) →
        Kept ((world setup schedule).monitor m)
    kept front patient first =
        each-event setup m start schedule Kept front first (kept-next patient)

  kept-first : (pace : Pace) (m i : ℕ) (start : List Step) → has_begun (monitor_of setup m) (seen_at setup m start) ≡ false → WasBorne setup pace m i start →
      Kept pace m i start ((world setup start).monitor m)
  kept-first pace m i start not_begun was = grind arith

  pub none-begins : NoneBegins setup schedule
  none-begins pace m fine start b before patient not_begun = false-if (has_begun (monitor_of setup m) (seen_at setup m schedule)) (λ over.
      let config = monitor_of setup m in
      let past = seen_at setup m schedule in
      let soon : clock (begun config past) ≤ seen_by config pace (clock (seen_at setup m start)) = none-begins_later pace m fine start b over in
      absurd (no-causes setup law fine_setup schedule m fine b.enough over (λ i within is cause.
      let was = before i within is in
      let k = kept pace m i start b.front patient (kept-first pace m i start not_begun was) in
      let early = cause.shown.early in
      let bearable : is_bearable cause.words ≡ true = elim (fronts-compare early start schedule cause.shown.between.front b.front) [
        | inl older ↦ was.shown early cause.words older cause.shown.shown
        | inr newer ↦
            let shows = (b.lines i within is).shows early cause.shown.between.front newer in
            says-words (shown_at setup early (line_of setup m i).ups) cause.words shows cause.shown.shown
      ] in
      elim (k.began over) [
        | inl none ↦ let bad : None ≡ Some cause.words = sym none ∙ cause.status_is in cc
        | inr young ↦ no-reason setup m i (clock (begun config past)) _ (polled i (begun config past)) cause.words bearable (omega (arith, young, soon)) cause.reason
      ])))
