-- What a monitor reads while a UPS is shown only with such words, if at all.
use Rattle.std.proofs.Common.{◌≡◌, ◌⊎◌, ℕ, suc, ◌<◌, ◌≤◌, ◌==◌, inl, inr, List, [], ◌∷◌, length, Bool, true, false, Option, Some, None, is_some, refl, sym, ◌∙◌, ap, subst, arith}
use Rattle.std.proofs.lemmas.Bool.{and_from, cases_Bool, eqb-false, eqb-true, lt-ltb}
use Rattle.std.proofs.lemmas.List.{append_cancel_right}
use Rattle.nut_monitor_spec.specs.declared.Query.{Query}
use Rattle.nut_monitor_spec.specs.Configuration.{Configuration}
use Rattle.nut_monitor_spec.specs.Event.{Event, NoticeTaken}
use Rattle.nut_monitor_spec.specs.Query.{status_in}
use Rattle.nut_monitor_spec.specs.Trace.{Answer, Asked, Entry, answer_of, answered_in, answers, asked_in, at_status, came, clock_after, clock, entry_of, gives_status, newest_answer, number, outstanding, queries, query_put, since_linked, status, status_of_answer, trace}
use Rattle.nut_monitor_spec.proofs.Lists.{number-none}
use Rattle.nut_fleet.specs.Fleet.{IsSetup, asked_at}
use Rattle.nut_fleet.specs.Schedule.{Step, IsFront}
use Rattle.nut_fleet.specs.World.{Setup, has_link, monitor_of, world}
use Rattle.nut_fleet.proofs.Entries.{entry-answer, entry-answers, entry-queries, is_made, length-trace, since-none}
use Rattle.nut_fleet.proofs.Fronts.{fronts-compare}
use Rattle.nut_fleet.proofs.Sound.{IsLawful}
use Rattle.nut_fleet.proofs.Statuses.{gives-some, status-was_shown}
use Rattle.nut_fleet.proofs.Worlds.{sound}
use Rattle.nut_in_time.specs.CutOff.{HearsOnly, OnlyShownIsHeard, ShowsOnly}
use Rattle.nut_in_time.specs.Pace.{IsWatched, Pace, Says, seen_at}
use Rattle.nut_in_time.proofs.Asking.{answer-is}
use Rattle.nut_in_time.proofs.Climbing.{always-at, each-event, front-of}
use Rattle.nut_in_time.proofs.CutOff.{same-unread}
use Rattle.nut_in_time.proofs.Ending.{at-most}
use Rattle.nut_in_time.proofs.Polling.{status-read}
use Rattle.nut_in_time.proofs.Rooms.{has-monitor}
use Rattle.nut_in_time.proofs.Showing.{monitor-grows}

-- ---- the queries that have no answer yet

module _ (n0 : ℕ) where
  -- each of them was put after event n0
  abbrev AreLate : List Asked → ℕ → Type 0
  AreLate asked read = (k : ℕ) (a : Asked) → number k asked ≡ Some a → read ≤ k → n0 < a.event

  late-fewer : (asked : List Asked) (read more : ℕ) → read ≤ more → AreLate asked read → AreLate asked more
  late-fewer asked read more le all k a is from = all k a is (omega (arith, le, from))

  late-put : (moment event : ℕ) (put : Option Query) (asked : List Asked) (read : ℕ) → n0 < event → AreLate asked read → AreLate (asked_in moment event put asked) read
  late-put moment event None asked read after all k a is from = all k a is from
  late-put moment event (Some query) asked read after all k a is from = elim (cases_Bool (length asked == k)) [
    | inl e ↦
        let here : (let x : Asked = record { query = query; moment = moment; event = event } in Some x) ≡ Some a = rw e at is in
        let same : (let x : Asked = record { query = query; moment = moment; event = event } in x) ≡ a = cc in
        let number = ap (λ (x : Asked). x.event) same in
        omega (arith, after, number)
    | inr e ↦ all k a (rw e at is) from
  ]

-- only the oldest of them may be there
late-one : (n0 read : ℕ) (asked : List Asked) → length asked ≤ suc read → ((a : Asked) → number read asked ≡ Some a → n0 < a.event) →
    (k : ℕ) (a : Asked) → number k asked ≡ Some a → read ≤ k → n0 < a.event
late-one n0 read asked few oldest k a is from = elim (cases_Bool (k == read)) [
  | inl e ↦ let same : k ≡ read = eqb-true k read e in oldest a (ap (λ n. number n asked) (sym same) ∙ is)
  | inr f ↦
      let ne = eqb-false k read f in
      let bad : None ≡ Some a = sym (number-none k asked (later k read (length asked) from ne few)) ∙ is in cc
]
  where
    later : (k read n : ℕ) → read ≤ k → (k ≡ read → ⊥) → n ≤ suc read → n ≤ k
    later k read n from ne few = at-most n k (λ less. ne (omega (arith, from, few, less)))

answered-more : (i : ℕ) (o : Option Answer) (older : List Answer) → length older ≤ length (answered_in i o older)
answered-more i None older = omega arith
answered-more i (Some a) older = elim (cases_Bool (a.link == i)) [ inl e ↦ rw e (omega arith) | inr e ↦ rw e (omega arith) ]

since-made : {A : Type 0} (start : A) (i : ℕ) (event : Event) (before : A) → is_made i event ≡ true → since_linked start i event before ≡ start
since-made start i event before is = grind arith

-- a monitor without a status has asked for none that was answered
no-status : (i : ℕ) (past : List Entry) → status i past ≡ None → asked_at (newest_answer (at_status i past)) ≤ 0
no-status i [] none = omega arith
no-status i (entry ∷ past) none = elim (cases_Bool (gives_status i entry.answer)) [
  | inr unread ↦ rw unread (no-status i past (rw unread at none))
  | inl read ↦
      let some = gives-some (λ query outcome. is_some (status_in query outcome)) i entry.answer read in
      let none' : status_of_answer entry.answer ≡ None = rw read at none in
      let bad : true ≡ false = sym some.3 ∙ ap is_some (sym (ap status_of_answer some.1) ∙ none') in cc
]

-- ---- event by event

module _ (configuration : Configuration) (i n0 : ℕ) (first : List Entry) where
  -- Each query without an answer was put after event n0, and so was that which the last status answers, unless it is the first one's.
  record Late (told : List Event) : Type 0 where
    pub long : n0 ≤ length (trace configuration told)
    pub open_late : AreLate n0 (queries i (trace configuration told)) (length (answers i (trace configuration told)))
    pub read : (at_status i (trace configuration told) ≡ at_status i first) ⊎ (n0 < asked_at (newest_answer (at_status i (trace configuration told))))

  late-next : (told : List Event) (event : Event) → Late told → Late (event ∷ told)
  late-next told event l =
      let past = trace configuration told in
      let next = entry_of configuration past event ∷ past in
      let answer = answer_of configuration past event in
      let long = l.long in
      let put = query_put configuration (came configuration past event ∷ past) i in
      let base : AreLate n0 (since_linked [] i event (queries i past)) (length (since_linked [] i event (answers i past))) =
      elim (cases_Bool (is_made i event)) [
        | inl made ↦ subst (λ qs. AreLate n0 qs (length (since_linked [] i event (answers i past)))) (sym (since-made [] i event (queries i past) made)) (λ k a none from. cc)
        | inr not_made ↦
            subst (λ qs. AreLate n0 qs (length (since_linked [] i event (answers i past)))) (sym (since-none [] i event (queries i past) not_made))
            (subst (λ read. AreLate n0 (queries i past) (length read)) (sym (since-none [] i event (answers i past) not_made)) l.open_late)
      ] in
      let some : AreLate n0 (asked_in (clock_after event (clock past)) (suc (length past)) put (since_linked [] i event (queries i past))) (length (answered_in i answer (since_linked [] i event (answers i past)))) =
      late-put n0 (clock_after event (clock past)) (suc (length past)) put (since_linked [] i event (queries i past)) (length (answered_in i answer (since_linked [] i event (answers i past))))
      (omega (arith, long))
      (late-fewer n0 (since_linked [] i event (queries i past)) (length (since_linked [] i event (answers i past))) (length (answered_in i answer (since_linked [] i event (answers i past))))
      (answered-more i answer (since_linked [] i event (answers i past))) base) in
      record {
        long = omega (arith, long);
        open_late = subst (λ qs. AreLate n0 qs (length (answers i next))) (sym (entry-queries configuration past event i))
            (subst (λ read. AreLate n0 (asked_in (clock_after event (clock past)) (suc (length past)) put (since_linked [] i event (queries i past))) (length read)) (sym (entry-answers configuration past event i)) some);
        read = elim (cases_Bool (gives_status i answer)) [
          | inr unread ↦
              let same = same-unread configuration i past event unread in
              elim l.read [
                | inl old ↦ inl (same ∙ old)
                | inr late ↦ inr (subst (λ p. n0 < asked_at (newest_answer p)) (sym same) late)
              ]
          | inl read ↦
              let front : at_status i next ≡ next = status-read configuration i 0 0 0 (record { delay = 0; skip = 0 }) (λ words. true) past event read in
              let a = gives-some (λ query outcome. is_some (status_in query outcome)) i answer read in
              let newest : newest_answer (at_status i next) ≡ Some a.0 = ap newest_answer front ∙ entry-answer configuration past event ∙ a.1 in
              let asked : outstanding i past ≡ Some a.0.asked = ap (λ j. outstanding j past) (sym a.2) ∙ (answer-is configuration past event a.0 a.1).0 in
              inr (subst (λ o. n0 < asked_at o) (sym newest) (l.open_late (length (answers i past)) a.0.asked asked (omega arith)))
        ];
      }

-- ---- over a schedule

there : (setup : Setup) (m i : ℕ) → i < length (monitor_of setup m).lines → has_link setup m i ≡ true
there setup m i less = grind (arith, and_from, lt-ltb, has-monitor)

pub only-shown_heard : (setup : Setup) → IsLawful setup.server → IsSetup setup → (schedule : List Step) → OnlyShownIsHeard setup schedule
only-shown_heard setup law fine schedule m i Words start middle newest less front within shows none is =
    let config = monitor_of setup m in
    let first = (world setup middle).monitor m in
    let all = always-at setup m middle schedule Heard (λ told. Heard (trace config told)) within before now (λ told h. h) in
    subst (λ n. HearsOnly config Words first n i) (append_cancel_right all.0 newest first (sym all.1 ∙ is)) all.2
  where
    Heard : List Entry → Type 0
    Heard past = (at_status i past ≡ at_status i (seen_at setup m middle)) ⊎ Says Words (status i past)

    before : (told : List Event) → Heard (trace (monitor_of setup m) (NoticeTaken ∷ told)) → Heard (trace (monitor_of setup m) told)
    before told heard =
        let same = same-unread (monitor_of setup m) i (trace (monitor_of setup m) told) NoticeTaken refl in
        elim heard [
          | inl old ↦ inl (sym same ∙ old)
          | inr says ↦ inr (subst (λ p. Says Words (status_of_answer (newest_answer p))) same says)
        ]

    by : (early : List Step) → IsFront early schedule → IsFront middle early → (o : Option (List (List ℕ))) → status i (seen_at setup m early) ≡ o →
        length (seen_at setup m start) < asked_at (newest_answer (at_status i (seen_at setup m early))) → Says Words (status i (seen_at setup m early))
    by early inside since None is after = let zero = no-status i (seen_at setup m early) is in absurd (omega (arith, after, zero))
    by early inside since (Some words) is after =
        let w = status-was_shown setup early law m i (seen_at setup m early) words (((sound setup law fine early).monitors m).genuine) is in
        let asked = w.between.asked in
        let count = length-trace (monitor_of setup m) ((world setup start).monitor m) in
        let from : IsFront start w.early = elim (fronts-compare start w.early early (front-of start middle early front since) w.between.front) [
          | inl after ↦ after
          | inr before ↦ let few = monitor-grows setup m w.early start before in absurd (omega (arith, few, count, asked, after))
        ] in
        (words, is, shows w.early (front-of w.early early schedule w.between.front inside) from words w.shown)

    now : (early : List Step) → IsFront early schedule → IsFront middle early → Heard (seen_at setup m early)
    now early inside since =
        let config = monitor_of setup m in
        let first = seen_at setup m middle in
        let n0 = length (seen_at setup m start) in
        let few = monitor-grows setup m start middle front in
        let a = length-trace config ((world setup start).monitor m) in
        let b = length-trace config ((world setup middle).monitor m) in
        let link = (((sound setup law fine middle).monitors m).links i (there setup m i less)).link in
        let late : Late config i n0 first ((world setup early).monitor m) =
        each-event setup m middle early (Late config i n0 first) since
        (record {
          long = omega (arith, few, a, b);
          open_late = late-one n0 (length (answers i first)) (queries i first) link.one none;
          read = inl refl;
        })
        (late-next config i n0 first) in
        elim late.read [
          | inl old ↦ inl old
          | inr after ↦ inr (by early inside since (status i (seen_at setup m early)) refl after)
        ]

-- a UPS that is always shown with such words isn't shown with others
pub only-shown : (setup : Setup) (pace : Pace) (m i : ℕ) (Words : List (List ℕ) → Bool) (start schedule : List Step) → IsWatched setup pace m i Words start schedule →
    ShowsOnly Words setup m start schedule i
only-shown setup pace m i Words start schedule watched early inside since words shown =
    let says = watched.shows early inside since in
    let same : Some says.0 ≡ Some words = sym says.1 ∙ shown in
    let same' : says.0 ≡ words = cc in
    subst (λ w. Words w ≡ true) same' says.2
