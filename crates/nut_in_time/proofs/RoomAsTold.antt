-- A primary forces the shutdown of UPSes that may be at several servers, and the machines that need them stop before it.
use Rattle.std.proofs.Common.{◌≡◌, ℕ, suc, ◌+◌, ◌<◌, ◌≤◌, ◌||◌, inl, inr, List, [], ◌∷◌, ◌++◌, length, Bool, true, false, Option, Some, is_some, refl, sym, ◌∙◌, ap, subst, arith, ◌⊎◌}
use Rattle.std.specs.List.{AllByRecursion}
use Rattle.std.proofs.lemmas.Bool.{cases_Bool, eq-eqb}
use Rattle.nut_monitor_spec.specs.declared.Query.{Query}
use Rattle.nut_monitor_spec.specs.declared.Query.TheVariants.{NumLogins}
use Rattle.nut_monitor_spec.specs.Acceptance.{IsAccepted}
use Rattle.nut_monitor_spec.specs.Configuration.{Configuration, has_primary, line_in}
use Rattle.nut_monitor_spec.specs.Decision.{is_alone}
use Rattle.nut_monitor_spec.specs.Event.{Event}
use Rattle.nut_monitor_spec.specs.Query.{is_forced, logins_in}
use Rattle.nut_monitor_spec.specs.Trace.{Answer, Asked, Entry, alone, answers, asked_in, begun, came, clock, clock_after, ended, entry_of, forced, gives, has_begun, has_ended, linked, logins, outstanding, phase, queries, query_put, since_linked, trace}
use Rattle.nut_monitor_spec.proofs.Putting.{follow-fsd}
use Rattle.nut_fleet.proofs.Entries.{entry-answer, entry-queries, length-trace}
use Rattle.nut_fleet.proofs.Shutdowns.{any-empty, earliest-passes, or-right}
use Rattle.nut_fleet.proofs.Turns.{all-at, all-map}
use Rattle.nut_fleet.proofs.Primaries.{over-cases, count-query}
use Rattle.nut_fleet.proofs.Statuses.{gives-some}
use Rattle.nut_in_time.specs.AnyServers.{Always}
use Rattle.nut_in_time.specs.Pace.{Pace, IsPolled, IsPrompt}
use Rattle.nut_in_time.specs.RoomAsTold.{EachTaken, HostsyncSufficesAsTold, PrimariesForceAsTold}
use Rattle.nut_in_time.proofs.AnyServers.{always-now, begun-on, machines-stop}
use Rattle.nut_in_time.proofs.Asking.{answer-is, not-made, waits-outstanding}
use Rattle.nut_in_time.proofs.Ending.{earliest-sooner, false-if}
use Rattle.nut_in_time.proofs.Leading.{Led, led-next, opened-first}
use Rattle.nut_in_time.proofs.RoomSteps.{begun-ending, is-halted}
use Rattle.nut_in_time.proofs.Starting.{since-all}

-- ---- a count is asked for only once FSD was accepted

forced-now : (i : ℕ) (entry : Entry) (past : List Entry) → forced i (entry ∷ past) ≡ (gives is_forced i entry.answer || forced i past)
forced-now i entry past = elim (cases_Bool (gives is_forced i entry.answer)) [ inl t ↦ rw t refl | inr f ↦ rw f refl ]

forced-on : (i : ℕ) (entry : Entry) (past : List Entry) → forced i past ≡ true → forced i (entry ∷ past) ≡ true
forced-on i entry past is = forced-now i entry past ∙ ap (λ b. gives is_forced i entry.answer || b) is ∙ or-right (gives is_forced i entry.answer)

-- the answer of an event counts as soon as it came
forced-came : (configuration : Configuration) (past : List Entry) (event : Event) (i : ℕ) →
    forced i (came configuration past event ∷ past) ≡ forced i (entry_of configuration past event ∷ past)
forced-came configuration past event i = grind (arith, forced-now, entry-answer)

module _ (configuration : Configuration) (i : ℕ) where
  abbrev Counted : List Entry → Asked → Type 0
  Counted past a = a.query ≡ NumLogins → forced i past ≡ true

  put-counted : (moment n : ℕ) (put : Option Query) (past : List Entry) (asked : List Asked) → (put ≡ Some NumLogins → forced i past ≡ true) →
      AllByRecursion (Counted past) asked → AllByRecursion (Counted past) (asked_in moment n put asked)
  put-counted moment n put past asked new all = grind arith

  all-counted : (told : List Event) → AllByRecursion (Counted (trace configuration told)) (queries i (trace configuration told))
  all-counted [] = tt
  all-counted (event ∷ told) =
      let past = trace configuration told in
      let next = entry_of configuration past event ∷ past in
      subst (AllByRecursion (Counted next)) (sym (entry-queries configuration past event i))
      (put-counted (clock_after event (clock past)) (suc (length past)) (query_put configuration (came configuration past event ∷ past) i) next
      (since_linked [] i event (queries i past))
      (λ e. sym (forced-came configuration past event i) ∙ (follow-fsd configuration (came configuration past event ∷ past) i e).0)
      (since-all i event (queries i past) (AllByRecursion (Counted next)) tt
      (all-map (Counted past) (Counted next) (λ a f e. forced-on i (entry_of configuration past event) past (f e)) (queries i past) (all-counted told))))

  -- so a number of logins is known only then
  pub alone-forced : (told : List Event) → is_alone (logins i (trace configuration told)) ≡ true → forced i (trace configuration told) ≡ true
  alone-forced [] is = cc
  alone-forced (event ∷ told) is =
      let past = trace configuration told in
      let entry = entry_of configuration past event in
      forced-on i entry past (elim (cases_Bool (gives (λ query outcome. is_some (logins_in query outcome)) i entry.answer)) [
        | inl t ↦
            let some = gives-some (λ query outcome. is_some (logins_in query outcome)) i entry.answer t in
            let a = some.0 in
            let was = (answer-is configuration past event a (sym (entry-answer configuration past event) ∙ some.1)).0 in
            let was_i : outstanding i past ≡ Some a.asked = subst (λ j. outstanding j past ≡ Some a.asked) some.2 was in
            all-at (Counted past) (length (answers i past)) (queries i past) a.asked (all-counted told) was_i (count-query a.asked.query a.outcome some.3)
        | inr f ↦ alone-forced told (rw f at is)
      ])

-- ---- FSD is accepted in time

module _ (configuration : Configuration) (pace : Pace) (first : List Event) (i : ℕ) (within : i < length configuration.lines)
    (primary : (line_in configuration.lines i).primary ≡ true) (long : pace.delay ≤ configuration.host_sync)
    (not_begun : has_begun configuration (trace configuration first) ≡ false) (polled : IsPolled i (trace configuration first)) where
  abbrev Kept : List Event → Type 0
  Kept newest = Always configuration (λ past. (linked i past ≡ true) × IsPrompt pace i past) first newest

  abbrev Leads : List Event → Type 0
  Leads told = Led configuration i (length first) pace (trace configuration told) × (length first ≤ length told)

  leads-first : IsAccepted configuration first → linked i (trace configuration first) ≡ true → Leads first
  leads-first accepted there = (inl (not_begun, opened-first configuration i (length first) pace first accepted there not_begun polled), omega arith)

  leads : (newest : List Event) → IsAccepted configuration (newest ++ first) → Kept newest → EachTaken i (length first) (trace configuration (newest ++ first)) →
      forced i (trace configuration (newest ++ first)) ≡ false → Leads (newest ++ first)
  leads [] accepted keeps taken none = leads-first accepted keeps.0
  leads (event ∷ newest) accepted keeps taken none =
      let told = newest ++ first in
      let past = trace configuration told in
      let entry = entry_of configuration past event in
      let was = always-now configuration (λ past. (linked i past ≡ true) × IsPrompt pace i past) first newest keeps.1 in
      let before = leads newest accepted.0 keeps.1 taken.1 (unforced past entry none) in
      let long_enough = before.1 in
      let count = length-trace configuration told in (
        led-next configuration i (length first) pace past event within primary long (not-made configuration told event i within accepted.1 was.0) keeps.0.0
            (omega (arith, long_enough, count)) was.1 keeps.0.1
            (λ is. let bad : false ≡ true = sym none ∙ alone-forced configuration i (event ∷ told) is in cc)
            (λ is. let bad : false ≡ true = sym none ∙ sym (forced-came configuration past event i) ∙ is in cc)
            (λ a answer link query late.
            let read : entry.answer ≡ Some a = entry-answer configuration past event ∙ answer in
            let ok = taken.0 a read link query late in
            let bad : false ≡ true = sym none ∙ by-answer past entry a read link ok in cc)
            before.0,
        omega (arith, long_enough),
      )
    where
      unforced : (past : List Entry) (entry : Entry) → forced i (entry ∷ past) ≡ false → forced i past ≡ false
      unforced past entry none = false-if (forced i past) (λ t. let bad : false ≡ true = sym none ∙ forced-on i entry past t in cc)

      by-answer : (past : List Entry) (entry : Entry) (a : Answer) → entry.answer ≡ Some a → a.link ≡ i → is_forced a.asked.query a.outcome ≡ true →
          forced i (entry ∷ past) ≡ true
      by-answer past entry a read link ok =
          let given : gives is_forced i (Some a) ≡ true = rw (eq-eqb a.link i link, ok) refl in
          forced-now i entry past ∙ ap (λ b. b || forced i past) (ap (gives is_forced i) read ∙ given)

  -- how long after the shutdown began it may be
  pub behind : (newest : List Event) → IsAccepted configuration (newest ++ first) → Kept newest → EachTaken i (length first) (trace configuration (newest ++ first)) →
      forced i (trace configuration (newest ++ first)) ≡ false → (has_begun configuration (trace configuration (newest ++ first)) ≡ false)
      ⊎ (clock (trace configuration (newest ++ first)) ≤ clock (begun configuration (trace configuration (newest ++ first))) + pace.delay + pace.delay)
  behind newest accepted keeps taken none =
      let past = trace configuration (newest ++ first) in
      let prompt = (always-now configuration (λ past. (linked i past ≡ true) × IsPrompt pace i past) first newest keeps).1 in
      elim (leads newest accepted keeps taken none).0 [
        | inl before ↦ inl before.0
        | inr (inl w) ↦
            let in_time = prompt w.last (waits-outstanding i past w.last w.waits) in
            inr (omega (arith, in_time, w.before))
        | inr (inr a) ↦
            let in_time = prompt a.last (waits-outstanding i past a.last a.waits) in
            let soon : a.last.moment ≤ clock (begun configuration past) + pace.delay = a.soon in
            inr (omega (arith, in_time, soon))
      ]

pub primaries-force : (configuration : Configuration) (pace : Pace) → PrimariesForceAsTold configuration pace
primaries-force configuration pace first newest i is long within primary began late = grind (arith, behind)

-- ---- HOSTSYNC suffices

-- a primary that isn't alone has waited for HOSTSYNC
waited : (primary : Configuration) (past : List Entry) → has_ended primary past ≡ true → alone primary (ended primary past) ≡ false →
    clock (begun primary past) + primary.host_sync < clock past
waited primary past over counts = grind (arith, earliest-passes, any-empty, begun-ending, earliest-sooner, over-cases)

pub hostsync-suffices_told : (primary configuration : Configuration) (pace : Pace) (low : ℕ → Bool) → HostsyncSufficesAsTold primary configuration pace low
hostsync-suffices_told primary configuration pace low first_p newest_p first newest later before drift told even until began since apart enough over counts =
    let long = waited primary (trace primary (newest_p ++ first_p)) over counts in
    let same = ap clock (begun-on primary first_p newest_p began) in
    let stops = (machines-stop configuration pace low).forced first newest later told (λ i less is. tt) in
    elim (cases_Bool (has_begun configuration (trace configuration (newest ++ first)))) [
      | inl t ↦
          is-halted (phase configuration (trace configuration (later ++ (newest ++ first)))) (has_primary configuration.lines)
          (stops.1 t even (omega (arith, long, same, since, apart, enough)))
      | inr f ↦
          let now : clock (trace configuration (later ++ (newest ++ first))) ≡ clock (trace configuration (newest ++ first)) =
          ap (λ l. clock (trace configuration (l ++ (newest ++ first)))) (until f) in
          let bad : false ≡ true = sym f ∙ stops.0.begins (omega (arith, long, same, since, apart, enough, now)) in cc
    ]
