-- What holds of each query as it is put holds of the one that waits for its answer.
use Rattle.std.proofs.Common.{◌≡◌, ◌⊎◌, ℕ, suc, ◌<◌, inl, inr, List, ◌∷◌, length, true, false, Option, Some, None, refl, sym, ◌∙◌, ap, arith}
use Rattle.std.proofs.lemmas.Bool.{cases_Bool}
use Rattle.nut_monitor_spec.specs.declared.Query.{Query}
use Rattle.nut_monitor_spec.specs.Acceptance.{IsAccepted}
use Rattle.nut_monitor_spec.specs.Configuration.{Configuration}
use Rattle.nut_monitor_spec.specs.Event.{Event, NoticeTaken}
use Rattle.nut_monitor_spec.specs.Trace.{Asked, clock, clock_after, linked, queries, answers, outstanding, number, came, query_put, notices_waiting, trace}
use Rattle.nut_monitor_spec.proofs.Lists.{number-none}
use Rattle.nut_monitor_spec.proofs.Putting.{come-alone, come-in-turn}
use Rattle.nut_fleet.specs.World.{informed}
use Rattle.nut_fleet.proofs.Entries.{entry-linked, is_made}
use Rattle.nut_in_time.proofs.Asking.{not-made, answer-cases, midway-queries, midway-answers, next-queries, next-answers}
use Rattle.nut_in_time.proofs.Climbing.{forth, back}
use Rattle.nut_in_time.proofs.Starting.{turn-counts}

-- ---- a link that is up

module _ (configuration : Configuration) (i : ℕ) where
  pub record Up (told : List Event) : Type 0 where
    pub accepted : IsAccepted configuration told
    pub there : linked i (trace configuration told) ≡ true

  pub up-older : (told : List Event) → Up (NoticeTaken ∷ told) → Up told
  up-older told u = record { accepted = u.accepted.0; there = sym (entry-linked configuration (trace configuration told) NoticeTaken i) ∙ u.there }

  -- a query that is put at the end of this event
  abbrev pub newly : List Event → Event → Query → Asked
  newly told event query = record { query = query; moment = clock_after event (clock (trace configuration told)); event = suc (length (trace configuration told)) }

  head-or : (n : ℕ) (new asked : Asked) (older : List Asked) → number n (new ∷ older) ≡ Some asked → (new ≡ asked) ⊎ (number n older ≡ Some asked)
  head-or n new asked older is = grind (arith, cases_Bool)

  -- before a query is put, the query that waits has waited before
  midway-asked : (told : List Event) (event : Event) → Up told → is_made i event ≡ false → (a : Asked) →
      outstanding i (came configuration (trace configuration told) event ∷ trace configuration told) ≡ Some a → outstanding i (trace configuration told) ≡ Some a
  midway-asked told event u made a is = grind (arith, midway-queries, midway-answers, answer-cases, turn-counts, come-in-turn, number-none)

  module _ (within : i < length configuration.lines) where
    -- An event puts no query, and the query that waits has waited before; or it puts one, and that waits.
    pub put-cases : (told : List Event) (event : Event) → Up told → Up (event ∷ told) →
        ((queries i (trace configuration (event ∷ told)) ≡ queries i (trace configuration told))
        × ((a : Asked) → outstanding i (trace configuration (event ∷ told)) ≡ Some a → outstanding i (trace configuration told) ≡ Some a))
        ⊎ ((a : Asked) → outstanding i (trace configuration (event ∷ told)) ≡ Some a → (query : Query) × (newly told event query ≡ a))
    put-cases told event u u' =
        by (not-made configuration told event i within u'.accepted.1 u.there) (query_put configuration (came configuration (trace configuration told) event ∷ trace configuration told) i) refl
      where
        by : is_made i event ≡ false → (o : Option Query) → query_put configuration (came configuration (trace configuration told) event ∷ trace configuration told) i ≡ o →
            ((queries i (trace configuration (event ∷ told)) ≡ queries i (trace configuration told))
            × ((a : Asked) → outstanding i (trace configuration (event ∷ told)) ≡ Some a → outstanding i (trace configuration told) ≡ Some a))
            ⊎ ((a : Asked) → outstanding i (trace configuration (event ∷ told)) ≡ Some a → (query : Query) × (newly told event query ≡ a))
        by made None none =
            let past = trace configuration told in
            let same = next-queries configuration i past event None none in
            let read = next-answers configuration i past event in
            inl (
              same ∙ midway-queries configuration i past event made,
              λ a is. midway-asked told event u made a
                  (sym (ap (λ x. number (length x) (queries i (came configuration past event ∷ past))) read)
                  ∙ sym (ap (number (length (answers i (trace configuration (event ∷ told))))) same) ∙ is),
            )
        by made (Some query) some =
            let past = trace configuration told in
            let midway = came configuration past event ∷ past in
            let same = next-queries configuration i past event (Some query) some in
            let read = next-answers configuration i past event in
            let free : outstanding i midway ≡ None = (come-alone configuration midway i query some).1 in
            inr (λ a is.
            let is' : number (length (answers i midway)) (newly told event query ∷ queries i midway) ≡ Some a =
            sym (ap (λ x. number (length x) (newly told event query ∷ queries i midway)) read) ∙ sym (ap (number (length (answers i (trace configuration (event ∷ told))))) same) ∙ is in
            elim (head-or (length (answers i midway)) (newly told event query) a (queries i midway) is') [
              | inl e ↦ (query, e)
              | inr older ↦ let bad : None ≡ Some a = sym free ∙ older in cc
            ])

-- ---- what holds of each query as it is put

-- `At` holds from some event on
module _ (configuration : Configuration) (i : ℕ) (within : i < length configuration.lines) (At : List Event → Type 0)
    (on : (told : List Event) (event : Event) → At told → At (event ∷ told)) (Fits : Asked → Type 0)
    (fits : (told : List Event) (event : Event) (query : Query) → At (event ∷ told) → Fits (newly configuration i told event query)) where
  pub recent-next : (told : List Event) (event : Event) → At (event ∷ told) → Up configuration i told → Up configuration i (event ∷ told) →
      ((a : Asked) → outstanding i (trace configuration told) ≡ Some a → Fits a) → (a : Asked) → outstanding i (trace configuration (event ∷ told)) ≡ Some a → Fits a
  recent-next told event now u u' r a is = grind (arith, put-cases)

  -- an event and the taking of its notices
  pub recent-informed : (told : List Event) (event : Event) → At (event ∷ told) → Up configuration i told → Up configuration i (informed configuration told event) →
      ((a : Asked) → outstanding i (trace configuration told) ≡ Some a → Fits a) →
      At (informed configuration told event) × ((a : Asked) → outstanding i (trace configuration (informed configuration told event)) ≡ Some a → Fits a)
  recent-informed told event now first last r =
      let notices = notices_waiting (trace configuration (event ∷ told)) in
      let here : Up configuration i (event ∷ told) = back (Up configuration i) (up-older configuration i) notices (event ∷ told) last in
      forth (λ t. At t × ((a : Asked) → outstanding i (trace configuration t) ≡ Some a → Fits a)) (Up configuration i) (up-older configuration i)
      (λ t p u. (on t NoticeTaken p.0, recent-next t NoticeTaken (on t NoticeTaken p.0) (up-older configuration i t u) u p.1)) notices (event ∷ told)
      (now, recent-next told event now first here r) last
