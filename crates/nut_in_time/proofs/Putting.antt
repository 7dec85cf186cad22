-- A primary in Forcing puts FSD on a link that rests.
use Rattle.std.proofs.Common.{◌≡◌, ℕ, suc, ◌+◌, ◌<◌, ◌≤◌, ◌&&◌, inl, inr, List, ◌∷◌, length, Bool, true, false, Option, Some, is_none, refl, sym, ◌∙◌, ap, arith}
use Rattle.std.proofs.lemmas.Bool.{cases_Bool}
use Rattle.nut_monitor_spec.specs.declared.LastQuery.{LastQuery}
use Rattle.nut_monitor_spec.specs.declared.Phase.{Phase}
use Rattle.nut_monitor_spec.specs.declared.Phase.TheVariants.{Forcing}
use Rattle.nut_monitor_spec.specs.declared.Query.TheVariants.{Status, Fsd}
use Rattle.nut_monitor_spec.specs.Configuration.{Configuration, Line, line_in}
use Rattle.nut_monitor_spec.specs.Decision.{is_alone, next_query}
use Rattle.nut_monitor_spec.specs.Event.{Event}
use Rattle.nut_monitor_spec.specs.Trace.{Asked, Entry, clock, clock_after, linked, may_ask, last_in, last_query, forced, logins, phase, begun, has_begun, has_ended, came, query_put, entry_of}
use Rattle.nut_fleet.proofs.Entries.{entry-linked, is_made}
use Rattle.nut_fleet.proofs.Shutdowns.{empty-any}
use Rattle.nut_fleet.proofs.Primaries.{each_primary-at, over-cases}
use Rattle.nut_in_time.proofs.Asking.{Waits, Rests, rests-none, phase-came, next-queries, next-answers}

-- ---- in Forcing

-- the FSD that is put at the end of an event
abbrev pub fsd-now : List Entry → Event → Asked
fsd-now past event = record { query = Fsd; moment = clock_after event (clock past); event = suc (length past) }

module _ (configuration : Configuration) (i : ℕ) (past : List Entry) (event : Event) (within : i < length configuration.lines) (primary : (line_in configuration.lines i).primary ≡ true)
    (made : is_made i event ≡ false) (there : linked i (entry_of configuration past event ∷ past) ≡ true)
    (not_alone : is_alone (logins i (entry_of configuration past event ∷ past)) ≡ true → ⊥)
    (not_forced : forced i (came configuration past event ∷ past) ≡ true → ⊥) where
  abbrev next : List Entry
  next = entry_of configuration past event ∷ past

  abbrev midway : List Entry
  midway = came configuration past event ∷ past

  -- it doesn't leave Forcing yet
  pub stays-forcing : has_ended configuration past ≡ false → clock next ≤ clock (begun configuration next) + configuration.host_sync → has_ended configuration next ≡ false
  stays-forcing not_ended soon = grind (arith, over-cases, each_primary-at)

  is-forcing : has_begun configuration next ≡ true → has_ended configuration next ≡ false → phase configuration next ≡ Forcing
  is-forcing began not_ended = grind (arith, empty-any)

  put-forcing : (line : Line) (now : ℕ) (phase : Phase) (may : Bool) (last : Option LastQuery) (done : Bool) (moment : ℕ) → phase ≡ Forcing → may ≡ true →
      line.primary ≡ true → done ≡ false → last ≡ Some (record { query = Status; moment = moment }) → next_query configuration line now phase may last done ≡ Some Fsd
  put-forcing line now phase may last done moment e1 e2 e3 e4 e5 = rw (e1, e2, e3, e4, e5) refl

  -- FSD is put on a link that rests
  fsd-next : (last : Asked) → last.query ≡ Status → Rests i midway last → phase configuration next ≡ Forcing → Waits i next (fsd-now past event)
  fsd-next last is_status r phase_is =
      let up : linked i midway ≡ true = sym (entry-linked configuration past event i) ∙ there in
      let may : may_ask i midway ≡ true = ap (λ o. linked i midway && is_none o) (rests-none i midway last r) ∙ ap (λ b. b && true) up in
      let was : last_query i midway ≡ Some (record { query = Status; moment = last.moment }) =
      ap last_in r.queries_are ∙ ap (λ q. Some (let x : LastQuery = record { query = q; moment = last.moment } in x)) is_status in
      let undone : forced i midway ≡ false = elim (cases_Bool (forced i midway)) [ inl t ↦ absurd (not_forced t) | inr f ↦ f ] in
      let put : query_put configuration midway i ≡ Some Fsd =
      put-forcing (line_in configuration.lines i) (clock midway) (phase configuration midway) (may_ask i midway) (last_query i midway) (forced i midway) last.moment
      (sym (phase-came configuration past event) ∙ phase_is) may primary undone was in
      record {
        older = last ∷ r.older;
        queries_are = next-queries configuration i past event (Some Fsd) put ∙ ap (λ q. fsd-now past event ∷ q) r.queries_are;
        count = r.count ∙ sym (ap length (next-answers configuration i past event));
      }

  pub fsd-put : (last : Asked) → last.query ≡ Status → Rests i midway last → has_begun configuration next ≡ true → has_ended configuration past ≡ false →
      clock next ≤ clock (begun configuration next) + configuration.host_sync → Waits i next (fsd-now past event)
  fsd-put last is_status r began not_ended soon = fsd-next last is_status r (is-forcing began (stays-forcing not_ended soon))
