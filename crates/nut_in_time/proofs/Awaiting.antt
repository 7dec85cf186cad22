-- Once the shutdown of a primary has begun, the status query that waits is answered, and then FSD waits.
use Rattle.std.proofs.Common.{◌≡◌, ◌⊎◌, ℕ, ◌+◌, ◌<◌, ◌≤◌, inl, inr, List, ◌∷◌, length, true, false, Some, refl, sym, ◌∙◌, ap, subst, arith}
use Rattle.nut_monitor_spec.specs.declared.Query.TheVariants.{Status, Fsd}
use Rattle.nut_monitor_spec.specs.Configuration.{Configuration, line_in}
use Rattle.nut_monitor_spec.specs.Decision.{is_alone}
use Rattle.nut_monitor_spec.specs.Event.{Event}
use Rattle.nut_monitor_spec.specs.Trace.{Asked, Answer, Entry, answer_of, begun, came, clock, entry_of, forced, has_begun, has_ended, is_short, linked, logins}
use Rattle.nut_fleet.proofs.Entries.{is_made}
use Rattle.nut_in_time.specs.Pace.{Pace, IsPrompt}
use Rattle.nut_in_time.proofs.Asking.{Waits, Rests, wait-comes, waits-on, waits-outstanding, read-soon}
use Rattle.nut_in_time.proofs.Ending.{any-stays, clock-entry, earliest-now, earliest-stays, ended-begun, false-if}
use Rattle.nut_in_time.proofs.Putting.{fsd-now, fsd-put, stays-forcing}

-- `Early` holds of the status query and the past at which the shutdown began, and `Soon` of FSD and that past.
module _ (configuration : Configuration) (i n0 : ℕ) (Early Soon : Asked → List Entry → Type 0) where
  -- The shutdown has begun, and a status query that was put before that waits for its answer.
  pub record StatusWaits (past : List Entry) : Type 0 where
    pub began : has_begun configuration past ≡ true
    pub not_ended : has_ended configuration past ≡ false
    pub last : Asked
    pub is_status : last.query ≡ Status
    pub before : last.moment ≤ clock (begun configuration past)
    pub early : Early last (begun configuration past)
    pub waits : Waits i past last

  -- FSD waits for its answer.
  pub record FsdWaits (past : List Entry) : Type 0 where
    pub began : has_begun configuration past ≡ true
    pub last : Asked
    pub is_fsd : last.query ≡ Fsd
    pub after : n0 < last.event
    pub soon : Soon last (begun configuration past)
    pub waits : Waits i past last

  module _ (pace : Pace) (turns : (last asked : Asked) (front : List Entry) → last.moment ≤ clock front → Early last front → asked.moment ≤ last.moment + pace.delay → Soon asked front)
      (past : List Entry) (event : Event) (within : i < length configuration.lines) (primary : (line_in configuration.lines i).primary ≡ true)
      (long : pace.delay ≤ configuration.host_sync) (made : is_made i event ≡ false) (there : linked i (entry_of configuration past event ∷ past) ≡ true)
      (since : n0 ≤ length past) (prompt : IsPrompt pace i past) (prompt_next : IsPrompt pace i (entry_of configuration past event ∷ past))
      (not_alone : is_alone (logins i (entry_of configuration past event ∷ past)) ≡ true → ⊥)
      (not_forced : forced i (came configuration past event ∷ past) ≡ true → ⊥)
      (not_read : (a : Answer) → answer_of configuration past event ≡ Some a → a.link ≡ i → a.asked.query ≡ Fsd → n0 < a.asked.event → ⊥) where
    abbrev next : List Entry
    next = entry_of configuration past event ∷ past

    abbrev midway : List Entry
    midway = came configuration past event ∷ past

    stays-in : has_ended configuration past ≡ false → clock next ≤ clock (begun configuration next) + configuration.host_sync → has_ended configuration next ≡ false
    stays-in = stays-forcing configuration i past event within primary made there not_alone not_forced

    puts-fsd : (last : Asked) → last.query ≡ Status → Rests i midway last → has_begun configuration next ≡ true → has_ended configuration past ≡ false →
        clock next ≤ clock (begun configuration next) + configuration.host_sync → Waits i next (fsd-now past event)
    puts-fsd = fsd-put configuration i past event within primary made there not_alone not_forced

    not-over : has_begun configuration past ≡ false → has_ended configuration past ≡ false
    not-over not_begun = false-if (has_ended configuration past) (λ t. let bad : false ≡ true = sym not_begun ∙ ended-begun configuration past t in cc)

    -- The shutdown begins while a status query waits.
    pub status-first : (last : Asked) → last.query ≡ Status → last.moment ≤ clock next → Early last next → Waits i next last →
        has_begun configuration past ≡ false → has_begun configuration next ≡ true → StatusWaits next
    status-first last is_status before early w not_begun began = grind (arith, stays-in, not-over)

    -- It begins while the link rests: FSD is put at once.
    pub fsd-first : (last : Asked) → last.query ≡ Status → Rests i midway last → Soon (fsd-now past event) next →
        has_begun configuration past ≡ false → has_begun configuration next ≡ true → FsdWaits next
    fsd-first last is_status r soon not_begun began =
        let same = (earliest-now (is_short configuration) (entry_of configuration past event) past not_begun began).0 in
        let at : clock (begun configuration next) ≡ clock next = ap clock same in
        record {
          began = began;
          last = fsd-now past event;
          is_fsd = refl;
          after = omega (arith, since);
          soon = subst (Soon (fsd-now past event)) (sym same) soon;
          waits = puts-fsd last is_status r began (not-over not_begun) (omega (arith, at));
        }

    pub status-next : StatusWaits past → StatusWaits next ⊎ FsdWaits next
    status-next w =
        let same = earliest-stays (is_short configuration) (entry_of configuration past event) past w.began in
        let at : clock (begun configuration next) ≡ clock (begun configuration past) = ap clock same in
        let began = any-stays (is_short configuration) (entry_of configuration past event) past w.began in
        let before = w.before in
        elim (wait-comes configuration i past event w.last made w.waits) [
          | inl on ↦
              let w' = waits-on configuration i past event w.last on.0 in
              let in_time = prompt_next w.last (waits-outstanding i next w.last w') in
              inl (record {
                began = began;
                not_ended = stays-in w.not_ended (omega (arith, in_time, before, at, long));
                last = w.last;
                is_status = w.is_status;
                before = omega (arith, before, at);
                early = subst (Early w.last) (sym same) w.early;
                waits = w';
              })
          | inr come ↦
              let in_time = read-soon configuration i past event pace w.last prompt w.waits come.1 in
              let now = clock-entry configuration past event in
              inr (record {
                began = began;
                last = fsd-now past event;
                is_fsd = refl;
                after = omega (arith, since);
                soon = subst (Soon (fsd-now past event)) (sym same) (turns w.last (fsd-now past event) (begun configuration past) before w.early (omega (arith, in_time)));
                waits = puts-fsd w.last w.is_status come.0 began w.not_ended (omega (arith, now, in_time, before, at, long));
              })
        ]

    pub fsd-next : FsdWaits past → FsdWaits next
    fsd-next a = grind (arith, wait-comes, any-stays, waits-on)
