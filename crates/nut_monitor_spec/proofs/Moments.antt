-- What a moment makes of the content, before the end of the event.
use Rattle.std.proofs.Common.{◌≡◌, ℕ, zero, suc, ◌+◌, ◌<◌, Bool, true, false, not, ◌&&◌, List, [], ◌∷◌, ◌++◌, length, refl, sym, ◌∙◌, ap, arith, Some, is_none, if◌then◌else◌, append-nil}
use Rattle.std.specs.List.{list_any}
use Rattle.std.proofs.lemmas.Bool.{eq-eqb, ne_eqb}
use Rattle.nut_conf.specs.declared.notice.Notice.TheVariants as kinds
use Rattle.nut_monitor_spec.specs.declared.Known.{Known}
use Rattle.nut_monitor_spec.specs.declared.Notice.{Notice}
use Rattle.nut_monitor_spec.specs.Configuration.{Line, Configuration}
use Rattle.nut_monitor_spec.specs.Event.{Moment}
use Rattle.nut_monitor_spec.specs.Decision.{shutdown_told, told, when, tells_silence}
use Rattle.nut_monitor_spec.specs.Trace.{Entry, is_any, clock, moment_of, polled, told_at, is_replace, is_silence, known, begun, has_begun, has_ended, came, silences, notices_waiting}
use Rattle.nut_monitor_spec.specs.Content.{Watch, Content, watch, for_each_line, content_of}
use Rattle.nut_monitor_spec.specs.machine.Machine.{is_silent, silent, all_silent, silences_told, silences_heard, clock_set}
use Rattle.nut_monitor_spec.proofs.Lists.{for_each-same}
use Rattle.nut_monitor_spec.proofs.Newest.{told-step}
use Rattle.nut_monitor_spec.proofs.Answered.{when-none, event-any, false-either, skip-first, skip-last}
use Rattle.nut_monitor_spec.proofs.Settled.{told_entry, unsettled}

-- ---- the notices of a moment

module _ (configuration : Configuration) (past : List Entry) (time : ℕ) where
  abbrev is_told : ℕ → Bool
  is_told i = tells_silence configuration time (polled i past) (told_at (is_silence i) past)

  no-replace : (j i : ℕ) (lines : List Line) → list_any (is_replace j) (silences configuration past time i lines) ≡ false
  no-replace j i [] = refl
  no-replace j i (line ∷ lines) =
      skip-first (is_replace j) (when (is_told i) (told kinds.Nocomm i)) (silences configuration past time (suc i) lines) (when-none (is_replace j) (is_told i) (told kinds.Nocomm i) refl)
      ∙ no-replace j (suc i) lines

  none-below : (j i : ℕ) (lines : List Line) → j < i → list_any (is_silence j) (silences configuration past time i lines) ≡ false
  none-below j i [] less = refl
  none-below j i (line ∷ lines) less =
      rw (
        skip-first (is_silence j) (when (is_told i) (told kinds.Nocomm i)) (silences configuration past time (suc i) lines) (when-none (is_silence j) (is_told i) (told kinds.Nocomm i) (ne_eqb i j (λ e. omega (arith, e, less)))),
        none-below j (suc i) lines (omega (arith, less)),
      )

  any-when : (test : Notice → Bool) (b : Bool) (notice : Notice) → test notice ≡ true → list_any test (when b notice) ≡ b
  any-when test b notice is = grind arith

  some-at : (k i : ℕ) (lines : List Line) → k < length lines → list_any (is_silence (i + k)) (silences configuration past time i lines) ≡ is_told (i + k)
  some-at k i [] less = absurd (omega (arith, less))
  some-at zero i (line ∷ lines) less =
      let e : i ≡ i + 0 = omega arith in
      rw (
        ← e,
        skip-last (is_silence i) (when (is_told i) (told kinds.Nocomm i)) (silences configuration past time (suc i) lines) (none-below i (suc i) lines (omega arith)),
        any-when (is_silence i) (is_told i) (told kinds.Nocomm i) (eq-eqb i i refl),
      )
  some-at (suc k) i (line ∷ lines) less =
      let e : i + suc k ≡ suc i + k = omega arith in
      rw (
        skip-first (is_silence (i + suc k)) (when (is_told i) (told kinds.Nocomm i)) (silences configuration past time (suc i) lines) (when-none (is_silence (i + suc k)) (is_told i) (told kinds.Nocomm i) (ne_eqb i (i + suc k) (λ is. omega (arith, is)))),
        e,
        some-at k (suc i) lines (omega (arith, less)),
      )

  told-law : (i : ℕ) (lines : List Line) (f : ℕ → Watch) → ((k : ℕ) → is_silent configuration time (f k) ≡ is_told (i + k)) →
      silences_told configuration time i (for_each_line f lines) ≡ silences configuration past time i lines
  told-law i [] f same = refl
  told-law i (line ∷ lines) f same =
      let e : i + 0 ≡ i = omega arith in
      rw (
        same 0,
        e,
        told-law (suc i) lines (λ k. f (suc k)) (λ k. let e' : i + suc k ≡ suc i + k = omega arith in same (suc k) ∙ ap is_told e'),
      )

silent-law : (configuration : Configuration) (time : ℕ) (lines : List Line) (f : ℕ → Watch) →
    all_silent configuration time (for_each_line f lines) ≡ for_each_line (λ i. silent configuration time (f i)) lines
silent-law configuration time [] f = refl
silent-law configuration time (line ∷ lines) f = ap (λ ws. silent configuration time (f 0) ∷ ws) (silent-law configuration time lines (λ i. f (suc i)))

-- ---- the content

module _ (configuration : Configuration) (past : List Entry) (t : ℕ) where
  abbrev entry : Entry
  entry = told_entry configuration past (Moment t)

  abbrev time : ℕ
  time = clock (entry ∷ past)

  abbrev ends_now : Bool
  ends_now = has_ended configuration (came configuration past (Moment t) ∷ past) && not (has_ended configuration past)

  abbrev all : List Notice
  all = silences configuration past time 0 configuration.lines

  moment-any : (test : Notice → Bool) → test shutdown_told ≡ false → list_any test entry.notices ≡ (if has_begun configuration past then false else list_any test all)
  moment-any test last = event-any test last (has_begun configuration past) ends_now [] [] all

  -- a watch after the moment, by whether the shutdown has begun
  abbrev told_then : Bool → ℕ → Watch
  told_then begun i = record (watch configuration past i) {
    known = record (known i past) { silence_told = if (if begun then false else is_told configuration past time i) then Some time else told_at (is_silence i) past };
  }

  moment-own : (i : ℕ) → i < length configuration.lines → watch configuration (entry ∷ past) i ≡ told_then (has_begun configuration past) i
  moment-own i less =
      let k : Known = known i (entry ∷ past) in
      let of = λ (known : Known). let w : Watch = record (watch configuration past i) { known = known } in w in
      rw (
        told-step (is_replace i) entry past,
        moment-any (is_replace i) refl,
        no-replace configuration past time i 0 configuration.lines,
        false-either (has_begun configuration past),
        told-step (is_silence i) entry past,
        moment-any (is_silence i) refl,
        some-told i less,
      )
    where
      some-told : (i : ℕ) → i < length configuration.lines → list_any (is_silence i) all ≡ is_told configuration past time i
      some-told i less =
          let e : 0 + i ≡ i = omega arith in
          ap (λ j. list_any (is_silence j) all) (sym e) ∙ some-at configuration past time i 0 configuration.lines less ∙ ap (is_told configuration past time) e

  -- the content after the moment, by the past in which the shutdown began
  abbrev moment_content : List Entry → Content
  moment_content front = record (unsettled configuration past (Moment t)) {
    notices = notices_waiting past ++ (if is_any front then [] else [] ++ [] ++ all);
    watches = for_each_line (told_then (is_any front)) configuration.lines;
  }

  silent-is : (i : ℕ) → told_then false i ≡ silent configuration time (watch configuration past i)
  silent-is i = grind arith

  abbrev machine_content : List Entry → Content
  machine_content front =
      let s : Content = clock_set t (content_of configuration past) in
      if is_none (moment_of front)
      then record s {
        notices = s.notices ++ silences_told configuration time 0 s.watches;
        watches = all_silent configuration time s.watches;
      }
      else s

  by-front : (front : List Entry) → moment_content front ≡ machine_content front
  by-front [] =
      let u = unsettled configuration past (Moment t) in
      let e : (i : ℕ) → 0 + i ≡ i = λ i. omega arith in
      rw (
        ← told-law configuration past time 0 configuration.lines (watch configuration past) (λ k. ap (is_told configuration past time) (sym (e k))),
        for_each-same (λ i. silent configuration time (watch configuration past i)) (told_then false) configuration.lines (λ i less. silent-is i),
        ← silent-law configuration time configuration.lines (watch configuration past),
      )
  by-front (x ∷ front) =
      ap (λ ns. let s : Content = record (unsettled configuration past (Moment t)) { notices = ns; watches = for_each_line (told_then true) configuration.lines } in s) (append-nil (notices_waiting past))

  pub moment-law : unsettled configuration past (Moment t) ≡ silences_heard (clock_set t (content_of configuration past))
  moment-law =
      rw (
        for_each-same (told_then (has_begun configuration past)) (watch configuration (entry ∷ past)) configuration.lines moment-own,
        by-front (begun configuration past),
      )
