-- How a write to a link, and a notice that is handed over, continue what is watched.
use Rattle.std.proofs.Common.{◌≡◌, ℕ, ◌<◌, ◌≤◌, true, eqb, ltb, List, [], ◌∷◌, ◌++◌, length, slice_get, take, Option, Some, None, is_some, Result, Ok, if◌then◌else◌, refl, sym, ◌∙◌, ap, subst, inl, inr, arith}
use Rattle.std.proofs.lemmas.Bool.{cases_Bool, eqb-true, le-ltb, lt-ltb}
use Rattle.std.proofs.lemmas.List.{length-take-le}
use Rattle.nut_monitor_spec.specs.declared.MonitorFault.{MonitorFault}
use Rattle.nut_monitor_spec.specs.declared.MonitorFault.TheVariants.{WrongLinkState, TooMuchTaken}
use Rattle.nut_monitor_spec.specs.declared.Notice.{Notice}
use Rattle.nut_monitor_spec.specs.Configuration.{Configuration}
use Rattle.nut_monitor_spec.specs.Event.{Event, LinkLost, LinkTook, NoticeTaken}
use Rattle.nut_monitor_spec.specs.Trace.{trace, sent, notices}
use Rattle.nut_monitor_spec.specs.Content.{Watch, Content, content}
use Rattle.nut_monitor_spec.specs.Acceptance.{refusal, took_refusal, lost_refusal, waits_on, waiting_on, watch_at, is_busy, IsAccepted, Accepts, Tells}
use Rattle.nut_monitor_spec.specs.machine.Machine.{advance}
use Rattle.nut_monitor_spec.specs.Outcome.{IsAnswer}
use Rattle.nut_monitor_spec.specs.machine.MachineOutcome.{content_after}
use Rattle.nut_monitor_spec.proofs.Answering.{answers-keep}
use Rattle.nut_io.specs.Writes.{IsWithin}
use Rattle.nut_monitor_loop.specs.Record.{Entry, TookBytes, WasLate, WriteBroke, WasTold, waiting_of, written_by}
use Rattle.nut_io.specs.declared.types.Written.{Written}
use Rattle.nut_io.specs.declared.types.Written.TheVariants.{Took, Later, Failed}
use Rattle.nut_monitor_loop.specs.Watched.{history_of, entries_of, taken, handed, Watched}
use Rattle.nut_monitor_loop.proofs.Sent.{sent-given, sent-took, sent-took_other}
use Rattle.nut_monitor_loop.proofs.Handed.{handed-given, handed-taken}
use Rattle.nut_monitor_loop.proofs.Steps.{Grows, goes_on, sent_on, notices_on, holds_on, no_memory_took, no_memory_lost}

-- a link on which bytes wait is up
there : (w : Watch) → 0 < length (waits_on w.link) → is_some w.link ≡ true
there w some = some_there w.link some where
  some_there : (o : _) → 0 < length (waits_on o) → is_some o ≡ true
  some_there None some = absurd (omega arith)
  some_there (Some v) some = refl

took_free : (n : ℕ) (o : Option Watch) → 0 < n → n ≤ length (waiting_on o) → took_refusal n o ≡ None
took_free n None some within = absurd (omega (arith, some, within))
took_free n (Some w) some within =
    ap (λ b. if b then (if ltb (length (waits_on w.link)) n then Some TooMuchTaken else None) else Some WrongLinkState) (there w (omega (arith, some, within)))
    ∙ ap (λ b. if b then Some TooMuchTaken else None) (le-ltb (length (waits_on w.link)) n within)

pub may_take : (s : Content) (i n : ℕ) → 0 < n → n ≤ length (waiting_of i s.watches) → refusal s (LinkTook i n) ≡ None
may_take s i n some within = took_free n (watch_at i s.watches) some within

lost_free : (o : Option Watch) → 0 < length (waiting_on o) → lost_refusal o ≡ None
lost_free None some = absurd (omega (arith, some))
lost_free (Some w) some = ap (λ b. if b then None else Some WrongLinkState) (there w some)

pub may_lose : (s : Content) (i : ℕ) → 0 < length (waiting_of i s.watches) → refusal s (LinkLost i) ≡ None
may_lose s i some = lost_free (watch_at i s.watches) some

-- the first of the bytes that waited on link i were taken
more_taken : (first : Configuration) (h : List Event) (s : Content) (i j n : ℕ) (before : List ℕ) → Tells first h s → Tells first (LinkTook i n ∷ h) (advance s (LinkTook i n))
    → before ≡ sent first j (trace first h) → (if eqb i j then before ++ take n (waiting_of i s.watches) else before) ≡ sent first j (trace first (LinkTook i n ∷ h))
more_taken first h s i j n before told told' same =
    elim (cases_Bool (eqb i j)) [
      | inl e ↦
          let here : sent first i (trace first (LinkTook i n ∷ h)) ≡ sent first i (trace first h) ++ take n (waiting_of i s.watches) =
          sent-took first h i n told'.0 ∙ ap (λ (t : Content). sent first i (trace first h) ++ take n (waiting_of i t.watches)) (sym told.1) in
          let other : sent first j (trace first (LinkTook i n ∷ h)) ≡ sent first j (trace first h) ++ take n (waiting_of i s.watches) =
          subst (λ x. sent first x (trace first (LinkTook i n ∷ h)) ≡ sent first x (trace first h) ++ take n (waiting_of i s.watches)) (eqb-true i j e) here in
          ap (λ b. if b then before ++ take n (waiting_of i s.watches) else before) e ∙ ap (λ x. x ++ take n (waiting_of i s.watches)) same ∙ sym other
      | inr e ↦ ap (λ b. if b then before ++ take n (waiting_of i s.watches) else before) e ∙ same ∙ sym (sent-took_other first h j i n told'.0 e)
    ]

took_notices : (first : Configuration) (h : List Event) (s s' : Content) (i n : ℕ) (before : List Notice) → Tells first h s → Tells first (LinkTook i n ∷ h) s'
    → before ++ s.notices ≡ notices (trace first h) → before ++ s'.notices ≡ notices (trace first (LinkTook i n ∷ h))
took_notices first h s s' i n before told told' same =
    ap (λ (t : Content). before ++ t.notices) told'.1
    ∙ handed-given first h (LinkTook i n) before told'.0 (λ m. refl) (sym (ap (λ (t : Content). before ++ t.notices) told.1) ∙ same)

-- a write took some of what waits
pub write_took : (first : Configuration) (D D' : List Entry → Type 0) (s s' : Content) (i : ℕ) (part : List ℕ) (w : Written) (n : ℕ) (r : Result (Unit {0}) MonitorFault)
    → Watched first D s None → s.notices ≡ [] → w ≡ Took n → Grows D D' (written_by w i part) → IsWithin w (length part) → part ≡ waiting_of i s.watches
    → IsAnswer s (LinkTook i n) r → s' ≡ content_after r s (LinkTook i n) → Watched first D' s' None
write_took first D D' s s' i part w n r watched silent is more within all answer moved =
    let h = history_of watched.steps in
    let inside : IsWithin (Took n) (length part) = subst (λ v. IsWithin v (length part)) is within in
    let some : 0 < n = inside.0 in
    let fits : n ≤ length part = inside.1 in
    let reach : n ≤ length (waiting_of i s.watches) = omega (arith, fits, ap length all) in
    let len : length (take n part) ≡ n = length-take-le n part fits in
    let free : refusal s (LinkTook i n) ≡ None = may_take s i n some reach in
    let holds : Tells first (LinkTook i n ∷ h) s' = holds_on first h s s' (LinkTook i n) r watched.holds free (no_memory_took i n) answer moved in
    let base : Tells first (LinkTook i n ∷ h) (advance s (LinkTook i n)) = answers-keep first h s (LinkTook i n) (Ok tt) watched.holds (free, tt) in
    goes_on first D D' s s' None None (TookBytes i (take n part)) (Some (LinkTook i n)) watched (λ entries did. subst (λ v. D' (written_by v i part ∷ entries)) is (more entries did)) (
      subst (λ (t : Content). t.notices ≡ []) watched.holds.1 silent,
      subst (λ m. refusal (content first h) (LinkTook i m) ≡ None) (sym len) (subst (λ t. refusal t (LinkTook i n) ≡ None) watched.holds.1 free),
      ap (λ m. Some (LinkTook i m)) (sym len),
      refl,
    )
    holds
    (λ j. subst (λ x. (if eqb i j then taken j watched.steps ++ take n x else taken j watched.steps) ≡ sent first j (trace first (LinkTook i n ∷ h))) (sym all)
    (more_taken first h s i j n (taken j watched.steps) watched.holds base (watched.sent_is j)))
    (took_notices first h s s' i n (handed (entries_of watched.steps)) watched.holds holds watched.notices_are)

-- a write was late
pub write_late : (first : Configuration) (D D' : List Entry → Type 0) (s : Content) (i : ℕ) (part : List ℕ) (w : Written) → Watched first D s None → w ≡ Later → Grows D D' (written_by w i part) → Watched first D' s None
write_late first D D' s i part w watched is more =
    goes_on first D D' s s None None (WasLate i) None watched (λ entries did. subst (λ v. D' (written_by v i part ∷ entries)) is (more entries did)) (refl, refl) watched.holds watched.sent_is watched.notices_are

-- a write failed
pub write_broke : (first : Configuration) (D D' : List Entry → Type 0) (s s' : Content) (i : ℕ) (part : List ℕ) (w : Written) (r : Result (Unit {0}) MonitorFault)
    → Watched first D s None → s.notices ≡ [] → w ≡ Failed → Grows D D' (written_by w i part) → 0 < length (waiting_of i s.watches)
    → IsAnswer s (LinkLost i) r → s' ≡ content_after r s (LinkLost i) → Watched first D' s' (Some i)
write_broke first D D' s s' i part w r watched silent is more some answer moved =
    let h = history_of watched.steps in
    let free = may_lose s i some in
    let holds = holds_on first h s s' (LinkLost i) r watched.holds free (no_memory_lost i) answer moved in
    goes_on first D D' s s' None (Some i) (WriteBroke i) (Some (LinkLost i)) watched (λ entries did. subst (λ v. D' (written_by v i part ∷ entries)) is (more entries did))
    (subst (λ (t : Content). t.notices ≡ []) watched.holds.1 silent, subst (λ t. refusal t (LinkLost i) ≡ None) watched.holds.1 free, refl, refl, refl)
    holds
    (λ j. sent_on first h (Some (LinkLost i)) j _ holds.0 tt (watched.sent_is j))
    (notices_on first h s s' (Some (LinkLost i)) (handed (entries_of watched.steps)) watched.holds holds tt watched.notices_are)

-- ---- notices

oldest : (notices : List Notice) (notice : Notice) → slice_get notices 0 ≡ Some notice → (others : List Notice) × (notices ≡ notice ∷ others)
oldest [] notice is = cc
oldest (x ∷ others) notice is = (others, cc)

pub none_waits : (notices : List Notice) → slice_get notices 0 ≡ None → notices ≡ []
none_waits [] none = refl
none_waits (x ∷ others) none = absurd (cc)

is_waiting : (s : Content) (notice : Notice) (others : List Notice) → s.notices ≡ notice ∷ others → is_busy s ≡ true
is_waiting s notice others is = lt-ltb 0 (length s.notices) (omega (arith, ap length is))

-- the oldest notice was handed over and taken
pub told_one : (first : Configuration) (D D' : List Entry → Type 0) (s s' : Content) (notice : Notice) → Watched first D s None → Grows D D' (WasTold notice) → slice_get s.notices 0 ≡ Some notice
    → s' ≡ advance s NoticeTaken → Watched first D' s' None
told_one first D D' s s' notice watched more is moved =
    let h = history_of watched.steps in
    let some = oldest s.notices notice is in
    let accepted : Accepts s NoticeTaken = (refl, is_waiting s notice some.0 some.1) in
    let holds : Tells first (NoticeTaken ∷ h) s' = subst (λ t. Tells first (NoticeTaken ∷ h) t) (sym moved) (answers-keep first h s NoticeTaken (Ok tt) watched.holds accepted) in
    let here : (content first h).notices ≡ notice ∷ some.0 = sym (ap (λ (t : Content). t.notices) watched.holds.1) ∙ some.1 in
    let before : List Notice = handed (entries_of watched.steps) in
    goes_on first D D' s s' None None (WasTold notice) (Some NoticeTaken) watched more
    (some.0, here, refl, refl)
    holds
    (λ j. sent_still first h j _ holds.0 (watched.sent_is j))
    (ap (λ (t : Content). (before ++ notice ∷ []) ++ t.notices) holds.1
    ∙ handed-taken first h notice some.0 before holds.0 here (sym (ap (λ (t : Content). before ++ t.notices) watched.holds.1) ∙ watched.notices_are))
  where
    sent_still : (first : Configuration) (h : List Event) (j : ℕ) (before : List ℕ) → IsAccepted first (NoticeTaken ∷ h) → before ≡ sent first j (trace first h) → before ≡ sent first j (trace first (NoticeTaken ∷ h))
    sent_still first h j before accepted same = same ∙ sym (sent-given first h j NoticeTaken accepted (λ t. refl))
