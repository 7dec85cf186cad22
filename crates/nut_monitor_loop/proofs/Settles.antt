-- What a write changes: only what waits on its link.
use Rattle.std.proofs.Common.{◌≡◌, ◌≢◌, ◌⊎◌, ℕ, zero, suc, ◌+◌, ◌<◌, ◌≤◌, Bool, true, false, List, [], ◌∷◌, length, drop, Option, Some, None, is_some, Result, if◌then◌else◌, refl, sym, ◌∙◌, ap, subst, inl, inr, arith, length-drop, le-leb}
use Rattle.std.specs.Prelude.{option_map, nat_le}
use Rattle.nut_link.specs.Exchange.{Exchange, Stage}
use Rattle.nut_link.specs.Exchange as stages
use Rattle.nut_link.specs.Link.{LinkValue, waits, waits_in, stage_taken, take_fault, or_else}
use Rattle.nut_link.specs.declared.fault.LinkFault.TheVariants.{TooMuchTaken}
use Rattle.nut_monitor_spec.specs.declared.MonitorFault.{MonitorFault}
use Rattle.nut_monitor_spec.specs.Configuration.{Configuration}
use Rattle.nut_monitor_spec.specs.Event.{Event, LinkTook}
use Rattle.nut_monitor_spec.specs.Trace.{linked, trace}
use Rattle.nut_monitor_spec.specs.Content.{Watch, Content, content, watch, link_at}
use Rattle.nut_monitor_spec.specs.Acceptance.{waits_on, waiting_on, watch_at}
use Rattle.nut_monitor_spec.specs.machine.Machine.{advance, update, took, link_took}
use Rattle.nut_monitor_spec.specs.Outcome.{IsAnswer}
use Rattle.nut_monitor_spec.specs.machine.MachineOutcome.{content_after}
use Rattle.nut_io.specs.declared.types.Written.{Written}
use Rattle.nut_io.specs.declared.types.Written.TheVariants.{Took}
use Rattle.nut_io.specs.Writes.{IsWithin}
use Rattle.nut_monitor_loop.specs.Record.{Entry, IsSettled, waiting_of}
use Rattle.nut_monitor_loop.specs.Watched.{history_of, Watched}
use Rattle.nut_monitor_loop.specs.inside.Kept.{OnlyAt, StaysLate}
use Rattle.nut_monitor_loop.proofs.Sent.{found}
use Rattle.nut_monitor_loop.proofs.Steps.{moved_on, no_memory_took}
use Rattle.nut_monitor_loop.proofs.Writes.{may_take}
use Rattle.nut_monitor_spec.proofs.Waiting.{length-update}

-- ---- a change of one watch

update_here : (i : ℕ) (change : Watch → Watch) (ws : List Watch) → watch_at i (update i change ws) ≡ option_map change (watch_at i ws)
update_here (suc i) change (w ∷ ws) = update_here i change ws
update_here zero change (w ∷ ws) = refl
update_here _ change [] = refl

update_other : (i j : ℕ) (change : Watch → Watch) (ws : List Watch) → j ≢ i → watch_at j (update i change ws) ≡ watch_at j ws
update_other i j change [] other = refl
update_other zero zero change (w ∷ ws) other = absurd (other refl)
update_other zero (suc j) change (w ∷ ws) other = refl
update_other (suc i) zero change (w ∷ ws) other = refl
update_other (suc i) (suc j) change (w ∷ ws) other = update_other i j change ws (λ same. other (ap suc same))

-- ---- no link that is up has failed

abbrev IsWhole : Option LinkValue → Type 0
IsWhole None = Unit {0}
IsWhole (Some v) = v.exchange.fault ≡ None

abbrev IsWholeAt : Option Watch → Type 0
IsWholeAt None = Unit {0}
IsWholeAt (Some w) = IsWhole w.link

whole_if : (b : Bool) (v : LinkValue) → v.exchange.fault ≡ None → IsWhole (if b then Some v else None)
whole_if true v is = is
whole_if false v is = tt

whole : (first : Configuration) (h : List Event) (i : ℕ) → IsWholeAt (watch_at i (content first h).watches)
whole first h i =
    elim (found i (watch first (trace first h)) first.lines) [
      | inl none ↦ subst IsWholeAt (sym none) tt
      | inr is ↦ subst IsWholeAt (sym is) (whole_if (linked i (trace first h)) (link_at first (trace first h) i) refl)
    ]

-- ---- what waits, once bytes were taken

abbrev nothing : List ℕ
nothing = []

drop_none : (m : ℕ) → nothing ≡ drop m nothing
drop_none zero = refl
drop_none (suc m) = refl

stage_left : (n : ℕ) (stage : Stage) → waits_in (stage_taken n stage) ≡ drop n (waits_in stage)
stage_left n (stages.Asked query) = refl
stage_left n other = drop_none n

takes : (n : ℕ) (e : Exchange) → e.fault ≡ None → n ≤ length (waits e) → is_some (take_fault n e) ≡ false
takes n e whole less =
    ap (λ f. is_some (or_else f (if nat_le n (length (waits e)) then None else Some TooMuchTaken))) whole
    ∙ ap (λ b. is_some (if b then None else Some TooMuchTaken)) (le-leb n (length (waits e)) less)

link_left : (n : ℕ) (o : Option LinkValue) → IsWhole o → n ≤ length (waits_on o) → waits_on (link_took n o) ≡ drop n (waits_on o)
link_left n None whole less = drop_none n
link_left n (Some v) whole less =
    ap (λ b. waits_in (if b then v.exchange.stage else stage_taken n v.exchange.stage)) (takes n v.exchange whole less) ∙ stage_left n v.exchange.stage

watch_left : (n : ℕ) (o : Option Watch) → IsWholeAt o → n ≤ length (waiting_on o) → waiting_on (option_map (took n) o) ≡ drop n (waiting_on o)
watch_left n None whole less = drop_none n
watch_left n (Some w) whole less = link_left n w.link whole less

-- ---- a write

-- the content after bytes were taken
took_moved : (first : Configuration) (D : List Entry → Type 0) (s s' : Content) (i : ℕ) (part : List ℕ) (w : Written) (n : ℕ) (r : Result (Unit {0}) MonitorFault)
    → Watched first D s None → w ≡ Took n → IsWithin w (length part) → part ≡ waiting_of i s.watches → IsAnswer s (LinkTook i n) r → s' ≡ content_after r s (LinkTook i n)
    → (0 < n) × (n ≤ length (waiting_of i s.watches)) × (s' ≡ advance s (LinkTook i n))
took_moved first D s s' i part w n r watched is within all answer moved =
    let inside : IsWithin (Took n) (length part) = subst (λ v. IsWithin v (length part)) is within in
    let some : 0 < n = inside.0 in
    let fits : n ≤ length part = inside.1 in
    let reach : n ≤ length (waiting_of i s.watches) = omega (arith, fits, ap length all) in
    (some, reach, moved_on s s' (LinkTook i n) r (may_take s i n some reach) (no_memory_took i n) answer moved)

pub waits_less : (first : Configuration) (D : List Entry → Type 0) (s s' : Content) (i : ℕ) (part : List ℕ) (w : Written) (n : ℕ) (r : Result (Unit {0}) MonitorFault)
    → Watched first D s None → w ≡ Took n → IsWithin w (length part) → part ≡ waiting_of i s.watches → IsAnswer s (LinkTook i n) r → s' ≡ content_after r s (LinkTook i n)
    → length (waiting_of i s'.watches) < length (waiting_of i s.watches)
waits_less first D s s' i part w n r watched is within all answer moved =
    let facts = took_moved first D s s' i part w n r watched is within all answer moved in
    let some : 0 < n = facts.0 in
    let reach : n ≤ length (waiting_of i s.watches) = facts.1 in
    let ok : IsWholeAt (watch_at i s.watches) = subst (λ (t : Content). IsWholeAt (watch_at i t.watches)) (sym watched.holds.1) (whole first (history_of watched.steps) i) in
    let here : waiting_of i s'.watches ≡ drop n (waiting_of i s.watches) =
    ap (λ (t : Content). waiting_of i t.watches) facts.2 ∙ ap waiting_on (update_here i (took n) s.watches) ∙ watch_left n (watch_at i s.watches) ok reach in
    omega (arith, some, reach, ap length here, length-drop n (waiting_of i s.watches))

pub only_took : (first : Configuration) (D : List Entry → Type 0) (s s' : Content) (i : ℕ) (part : List ℕ) (w : Written) (n : ℕ) (r : Result (Unit {0}) MonitorFault)
    → Watched first D s None → w ≡ Took n → IsWithin w (length part) → part ≡ waiting_of i s.watches → IsAnswer s (LinkTook i n) r → s' ≡ content_after r s (LinkTook i n)
    → OnlyAt i s s'
only_took first D s s' i part w n r watched is within all answer moved =
    let facts = took_moved first D s s' i part w n r watched is within all answer moved in
    record {
      as_many = ap (λ (t : Content). length t.watches) facts.2 ∙ length-update i (took n) s.watches;
      others = λ j other. ap (λ (t : Content). waiting_of j t.watches) facts.2 ∙ ap waiting_on (update_other i j (took n) s.watches other);
      notices = ap (λ (t : Content). t.notices) facts.2;
    }

-- ---- all links, one after the other

here_or_below : (i j : ℕ) → j < i + 1 → (j ≡ i) ⊎ (j < i)
here_or_below zero zero less = inl refl
here_or_below zero (suc j) less = absurd (omega (arith, less))
here_or_below (suc i) zero less = inr (omega arith)
here_or_below (suc i) (suc j) less =
    elim (here_or_below i j (omega (arith, less))) [
      | inl is ↦ inl (ap suc is)
      | inr below ↦ inr (omega (arith, below))
    ]

-- the links before i were settled, and now i is
pub settled_to : (late late' : ℕ → Bool) (s s' : Content) (i : ℕ) → OnlyAt i s s' → StaysLate late late' → IsSettled late' s'.watches i
    → ((j : ℕ) → j < i → IsSettled late s.watches j) → (j : ℕ) → j < i + 1 → IsSettled late' s'.watches j
settled_to late late' s s' i only stays here before j less =
    elim (here_or_below i j less) [
      | inl is ↦ subst (IsSettled late' s'.watches) (sym is) here
      | inr below ↦ λ some. stays j (before j below (subst (λ bytes. 0 < length bytes) (only.others j (λ is. absurd (omega (arith, below, is)))) some))
    ]

none_there : (i : ℕ) (ws : List Watch) → length ws ≤ i → waiting_of i ws ≡ []
none_there zero (w ∷ ws) past = absurd (omega (arith, past))
none_there (suc i) (w ∷ ws) past = none_there i ws (omega (arith, past))
none_there _ [] past = refl

below_or_past : (i n : ℕ) → (i < n) ⊎ (n ≤ i)
below_or_past i zero = inr (omega arith)
below_or_past zero (suc n) = inl (omega arith)
below_or_past (suc i) (suc n) =
    elim (below_or_past i n) [
      | inl below ↦ inl (omega (arith, below))
      | inr past ↦ inr (omega (arith, past))
    ]

pub all_settled : (late : ℕ → Bool) (ws : List Watch) (at : ℕ) → length ws ≤ at → ((j : ℕ) → j < at → IsSettled late ws j) → (i : ℕ) → IsSettled late ws i
all_settled late ws at past before i some =
    elim (below_or_past i at) [
      | inl below ↦ before i below some
      | inr beyond ↦ absurd (omega (arith, some, ap length (none_there i ws (omega (arith, past, beyond)))))
    ]
