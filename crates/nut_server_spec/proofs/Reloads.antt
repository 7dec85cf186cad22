-- A reload keeps the content.
use Rattle.std.proofs.Common.{◌≡◌, ℕ, zero, suc, ◌+◌, ◌-◌, ◌≤◌, Bool, false, not, List, [], ◌∷◌, ◌++◌, filter, map, drop, length, refl, sym, ◌∙◌, ap, ap₂, subst, arith, inl, inr, None}
use Rattle.std.specs.Prelude.{if◌then◌else◌, max}
use Rattle.std.proofs.lemmas.Bool.{cases_Bool}
use Rattle.std.proofs.lemmas.List.{append-nil, append_assoc, length-map, map-append}
use Rattle.nut_words.specs.Lines.{Text, rest}
use Rattle.nut_state.specs.Step.{table_of}
use Rattle.nut_server_spec.specs.Configuration.{Configuration}
use Rattle.nut_server_spec.specs.Content.{Session, Supply, content, past, session, supply, unheard}
use Rattle.nut_server_spec.specs.Event.{Event, Reload, driver_input}
use Rattle.nut_server_spec.specs.Numbering.{Fate, Kept, Numbering, below, by_fate, fate_between, fate_of, is_to_cleared, ups_with, with_numbers, renumbered}
use Rattle.nut_server_spec.specs.Trace.{connected, driver_due, driver_taken, forced, heard_at, login, numbering, open_numbers, pinged_at, places, reports, tracked}
use Rattle.nut_server_spec.specs.Tracking.{all_abandoned}
use Rattle.nut_server_spec.specs.machine.Machine.{advance, changed_from, fated}
use Rattle.nut_server_spec.proofs.Numbering.{no_ups_with, numbers_below}
use Rattle.nut_server_spec.proofs.Places.{IsCount, below-length, below_counts}

-- ---- connections

pub map-filter : (f : ℕ → Session) (p : ℕ → Bool) (q : Session → Bool) (ns : List ℕ) → ((n : ℕ) → q (f n) ≡ p n) → map f (filter p ns) ≡ filter q (map f ns)
map-filter f p q [] same = refl
map-filter f p q (n ∷ ns) same =
    elim (cases_Bool (p n)) [
      | inl e ↦ rw (e, same n ∙ e) (ap (λ ks. f n ∷ ks) (map-filter f p q ns same))
      | inr e ↦ rw (e, same n ∙ e) (map-filter f p q ns same)
    ]

-- ---- UPSes

-- what the past says of a UPS after its fate
fated_is : (first : Configuration) (h : List Event) (u : ℕ) (fate : Fate) → record {
  device = record {
    connected = by_fate fate false (λ before. false) (connected u (past first h));
    table = table_of (by_fate fate [] (λ before. before) (reports u (past first h)));
    heard_at = by_fate fate 0 (λ before. before) (heard_at u (past first h));
    pinged_at = by_fate fate None (λ before. before) (pinged_at u (past first h));
    forced = by_fate fate false (λ before. before) (forced first u (past first h));
    waits =
        if by_fate fate false (λ before. false) (connected u (past first h))
        then drop (by_fate fate 0 (λ before. before) (driver_taken u (past first h))) (by_fate fate [] (λ before. before) (driver_due u (past first h))) else [];
    tracked = by_fate fate [] all_abandoned (tracked first u (past first h));
  };
  rest = if by_fate fate false (λ before. false) (connected u (past first h)) then rest (driver_input u h) else Text [];
} ≡ fated fate (supply first h u)
fated_is first h u Kept = refl
fated_is first h u fate = refl

pub supply-reload : (first : Configuration) (h : List Event) (k : Configuration) (u : ℕ)
    → supply first (Reload k ∷ h) u ≡ fated (fate_of k.upses (numbering first (past first h)) u) (supply first h u)
supply-reload first h k u = fated_is first h u (fate_of k.upses (numbering first (past first h)) u)

-- nothing is known of a UPS that has a number for the first time
supply-new : (first : Configuration) (h : List Event) (k : Configuration) (u : ℕ) → places first (past first h) ≤ u → supply first (Reload k ∷ h) u ≡ unheard
supply-new first h k u le =
    let now = numbering first (past first h) in
    let after : Numbering = with_numbers k.upses (renumbered k.upses now) in
    supply-reload first h k u
    ∙ ap (λ o. fated (fate_between o (ups_with u after)) (supply first h u)) (no_ups_with (places first (past first h)) u now (numbers_below first (past first h)) le)

changed : (k : ℕ) (f g : ℕ → Supply) (change : ℕ → Supply → Supply) (ns : List ℕ) → IsCount k ns → ((u : ℕ) → g u ≡ change u (f u)) → map g ns ≡ changed_from k change (map f ns)
changed k f g change [] counts same = refl
changed k f g change (n ∷ ns) counts same =
    let is : n ≡ k = counts.0 in
    rw (changed (k + 1) f g change ns (subst (λ m. IsCount m ns) (let next : suc k ≡ k + 1 = omega arith in next) counts.1) same) (ap (λ x. x ∷ changed_from (k + 1) change (map f ns)) (same n ∙ ap (λ m. change m (f n)) is))

-- the numbers from p on are new
more_below : (p m : ℕ) (g : ℕ → Supply) (x : Supply) → ((u : ℕ) → p ≤ u → g u ≡ x) → map g (below (p + m)) ≡ map g (below p) ++ map (λ u. x) (below m)
more_below p zero g x new = ap (λ n. map g (below n)) (let none : p + 0 ≡ p = omega arith in none) ∙ sym (append-nil (map g (below p)))
more_below p (suc m) g x new =
    ap (λ n. map g (below n)) (let more : p + suc m ≡ suc (p + m) = omega arith in more)
    ∙ map-append g (below (p + m)) ((p + m) ∷ [])
    ∙ ap₂ (λ xs y. xs ++ y ∷ []) (more_below p m g x new) (new (p + m) (omega arith))
    ∙ append_assoc (map g (below p)) (map (λ u. x) (below m)) (x ∷ [])
    ∙ ap (λ xs. map g (below p) ++ xs) (sym (map-append (λ u. x) (below m) (m ∷ [])))

pub law-reload : (first : Configuration) (h : List Event) (k : Configuration) → content first (Reload k ∷ h) ≡ advance (content first h) (Reload k)
law-reload first h k =
    let t = past first h in
    let p = places first t in
    let now = numbering first t in
    let n = length k.upses in
    let s = content first h in
    let f = supply first h in
    let g = supply first (Reload k ∷ h) in
    let change : ℕ → Supply → Supply = λ u. fated (fate_of k.upses now u) in
    let after = content first (Reload k ∷ h) in
    let count : length (map f (below p)) ≡ p = length-map (below p) f ∙ below-length p in
    let all : max p n ≡ p + (n - p) = omega arith in
    ap (λ sessions. record after { sessions = sessions }) (map-filter (session first h) (λ d. not (is_to_cleared (fate_of k.upses now) (login first d t)))
    (λ j. not (is_to_cleared (fate_of k.upses now) j.login)) (open_numbers t) (λ d. refl))
    ∙ ap (λ supplies. record (advance s (Reload k)) { supplies = supplies })
    (ap (λ m. map g (below m)) all
    ∙ more_below p (n - p) g unheard (supply-new first h k)
    ∙ ap (λ ds. ds ++ map (λ u. unheard) (below (n - p))) (changed 0 f g change (below p) (below_counts p) (supply-reload first h k))
    ∙ ap (λ m. changed_from 0 change (map f (below p)) ++ map (λ u. unheard) (below (n - m))) (sym count))
