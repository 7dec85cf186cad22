-- What a reload makes of the parts of a server.
use Rattle.std.proofs.Common.{◌≡◌, ℕ, suc, ◌+◌, ◌-◌, ◌≤◌, Bool, true, false, not, List, [], ◌∷◌, ◌++◌, filter, length, length-append, map, refl, sym, ◌∙◌, ap, ap₂, arith, add-one, Result, Ok, Err, OnOk, OnErr}
use Rattle.std.proofs.lemmas.List.{append-nil, length-map}
use Rattle.std.proofs.lemmas.List.Elements.{filter-append}
use Rattle.nut_conf.specs.declared.limits.TheConstants.{UPSES_MAX}
use Rattle.nut_server_spec.specs.Configuration.{Configuration}
use Rattle.nut_server_spec.specs.Content.{Content, Session, Supply, numbering_of, unheard}
use Rattle.nut_server_spec.specs.Numbering.{Fate, below, fate_of, is_to_cleared, renumbered}
use Rattle.nut_server_spec.specs.machine.Machine.{changed_from, fated, reloaded, with_supplies}
use Rattle.nut_server_spec.proofs.Places.{below-length}
use Rattle.nut_server.specs.inside.Fates.{fate_in}
use Rattle.nut_server.proofs.FatesMet.{changed_new, unheard_stays}

pub changed_long : (change : ℕ → Supply → Supply) (k : ℕ) (ds : List Supply) → length (changed_from k change ds) ≡ length ds
changed_long change k [] = refl
changed_long change k (d ∷ ds) = ap suc (changed_long change (k + 1) ds)

-- ---- the numbers that pass, one by one

module _ (p : ℕ → Bool) where
  next_one : (n : ℕ) (ns : List ℕ) → ns ≡ filter p (below n) → filter p (below (n + 1)) ≡ ns ++ filter p (n ∷ [])
  next_one n ns so_far = ap (λ m. filter p (below m)) (add-one n) ∙ filter-append p (below n) (n ∷ []) ∙ ap (λ ms. ms ++ filter p (n ∷ [])) (sym so_far)

  pub passes_next : (n : ℕ) (ns : List ℕ) → ns ≡ filter p (below n) → p n ≡ true → ns ++ n ∷ [] ≡ filter p (below (n + 1))
  passes_next n ns so_far passes = sym (next_one n ns so_far ∙ rw passes refl)

  pub fails_next : (n : ℕ) (ns : List ℕ) → ns ≡ filter p (below n) → p n ≡ false → ns ≡ filter p (below (n + 1))
  fails_next n ns so_far fails = sym (next_one n ns so_far ∙ rw fails (append-nil ns))

-- ---- a server

pub grown_long : (old new : List Supply) (count : ℕ) → new ≡ old ++ map (λ u. unheard) (below (count - length old)) → length new ≡ length old + (count - length old)
grown_long old new count is =
    ap length is ∙ length-append old (map (λ u. unheard) (below (count - length old)))
    ∙ ap (λ n. length old + n) (length-map (below (count - length old)) (λ u. unheard) ∙ below-length (count - length old))

-- The places after they were to grow to `count`.
pub grown : {U E : Type 0} (r : Result U E) (old new : List Supply) (count : ℕ) → OnOk r (new ≡ old ++ map (λ u. unheard) (below (count - length old))) → OnErr r (new ≡ old)
    → count ≤ UPSES_MAX → length old ≤ UPSES_MAX → (length old ≤ length new) × (length new ≤ UPSES_MAX)
grown (Ok u) old new count is same most few = let long = grown_long old new count is in (omega (arith, long), omega (arith, long, most, few))
grown (Err e) old new count is same most few = let long = ap length same in (omega (arith, long), omega (arith, long, few))

-- the content with these parts
abbrev content_with : Content → Configuration → List ℕ → List Session → List Supply → Content
content_with s k ns ks ds = record s { configuration = k; numbers = ns; sessions = ks; supplies = ds }

-- the fate of a UPS, if these are the numbers before and after
abbrev fates : Content → Configuration → List ℕ → List ℕ → ℕ → Fate
fates s k a b u = fate_in (record { before = record { upses = s.configuration.upses; numbers = a }; after = record { upses = k.upses; numbers = b } }) u

pub put_in : (s : Content) (k k' : Configuration) (a b ns : List ℕ) (ks : List Session) (ds ds' : List Supply)
    → k' ≡ k → a ≡ s.numbers → ns ≡ renumbered k.upses (numbering_of s) → b ≡ ns
    → ks ≡ filter (λ j. not (is_to_cleared (fates s k a b) j.login)) s.sessions
    → ds' ≡ changed_from 0 (λ u. fated (fates s k a b u)) ds → ds ≡ s.supplies
    → content_with s k' ns ks ds' ≡ with_supplies (changed_from 0 (λ u. fated (fate_of k.upses (numbering_of s) u)) s.supplies) (reloaded k s)
put_in s k k' a b ns ks ds ds' is_k is_a is_ns is_b is_ks is_ds' is_ds =
    let r = renumbered k.upses (numbering_of s) in
    let sessions = is_ks ∙ ap₂ (λ a b. filter (λ j. not (is_to_cleared (fates s k a b) j.login)) s.sessions) is_a (is_b ∙ is_ns) in
    let supplies = is_ds' ∙ ap₂ (λ a b. changed_from 0 (λ u. fated (fates s k a b u)) ds) is_a (is_b ∙ is_ns) ∙ ap (changed_from 0 (λ u. fated (fates s k s.numbers r u))) is_ds in
    ap₂ (λ k ns. content_with s k ns ks ds') is_k is_ns ∙ ap₂ (content_with s k r) sessions supplies

-- a content with places for all UPSes, after the rest of a reload
pub put_after : (s s' : Content) (k : Configuration) (count : ℕ) → count ≡ length k.upses → s' ≡ with_supplies (s.supplies ++ map (λ u. unheard) (below (count - length s.supplies))) s
    → with_supplies (changed_from 0 (λ u. fated (fate_of k.upses (numbering_of s') u)) s'.supplies) (reloaded k s') ≡ reloaded k s
put_after s s' k count many is =
    let change : ℕ → Supply → Supply = λ u. fated (fate_of k.upses (numbering_of s) u) in
    ap (λ (t : Content). with_supplies (changed_from 0 (λ u. fated (fate_of k.upses (numbering_of t) u)) t.supplies) (reloaded k t)) is
    ∙ ap (λ ds. with_supplies ds (reloaded k s)) (changed_new change 0 s.supplies (below (count - length s.supplies)) (λ u. unheard_stays (fate_of k.upses (numbering_of s) u)))
    ∙ ap (λ n. with_supplies (changed_from 0 change s.supplies ++ map (λ u. unheard) (below (n - length s.supplies))) (reloaded k s)) many
