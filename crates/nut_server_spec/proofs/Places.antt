-- The elements of a list by their places: what is found at a place, and what changing one element leaves as it is.
use Rattle.std.proofs.Common.{◌≡◌, ℕ, zero, suc, ◌+◌, ◌<◌, false, eqb, List, [], ◌∷◌, ◌++◌, length, map, refl, sym, ◌∙◌, ap, arith, Some, length-append}
use Rattle.std.specs.Prelude.{slice_get}
use Rattle.std.proofs.lemmas.Bool.{ne_eqb}
use Rattle.std.proofs.lemmas.List.{length-map}
use Rattle.std.proofs.lemmas.Option.{slice_get_within}
use Rattle.nut_server_spec.specs.Content.{Supply}
use Rattle.nut_server_spec.specs.machine.Machine.{update_at}
use Rattle.nut_server_spec.specs.Numbering.{below}

-- These are the numbers from k on, one by one.
abbrev pub IsCount : ℕ → List ℕ → Type 0
IsCount k [] = Unit {0}
IsCount k (n ∷ ns) = (n ≡ k) × IsCount (suc k) ns

IsCount-push : (k m : ℕ) (ns : List ℕ) → IsCount k ns → m ≡ length ns + k → IsCount k (ns ++ m ∷ [])
IsCount-push k m [] counts is = (omega (arith, is), tt)
IsCount-push k m (n ∷ ns) counts is = (counts.0, IsCount-push (suc k) m ns counts.1 (omega (arith, is)))

pub below-length : (n : ℕ) → length (below n) ≡ n
below-length zero = refl
below-length (suc n) = omega (arith, length-append (below n) (n ∷ []), below-length n)

pub below_counts : (n : ℕ) → IsCount 0 (below n)
below_counts zero = tt
below_counts (suc n) = IsCount-push 0 n (below n) (below_counts n) (omega (arith, below-length n))

-- What is found at a place is made from the number at this place.
pub found_at : {A : Type 0} (u w k : ℕ) (f : ℕ → A) (ns : List ℕ) (x : A) → IsCount k ns → w ≡ u + k → slice_get (map f ns) u ≡ Some x → x ≡ f w
found_at u w k f [] x counts is found = cc
found_at zero w k f (n ∷ ns) x counts is found = let here : f n ≡ x = cc in let e : n ≡ w = omega (arith, counts.0, is) in sym here ∙ ap f e
found_at (suc u) w k f (n ∷ ns) x counts is found = found_at u w (suc k) f ns x counts.1 (omega (arith, is)) found

-- A change leaves the elements after its place as they are.
same_above : {A : Type 0} (w k : ℕ) (f g : ℕ → A) (ns : List ℕ) → IsCount k ns → w < k → ((d : ℕ) → eqb d w ≡ false → g d ≡ f d) → map g ns ≡ map f ns
same_above w k f g [] counts less other = refl
same_above w k f g (n ∷ ns) counts less other =
    rw (other n (ne_eqb n w (λ e. omega (arith, e, counts.0))), same_above w (suc k) f g ns counts.1 (omega arith) other) refl

-- one UPS changes
update-place : (u w k : ℕ) (f g : ℕ → Supply) (change : Supply → Supply) (ns : List ℕ) → IsCount k ns → w ≡ u + k
    → ((d : ℕ) → eqb d w ≡ false → g d ≡ f d) → g w ≡ change (f w) → map g ns ≡ update_at u change (map f ns)
update-place u w k f g change [] counts is other this = refl
update-place zero w k f g change (n ∷ ns) counts is other this =
    let e : n ≡ w = omega (arith, counts.0, is) in
    let changed : g n ≡ change (f n) = ap g e ∙ this ∙ ap (λ m. change (f m)) (sym e) in
    rw (changed, same_above w (suc k) f g ns counts.1 (omega (arith, is)) other) refl
update-place (suc u) w k f g change (n ∷ ns) counts is other this =
    rw (other n (ne_eqb n w (λ e. omega (arith, e, is, counts.0))), update-place u w (suc k) f g change ns counts.1 (omega (arith, is)) other this) refl

pub update-below : (u n : ℕ) (f g : ℕ → Supply) (change : Supply → Supply) → ((d : ℕ) → eqb d u ≡ false → g d ≡ f d) → g u ≡ change (f u)
    → map g (below n) ≡ update_at u change (map f (below n))
update-below u n f g change other this = update-place u u 0 f g change (below n) (below_counts n) (omega arith) other this

-- a function of what another function gives
pub map-twice : {A B C : Type 0} (f : A → B) (g : B → C) (xs : List A) → map g (map f xs) ≡ map (λ x. g (f x)) xs
map-twice f g [] = refl
map-twice f g (x ∷ xs) = rw (map-twice f g xs) refl

-- two functions that give the same
pub map-same : {A B : Type 0} (f g : A → B) (xs : List A) → ((x : A) → g x ≡ f x) → map g xs ≡ map f xs
map-same f g xs same = grind arith

-- two changes of one UPS, one after the other
pub update_at-none : (u : ℕ) (change : Supply → Supply) (supplies : List Supply) → ((d : Supply) → change d ≡ d) → update_at u change supplies ≡ supplies
update_at-none u change [] none = refl
update_at-none zero change (d ∷ supplies) none = ap (λ x. x ∷ supplies) (none d)
update_at-none (suc u) change (d ∷ supplies) none = ap (λ ds. d ∷ ds) (update_at-none u change supplies none)

pub update_at-twice : (u : ℕ) (f g : Supply → Supply) (supplies : List Supply) → update_at u g (update_at u f supplies) ≡ update_at u (λ d. g (f d)) supplies
update_at-twice u f g [] = refl
update_at-twice zero f g (d ∷ supplies) = refl
update_at-twice (suc u) f g (d ∷ supplies) = ap (λ ds. d ∷ ds) (update_at-twice u f g supplies)

-- what is at a place
get_at : {A : Type 0} (u w k : ℕ) (f : ℕ → A) (ns : List ℕ) → IsCount k ns → w ≡ u + k → u < length ns → slice_get (map f ns) u ≡ Some (f w)
get_at u w k f [] counts is less = absurd (omega (arith, less))
get_at zero w k f (n ∷ ns) counts is less = let e : n ≡ w = omega (arith, counts.0, is) in ap (λ m. Some (f m)) e
get_at (suc u) w k f (n ∷ ns) counts is less = get_at u w (suc k) f ns counts.1 (omega (arith, is)) (omega (arith, less))

pub get_below : {A : Type 0} (u n : ℕ) (f : ℕ → A) → u < n → slice_get (map f (below n)) u ≡ Some (f u)
get_below u n f less = get_at u u 0 f (below n) (below_counts n) (omega arith) (omega (arith, less, below-length n))

-- A place with an element is less than the number of elements.
pub found_below : {A : Type 0} (u n : ℕ) (f : ℕ → A) (x : A) → slice_get (map f (below n)) u ≡ Some x → u < n
found_below u n f x found = omega (arith, slice_get_within (map f (below n)) u x found, length-map (below n) f, below-length n)
