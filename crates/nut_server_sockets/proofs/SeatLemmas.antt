-- Whose socket is whose, once one has come or gone.
use Rattle.std.proofs.Common.{◌≡◌, ◌≢◌, ◌⊎◌, ℕ, ◌+◌, ◌<◌, ◌≤◌, true, false, List, length, get_or, refl, sym, ap, subst, ◌∙◌, arith, Option, Some, None, inl, inr, IfSome, Result, Ok, Err, option_map}
use Rattle.std.specs.Prelude.{◌&&◌, not, is_none, is_some}
use Rattle.std.specs.List.{remove}
use Rattle.std.specs.Option.{option_map_or}
use Rattle.std.specs.List.Sorted.{IsBinarySearchResult}
use Rattle.std.specs.Ordering.{nat_cmp}
use Rattle.std.specs.declared.cmp.Ordering.TheVariants.{Equal}
use Rattle.std.specs.Result.{result_ok}
use Rattle.std.proofs.lemmas.Bool.{cases_lt}
use Rattle.std.proofs.lemmas.Cmp.{ranked}
use Rattle.std.proofs.lemmas.List.Edits.{length-remove, get_or-remove_below, get_or-remove_above}
use Rattle.slab.specs.Slab.{Slab, Updates}
use Rattle.nut_server_sockets.specs.declared.client.Client.{Client}
use Rattle.nut_server.specs.Seats.{are_right, is_stranger}
use Rattle.nut_server_spec.specs.Acceptance.{has_login, session_of}
use Rattle.nut_server_spec.specs.Content.{Content, Session}
use Rattle.nut_server_sockets.specs.Seats.{KeepsSeats, is_stranger_at, number_at}
use Rattle.nut_server_sockets.specs.inside.Keys.{AreNamed, AreApart}

pub same_seats : (old new : Slab Client) → new ≡ old → KeepsSeats old new
same_seats old new same key = ap (λ sockets. number_at sockets key) same

pub seats_on : (a b c : Slab Client) → KeepsSeats a b → KeepsSeats b c → KeepsSeats a c
seats_on a b c first then key = then key ∙ first key

-- after one more candidate for leaving
pub one_more : (P : ℕ → Type 0) (n : ℕ) (old new : Option ℕ) → P n → (new ≡ old) ⊎ (new ≡ Some n) → IfSome old P → IfSome new P
one_more P n old new this (inl same) before = subst (λ o. IfSome o P) (sym same) before
one_more P n old new this (inr is) before = subst (λ o. IfSome o P) (sym is) this

-- A stranger isn't logged in.
pub stranger_out : (s : Content) (c : ℕ) → is_stranger_at s c ≡ true → has_login (session_of c s.sessions) ≡ false
stranger_out s c is = by (session_of c s.sessions) is where
  by : (o : Option Session) → option_map_or (is_stranger s.configuration.users) o false ≡ true → has_login o ≡ false
  by None is = refl
  by (Some k) is = out k.login is where
    out : (login : Option ℕ) → (is_none login && not (are_right s.configuration.users k.user k.password)) ≡ true → is_some login ≡ false
    out None is = refl
    out (Some u) is = absurd (cc)

abbrev number_of : Option Client → Option ℕ
number_of o = option_map (λ k. k.number) o

-- what a search for a number found
pub found_number : (keys : List (ℕ × ℕ)) (c : ℕ) (r : Result ℕ ℕ) → IsBinarySearchResult (λ (key : ℕ × ℕ). nat_cmp key.0 c) keys r →
    IfSome (result_ok r) (λ at. (get_or keys at (0, 0)).0 ≡ c)
found_number keys c (Ok at) found = ranked (get_or keys at (0, 0)).0 c Equal (sym (found (0, 0)))
found_number keys c (Err at) found = tt

-- the socket of a number in the list
pub found_seat : (keys : List (ℕ × ℕ)) (sockets : Slab Client) (at c : ℕ) (entry : ℕ × ℕ) → AreNamed keys sockets → at < length keys →
    entry ≡ get_or keys at (0, 0) → entry.0 ≡ c → number_at sockets entry.1 ≡ Some c
found_seat keys sockets at c entry named within is number =
    let P : ℕ × ℕ → Type 0 = λ p. number_at sockets p.1 ≡ Some p.0 in
    subst P (sym is) (named at within) ∙ ap Some number

-- Each that is left when one is removed stood elsewhere before.
record Was (keys : List (ℕ × ℕ)) (at i : ℕ) : Type 0 where
  was : ℕ
  within : was < length keys
  other : was ≢ at
  same : get_or (remove keys at) i (0, 0) ≡ get_or keys was (0, 0)

was_at : (keys : List (ℕ × ℕ)) (at i : ℕ) → at < length keys → i < length (remove keys at) → Was keys at i
was_at keys at i there within = elim (cases_lt i at) [
  | inl below ↦ record {
    was = i;
    within = omega (arith, there, below);
    other = λ is. omega (arith, below, is);
    same = get_or-remove_below keys at (0, 0) i below there;
  }
  | inr above ↦ record {
    was = i + 1;
    within = omega (arith, within, length-remove keys at there);
    other = λ is. omega (arith, above, is);
    same = get_or-remove_above keys at (0, 0) i above there;
  }
]

-- two that are left stood at different places
pub apart_left : (keys : List (ℕ × ℕ)) (at : ℕ) → AreApart keys → at < length keys → AreApart (remove keys at)
apart_left keys at apart there i j i_in j_in same = elim (cases_lt i at) [
  | inl i_below ↦ elim (cases_lt j at) [
    | inl j_below ↦ apart i j (omega (arith, there, i_below)) (omega (arith, there, j_below)) (sym (below i i_below) ∙ same ∙ below j j_below)
    | inr j_above ↦ absurd (let is = apart i (j + 1) (omega (arith, there, i_below)) (next j j_in) (sym (below i i_below) ∙ same ∙ above j j_above) in omega (arith, is, i_below, j_above))
  ]
  | inr i_above ↦ elim (cases_lt j at) [
    | inl j_below ↦ absurd (let is = apart (i + 1) j (next i i_in) (omega (arith, there, j_below)) (sym (above i i_above) ∙ same ∙ below j j_below) in omega (arith, is, j_below, i_above))
    | inr j_above ↦ let is = apart (i + 1) (j + 1) (next i i_in) (next j j_in) (sym (above i i_above) ∙ same ∙ above j j_above) in omega (arith, is)
  ]
]
  where
    next : (k : ℕ) → k < length (remove keys at) → k + 1 < length keys
    next k k_in = omega (arith, k_in, length-remove keys at there)

    below : (k : ℕ) → k < at → (get_or (remove keys at) k (0, 0)).1 ≡ (get_or keys k (0, 0)).1
    below k less = ap (λ (p : ℕ × ℕ). p.1) (get_or-remove_below keys at (0, 0) k less there)

    above : (k : ℕ) → at ≤ k → (get_or (remove keys at) k (0, 0)).1 ≡ (get_or keys (k + 1) (0, 0)).1
    above k least = ap (λ (p : ℕ × ℕ). p.1) (get_or-remove_above keys at (0, 0) k least there)

pub named_left : (keys : List (ℕ × ℕ)) (old new : Slab Client) (at : ℕ) (entry : ℕ × ℕ) → AreNamed keys old → AreApart keys → at < length keys →
    entry ≡ get_or keys at (0, 0) → Updates old new entry.1 None → AreNamed (remove keys at) new
named_left keys old new at entry named apart there is updates i within =
    let before = was_at keys at i there within in
    let P : ℕ × ℕ → Type 0 = λ p. number_at new p.1 ≡ Some p.0 in
    let other : (get_or keys before.was (0, 0)).1 ≢ entry.1 =
    λ same. before.other (apart before.was at before.within there (same ∙ ap (λ (p : ℕ × ℕ). p.1) is)) in
    subst P (sym before.same) (ap number_of (updates.others (get_or keys before.was (0, 0)).1 other) ∙ named before.was before.within)
