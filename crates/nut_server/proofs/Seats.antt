-- Who makes way for a new connection isn't logged in.
use Rattle.std.proofs.Common.{◌≡◌, ℕ, Bool, true, false, eqb, List, [], ◌∷◌, refl, ap, sym, subst, arith, inl, inr, Option, Some, None}
use Rattle.std.specs.Prelude.{find, option_map, is_none, is_some, IfSome}
use Rattle.std.proofs.lemmas.Bool.{cases_Bool, eq-eqb, ne_eqb, false≢true}
use Rattle.nut_server_spec.specs.Configuration.{User}
use Rattle.nut_server_spec.specs.Content.{Session}
use Rattle.nut_server_spec.specs.Acceptance.{session_of, has_login}
use Rattle.nut_server_spec.specs.laws.Laws.{IsRising}
use Rattle.nut_server.specs.inside.Inside.{numbers_of}
use Rattle.nut_server.specs.Seats.{has_no_login, is_stranger}
use Rattle.nut_server.proofs.Orderly.{none_below}

-- The session that is found is the one with its number, and passes the test.
found_is : (p : Session → Bool) (ks : List Session) (k : Session) → IsRising (numbers_of ks) → find p ks ≡ Some k → (session_of k.number ks ≡ Some k) × (p k ≡ true)
found_is p [] k rising found = absurd (cc)
found_is p (j ∷ ks) k rising found =
    elim (cases_Bool (p j)) [
      | inl e ↦
          let there : Some j ≡ Some k = rw e at found in
          let same : j ≡ k = cc in
          let here : eqb j.number k.number ≡ true = eq-eqb j.number k.number (ap (λ k. k.number) same) in
          (rw here there, rw (← same) e)
      | inr e ↦
          let later = found_is p ks k rising.1 (rw e at found) in
          let gone : j.number ≡ k.number → session_of k.number ks ≡ None = λ is. none_below k.number j.number ks rising.0 (omega (arith, is)) in
          let other : eqb j.number k.number ≡ false = ne_eqb j.number k.number (λ is. absurd (let none = gone is in let some = later.0 in cc)) in
          (rw other later.0, later.1)
    ]

no_login : (o : Option ℕ) → is_none o ≡ true → is_some o ≡ false
no_login None is = refl
no_login (Some u) is = absurd (false≢true is)

stranger_has_none : (users : List User) (k : Session) → is_stranger users k ≡ true → is_some k.login ≡ false
stranger_has_none users k is = elim (cases_Bool (is_none k.login)) [ inl e ↦ no_login k.login e | inr e ↦ absurd (false≢true (rw e at is)) ]

-- If those that pass the test aren't logged in, the one that is found isn't.
found_has_none : (p : Session → Bool) (ks : List Session) (o : Option Session) → ((k : Session) → p k ≡ true → is_some k.login ≡ false) → IsRising (numbers_of ks) → find p ks ≡ o
    → IfSome (option_map (λ k. k.number) o) (λ c. has_login (session_of c ks) ≡ false)
found_has_none p ks None none rising is = tt
found_has_none p ks (Some k) none rising is = let found = found_is p ks k rising is in rw found.0 (none k found.1)

-- The one that the first search finds isn't.
pub stranger_is_free : (users : List User) (ks : List Session) (o : Option ℕ) → IsRising (numbers_of ks) → o ≡ option_map (λ k. k.number) (find (is_stranger users) ks)
    → IfSome o (λ c. has_login (session_of c ks) ≡ false)
stranger_is_free users ks o rising is =
    let P : Option ℕ → Type 0 = λ o. IfSome o (λ c. has_login (session_of c ks) ≡ false) in
    subst P (sym is) (found_has_none (is_stranger users) ks (find (is_stranger users) ks) (stranger_has_none users) rising refl)

-- The one that the second search finds isn't.
pub first_is_free : (ks : List Session) (o : Option ℕ) → IsRising (numbers_of ks) → o ≡ option_map (λ k. k.number) (find has_no_login ks) → IfSome o (λ c. has_login (session_of c ks) ≡ false)
first_is_free ks o rising is =
    let P : Option ℕ → Type 0 = λ o. IfSome o (λ c. has_login (session_of c ks) ≡ false) in
    subst P (sym is) (found_has_none has_no_login ks (find has_no_login ks) (λ k is. no_login k.login is) rising refl)
