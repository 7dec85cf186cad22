-- What others tell the server isn't bytes on the connection of a link.
use Rattle.std.proofs.Common.{◌≡◌, ℕ, zero, suc, ◌<◌, ◌==◌, ◌&&◌, ◌||◌, nat_lt, Bool, true, false, not, inl, inr, [], length, Option, None, is_none, is_some, refl, sym, ◌∙◌, ap, arith}
use Rattle.std.proofs.lemmas.Bool.{and_parts, cases_Bool, eqb-false, eqb-true, ltb-false, ltb-true, not-true}
use Rattle.nut_server_spec.specs.Event as arrivals
use Rattle.nut_server_spec.specs.Acceptance as server_tests
use Rattle.nut_fleet.specs.World.{Setup, World, any_below, are_next, has_link, is_of_link, is_unknown, may_tell, monitor_of, served}
use Rattle.nut_fleet.proofs.Fronts.{length-0}
use Rattle.nut_fleet.proofs.Server.{is_of}

pub is_none-true : {A : Type 0} (o : Option A) → is_none o ≡ true → o ≡ None
is_none-true o e = grind (arith, e)

pub some-there : {A : Type 0} (o : Option A) → is_some o ≡ true → o ≡ None → ⊥
some-there o e none = grind (arith, e)

or-none : (a b : Bool) → (a || b) ≡ false → (a ≡ false) × (b ≡ false)
or-none a b is = grind arith

none-below : (n : ℕ) (test : ℕ → Bool) (k : ℕ) → any_below n test ≡ false → k < n → test k ≡ false
none-below zero test k none less = absurd (omega (arith, less))
none-below (suc n) test k none less =
    let parts = or-none (test n) (any_below n test) none in
    elim (cases_Bool (nat_lt k n)) [
      | inl lower ↦ none-below n test k parts.1 (ltb-true k n lower)
      | inr not_lower ↦
          let le = ltb-false k n not_lower in
          let same : k ≡ n = omega (arith, le, less) in
          ap test same ∙ parts.0
    ]

module _ (setup : Setup) (w : World) where
  not-of_link : (c m i : ℕ) → has_link setup m i ≡ true → is_of_link setup w c ≡ false → (c == w.connection m i) ≡ false
  not-of_link c m i there none =
      let parts = and_parts (nat_lt m (length setup.monitors)) (nat_lt i (length (monitor_of setup m).lines)) there in
      none-below (length (monitor_of setup m).lines) (λ j. c == w.connection m j) i
      (none-below (length setup.monitors) (λ k. any_below (length (monitor_of setup k).lines) (λ j. c == w.connection k j)) m none (ltb-true m (length setup.monitors) parts.0))
      (ltb-true i (length (monitor_of setup m).lines) parts.1)

  pub other-link : (e : arrivals.Event) (m i : ℕ) → has_link setup m i ≡ true → may_tell setup w e ≡ true → is_of (w.connection m i) e ≡ false
  other-link (arrivals.Bytes c piece) m i there may =
      not-of_link c m i there (not-true (is_of_link setup w c) (and_parts (not (is_of_link setup w c)) (are_next w c piece (w.given_up c)) may).0)
  other-link e m i there may = refl

  -- the connection may turn out to be that of a link
  pub record IsUnknown (c : ℕ) : Type 0 where
    pub up : server_tests.session_of c (served setup w).sessions ≡ None → ⊥
    pub silent : arrivals.input c w.server ≡ []
    pub apart : (m i : ℕ) → has_link setup m i ≡ true → w.connection m i ≡ c → ⊥
    pub kept : w.given_up c ≡ None

  pub unknown : (c : ℕ) → is_unknown setup w c ≡ true → IsUnknown c
  unknown c is =
      let is_up = is_some (server_tests.session_of c (served setup w).sessions) in
      let is_silent = length (arrivals.input c w.server) == 0 in
      let is_apart = not (is_of_link setup w c) in
      let three = and_parts (is_up && is_silent && is_apart) (is_none (w.given_up c)) is in
      let two = and_parts (is_up && is_silent) is_apart three.0 in
      let one = and_parts is_up is_silent two.0 in
      record {
        up = some-there (server_tests.session_of c (served setup w).sessions) one.0;
        silent = length-0 (arrivals.input c w.server) (let none = eqb-true (length (arrivals.input c w.server)) 0 one.1 in omega (arith, none));
        apart = λ m i there same.
            eqb-false c (w.connection m i) (not-of_link c m i there (not-true (is_of_link setup w c) two.1)) (sym same);
        kept = is_none-true (w.given_up c) three.1;
      }
