-- What a reload makes of each UPS, and of the connections that are logged in to it.
use Rattle.std.proofs.Common.{◌≡◌, ℕ, ◌<◌, Bool, true, false, not, eqb, List, [], ◌∷◌, filter, map, length, refl, sym, ◌∙◌, ap, arith, inl, inr, Option, Some, None}
use Rattle.std.specs.Prelude.{if◌then◌else◌, max, option_map}
use Rattle.std.specs.Option.{option_map_or}
use Rattle.std.specs.Str.{bytes_eq}
use Rattle.std.proofs.lemmas.Bool.{cases_Bool, eqb-true, true≢false}
use Rattle.std.proofs.lemmas.Slice.Eq.{bytes_eq-Decides}
use Rattle.nut_server_spec.specs.Acceptance.{session_of, supply_of}
use Rattle.nut_server_spec.specs.Configuration.{Configuration, Ups, ups_named}
use Rattle.nut_server_spec.specs.Content.{Session, content, past, session, supply, down}
use Rattle.nut_server_spec.specs.Event.{Event, Reload}
use Rattle.nut_server_spec.specs.Numbering.{Fate, Cleared, Numbering, Kept, Disconnected, fate_between, fate_of, is_cleared, is_to_cleared, number_of, ups_with}
use Rattle.nut_server_spec.specs.Trace.{login, numbering, open_numbers, places}
use Rattle.nut_server_spec.specs.laws.Reloads.{NamesAreDistinct, UpsesStay}
use Rattle.nut_server_spec.specs.machine.Machine.{fated}
use Rattle.nut_server_spec.proofs.Kept.{session_is}
use Rattle.nut_server_spec.proofs.Numbering.{number_below, numbers_below}
use Rattle.nut_server_spec.proofs.Others.{advance-other}
use Rattle.nut_server_spec.proofs.Places.{get_below}
use Rattle.nut_server_spec.proofs.Reloads.{law-reload, supply-reload}
use Rattle.nut_server_spec.proofs.Renumbered.{distinct_numbers, keeps-number, number_is_of, number_named, ups_passes}

-- the UPS of a name has this name
named_is : (name : List ℕ) (upses : List Ups) (x : Ups) → ups_named name upses ≡ Some x → x.name ≡ name
named_is name [] x found = cc
named_is name (ups ∷ upses) x found =
    elim (cases_Bool (bytes_eq ups.name name)) [
      | inl e ↦
          let here : Some ups ≡ Some x = rw e at found in
          let same : ups ≡ x = cc in
          ap (λ u. u.name) (sym same) ∙ (bytes_eq-Decides ups.name name).0 e
      | inr e ↦ named_is name upses x (rw e at found)
    ]

not_equal : (a b : List ℕ) → (a ≡ b → ⊥) → bytes_eq a b ≡ false
not_equal a b differ = elim (cases_Bool (bytes_eq a b)) [ inl e ↦ absurd (differ ((bytes_eq-Decides a b).0 e)) | inr e ↦ e ]

turned : (a b : List ℕ) → bytes_eq b a ≡ false → bytes_eq a b ≡ false
turned a b differ = not_equal a b (λ e. true≢false (sym ((bytes_eq-Decides b a).1 (sym e)) ∙ differ))

-- ---- the fate of a UPS, by its name

-- the UPSes after a reload, and their numbers
abbrev then_of : Configuration → List Event → Configuration → Numbering
then_of first h k = numbering first (past first (Reload k ∷ h))

-- the fate of a number at a reload
abbrev fate_in : Configuration → List Event → Configuration → ℕ → Fate
fate_in first h k u = fate_of k.upses (numbering first (past first h)) u

-- A UPS stays if its name is in both configurations.
fate_staying : (first : Configuration) (h : List Event) (k : Configuration) (name : List ℕ) (u : ℕ) (old new : Ups) → NamesAreDistinct first (Reload k ∷ h)
    → number_of name (numbering first (past first h)) ≡ Some u → ups_named name (numbering first (past first h)).upses ≡ Some old → ups_named name k.upses ≡ Some new
    → fate_in first h k u ≡ (if bytes_eq old.driver new.driver then Kept else Disconnected)
fate_staying first h k name u old new names is before after =
    let now = numbering first (past first h) in
    let later = then_of first h k in
    let was = number_is_of name u old now.upses now.numbers (distinct_numbers first h names.1) is before in
    let again = keeps-number first h (Reload k) name u new is after in
    let will = number_is_of name u new k.upses later.numbers (distinct_numbers first (Reload k ∷ h) names) again after in
    let same : bytes_eq old.name new.name ≡ true = (bytes_eq-Decides old.name new.name).1 (named_is name now.upses old before ∙ sym (named_is name k.upses new after)) in
    ap (λ o. fate_between o (ups_with u later)) was ∙ ap (fate_between (Some old)) will ∙ rw same refl

-- A number is cleared if the UPS that has it goes.
fate_going : (first : Configuration) (h : List Event) (k : Configuration) (name : List ℕ) (u : ℕ) → NamesAreDistinct first (Reload k ∷ h)
    → number_of name (numbering first (past first h)) ≡ Some u → ups_named name k.upses ≡ None → fate_in first h k u ≡ Cleared
fate_going first h k name u names is after = grind (arith, number_named, number_is_of, distinct_numbers, named_is, turned, ups_passes)

-- Every number that a new name gets is cleared.
fate_coming : (first : Configuration) (h : List Event) (k : Configuration) (name : List ℕ) (u : ℕ) → NamesAreDistinct first (Reload k ∷ h)
    → ups_named name (numbering first (past first h)).upses ≡ None → number_of name (then_of first h k) ≡ Some u → fate_in first h k u ≡ Cleared
fate_coming first h k name u names before is =
    let now = numbering first (past first h) in
    let later = then_of first h k in
    let new = number_named name u k.upses later.numbers is in
    let will = number_is_of name u new.0 k.upses later.numbers (distinct_numbers first (Reload k ∷ h) names) is new.1 in
    ap (fate_between (ups_with u now)) will ∙ by new.0 (named_is name k.upses new.0 new.1) (ups_with u now) refl where
      by : (new : Ups) → new.name ≡ name → (o : Option Ups) → ups_with u (numbering first (past first h)) ≡ o → fate_between o (Some new) ≡ Cleared
      by new own None there = refl
      by new own (Some old) there = rw (ap (bytes_eq old.name) own ∙ ups_passes (λ x. bytes_eq x.name name) u old (numbering first (past first h)).upses (numbering first (past first h)).numbers before there) refl

-- ---- the UPS of a number

supply_before : (first : Configuration) (h : List Event) (name : List ℕ) (u : ℕ) → number_of name (numbering first (past first h)) ≡ Some u
    → supply_of u (content first h).supplies ≡ Some (supply first h u)
supply_before first h name u is =
    let t = past first h in
    get_below u (places first t) (supply first h) (number_below (places first t) (numbering first t) name u (numbers_below first t) is)

supply_after : (first : Configuration) (h : List Event) (k : Configuration) (u : ℕ) → u < max (places first (past first h)) (length k.upses)
    → supply_of u (content first (Reload k ∷ h)).supplies ≡ Some (fated (fate_in first h k u) (supply first h u))
supply_after first h k u less = get_below u (max (places first (past first h)) (length k.upses)) (supply first (Reload k ∷ h)) less ∙ ap (λ d. Some d) (supply-reload first h k u)

-- a UPS with a number before
supply_then : (first : Configuration) (h : List Event) (k : Configuration) (name : List ℕ) (u : ℕ) → number_of name (numbering first (past first h)) ≡ Some u
    → supply_of u (content first (Reload k ∷ h)).supplies ≡ Some (fated (fate_in first h k u) (supply first h u))
supply_then first h k name u is =
    let t = past first h in
    supply_after first h k u (omega (arith, number_below (places first t) (numbering first t) name u (numbers_below first t) is))

-- ---- connections

-- A connection whose UPS isn't cleared is as it was.
stays_open : (first : Configuration) (h : List Event) (k : Configuration) (c : ℕ) (j : Session) → session_of c (content first h).sessions ≡ Some j
    → is_to_cleared (fate_in first h k) j.login ≡ false → session_of c (content first (Reload k ∷ h)).sessions ≡ Some j
stays_open first h k c j found kept =
    ap (λ s. session_of c s.sessions) (law-reload first h k)
    ∙ advance-other (content first h) (Reload k) c tt (ap (λ o. option_map_or (λ i. is_to_cleared (fate_in first h k) i.login) o false) found ∙ kept)
    ∙ found

none_passes : (c : ℕ) (p : ℕ → Bool) (f : ℕ → Session) (ns : List ℕ) → p c ≡ false → ((n : ℕ) → (f n).number ≡ n) → session_of c (map f (filter p ns)) ≡ None
none_passes c p f [] fails numbered = refl
none_passes c p f (n ∷ ns) fails numbered =
    elim (cases_Bool (p n)) [
      | inr e ↦ rw e (none_passes c p f ns fails numbered)
      | inl e ↦ elim (cases_Bool (eqb n c)) [
        | inl same ↦ absurd (true≢false (sym e ∙ ap p (eqb-true n c same) ∙ fails))
        | inr differ ↦ let test : eqb (f n).number c ≡ false = ap (λ m. eqb m c) (numbered n) ∙ differ in rw (e, test) (none_passes c p f ns fails numbered)
      ]
    ]

-- A connection whose UPS is cleared is closed.
is_closed : (first : Configuration) (h : List Event) (k : Configuration) (c : ℕ) (j : Session) → session_of c (content first h).sessions ≡ Some j
    → is_to_cleared (fate_in first h k) j.login ≡ true → session_of c (content first (Reload k ∷ h)).sessions ≡ None
is_closed first h k c j found cleared =
    let t = past first h in
    let own : login first c t ≡ j.login = ap (λ i. i.login) (sym (session_is first h c j found)) in
    none_passes c (λ d. not (is_to_cleared (fate_in first h k) (login first d t))) (session first (Reload k ∷ h)) (open_numbers t)
    (ap (λ o. not (is_to_cleared (fate_in first h k) o)) own ∙ ap not cleared) (λ d. refl)

-- ---- the law

keeps_login : (b : Bool) → is_cleared (if b then Kept else Disconnected) ≡ false
keeps_login b = grind arith

pub upses-stay : UpsesStay
upses-stay = record {
  same_driver = λ first h k name u old new names is before after same.
      let fate = fate_staying first h k name u old new names is before after ∙ ap (λ b. if b then Kept else Disconnected) ((bytes_eq-Decides old.driver new.driver).1 same) in
      supply_then first h k name u is ∙ ap (λ x. Some (fated x (supply first h u))) fate ∙ sym (supply_before first h name u is);
  other_driver = λ first h k name u old new names is before after differ.
      let fate = fate_staying first h k name u old new names is before after ∙ ap (λ b. if b then Kept else Disconnected) (not_equal old.driver new.driver differ) in
      supply_then first h k name u is ∙ ap (λ x. Some (fated x (supply first h u))) fate ∙ sym (ap (option_map down) (supply_before first h name u is));
  added = λ first h k name u names before is.
      let t = past first (Reload k ∷ h) in
      supply_after first h k u (number_below (places first t) (numbering first t) name u (numbers_below first t) is)
      ∙ ap (λ x. Some (fated x (supply first h u))) (fate_coming first h k name u names before is);
  gone = λ first h k name u names is after.
      supply_then first h k name u is ∙ ap (λ x. Some (fated x (supply first h u))) (fate_going first h k name u names is after);
  gone_logins = λ first h k name u c j names is after found own.
      is_closed first h k c j found (ap (is_to_cleared (fate_in first h k)) own ∙ ap is_cleared (fate_going first h k name u names is after));
  logins = λ first h k name u c new j names is after found own.
      let old = number_named name u (numbering first (past first h)).upses (numbering first (past first h)).numbers is in
      stays_open first h k c j found (ap (is_to_cleared (fate_in first h k)) own ∙ ap is_cleared (fate_staying first h k name u old.0 new names is old.1 after)
      ∙ keeps_login (bytes_eq old.0.driver new.driver));
  no_login = λ first h k c j found own. stays_open first h k c j found (ap (is_to_cleared (fate_in first h k)) own);
}
