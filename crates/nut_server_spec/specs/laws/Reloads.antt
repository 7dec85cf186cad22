-- What a reload ends, and what it leaves as it is. Each law here is the contract of a function of the crate.
use Rattle.std.specs.Prelude.{◌≡◌, ℕ, ◌==◌, List, [], ◌∷◌, length, map, option_map, Some, None}
use Rattle.std.specs.List.{IsDistinct}
use Rattle.std.specs.Str.{bytes_eq}
use Rattle.nut_server_spec.specs.Configuration.{Configuration, Ups, ups_named}
use Rattle.nut_server_spec.specs.Event.{Event, Close, DriverDown, Reload}
use Rattle.nut_server_spec.specs.Numbering.{number_of}
use Rattle.nut_server_spec.specs.Content.{Session, Content, content, down, numbering_of, unheard}
use Rattle.nut_server_spec.specs.Acceptance.{IsAccepted, session_of, supply_of}
use Rattle.nut_server_spec.specs.Reloading.{drivers_ended, connections_ended}

-- ---- what a reload ends

-- the history h, and after it these drivers are disconnected, one by one
abbrev pub with_downs : List ℕ → List Event → List Event
with_downs [] h = h
with_downs (u ∷ us) h = with_downs us (DriverDown u ∷ h)

-- the history h, and after it these connections are closed, one by one
abbrev pub with_closes : List ℕ → List Event → List Event
with_closes [] h = h
with_closes (c ∷ cs) h = with_closes cs (Close c ∷ h)

-- The history h, after which the content is s, and after it the ends of what a reload of this configuration ends: its drivers
-- are disconnected, and then its connections are closed, each by rising number.
abbrev pub with_ends : Configuration → Content → List Event → List Event
with_ends configuration s h = with_closes (connections_ended configuration s) (with_downs (drivers_ended configuration s) h)

-- A reload leads to the same content if what it ends is ended before it, one by one. None of these events is refused.
pub record ReloadIsDownsThenClosesThenItself : Type 0 where
  pub same_content :
      (first : Configuration) (h : List Event) (k : Configuration) →
      content first (Reload k ∷ h) ≡ content first (Reload k ∷ with_ends k (content first h) h)
  pub accepted :
      (first : Configuration) (h : List Event) (k : Configuration) → IsAccepted first h →
      IsAccepted first (Reload k ∷ with_ends k (content first h) h)

-- ---- numbers

-- Whatever happens, a UPS keeps its number as long as its name is in the configuration.
abbrev pub KeepsItsNumber : Type 0
KeepsItsNumber =
    (first : Configuration) (h : List Event) (e : Event) (name : List ℕ) (u : ℕ) (ups : Ups) →
    number_of name (numbering_of (content first h)) ≡ Some u →
    ups_named name (content first (e ∷ h)).configuration.upses ≡ Some ups →
    number_of name (numbering_of (content first (e ∷ h))) ≡ Some u

-- No two of these UPSes have the same name.
abbrev pub AreNamedApart : List Ups → Type 0
AreNamedApart upses = IsDistinct bytes_eq (map (λ ups. ups.name) upses)

-- In the first configuration and in those of all reloads of a history, no two UPSes have the same name.
abbrev pub NamesAreDistinct : Configuration → List Event → Type 0
NamesAreDistinct first [] = AreNamedApart first.upses
NamesAreDistinct first (Reload configuration ∷ h) = AreNamedApart configuration.upses × NamesAreDistinct first h
NamesAreDistinct first (e ∷ h) = NamesAreDistinct first h

-- After every history each UPS has one number. If names are distinct in all configurations of the history, no two UPSes
-- have the same number.
pub record NumbersAreDistinct : Type 0 where
  pub each : (first : Configuration) (h : List Event) → length (content first h).numbers ≡ length (content first h).configuration.upses
  pub distinct :
      (first : Configuration) (h : List Event) → NamesAreDistinct first h → IsDistinct (λ m n. m == n) (content first h).numbers

-- ---- what stays

-- What a reload makes of each UPS, by its name and its number, if names are distinct in all configurations of the
-- history.
pub record UpsesStay : Type 0 where
  -- Where both configurations have the name, and with the same driver, all that is known of the UPS stays.
  pub same_driver :
      (first : Configuration) (h : List Event) (k : Configuration) (name : List ℕ) (u : ℕ) (old new : Ups) → NamesAreDistinct first (Reload k ∷ h) →
      number_of name (numbering_of (content first h)) ≡ Some u →
      ups_named name (content first h).configuration.upses ≡ Some old → ups_named name k.upses ≡ Some new → old.driver ≡ new.driver →
      supply_of u (content first (Reload k ∷ h)).supplies ≡ supply_of u (content first h).supplies
  -- With another driver, the old one is disconnected, and what it reported stays.
  pub other_driver :
      (first : Configuration) (h : List Event) (k : Configuration) (name : List ℕ) (u : ℕ) (old new : Ups) → NamesAreDistinct first (Reload k ∷ h) →
      number_of name (numbering_of (content first h)) ≡ Some u →
      ups_named name (content first h).configuration.upses ≡ Some old → ups_named name k.upses ≡ Some new → (old.driver ≡ new.driver → ⊥) →
      supply_of u (content first (Reload k ∷ h)).supplies ≡ option_map down (supply_of u (content first h).supplies)
  -- Nothing is known of a UPS whose name is new.
  pub added :
      (first : Configuration) (h : List Event) (k : Configuration) (name : List ℕ) (u : ℕ) → NamesAreDistinct first (Reload k ∷ h) →
      ups_named name (content first h).configuration.upses ≡ None → number_of name (numbering_of (content first (Reload k ∷ h))) ≡ Some u →
      supply_of u (content first (Reload k ∷ h)).supplies ≡ Some unheard
  -- Nothing stays under the number of a UPS that goes: its flag and its tracked requests are gone.
  pub gone :
      (first : Configuration) (h : List Event) (k : Configuration) (name : List ℕ) (u : ℕ) → NamesAreDistinct first (Reload k ∷ h) →
      number_of name (numbering_of (content first h)) ≡ Some u → ups_named name k.upses ≡ None →
      supply_of u (content first (Reload k ∷ h)).supplies ≡ Some unheard
  -- A connection that is logged in to it is closed.
  pub gone_logins :
      (first : Configuration) (h : List Event) (k : Configuration) (name : List ℕ) (u c : ℕ) (j : Session) → NamesAreDistinct first (Reload k ∷ h) →
      number_of name (numbering_of (content first h)) ≡ Some u → ups_named name k.upses ≡ None →
      session_of c (content first h).sessions ≡ Some j → j.login ≡ Some u → session_of c (content first (Reload k ∷ h)).sessions ≡ None
  -- A connection that is logged in to a UPS that stays is as it was.
  pub logins :
      (first : Configuration) (h : List Event) (k : Configuration) (name : List ℕ) (u c : ℕ) (new : Ups) (j : Session) →
      NamesAreDistinct first (Reload k ∷ h) →
      number_of name (numbering_of (content first h)) ≡ Some u → ups_named name k.upses ≡ Some new →
      session_of c (content first h).sessions ≡ Some j → j.login ≡ Some u → session_of c (content first (Reload k ∷ h)).sessions ≡ Some j
  -- So is one that isn't logged in.
  pub no_login :
      (first : Configuration) (h : List Event) (k : Configuration) (c : ℕ) (j : Session) →
      session_of c (content first h).sessions ≡ Some j → j.login ≡ None → session_of c (content first (Reload k ∷ h)).sessions ≡ Some j
