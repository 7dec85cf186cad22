-- The session found under a number after one session is changed or removed, and after bytes of one.
use Rattle.std.proofs.Common.{arith}
use Rattle.std.proofs.Common.{◌≡◌, ℕ, true, false, eqb, List, [], ◌∷◌, ◌++◌, drop, refl, ◌∙◌, ap, inl, inr, Some, None, Bool, filter}
use Rattle.std.specs.Prelude.{if◌then◌else◌, map, option_map}
use Rattle.nut_server_spec.specs.Numbering.{is_taken}
use Rattle.std.proofs.Math.Seq.{drop-nil}
use Rattle.std.proofs.lemmas.Bool.{cases_Bool, eqb-true, eq-eqb}
use Rattle.nut_server_spec.specs.Content.{Session, Content}
use Rattle.nut_server_spec.specs.Acceptance.{session_of, waiting_of}
use Rattle.nut_server_spec.specs.machine.Machine.{update, without, byte_heard, bytes_heard}
use Rattle.nut_server_spec.proofs.Law.{eqb_turn}
use Rattle.std.specs.Option.{option_map_or}

-- a change that keeps the number of a session
abbrev pub KeepsNumber : (Session → Session) → Type 0
KeepsNumber change = (k : Session) → (change k).number ≡ k.number

not_both : (n c d : ℕ) → eqb d c ≡ false → eqb n c ≡ true → eqb n d ≡ false
not_both n c d differ is = ap (λ m. eqb m d) (eqb-true n c is) ∙ eqb_turn d c differ

pub session_of-update : (c : ℕ) (change : Session → Session) (sessions : List Session) → KeepsNumber change → session_of c (update c change sessions) ≡ option_map change (session_of c sessions)
session_of-update c change [] keeps = refl
session_of-update c change (k ∷ sessions) keeps =
    elim (cases_Bool (eqb k.number c)) [
      | inl e ↦ let e' : eqb (change k).number c ≡ true = ap (λ n. eqb n c) (keeps k) ∙ e in rw (e, e') refl
      | inr e ↦ rw (e, e) (session_of-update c change sessions keeps)
    ]

pub session_of-update_other : (c d : ℕ) (change : Session → Session) (sessions : List Session) → KeepsNumber change → eqb d c ≡ false → session_of d (update c change sessions) ≡ session_of d sessions
session_of-update_other c d change [] keeps differ = refl
session_of-update_other c d change (k ∷ sessions) keeps differ =
    elim (cases_Bool (eqb k.number c)) [
      | inl e ↦
          let old : eqb k.number d ≡ false = not_both k.number c d differ e in
          let later : eqb (change k).number d ≡ false = ap (λ n. eqb n d) (keeps k) ∙ old in
          rw (e, old, later) refl
      | inr e ↦ rw e (elim (cases_Bool (eqb k.number d)) [
        | inl f ↦ rw f refl
        | inr f ↦ rw f (session_of-update_other c d change sessions keeps differ)
      ])
    ]

pub session_of-without : (c : ℕ) (sessions : List Session) → session_of c (without c sessions) ≡ None
session_of-without c [] = refl
session_of-without c (k ∷ sessions) =
    elim (cases_Bool (eqb k.number c)) [
      | inl e ↦ rw e (session_of-without c sessions)
      | inr e ↦ rw (e, e) (session_of-without c sessions)
    ]

pub session_of-without_other : (c d : ℕ) (sessions : List Session) → eqb d c ≡ false → session_of d (without c sessions) ≡ session_of d sessions
session_of-without_other c d [] differ = refl
session_of-without_other c d (k ∷ sessions) differ =
    elim (cases_Bool (eqb k.number c)) [
      | inl e ↦ let old : eqb k.number d ≡ false = not_both k.number c d differ e in rw (e, old) (session_of-without_other c d sessions differ)
      | inr e ↦ rw e (elim (cases_Bool (eqb k.number d)) [
        | inl f ↦ rw f refl
        | inr f ↦ rw f (session_of-without_other c d sessions differ)
      ])
    ]

-- A session that is changed and then removed is the same as one that is removed.
pub without-update : (c : ℕ) (change : Session → Session) (sessions : List Session) → KeepsNumber change → without c (update c change sessions) ≡ without c sessions
without-update c change [] keeps = refl
without-update c change (k ∷ sessions) keeps =
    elim (cases_Bool (eqb k.number c)) [
      | inl e ↦ let e' : eqb (change k).number c ≡ true = ap (λ n. eqb n c) (keeps k) ∙ e in rw (e, e') refl
      | inr e ↦ rw (e, e) (ap (λ ks. k ∷ ks) (without-update c change sessions keeps))
    ]

-- a session added at the end
pub session_of-push : (c : ℕ) (k : Session) (sessions : List Session) → session_of c sessions ≡ None → k.number ≡ c → session_of c (sessions ++ k ∷ []) ≡ Some k
session_of-push c k [] none is = let e : eqb k.number c ≡ true = eq-eqb k.number c is in rw e refl
session_of-push c k (j ∷ sessions) none is =
    elim (cases_Bool (eqb j.number c)) [
      | inl e ↦ absurd (let bad : Some j ≡ None = rw e at none in cc)
      | inr e ↦ rw e (session_of-push c k sessions (rw e at none) is)
    ]

pub session_of-push_other : (d : ℕ) (k : Session) (sessions : List Session) → eqb k.number d ≡ false → session_of d (sessions ++ k ∷ []) ≡ session_of d sessions
session_of-push_other d k [] differ = rw differ refl
session_of-push_other d k (j ∷ sessions) differ =
    elim (cases_Bool (eqb j.number d)) [
      | inl e ↦ rw e refl
      | inr e ↦ rw e (session_of-push_other d k sessions differ)
    ]

-- what waits after n bytes were taken
abbrev after_took : ℕ → Session → Session
after_took n k = record k { waits = drop n k.waits }

pub waiting_of-took : (c n : ℕ) (sessions : List Session) → waiting_of c (update c (λ k. record k { waits = drop n k.waits }) sessions) ≡ drop n (waiting_of c sessions)
waiting_of-took c n sessions = grind (arith, session_of-update, drop-nil)

-- ---- bytes of a connection

-- What holds of sessions, and of those after any change of c that leaves its number and its address, holds after bytes of c.
module _ (P : List Session → Type 0) (c : ℕ)
    (keeps : (change : Session → Session) (ks : List Session) → KeepsNumber change → ((k : Session) → (change k).address ≡ k.address) → P ks → P (update c change ks)) where
  byte_heard-keeps : (b : ℕ) (s : Content) → P s.sessions → P (byte_heard c b s).sessions
  byte_heard-keeps b s is = grind (arith, cases_Bool)

  pub bytes_heard-keeps : (piece : List ℕ) (s : Content) → P s.sessions → P (bytes_heard c piece s).sessions
  bytes_heard-keeps [] s is = is
  bytes_heard-keeps (b ∷ piece) s is = bytes_heard-keeps piece (byte_heard c b s) (byte_heard-keeps b s is)

-- The sessions of other connections stay as they are.
pub bytes_heard-other : (c d : ℕ) (piece : List ℕ) (s : Content) → eqb d c ≡ false → session_of d (bytes_heard c piece s).sessions ≡ session_of d s.sessions
bytes_heard-other c d piece s differ =
    bytes_heard-keeps (λ ks. session_of d ks ≡ session_of d s.sessions) c (λ change ks keeps same is. session_of-update_other c d change ks keeps differ ∙ is) piece s refl

-- The connection c is open.
abbrev pub IsOpen : ℕ → Content → Type 0
IsOpen c s = (k : Session) × (session_of c s.sessions ≡ Some k)

pub bytes_heard-open : (c : ℕ) (piece : List ℕ) (s : Content) → IsOpen c s → IsOpen c (bytes_heard c piece s)
bytes_heard-open c piece s is =
    bytes_heard-keeps (λ ks. (k : Session) × (session_of c ks ≡ Some k)) c
    (λ change ks keeps same open'. (change open'.0, session_of-update c change ks keeps ∙ ap (option_map change) open'.1)) piece s is

-- ---- some connections are closed

pub session_of-filter : (d : ℕ) (q : Session → Bool) (sessions : List Session) → option_map_or q (session_of d sessions) true ≡ true → session_of d (filter q sessions) ≡ session_of d sessions
session_of-filter d q [] stays = refl
session_of-filter d q (k ∷ sessions) stays =
    elim (cases_Bool (eqb k.number d)) [
      | inl e ↦ let here : q k ≡ true = rw e at stays in rw (here, e) refl
      | inr e ↦
          let later : option_map_or q (session_of d sessions) true ≡ true = rw e at stays in
          elim (cases_Bool (q k)) [
            | inl f ↦ rw (f, e) (session_of-filter d q sessions later)
            | inr f ↦ rw (f, e) (session_of-filter d q sessions later)
          ]
    ]

-- the session with a number, among those of these numbers
pub session_of-map : (f : ℕ → Session) (c : ℕ) (ns : List ℕ) → ((d : ℕ) → (f d).number ≡ d) → session_of c (map f ns) ≡ (if is_taken c ns then Some (f c) else None)
session_of-map f c [] numbered = refl
session_of-map f c (n ∷ ns) numbered =
    let test : eqb (f n).number c ≡ eqb n c = ap (λ m. eqb m c) (numbered n) in
    elim (cases_Bool (eqb n c)) [
      | inl e ↦ let here : eqb (f n).number c ≡ true = test ∙ e in rw (here, e) (ap (λ m. Some (f m)) (eqb-true n c e))
      | inr e ↦ let here : eqb (f n).number c ≡ false = test ∙ e in rw (here, e) (session_of-map f c ns numbered)
    ]
