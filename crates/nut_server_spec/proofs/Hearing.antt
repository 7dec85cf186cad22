-- How a content changes with the bytes of a connection, line by line.
use Rattle.std.proofs.Common.{arith}
use Rattle.std.proofs.Common.{◌≡◌, ℕ, true, false, eqb, List, [], ◌∷◌, map, refl, sym, ◌∙◌, ap, inl, inr, Some}
use Rattle.std.specs.Prelude.{if◌then◌else◌}
use Rattle.std.proofs.lemmas.Bool.{cases_Bool}
use Rattle.nut_words.specs.Lines.{LineText, joined}
use Rattle.nut_server_spec.specs.Command.{Command, command_of}
use Rattle.nut_server_spec.specs.Answer.{Answer, Silence, answer}
use Rattle.nut_server_spec.specs.Content.{Session, Content}
use Rattle.nut_server_spec.specs.Acceptance.{session_of}
use Rattle.nut_server_spec.specs.machine.Machine.{update, with_rest, with_sessions, guest_of, caller_of, scene_of, answer_in, after_answer, byte_heard}
use Rattle.nut_server_spec.proofs.Sessions.{KeepsNumber, session_of-update}

-- ---- updates of one session

pub update-update : (c : ℕ) (f g : Session → Session) (sessions : List Session) → KeepsNumber f → update c g (update c f sessions) ≡ update c (λ k. g (f k)) sessions
update-update c f g [] keeps = refl
update-update c f g (k ∷ sessions) keeps =
    elim (cases_Bool (eqb k.number c)) [
      | inl e ↦ let e' : eqb (f k).number c ≡ true = ap (λ n. eqb n c) (keeps k) ∙ e in rw (e, e') refl
      | inr e ↦ rw (e, e) (ap (λ ks. k ∷ ks) (update-update c f g sessions keeps))
    ]

-- What an update keeps of every session is kept of the sessions.
update-map : {A : Type 0} (f : Session → A) (c : ℕ) (change : Session → Session) (sessions : List Session) → ((k : Session) → f (change k) ≡ f k) → map f (update c change sessions) ≡ map f sessions
update-map f c change [] keeps = refl
update-map f c change (k ∷ sessions) keeps =
    elim (cases_Bool (eqb k.number c)) [
      | inl e ↦ rw e (ap (λ x. x ∷ map f sessions) (keeps k))
      | inr e ↦ rw e (ap (λ xs. f k ∷ xs) (update-map f c change sessions keeps))
    ]

update-same : (c : ℕ) (r : LineText) (sessions : List Session) (k : Session) → session_of c sessions ≡ Some k → k.rest ≡ r → update c (with_rest r) sessions ≡ sessions
update-same c r [] k found is = refl
update-same c r (j ∷ sessions) k found is =
    elim (cases_Bool (eqb j.number c)) [
      | inl e ↦
          let here : Some j ≡ Some k = rw e at found in
          let same : j ≡ k = cc in
          rw e (ap (λ x. record j { rest = x } ∷ sessions) (sym (ap (λ k. k.rest) same ∙ is)))
      | inr e ↦ rw e (ap (λ ks. j ∷ ks) (update-same c r sessions k (rw e at found) is))
    ]

-- ---- one byte

-- the content in which c has this unfinished line
abbrev pub with_unfinished : ℕ → LineText → Content → Content
with_unfinished c r s = with_sessions (update c (with_rest r) s.sessions) s

-- If c has this unfinished line already, that content is the same.
pub with_unfinished-same : (c : ℕ) (r : LineText) (s : Content) (k : Session) → session_of c s.sessions ≡ Some k → k.rest ≡ r → with_unfinished c r s ≡ s
with_unfinished-same c r s k found is = ap (λ sessions. with_sessions sessions s) (update-same c r s.sessions k found is)

pub byte_other : (c b : ℕ) (r : LineText) (s : Content) → eqb b 10 ≡ false → byte_heard c b (with_unfinished c r s) ≡ with_unfinished c (joined r (b ∷ [])) s
byte_other c b r s other = grind (arith, update-update)

-- What the server knows when it answers a line doesn't depend on unfinished lines.
scene-unfinished : (c : ℕ) (r : LineText) (s : Content) → scene_of (with_unfinished c r s) ≡ scene_of s
scene-unfinished c r s = ap (λ guests. record (scene_of s) { guests = guests }) (update-map guest_of c (with_rest r) s.sessions (λ k. refl))

answer-unfinished : (c : ℕ) (r : LineText) (s : Content) (command : Command) (k : Session) → answer_in (with_unfinished c r s) command (with_rest r k) ≡ answer_in s command k
answer-unfinished c r s command k = ap (λ scene. if k.logged_out then Silence else answer scene (caller_of k) command) (scene-unfinished c r s)

after-unfinished : (c : ℕ) (r : LineText) (s : Content) (command : Command) (reply : Answer) → after_answer c command reply (with_unfinished c r s) ≡ after_answer c command reply s
after-unfinished c r s command reply = grind (arith, update-update)

pub byte_feed : (c b : ℕ) (r : LineText) (s : Content) (k : Session) → session_of c s.sessions ≡ Some k → eqb b 10 ≡ true
    → byte_heard c b (with_unfinished c r s) ≡ after_answer c (command_of r) (answer_in s (command_of r) k) s
byte_feed c b r s k found is = grind (arith, session_of-update, answer-unfinished, after-unfinished)
