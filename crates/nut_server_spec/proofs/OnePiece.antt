-- What waits for a client is the end of the answers to its newest piece.
use Rattle.std.proofs.Common.{◌≡◌, ℕ, ◌≤◌, eqb, List, [], ◌∷◌, ◌++◌, length, take, refl, sym, subst, ◌∙◌, ap, arith, inl, inr, append_assoc, append-nil, None}
use Rattle.std.proofs.lemmas.Bool.{cases_Bool, eqb-true}
use Rattle.nut_words.specs.Quoting.{Begins}
use Rattle.nut_server_spec.specs.Configuration.{Configuration}
use Rattle.nut_server_spec.specs.Event.{Event, Bytes}
use Rattle.nut_server_spec.specs.Trace.{due}
use Rattle.nut_server_spec.specs.Content.{content, past, sent, waits}
use Rattle.nut_server_spec.specs.Acceptance.{IsAccepted, refusal, session_of, waiting_of}
use Rattle.nut_server_spec.specs.laws.Laws.{WaitsForOnePiece, before_piece}
use Rattle.nut_server_spec.proofs.Kept.{all_covered}
use Rattle.nut_server_spec.proofs.Tells.{bytes_open}
use Rattle.nut_server_spec.proofs.Sent.{sent-bytes, sent-step, sent-waiting-due, sent-waits, taken_by, waiting_is}
use Rattle.nut_server_spec.proofs.Waiting.{piece_accepted}

empty_of : (bytes : List ℕ) → length bytes ≤ 0 → bytes ≡ []
empty_of [] le = refl
empty_of (b ∷ bytes) le = absurd (omega (arith, le))

-- If a piece is accepted nothing waits, so all that was due has been sent.
all_sent : (first : Configuration) (h : List Event) (c : ℕ) (piece : List ℕ) → refusal (content first h) (Bytes c piece) ≡ None → sent first c h ≡ due c (past first h)
all_sent first h c piece accepted =
    let found = bytes_open piece (session_of c (content first h).sessions) accepted in
    let none : waiting_of c (content first h).sessions ≡ [] =
    empty_of (waiting_of c (content first h).sessions) (piece_accepted piece (session_of c (content first h).sessions) accepted).1 in
    sym (append-nil (sent first c h))
    ∙ ap (λ w. sent first c h ++ w) (sym none ∙ waiting_is first h c found.0 found.1)
    ∙ sent-waits first h c

-- What was sent only grows.
sent_grows : (first : Configuration) (h : List Event) (c : ℕ) (e : Event) (old : List ℕ) → IsAccepted first h → Begins old (sent first c h) → Begins old (sent first c (e ∷ h))
sent_grows first h c e old accepted begins =
    let more = take (taken_by c e) (waits first c h) in
    (begins.0 ++ more, sent-step first h c e accepted ∙ ap (λ s. s ++ more) begins.1 ∙ append_assoc old begins.0 more)

-- The answers that were due before the newest piece have been sent.
earlier_sent : (first : Configuration) (h : List Event) (c : ℕ) → IsAccepted first h → Begins (due c (past first (before_piece c h))) (sent first c h)
earlier_sent first [] c accepted = ([], refl)
earlier_sent first (Bytes d piece ∷ h) c accepted =
    elim (cases_Bool (eqb d c)) [
      | inl e ↦
          let own : refusal (content first h) (Bytes c piece) ≡ None = subst (λ x. refusal (content first h) (Bytes x piece) ≡ None) (eqb-true d c e) accepted.1 in
          rw e ([], sent-bytes first h d c piece (all_covered first h c accepted.0) ∙ all_sent first h c piece own ∙ sym (append-nil (due c (past first h))))
      | inr e ↦
          let before = earlier_sent first h c accepted.0 in
          rw e (before.0, sent-bytes first h d c piece (all_covered first h c accepted.0) ∙ before.1)
    ]
earlier_sent first (e ∷ h) c accepted = sent_grows first h c e (due c (past first (before_piece c h))) accepted.0 (earlier_sent first h c accepted.0)

pub waits-for-one-piece : WaitsForOnePiece
waits-for-one-piece first h c k accepted found =
    let earlier = earlier_sent first h c accepted in
    (earlier.0, sym (sent-waiting-due first h c k accepted found) ∙ ap (λ s. s ++ k.waits) earlier.1)
