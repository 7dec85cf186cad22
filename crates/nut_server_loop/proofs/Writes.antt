-- What a write to a peer, and closing it, do to `Served`.
use Rattle.std.proofs.Common.{◌≡◌, ℕ, ◌+◌, ◌<◌, ◌≤◌, Bool, true, false, List, [], ◌∷◌, ◌++◌, length, get_or, take, drop, Option, None, Result, Ok, Err, OnOk, if◌then◌else◌, refl, sym, ◌∙◌, ap, subst, inl, inr, arith}
use Rattle.std.specs.Prelude.{◌||◌}
use Rattle.std.proofs.lemmas.Bool.{cases_Bool}
use Rattle.std.proofs.lemmas.List.{length-take-le, at_drop_more}
use Rattle.nut_queue.specs.Front.{IsFrontPart}
use Rattle.nut_server_spec.specs.declared.Refused.{Refused}
use Rattle.nut_server_spec.specs.Configuration.{Configuration}
use Rattle.nut_server_spec.specs.Event.{Event}
use Rattle.nut_server_spec.specs.Event as event
use Rattle.nut_server_spec.specs.Content.{Content}
use Rattle.nut_server_spec.specs.Acceptance.{refusal, IsAccepted, Tells, session_of, leaves}
use Rattle.nut_io.specs.Writes.{IsWithin}
use Rattle.nut_io.specs.declared.types.Written.{Written}
use Rattle.nut_io.specs.declared.types.Written.TheVariants.{Took, Later, Failed}
use Rattle.nut_server_loop.specs.Record.{Entry, TookBytes, WasLate, WriteBroke, WasClosed, tells, tells_write, is_peer, late_after, late_in, waits_of}
use Rattle.nut_server_loop.specs.Served.{entries_of, history_of, since_begun, taken, took, failed, sent_to}
use Rattle.nut_server_loop.specs.inside.Going.{Serving}
use Rattle.nut_server_loop.specs.declared.types.Peer.{Peer}
use Rattle.nut_server_loop.specs.declared.types.Peer.TheVariants.{Connection}
use Rattle.nut_server_loop.proofs.Begun.{sent_on}
use Rattle.nut_server_loop.proofs.Peers.{is_peer-true, no_memory_took, no_memory_failed, no_memory_close, may_take, may_fail, may_close, taken_in-took, taken_in-failed, sent_to-took}
use Rattle.nut_server_loop.proofs.Steps.{Answered, Leads, goes_on, holds_on, length_of_front, take_of_front}

-- Bytes were taken for p, the first of those that waited.
more_taken : (first : Configuration) (h : List Event) (s : Content) (p q : Peer) (bytes before : List ℕ) → Tells first h s → refusal s (took p (length bytes)) ≡ None
    → IsAccepted first (took p (length bytes) ∷ h) → bytes ≡ take (length bytes) (waits_of p s) → before ≡ sent_to first q h
    → (if is_peer p q then since_begun first q (took p (length bytes) ∷ []) h before ++ bytes else since_begun first q (took p (length bytes) ∷ []) h before)
    ≡ sent_to first q (took p (length bytes) ∷ h)
more_taken first h s p q bytes before holds free accepted front same =
    let n : ℕ = length bytes in
    let since : List ℕ = since_begun first q (took p n ∷ []) h before in
    elim (cases_Bool (is_peer p q)) [
      | inl e ↦
          let here : sent_to first p (took p n ∷ h) ≡ sent_to first p h ++ bytes =
          sent_to-took first h s p n holds free ∙ ap (λ x. sent_to first p h ++ x) (sym front) in
          let there : sent_to first q (took p n ∷ h) ≡ sent_to first q h ++ bytes =
          subst (λ x. sent_to first x (took p n ∷ h) ≡ sent_to first x h ++ bytes) (is_peer-true p q e) here in
          ap (λ b. if b then since ++ bytes else since) e ∙ ap (λ x. x ++ bytes) (kept p ∙ same) ∙ sym there
      | inr e ↦
          ap (λ b. if b then since ++ bytes else since) e
          ∙ sent_on first h (took p n) q before (taken_in-took p q n ∙ ap (λ b. if b then n else 0) e) accepted same
    ]
  where
    kept : (p : Peer) → since_begun first q (took p (length bytes) ∷ []) h before ≡ before
    kept (Connection c) = refl
    kept p = refl

-- Bytes were taken, the first of those that waited.
took_bytes : (first : Configuration) (o o' : Option (List Entry)) (late late' : Peer → Bool) (s s' : Content) (p : Peer) (bytes : List ℕ) → (serving : Serving first o late s []) → o' ≡ tells (TookBytes p bytes) o
    → ((q : Peer) → late' q ≡ late q)
    → bytes ≡ take (length bytes) (waits_of p s) → refusal s (took p (length bytes)) ≡ None → Tells first (took p (length bytes) ∷ history_of serving.served.steps) s' → Serving first o' late' s' []
took_bytes first o o' late late' s s' p bytes serving more still front free holds =
    let served = serving.served in
    goes_on first o o' late' s s' [] [] (TookBytes p bytes) served (took p (length bytes) ∷ []) more
    (subst (λ t. refusal t (took p (length bytes)) ≡ None) served.holds.1 free, refl, refl)
    holds
    (λ q. more_taken first (history_of served.steps) s p q bytes (taken first q served.steps) served.holds free holds.0 front (served.sent_is q))
    (λ q is. serving.late_is q (sym (still q) ∙ is))

-- Some of what was offered was taken.
pub write_took : {U : Type 0} (first : Configuration) (o o' : Option (List Entry)) (late late' : Peer → Bool) (s s' : Content) (p : Peer) (part : List ℕ) (w : Written) (n : ℕ) (r : Result U Refused)
    → Serving first o late s [] → w ≡ Took n → o' ≡ tells_write w p part o → ((q : Peer) → late' q ≡ late_after w p late q) → IsWithin w (length part) → IsFrontPart part (waits_of p s)
    → Answered s (took p n) r → Leads s (took p n) r s' → Serving first o' late' s' []
write_took first o o' late late' s s' p part w n r serving is more says within front answer leads =
    let served = serving.served in
    let h : List Event = history_of served.steps in
    let inside : IsWithin (Took n) (length part) = subst (λ v. IsWithin v (length part)) is within in
    let some : 0 < n = inside.0 in
    let fits : n ≤ length part = inside.1 in
    let reach : n ≤ length (waits_of p s) = omega (arith, length_of_front part (waits_of p s) front) in
    let len : length (take n part) ≡ n = length-take-le n part fits in
    let told : o' ≡ tells (TookBytes p (take n part)) o = more ∙ ap (λ v. tells_write v p part o) is in
    let free = may_take first h s p n served.holds some reach in
    took_bytes first o o' late late' s s' p (take n part) serving told
    (λ q. says q ∙ ap (λ v. late_after v p late q) is)
    (take_of_front n part (waits_of p s) front fits ∙ ap (λ m. take m (waits_of p s)) (sym len))
    (subst (λ m. refusal s (took p m) ≡ None) (sym len) free)
    (subst (λ m. Tells first (took p m ∷ h) s') (sym len) (holds_on first h s s' (took p n) r served.holds free (no_memory_took p n) answer leads))

either_late : (before noted is : Bool) → (before ≡ true → noted ≡ true) → (before || is) ≡ true → (noted || is) ≡ true
either_late true noted is was now = rw (was refl) refl
either_late false noted true was now = or_true noted where
  or_true : (b : Bool) → (b || true) ≡ true
  or_true true = refl
  or_true false = refl
either_late false noted false was now = absurd (cc)

-- A write is to come later.
pub write_late : (first : Configuration) (o o' : Option (List Entry)) (late late' : Peer → Bool) (s : Content) (p : Peer) (part : List ℕ) (w : Written)
    → Serving first o late s [] → w ≡ Later → o' ≡ tells_write w p part o → ((q : Peer) → late' q ≡ late_after w p late q) → Serving first o' late' s []
write_late first o o' late late' s p part w serving is more says =
    goes_on first o o' late' s s [] [] (WasLate p) serving.served [] (more ∙ ap (λ v. tells_write v p part o) is) (refl, refl) serving.served.holds serving.served.sent_is
    (λ q now. either_late (late q) (late_in (entries_of serving.served.steps) q) (is_peer q p) (serving.late_is q) (sym (says q ∙ ap (λ v. late_after v p late q) is) ∙ now))

-- A write failed.
pub write_broke : {U : Type 0} (first : Configuration) (o o' : Option (List Entry)) (late late' : Peer → Bool) (s s' : Content) (p : Peer) (part : List ℕ) (w : Written) (r : Result U Refused)
    → Serving first o late s [] → w ≡ Failed → o' ≡ tells_write w p part o → ((q : Peer) → late' q ≡ late_after w p late q) → 0 < length (waits_of p s)
    → Answered s (failed p) r → Leads s (failed p) r s' → Serving first o' late' s' (p ∷ [])
write_broke first o o' late late' s s' p part w r serving is more says some answer leads =
    let served = serving.served in
    let h : List Event = history_of served.steps in
    let free = may_fail first h s p served.holds some in
    let holds = holds_on first h s s' (failed p) r served.holds free (no_memory_failed p) answer leads in
    goes_on first o o' late' s s' [] (p ∷ []) (WriteBroke p) served (failed p ∷ []) (more ∙ ap (λ v. tells_write v p part o) is)
    (subst (λ t. refusal t (failed p) ≡ None) served.holds.1 free, refl, refl)
    holds
    (λ q. sent_on first h (failed p) q (taken first q served.steps) (taken_in-failed p q) holds.0 (served.sent_is q))
    (λ q now. serving.late_is q (sym (says q ∙ ap (λ v. late_after v p late q) is) ∙ now))

-- The peer that is the next to be closed is closed.
pub closed_ended : (first : Configuration) (o o' : Option (List Entry)) (late late' : Peer → Bool) (s : Content) (p : Peer) (owed : List Peer)
    → Serving first o late s (p ∷ owed) → o' ≡ tells (WasClosed p) o → ((q : Peer) → late' q ≡ late q) → Serving first o' late' s owed
closed_ended first o o' late late' s p owed serving more still =
    goes_on first o o' late' s s (p ∷ owed) owed (WasClosed p) serving.served [] more (inl (refl, refl)) serving.served.holds serving.served.sent_is (λ q is. serving.late_is q (sym (still q) ∙ is))

pub closes_ended : {T E : Type 0} (r : Result T E) (first : Configuration) (o o' : Option (List Entry)) (late late' : Peer → Bool) (s : Content) (p : Peer)
    → Serving first o late s (p ∷ []) → OnOk r (o' ≡ tells (WasClosed p) o) → ((q : Peer) → late' q ≡ late q) → OnOk r (Serving first o' late' s [])
closes_ended (Ok _) first o o' late late' s p serving more still = closed_ended first o o' late late' s p [] serving more still
closes_ended (Err _) first o o' late late' s p serving more still = tt

-- The next of a list of peers that are to be closed is closed.
pub closed_next : (first : Configuration) (o o' : Option (List Entry)) (late late' : Peer → Bool) (s : Content) (peers : List ℕ → List Peer) (p : Peer) (numbers : List ℕ) (i : ℕ) → i < length numbers
    → peers (get_or numbers i 0 ∷ drop (i + 1) numbers) ≡ p ∷ peers (drop (i + 1) numbers)
    → Serving first o late s (peers (drop i numbers)) → o' ≡ tells (WasClosed p) o → ((q : Peer) → late' q ≡ late q) → Serving first o' late' s (peers (drop (i + 1) numbers))
closed_next first o o' late late' s peers p numbers i within next serving more still =
    closed_ended first o o' late late' s p (peers (drop (i + 1) numbers)) (subst (λ owed. Serving first o late s owed) (at_drop_more peers numbers i 0 within ∙ next) serving) more still

-- A connection that has logged out, and for which nothing waits, is closed.
pub closed_left : {U : Type 0} (first : Configuration) (o o' : Option (List Entry)) (late late' : Peer → Bool) (s s' : Content) (c : ℕ) (r : Result U Refused)
    → Serving first o late s [] → o' ≡ tells (WasClosed (Connection c)) o → ((q : Peer) → late' q ≡ late q) → leaves (session_of c s.sessions) ≡ true
    → Answered s (event.Close c) r → Leads s (event.Close c) r s' → Serving first o' late' s' []
closed_left first o o' late late' s s' c r serving more still left answer leads =
    let served = serving.served in
    let h : List Event = history_of served.steps in
    let holds = holds_on first h s s' (event.Close c) r served.holds (may_close s c left) (no_memory_close c) answer leads in
    goes_on first o o' late' s s' [] [] (WasClosed (Connection c)) served (event.Close c ∷ []) more
    (inr (subst (λ (t : Content). leaves (session_of c t.sessions) ≡ true) served.holds.1 left, refl, refl))
    holds
    (λ q. sent_on first h (event.Close c) q (taken first q served.steps) refl holds.0 (served.sent_is q))
    (λ q is. serving.late_is q (sym (still q) ∙ is))
