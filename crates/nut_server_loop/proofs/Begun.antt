-- What a peer was sent after an event in which it takes nothing, and after a refusal.
use Rattle.std.proofs.Common.{◌≡◌, ◌++◌, ℕ, zero, suc, Bool, true, false, eqb, List, [], ◌∷◌, take, if◌then◌else◌, refl, sym, ◌∙◌, ap, append-nil}
use Rattle.nut_server_spec.specs.declared.Place.TheVariants.{Line, Report}
use Rattle.nut_server_spec.specs.declared.Refused.{Refused}
use Rattle.nut_server_spec.specs.declared.Refused.TheVariants.{Memory}
use Rattle.nut_server_spec.specs.Configuration.{Configuration}
use Rattle.nut_server_spec.specs.Event.{Event, Bytes, Took, DriverBytes, DriverTook, DriverUp}
use Rattle.nut_server_spec.specs.Trace.{driver_sent, driver_waits}
use Rattle.nut_server_spec.specs.Content.{past}
use Rattle.nut_server_spec.specs.Acceptance.{IsAccepted}
use Rattle.nut_server_spec.specs.machine.MachineOutcome.{lost, lost_report}
use Rattle.nut_server_spec.specs.Outcome.{after_refusal}
use Rattle.nut_server_spec.proofs.Sent.{taken_by, sent-other, sent-refused}
use Rattle.nut_server_spec.proofs.DriverSent.{drained_by, driver_sent-step, driver_sent-refused}
use Rattle.nut_server_spec.proofs.DriverSent as server
use Rattle.nut_server_loop.specs.Served.{begins_anew, since_begun, sent_to}
use Rattle.nut_server_loop.specs.declared.types.Peer.{Peer}
use Rattle.nut_server_loop.specs.declared.types.Peer.TheVariants.{Connection, Driver}

-- how many bytes a peer takes in an event
abbrev pub taken_in : Event → Peer → ℕ
taken_in (Took d n) (Connection c) = if eqb d c then n else 0
taken_in (DriverTook v n) (Driver u) = if eqb v u then n else 0
taken_in e p = 0

taken_is : (e : Event) (c : ℕ) → taken_by c e ≡ taken_in e (Connection c)
taken_is (Took d n) c = refl
taken_is e c = refl

drained_is : (e : Event) (u : ℕ) → drained_by u e ≡ taken_in e (Driver u)
drained_is (DriverTook v n) u = refl
drained_is e u = refl

same_anew : (first : Configuration) (h : List Event) (u : ℕ) (e : Event) → begins_anew first h e (Driver u) ≡ server.begins_anew first h u e
same_anew first h u (DriverUp v) = refl
same_anew first h u e = refl

never_anew : (first : Configuration) (h : List Event) (c : ℕ) (e : Event) → begins_anew first h e (Connection c) ≡ false
never_anew first h c (DriverUp v) = refl
never_anew first h c e = refl

-- An accepted event in which a peer takes nothing.
pub sent_on : (first : Configuration) (h : List Event) (e : Event) (p : Peer) (before : List ℕ) → taken_in e p ≡ 0 → IsAccepted first (e ∷ h) → before ≡ sent_to first p h
    → since_begun first p (e ∷ []) h before ≡ sent_to first p (e ∷ h)
sent_on first h e (Connection c) before nothing accepted same =
    ap (λ b. if b then [] else before) (never_anew first h c e) ∙ same ∙ sym (sent-other first h c e accepted.0 (taken_is e c ∙ nothing))
sent_on first h e (Driver u) before nothing accepted same =
    ap (λ b. if b then [] else before) (same_anew first h u e)
    ∙ by (server.begins_anew first h u e)
    ∙ sym (driver_sent-step first h u e accepted)
  where
    by : (b : Bool) → (if b then [] else before) ≡ (if b then [] else driver_sent u (past first h) ++ take (drained_by u e) (driver_waits u (past first h)))
    by true = refl
    by false =
        same ∙ sym (append-nil (driver_sent u (past first h)))
        ∙ ap (λ n. driver_sent u (past first h) ++ take n (driver_waits u (past first h))) (sym (drained_is e u ∙ nothing))

-- ---- a refusal

pub sent_to-refused : (first : Configuration) (h : List Event) (p : Peer) (r : Refused) (e : Event) → IsAccepted first h → sent_to first p (after_refusal r e h) ≡ sent_to first p h
sent_to-refused first h (Connection c) r e accepted = sent-refused first h c r e accepted
sent_to-refused first h (Driver u) r e accepted = driver_sent-refused first h u r e accepted

-- These events lead from the history h to that after it, and change nothing of the bytes that were taken.
pub record Leaves (first : Configuration) (h : List Event) (p : Peer) (before : List ℕ) (events after : List Event) : Type 0 where
  pub joins : events ++ h ≡ after
  pub stays : since_begun first p events h before ≡ before

module _ (first : Configuration) (h : List Event) (p : Peer) (before : List ℕ) where
  nothing : Leaves first h p before [] h
  nothing = record { joins = refl; stays = refl }

  leaves_line : (c : ℕ) (piece : List ℕ) (k : ℕ) → Leaves first h p before (lost c piece k []) (lost c piece k h)
  leaves_line c piece zero = record { joins = refl; stays = refl }
  leaves_line c piece (suc k) = record { joins = refl; stays = refl }

  leaves_report : (v : ℕ) (piece : List ℕ) (k : ℕ) → Leaves first h p before (lost_report v piece k []) (lost_report v piece k h)
  leaves_report v piece zero = record { joins = refl; stays = refl }
  leaves_report v piece (suc k) = record { joins = refl; stays = refl }

  pub refusal_leaves : (r : Refused) (e : Event) → Leaves first h p before (after_refusal r e []) (after_refusal r e h)
  refusal_leaves (Memory (Line c k)) (Bytes b piece) = leaves_line b piece k
  refusal_leaves (Memory (Report w k)) (DriverBytes v piece) = leaves_report v piece k
  refusal_leaves r e = nothing
