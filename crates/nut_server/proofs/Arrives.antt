-- What an arrival changes.
use Rattle.std.proofs.Common.{◌≡◌, ℕ, ◌<◌, ◌≤◌, List, [], ◌∷◌, length, sym, ◌∙◌, ap, subst, inl, inr, eqb, Option, Some, None, IfSome, Result, Ok, Err, slice_set, slice_index_or, arith}
use Rattle.std.specs.Prelude.{IsTrue}
use Rattle.std.proofs.lemmas.Bool.{cases_Bool, eqb-true, false≢true}
use Rattle.std.proofs.lemmas.List.{length-map}
use Rattle.nut_server_spec.specs.declared.Refused.{Refused}
use Rattle.nut_server_spec.specs.declared.Refused.TheVariants.{Memory}
use Rattle.nut_server_spec.specs.Configuration.{Configuration}
use Rattle.nut_server_spec.specs.Event.{Event}
use Rattle.nut_server_spec.specs.Content.{Session, Supply, Content, down}
use Rattle.nut_server_spec.specs.Acceptance.{Tells, refusal, session_of}
use Rattle.nut_server_spec.specs.machine.Machine.{without, update_at}
use Rattle.nut_server_spec.specs.laws.Laws.{IsUpTo}
use Rattle.nut_server_spec.specs.Outcome.{IsAnswer, after}
use Rattle.nut_server_spec.specs.machine.MachineOutcome.{Answers, content_after}
use Rattle.nut_server_spec.proofs.Tells.{answers-told, tells-after}
use Rattle.nut_server_spec.specs.declared.limits.TheConstants.{OPENED_MAX}
use Rattle.nut_server.specs.declared.server.Parts.TheInside.{Inside}
use Rattle.nut_server.specs.inside.Inside.{numbers_of}
use Rattle.nut_server.specs.inside.Parts.{IsOrderly}
use Rattle.nut_server.specs.Settling.{is_unsettled, IsNextUnsettled}
use Rattle.nut_server_spec.proofs.AnswerLengths.{fewer}
use Rattle.nut_server_spec.proofs.Places.{update_at-twice}
use Rattle.nut_server.proofs.Acting.{update_at_written}
use Rattle.nut_server.proofs.Orderly.{IsUpTo-filter}

pub numbers-length : (ks : List Session) → length (numbers_of ks) ≡ length ks
numbers-length ks = length-map ks (λ k. k.number)

-- Without a connection, the parts of a server are still in order.
pub orderly_without : (c : ℕ) (i : Inside) (ks : List Session) → ks ≡ without c i.connections → IsOrderly i → IsOrderly (record i { connections = ks })
orderly_without c i ks is before =
    let less : length ks ≤ length i.connections = subst (λ ks. length ks ≤ length i.connections) (sym is) (fewer _ i.connections) in
    record {
      up_to = subst (λ ks. IsUpTo i.opened (numbers_of ks)) (sym is) (IsUpTo-filter _ i.opened i.connections before.up_to);
      few = before.few;
      within = omega (arith, numbers-length ks, numbers-length i.connections, less, before.within);
      limits = before.limits;
      placed = before.placed;
      places = before.places;
    }

-- a UPS that is changed, and whose driver is then disconnected
pub gone_after : (u : ℕ) (change : Supply → Supply) (ds : List Supply) (d d' : Supply) → u < length ds → d ≡ slice_index_or ds u d → d' ≡ down (change d) → slice_set ds u d' ≡ update_at u down (update_at u change ds)
gone_after u change ds d d' lt is new = update_at_written u (λ d. down (change d)) ds d d' lt is new ∙ sym (update_at-twice u change down ds)

-- The history after the answer is that of the new content.
pub stands_after : (old new : Content) (e : Event) (r : Result (Unit {0}) Refused) → Answers old e r → new ≡ content_after r old e
    → (first : Configuration) (h : List Event) → Tells first h old → Tells first (after r e h) new
stands_after old new e r answered is first h told =
    let P : Content → Type 0 = Tells first (after r e h) in
    subst P (sym is) (tells-after first h old e r told answered)

-- the machine's answer is one that the history allows
pub answer_told : (old : Content) (e : Event) (r : Result (Unit {0}) Refused) → Answers old e r → (first : Configuration) (h : List Event) → Tells first h old → IsAnswer first h e r
answer_told old e r answered first h told = answers-told first h old e r told answered

-- A refused event changes nothing.
pub refused_is : (old new : Content) (e : Event) (r : Result (Unit {0}) Refused) → Answers old e r → new ≡ content_after r old e
    → (x : Refused) → refusal old e ≡ Some x → (r ≡ Err x) × (new ≡ old)
refused_is old new e (Ok u) answered is x refused = absurd (cc)
refused_is old new e (Err (Memory place)) answered is x refused = absurd (let none = answered.0 in cc)
refused_is old new e (Err r) answered is x refused = let same : r ≡ x = cc in (ap Err same, is)

-- An unsettled connection has a number that was given out.
pub unsettled_up_to : (n c : ℕ) (ks : List Session) → IsUpTo n (numbers_of ks) → IsTrue (is_unsettled (session_of c ks)) → c ≤ n
unsettled_up_to n c [] up unsettled = absurd (false≢true unsettled)
unsettled_up_to n c (k ∷ ks) up unsettled =
    elim (cases_Bool (eqb k.number c)) [
      | inl e ↦ omega (arith, up.0, eqb-true k.number c e)
      | inr e ↦ unsettled_up_to n c ks up.1 (rw e at unsettled)
    ]

-- The number of a connection fits into 64 bits, and isn't the greatest.
pub fits_of : (n least : ℕ) (ks : List Session) (o : Option ℕ) → IsUpTo n (numbers_of ks) → n ≤ OPENED_MAX → IsNextUnsettled ks least o → IfSome o (λ c. c < 18446744073709551615)
fits_of n least ks None up few next = tt
fits_of n least ks (Some c) up few next = omega (arith, unsettled_up_to n c ks up next.1, few)
