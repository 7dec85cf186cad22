-- The worked examples of runs.
use Rattle.std.proofs.Common.{◌≡◌, ℕ, Bool, true, false, inl, inr, List, [], ◌++◌, Some, None, refl, sym, ◌∙◌, ap, subst, arith}
use Rattle.std.specs.Prelude.{◌==◌, ◌&&◌, if◌then◌else◌, codes, slice_index_or}
use Rattle.std.proofs.lemmas.Bool.{and_parts, eqb-true}
use Rattle.nut_words.specs.Quoting.{Begins}
use Rattle.nut_proto.specs.Lines.{line}
use Rattle.nut_proto.specs.Requests.{request_line}
use Rattle.nut_server_spec.specs.Event as arrivals
use Rattle.nut_monitor_spec.specs.Event.{Event}
use Rattle.nut_monitor_spec.specs.Acceptance.{IsAccepted}
use Rattle.nut_monitor_spec.specs.Trace.{entry_of, sent, trace}
use Rattle.nut_fleet.specs.examples.Examples.{alone}
use Rattle.nut_fleet.specs.Schedule.{IsFront}
use Rattle.nut_fleet.specs.World.{monitor_of}
use Rattle.nut_fleet.proofs.Fronts.{begins-then}
use Rattle.nut_running.specs.Running.{Happening, AtServer, Network, server_history, history, calls, IsNext, May}
use Rattle.nut_running.specs.examples.Examples.{RunningExamples, called, came, again, first_call, second_call}
use Rattle.nut_running.proofs.Calls.{sent_on, sent_on-front}

if-some : (b : Bool) (c : ℕ) → (if b then Some 1 else None) ≡ Some c → (b ≡ true) × (1 ≡ c)
if-some true c is = (refl, cc)
if-some false c is = cc

-- the call that has connection 1
only : (m i k : ℕ) → first_call m i k ≡ Some 1 → (m ≡ 0) × (i ≡ 0) × (k ≡ 1)
only m i k is =
    let found = (if-some (m == 0 && i == 0 && k == 1) 1 is).0 in
    let outer = and_parts (m == 0 && i == 0) (k == 1) found in
    let inner = and_parts (m == 0) (i == 0) outer.0 in
    (eqb-true m 0 inner.0, eqb-true i 0 inner.1, eqb-true k 1 outer.1)

none-two : (m i k : ℕ) → first_call m i k ≡ Some 2 → ⊥
none-two m i k is = let one = (if-some (m == 0 && i == 0 && k == 1) 2 is).1 in absurd (omega arith)

-- The piece comes next on connection c, if that belongs to the k-th call of link i of monitor m.
Follows : List Happening → ℕ → List ℕ → ℕ → ℕ → ℕ → Type 0
Follows run c piece m i k = (early : List Event) × IsFront early (history m run) × (calls i early ≡ k)
    × IsNext (arrivals.input c (server_history run)) piece (sent (monitor_of alone m) i (trace (monitor_of alone m) early))

at-first : (run : List Happening) (piece : List ℕ) → Follows run 1 piece 0 0 1 → (m i k : ℕ) → first_call m i k ≡ Some 1 → Follows run 1 piece m i k
at-first run piece follows m i k is =
    let here = only m i k is in
    subst (λ x. Follows run 1 piece x i k) (sym here.0)
    (subst (λ y. Follows run 1 piece 0 y k) (sym here.1)
    (subst (λ z. Follows run 1 piece 0 0 z) (sym here.2) follows))

-- what the monitor had sent in its first call
sent-so-far : sent (monitor_of alone 0) 0 (trace (monitor_of alone 0) (history 0 called)) ≡ codes "USERN"
unfolding line request_line entry_of
sent-so-far = refl

-- the whole history was accepted
all-accepted : IsAccepted (monitor_of alone 0) (history 0 again)
unfolding line request_line entry_of
all-accepted = ((((tt, (refl, tt)), (refl, tt)), (refl, tt)), (refl, tt))

-- what may come on a connection is a beginning of what was sent in its call
is-begun : (network : Network) (run : List Happening) (c : ℕ) (piece : List ℕ) (k : ℕ) → IsAccepted (monitor_of alone 0) (history 0 run) →
    May alone network run (AtServer (arrivals.Bytes c piece)) → network 0 0 k ≡ Some c →
    Begins (arrivals.input c (server_history run) ++ piece) (sent_on (monitor_of alone 0) 0 k (history 0 run))
is-begun network run c piece k accepted may is =
    let found = may 0 0 k is in
    begins-then _ _ _ found.3.1 (sent_on-front alone 0 0 k found.0 (history 0 run) accepted (omega arith) found.1 found.2)

-- of the first call
in-first : (run : List Happening) (piece : List ℕ) → history 0 run ≡ history 0 called → May alone first_call run (AtServer (arrivals.Bytes 1 piece)) →
    (more : List ℕ) × (codes "USERN" ≡ (arrivals.input 1 (server_history run) ++ piece) ++ more)
unfolding line request_line entry_of
in-first run piece same may =
    let accepted : IsAccepted (monitor_of alone 0) (history 0 run) = subst (λ h. IsAccepted (monitor_of alone 0) h) (sym same) all-accepted.0.0 in
    let b = is-begun first_call run 1 piece 1 accepted may refl in
    (b.0, ap (sent_on (monitor_of alone 0) 0 1) (sym same) ∙ b.1)

-- two texts that differ at a place are two
apart : (k : ℕ) (xs ys : List ℕ) → xs ≡ ys → (slice_index_or xs k 0 ≡ slice_index_or ys k 0 → ⊥) → ⊥
apart k xs ys same differ = differ (ap (λ zs. slice_index_or zs k 0) same)

pub examples : RunningExamples
unfolding line request_line entry_of Follows
examples = record {
  in_part = at-first called (codes "USE") (history 0 called, inl refl, refl, ((λ no. cc), (codes "RN", sent-so-far)));
  the_rest = at-first came (codes "RN") (history 0 called, inl refl, refl, ((λ no. cc), ([], sent-so-far)));
  swapped = λ may. let b = in-first called (codes "SU") refl may in apart 0 (codes "USERN") (codes "SU" ++ b.0) b.1 (λ e. omega (arith, e));
  twice = λ may. let b = in-first came (codes "USE") refl may in let no = b.1 in cc;
  passed_over = λ may. let b = in-first came (codes "N") refl may in apart 3 (codes "USERN") (codes "USEN" ++ b.0) b.1 (λ e. omega (arith, e));
  invented = λ may. let b = in-first called (codes "FSD") refl may in apart 0 (codes "USERN") (codes "FSD" ++ b.0) b.1 (λ e. omega (arith, e));
  early = λ may. let b = in-first called (codes "USERNA") refl may in let no = b.1 in cc;
  before_the_call = λ may. let no = (is-begun first_call [] 1 (codes "USE") 1 tt may refl).1 in cc;
  of_a_client = λ m i k is. absurd (none-two m i k is);
  no_answer = λ may. let b = may.2.1 in apart 0 [] (codes "OK" ++ b.0) b.1 (λ e. omega (arith, e));
  by_call = at-first again (codes "USERN") (history 0 called, inr (inr (inl refl)), refl, ((λ no. cc), ([], sent-so-far)));
  by_the_next = λ may. let no = (is-begun second_call again 3 (codes "USERN") 2 all-accepted may refl).1 in cc;
}
