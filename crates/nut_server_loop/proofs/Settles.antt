-- What a write and a close change: only the peer, for which then less waits.
use Rattle.std.proofs.Common.{◌≡◌, ◌≢◌, ℕ, ◌+◌, ◌<◌, ◌≤◌, nat_lt, Bool, true, false, inl, inr, List, [], ◌∷◌, length, drop, Option, None, Result, refl, sym, ◌∙◌, ap, subst, arith, length-drop}
use Rattle.std.specs.Prelude.{◌==◌, ◌||◌}
use Rattle.std.proofs.lemmas.Bool.{cases_eq, cases_lt}
use Rattle.std.proofs.lemmas.Bool.Decides.{nat_tests}
use Rattle.nut_queue.specs.Front.{IsFrontPart}
use Rattle.nut_server_spec.specs.declared.Refused.{Refused}
use Rattle.nut_server_spec.specs.Configuration.{Configuration}
use Rattle.nut_server_spec.specs.Event as event
use Rattle.nut_server_spec.specs.Content.{Session, Content}
use Rattle.nut_server_spec.specs.Acceptance.{session_of, waiting_in, leaves}
use Rattle.nut_server.specs.Settling.{is_unsettled}
use Rattle.nut_server_spec.specs.machine.Machine.{advance}
use Rattle.nut_server_spec.proofs.Sessions.{session_of-without}
use Rattle.nut_io.specs.Writes.{IsWithin}
use Rattle.nut_io.specs.declared.types.Written.{Written}
use Rattle.nut_io.specs.declared.types.Written.TheVariants.{Took}
use Rattle.nut_server_loop.specs.Record.{Entry, waits_of, leaves_at, IsSettled, NobodyLeaves}
use Rattle.nut_server_loop.specs.Served.{Served, took, failed, history_of}
use Rattle.nut_server_loop.specs.inside.Going.{OnlyAt}
use Rattle.nut_server_loop.specs.declared.types.Peer.{Peer}
use Rattle.nut_server_loop.specs.declared.types.Peer.TheVariants.{Connection, Driver}
use Rattle.nut_server_loop.proofs.Peers.{IsSame, no_memory_took, no_memory_failed, no_memory_close, may_take, may_fail, may_close, waits_of-took, waits_of-failed, others-took, others-failed}
use Rattle.nut_server_loop.proofs.Steps.{Answered, Leads, length_of_front, moved}

some_in : (bytes : List ℕ) → (length bytes == 0) ≡ false → 0 < length bytes
some_in [] none = absurd (cc)
some_in (byte ∷ bytes) none = omega arith

-- Bytes wait for a peer exactly if what it shows isn't empty.
pub front_some : (shown waits : List ℕ) → IsFrontPart shown waits → (length shown == 0) ≡ false → 0 < length waits
front_some shown waits front none = omega (arith, some_in shown none, length_of_front shown waits front)

pub none_shown : (shown waits : List ℕ) → IsFrontPart shown waits → (length shown == 0) ≡ true → length waits ≡ 0
none_shown [] waits front none = ap length (front.some refl)
none_shown (b ∷ shown) waits front none = let zero : length (b ∷ shown) ≡ 0 = grind (arith, nat_tests, none) in absurd (omega (arith, zero))

-- ---- the contents differ at most at one peer

pub only_at : (p : Peer) (late late' : Peer → Bool) (old new moved_to : Content) → new ≡ moved_to → ((q : Peer) → q ≢ p → IsSame q moved_to old) → ((q : Peer) → late q ≡ true → late' q ≡ true)
    → OnlyAt p late late' old new
only_at p late late' old new moved_to here others stays =
    subst (λ t. OnlyAt p late late' old t) (sym here) (record { waits = λ q ne. (others q ne).0; leaves = λ q ne. (others q ne).1; stays_late = stays })

pub only_none : (p : Peer) (late late' : Peer → Bool) (s : Content) → ((q : Peer) → late q ≡ true → late' q ≡ true) → OnlyAt p late late' s s
only_none p late late' s stays = record { waits = λ q ne. refl; leaves = λ q ne. refl; stays_late = stays }

-- two changes at one peer, one after the other
pub only_twice : (p : Peer) (late late1 late2 : Peer → Bool) (a b d : Content) → OnlyAt p late late1 a b → OnlyAt p late1 late2 b d → OnlyAt p late late2 a d
only_twice p late late1 late2 a b d first second =
    record {
      waits = λ q ne. second.waits q ne ∙ first.waits q ne;
      leaves = λ q ne. second.leaves q ne ∙ first.leaves q ne;
      stays_late = λ q is. second.stays_late q (first.stays_late q is);
    }

-- Who is settled stays so if another changes.
pub still_settled : (late late' : Peer → Bool) (s s' : Content) (p q : Peer) → OnlyAt p late late' s s' → q ≢ p → IsSettled late s q → IsSettled late' s' q
still_settled late late' s s' p q only ne settled some = only.stays_late q (settled (subst (λ bytes. 0 < length bytes) (only.waits q ne) some))

false_both : (a b : Bool) → (a || b) ≡ false → (a ≡ false) × (b ≡ false)
false_both false false none = (refl, refl)
false_both true b none = absurd (cc)
false_both false true none = absurd (cc)

pub none_unsettled : (o : Option Session) → is_unsettled o ≡ false → (length (waiting_in o) ≡ 0) × (leaves o ≡ false)
none_unsettled o none =
    let parts = false_both (nat_lt 0 (length (waiting_in o))) (leaves o) none in
    let some : nat_lt 0 (length (waiting_in o)) ≡ false = parts.0 in
    (grind (arith, nat_tests, some), parts.1)

abbrev pub number : Peer → ℕ
number (Connection c) = c
number (Driver u) = u

-- Those below a number are settled, nothing waits for those up to the next, and that was settled: so all up to it are.
pub settled_to : (K : ℕ → Peer) → ((m n : ℕ) → K m ≡ K n → m ≡ n) → (late late' : Peer → Bool) (s s' : Content) (least c : ℕ)
    → ((d : ℕ) → least ≤ d → d < c → length (waits_of (K d) s) ≡ 0) → OnlyAt (K c) late late' s s' → IsSettled late' s' (K c)
    → ((d : ℕ) → d < least → IsSettled late s (K d)) → (d : ℕ) → d < c + 1 → IsSettled late' s' (K d)
settled_to K single late late' s s' least c between only here below d within =
    elim (cases_eq d c) [
      | inl same ↦ subst (λ x. IsSettled late' s' (K x)) (sym same) here
      | inr ne ↦
          let before : IsSettled late s (K d) = elim (cases_lt d least) [
            | inl less ↦ below d less
            | inr past ↦ λ some. absurd (omega (arith, some, between d past (omega (arith, within, ne))))
          ] in
          still_settled late late' s s' (K c) (K d) only (λ same. ne (single d c same)) before
    ]

pub left_to : (late late' : Peer → Bool) (s s' : Content) (least c : ℕ)
    → ((d : ℕ) → least ≤ d → d < c → leaves_at (Connection d) s ≡ false) → OnlyAt (Connection c) late late' s s' → leaves_at (Connection c) s' ≡ false
    → ((d : ℕ) → d < least → leaves_at (Connection d) s ≡ false) → (d : ℕ) → d < c + 1 → leaves_at (Connection d) s' ≡ false
left_to late late' s s' least c between only here below d within =
    elim (cases_eq d c) [
      | inl same ↦ subst (λ x. leaves_at (Connection x) s' ≡ false) (sym same) here
      | inr ne ↦
          let before : leaves_at (Connection d) s ≡ false = elim (cases_lt d least) [
            | inl less ↦ below d less
            | inr past ↦ between d past (omega (arith, within, ne))
          ] in
          only.leaves (Connection d) (λ same. ne (ap number same)) ∙ before
    ]

pub nobody_leaves : (late late' : Peer → Bool) (s s' : Content) (u : ℕ) → OnlyAt (Driver u) late late' s s' → NobodyLeaves s → NobodyLeaves s'
nobody_leaves late late' s s' u only before (Connection d) = only.leaves (Connection d) (λ same. absurd (cc)) ∙ before (Connection d)
nobody_leaves late late' s s' u only before (Driver v) = refl

-- ---- bytes were taken

took_moved : {U : Type 0} (first : Configuration) (o : Option (List Entry)) (s s' : Content) (p : Peer) (part : List ℕ) (w : Written) (n : ℕ) (r : Result U Refused)
    → Served first o s [] → w ≡ Took n → IsWithin w (length part) → IsFrontPart part (waits_of p s) → Answered s (took p n) r → Leads s (took p n) r s'
    → (0 < n) × (n ≤ length (waits_of p s)) × (s' ≡ advance s (took p n))
took_moved first o s s' p part w n r served is within front answer leads =
    let inside : IsWithin (Took n) (length part) = subst (λ v. IsWithin v (length part)) is within in
    let some : 0 < n = inside.0 in
    let fits : n ≤ length part = inside.1 in
    let reach : n ≤ length (waits_of p s) = omega (arith, length_of_front part (waits_of p s) front) in
    (some, reach, moved first o s s' (took p n) r [] served (may_take first (history_of served.steps) s p n served.holds some reach) (no_memory_took p n) answer leads)

pub waits_less : {U : Type 0} (first : Configuration) (o : Option (List Entry)) (s s' : Content) (p : Peer) (part : List ℕ) (w : Written) (n : ℕ) (r : Result U Refused)
    → Served first o s [] → w ≡ Took n → IsWithin w (length part) → IsFrontPart part (waits_of p s) → Answered s (took p n) r → Leads s (took p n) r s'
    → length (waits_of p s') < length (waits_of p s)
waits_less first o s s' p part w n r served is within front answer leads =
    let facts = took_moved first o s s' p part w n r served is within front answer leads in
    let some : 0 < n = facts.0 in
    let reach : n ≤ length (waits_of p s) = facts.1 in
    let here : waits_of p s' ≡ drop n (waits_of p s) = ap (waits_of p) facts.2 ∙ waits_of-took s p n in
    omega (arith, ap length here, length-drop n (waits_of p s))

pub only_took : {U : Type 0} (late late' : Peer → Bool) (first : Configuration) (o : Option (List Entry)) (s s' : Content) (p : Peer) (part : List ℕ) (w : Written) (n : ℕ) (r : Result U Refused)
    → ((q : Peer) → late q ≡ true → late' q ≡ true)
    → Served first o s [] → w ≡ Took n → IsWithin w (length part) → IsFrontPart part (waits_of p s) → Answered s (took p n) r → Leads s (took p n) r s' → OnlyAt p late late' s s'
only_took late late' first o s s' p part w n r stays served is within front answer leads =
    only_at p late late' s s' (advance s (took p n)) (took_moved first o s s' p part w n r served is within front answer leads).2 (λ q ne. others-took s p q n ne) stays

-- ---- a write failed

broke_moved : {U : Type 0} (first : Configuration) (o : Option (List Entry)) (s s' : Content) (p : Peer) (r : Result U Refused)
    → Served first o s [] → 0 < length (waits_of p s) → Answered s (failed p) r → Leads s (failed p) r s' → s' ≡ advance s (failed p)
broke_moved first o s s' p r served some answer leads =
    moved first o s s' (failed p) r [] served (may_fail first (history_of served.steps) s p served.holds some) (no_memory_failed p) answer leads

pub none_waits : {U : Type 0} (first : Configuration) (o : Option (List Entry)) (s s' : Content) (p : Peer) (r : Result U Refused)
    → Served first o s [] → 0 < length (waits_of p s) → Answered s (failed p) r → Leads s (failed p) r s' → length (waits_of p s') ≡ 0
none_waits first o s s' p r served some answer leads =
    ap (λ t. length (waits_of p t)) (broke_moved first o s s' p r served some answer leads) ∙ ap length (waits_of-failed s p)

pub only_broke : {U : Type 0} (late late' : Peer → Bool) (first : Configuration) (o : Option (List Entry)) (s s' : Content) (p : Peer) (r : Result U Refused)
    → ((q : Peer) → late q ≡ true → late' q ≡ true)
    → Served first o s [] → 0 < length (waits_of p s) → Answered s (failed p) r → Leads s (failed p) r s' → OnlyAt p late late' s s'
only_broke late late' first o s s' p r stays served some answer leads =
    only_at p late late' s s' (advance s (failed p)) (broke_moved first o s s' p r served some answer leads) (λ q ne. others-failed s p q ne) stays

-- ---- a connection was closed that has logged out and for which nothing waits

close_moved : {U : Type 0} (first : Configuration) (o : Option (List Entry)) (s s' : Content) (c : ℕ) (r : Result U Refused)
    → Served first o s [] → leaves (session_of c s.sessions) ≡ true → Answered s (event.Close c) r → Leads s (event.Close c) r s' → s' ≡ advance s (event.Close c)
close_moved first o s s' c r served left answer leads =
    moved first o s s' (event.Close c) r [] served (may_close s c left) (no_memory_close c) answer leads

pub gone_after_close : {U : Type 0} (first : Configuration) (o : Option (List Entry)) (s s' : Content) (c : ℕ) (r : Result U Refused)
    → Served first o s [] → leaves (session_of c s.sessions) ≡ true → Answered s (event.Close c) r → Leads s (event.Close c) r s' → session_of c s'.sessions ≡ None
gone_after_close first o s s' c r served left answer leads =
    ap (λ (t : Content). session_of c t.sessions) (close_moved first o s s' c r served left answer leads) ∙ session_of-without c s.sessions

pub only_closed : {U : Type 0} (late late' : Peer → Bool) (first : Configuration) (o : Option (List Entry)) (s s' : Content) (c : ℕ) (r : Result U Refused)
    → ((q : Peer) → late q ≡ true → late' q ≡ true)
    → Served first o s [] → leaves (session_of c s.sessions) ≡ true → Answered s (event.Close c) r → Leads s (event.Close c) r s' → OnlyAt (Connection c) late late' s s'
only_closed late late' first o s s' c r stays served left answer leads =
    only_at (Connection c) late late' s s' (advance s (event.Close c)) (close_moved first o s s' c r served left answer leads) (λ q ne. others-failed s (Connection c) q ne) stays
