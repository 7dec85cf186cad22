-- What happens between two arrivals.
use Rattle.std.proofs.Common.{◌≡◌, ◌≢◌, ℕ, ◌+◌, ◌≤◌, nat_lt, Bool, true, false, inl, inr, List, [], ◌∷◌, ◌++◌, length, drop, Option, Some, None, if◌then◌else◌, refl, sym, ◌∙◌, ap, subst, arith, length-append, length-drop}
use Rattle.std.specs.Prelude.{Contains, ◌⊎◌, ◌||◌, not}
use Rattle.std.proofs.lemmas.Bool.{cases_Bool, cases_lt, true≢false}
use Rattle.std.proofs.lemmas.Bool.Decides.{nat_tests}
use Rattle.std.proofs.lemmas.List.Elements.{Contains-append_right}
use Rattle.nut_server_spec.specs.declared.Refused.{Refused}
use Rattle.nut_server_spec.specs.declared.Refused.TheVariants.{TooMuchTaken, NotConnected}
use Rattle.nut_server_spec.specs.Configuration.{Configuration}
use Rattle.nut_server_spec.specs.Event.{Event}
use Rattle.nut_server_spec.specs.Content.{Session, Supply, Content, content}
use Rattle.nut_server_spec.specs.Acceptance.{refusal, took_refusal, drain_refusal, IsAccepted, session_of, waiting_in, supply_of}
use Rattle.nut_server_spec.specs.machine.Machine.{advance}
use Rattle.nut_server_spec.proofs.Tells.{tells-step}
use Rattle.nut_server_spec.proofs.DriverSent.{asks_in}
use Rattle.nut_server_loop.specs.Record.{Entry, Gave, TookBytes, WasLate, WriteBroke, WasClosed, is_peer, late_in, waits_of, leaves_at}
use Rattle.nut_server_loop.specs.Served.{Step, Stands, Told, entries_of, history_of, took, failed, closed}
use Rattle.nut_server_loop.specs.Memory.{gave_of}
use Rattle.nut_server_loop.specs.Offered.{taken_in, AnswersAreOffered}
use Rattle.nut_server_loop.specs.declared.types.Peer.{Peer}
use Rattle.nut_server_loop.specs.declared.types.Peer.TheVariants.{Connection, Driver}
use Rattle.nut_server_loop.proofs.Peers.{is_peer-true, is_peer-self, may_close, others-took, others-failed, waits_of-took}

-- ---- no more is taken than waits

not_more : (b : Bool) (r : Refused) → (if b then Some r else None) ≡ None → b ≡ false
not_more true r is = absurd (cc)
not_more false r is = refl

took_within : (n : ℕ) (o : Option Session) → took_refusal n o ≡ None → n ≤ length (waiting_in o)
took_within n None free = absurd (cc)
took_within n (Some k) free =
    let less : nat_lt (length k.waits) n ≡ false = not_more (nat_lt (length k.waits) n) TooMuchTaken free in
    grind (arith, nat_tests, less)

drain_within : (n : ℕ) (o : Option Supply) → drain_refusal n o ≡ None → n ≤ length (asks_in o)
drain_within n None free = absurd (cc)
drain_within n (Some d) free =
    let less : nat_lt (length d.device.waits) n ≡ false = by d.device.connected (nat_lt (length d.device.waits) n) free in
    grind (arith, nat_tests, less)
  where
    by : (up more : Bool) → (if not up then Some NotConnected else (if more then Some TooMuchTaken else None)) ≡ None → more ≡ false
    by true more is = not_more more TooMuchTaken is
    by false more is = absurd (cc)

within : (s : Content) (p : Peer) (n : ℕ) → refusal s (took p n) ≡ None → n ≤ length (waits_of p s)
within s (Connection c) n free = took_within n (session_of c s.sessions) free
within s (Driver u) n free = drain_within n (supply_of u s.supplies) free

-- ---- what an entry does to what waits for a peer

-- the peer is among these
abbrev Among : Peer → List Peer → Type 0
Among p [] = ⊥
Among p (q ∷ r) = (q ≡ p) ⊎ Among p r

-- Since some arrival, at which this many bytes waited for the peer: it was closed, is to be closed, or took what doesn't wait now.
abbrev Holds : Peer → List Entry → List Peer → ℕ → ℕ → Type 0
Holds p entries owed waits waited = Contains entries (WasClosed p) ⊎ Among p owed ⊎ (length (taken_in p entries) + waits ≡ waited)

other : (p q : Peer) → is_peer q p ≡ false → p ≢ q
other p q differ same = true≢false (sym (is_peer-self p) ∙ ap (λ x. is_peer x p) same ∙ differ)

-- what waits for a peer after an event of another
kept : (first : Configuration) (h h' : List Event) (e : Event) (p : Peer) → IsAccepted first h → refusal (content first h) e ≡ None → h' ≡ e ∷ h
    → waits_of p (advance (content first h) e) ≡ waits_of p (content first h) → waits_of p (content first h') ≡ waits_of p (content first h)
kept first h h' e p accepted free is same =
    ap (λ x. waits_of p (content first x)) is ∙ ap (λ s. waits_of p s) (sym (tells-step first h (content first h) e (accepted, refl) free).1) ∙ same

seen : (entry : Entry) (entries : List Entry) (p : Peer) → Contains entries (WasClosed p) → Contains (entry ∷ entries) (WasClosed p)
seen entry entries p there = Contains-append_right (entry ∷ []) entries (WasClosed p) there

step_holds : (first : Configuration) (h h' : List Event) (late : Peer → Bool) (p : Peer) (entry : Entry) (entries : List Entry) (owed owed' : List Peer) (waited : ℕ)
    → IsAccepted first h → Stands first h late owed entry h' owed' → gave_of (entry ∷ entries) ≡ []
    → Holds p entries owed (length (waits_of p (content first h))) waited → Holds p (entry ∷ entries) owed' (length (waits_of p (content first h'))) waited
step_holds first h h' late p (Gave e) entries owed owed' waited accepted stands silent holds = absurd (cc)
step_holds first h h' late p (TookBytes q bytes) entries owed owed' waited accepted stands silent (inl there) = inl (seen (TookBytes q bytes) entries p there)
step_holds first h h' late p (TookBytes q bytes) entries owed owed' waited accepted stands silent (inr (inl is)) = inr (inl (subst (λ x. Among p x) (sym stands.2) is))
step_holds first h h' late p (TookBytes q bytes) entries owed owed' waited accepted stands silent (inr (inr sum)) =
    inr (inr (elim (cases_Bool (is_peer q p)) [
      | inl e ↦
          let same : q ≡ p = is_peer-true q p e in
          let free : refusal (content first h) (took p (length bytes)) ≡ None = subst (λ x. refusal (content first h) (took x (length bytes)) ≡ None) same stands.0 in
          let less : waits_of p (content first h') ≡ drop (length bytes) (waits_of p (content first h)) =
          ap (λ x. waits_of p (content first x)) (stands.1 ∙ ap (λ x. took x (length bytes) ∷ h) same)
          ∙ ap (waits_of p) (sym (tells-step first h (content first h) (took p (length bytes)) (accepted, refl) free).1)
          ∙ waits_of-took (content first h) p (length bytes)
          in
          let more : taken_in p (TookBytes q bytes ∷ entries) ≡ taken_in p entries ++ bytes = ap (λ b. if b then taken_in p entries ++ bytes else taken_in p entries) e in
          omega (arith, sum, ap length more, ap length less, length-append (taken_in p entries) bytes, length-drop (length bytes) (waits_of p (content first h)), within (content first h) p (length bytes) free)
      | inr e ↦
          let still = kept first h h' (took q (length bytes)) p accepted stands.0 stands.1 (others-took (content first h) q p (length bytes) (other p q e)).0 in
          let none : taken_in p (TookBytes q bytes ∷ entries) ≡ taken_in p entries = ap (λ b. if b then taken_in p entries ++ bytes else taken_in p entries) e in
          omega (arith, sum, ap length none, ap length still)
    ]))
step_holds first h h' late p (WasLate q) entries owed owed' waited accepted stands silent (inl there) = inl (seen (WasLate q) entries p there)
step_holds first h h' late p (WasLate q) entries owed owed' waited accepted stands silent (inr (inl is)) = inr (inl (subst (λ x. Among p x) (sym stands.1) is))
step_holds first h h' late p (WasLate q) entries owed owed' waited accepted stands silent (inr (inr sum)) =
    inr (inr (ap (λ x. length (taken_in p entries) + length (waits_of p (content first x))) stands.0 ∙ sum))
step_holds first h h' late p (WriteBroke q) entries owed owed' waited accepted stands silent (inl there) = inl (seen (WriteBroke q) entries p there)
step_holds first h h' late p (WriteBroke q) entries owed owed' waited accepted stands silent (inr (inl is)) = inr (inl (subst (λ x. Among p x) (sym stands.2) (inr is)))
step_holds first h h' late p (WriteBroke q) entries owed owed' waited accepted stands silent (inr (inr sum)) =
    elim (cases_Bool (is_peer q p)) [
      | inl e ↦ inr (inl (subst (λ x. Among p x) (sym stands.2) (inl (is_peer-true q p e))))
      | inr e ↦
          let still = kept first h h' (failed q) p accepted stands.0 stands.1 (others-failed (content first h) q p (other p q e)).0 in
          inr (inr (ap (λ w. length (taken_in p entries) + length w) still ∙ sum))
    ]
step_holds first h h' late p (WasClosed q) entries owed owed' waited accepted stands silent holds =
    elim (cases_Bool (is_peer q p)) [
      | inl e ↦ inl (subst (λ x. Contains (WasClosed x ∷ entries) (WasClosed p)) (sym (is_peer-true q p e)) (0, omega arith, refl))
      | inr e ↦ closes first h h' p q entries owed owed' waited accepted stands (other p q e) holds
    ]
  where
    still_among : (p q : Peer) (owed owed' : List Peer) → p ≢ q → owed ≡ q ∷ owed' → Among p owed → Among p owed'
    still_among p q owed owed' ne is among = elim (subst (λ x. Among p x) is among) [
      | inl same ↦ absurd (ne (sym same))
      | inr there ↦ there
    ]

    leaving : (first : Configuration) (h h' : List Event) (p q : Peer) → IsAccepted first h → p ≢ q → leaves_at q (content first h) ≡ true → h' ≡ closed q ∷ h
        → waits_of p (content first h') ≡ waits_of p (content first h)
    leaving first h h' p (Connection c) accepted ne left is =
        kept first h h' (closed (Connection c)) p accepted (may_close (content first h) c left) is (others-failed (content first h) (Connection c) p ne).0
    leaving first h h' p (Driver u) accepted ne left is = absurd (true≢false (sym left))

    closes : (first : Configuration) (h h' : List Event) (p q : Peer) (entries : List Entry) (owed owed' : List Peer) (waited : ℕ) → IsAccepted first h
        → ((owed ≡ q ∷ owed') × (h' ≡ h)) ⊎ ((leaves_at q (content first h) ≡ true) × (h' ≡ closed q ∷ h) × (owed' ≡ owed)) → p ≢ q
        → Holds p entries owed (length (waits_of p (content first h))) waited → Holds p (WasClosed q ∷ entries) owed' (length (waits_of p (content first h'))) waited
    closes first h h' p q entries owed owed' waited accepted stands ne (inl there) = inl (seen (WasClosed q) entries p there)
    closes first h h' p q entries owed owed' waited accepted (inl next) ne (inr (inl is)) = inr (inl (still_among p q owed owed' ne next.0 is))
    closes first h h' p q entries owed owed' waited accepted (inr left) ne (inr (inl is)) = inr (inl (subst (λ x. Among p x) (sym left.2) is))
    closes first h h' p q entries owed owed' waited accepted (inl next) ne (inr (inr sum)) =
        inr (inr (ap (λ x. length (taken_in p entries) + length (waits_of p (content first x))) next.1 ∙ sum))
    closes first h h' p q entries owed owed' waited accepted (inr left) ne (inr (inr sum)) =
        inr (inr (ap (λ w. length (taken_in p entries) + length w) (leaving first h h' p q accepted ne left.0 left.1) ∙ sum))

-- ---- a round

accepted_before : (first : Configuration) (events h : List Event) → IsAccepted first (events ++ h) → IsAccepted first h
accepted_before first [] h accepted = accepted
accepted_before first (e ∷ events) h accepted = accepted_before first events h accepted.0

accepted_rest : (first : Configuration) (newer steps : List Step) → IsAccepted first (history_of (newer ++ steps)) → IsAccepted first (history_of steps)
accepted_rest first [] steps accepted = accepted
accepted_rest first (step ∷ newer) steps accepted = accepted_rest first newer steps (accepted_before first step.events (history_of (newer ++ steps)) accepted)

told_rest : (first : Configuration) (newer steps : List Step) (owed : List Peer) → Told first (newer ++ steps) owed → (before : List Peer) × Told first steps before
told_rest first [] steps owed told = (owed, told)
told_rest first (step ∷ newer) steps owed told = told_rest first newer steps told.0 told.1

silent_rest : (entry : Entry) (entries : List Entry) → gave_of (entry ∷ entries) ≡ [] → gave_of entries ≡ []
silent_rest (Gave e) entries silent = absurd (cc)
silent_rest (TookBytes q bytes) entries silent = silent
silent_rest (WasLate q) entries silent = silent
silent_rest (WriteBroke q) entries silent = silent
silent_rest (WasClosed q) entries silent = silent

round_holds : (first : Configuration) (round base : List Step) (p : Peer) (owed : List Peer) → IsAccepted first (history_of (round ++ base)) → Told first (round ++ base) owed
    → gave_of (entries_of round) ≡ []
    → Holds p (entries_of round) owed (length (waits_of p (content first (history_of (round ++ base))))) (length (waits_of p (content first (history_of base))))
round_holds first [] base p owed accepted told silent = inr (inr (omega arith))
round_holds first (step ∷ round) base p owed accepted told silent =
    let h = history_of (round ++ base) in
    let before = accepted_before first step.events h accepted in
    step_holds first h (step.events ++ h) (late_in (entries_of (round ++ base))) p step.entry (entries_of round) told.0 owed (length (waits_of p (content first (history_of base))))
    before told.2 silent (round_holds first round base p told.0 before told.1 (silent_rest step.entry (entries_of round) silent))

-- Who is late at the end of a round is so by its entries.
late_round : (round base : List Step) (p : Peer) → late_in (entries_of base) p ≡ false → gave_of (entries_of round) ≡ []
    → late_in (entries_of (round ++ base)) p ≡ late_in (entries_of round) p
late_round [] base p none silent = none
late_round (step ∷ round) base p none silent =
    more step.entry (entries_of (round ++ base)) (entries_of round) silent (late_round round base p none (silent_rest step.entry (entries_of round) silent))
  where
    more : (entry : Entry) (all here : List Entry) → gave_of (entry ∷ here) ≡ [] → late_in all p ≡ late_in here p → late_in (entry ∷ all) p ≡ late_in (entry ∷ here) p
    more (Gave e) all here silent same = refl
    more (TookBytes q bytes) all here silent same = same
    more (WasLate q) all here silent same = ap (λ b. b || is_peer p q) same
    more (WriteBroke q) all here silent same = same
    more (WasClosed q) all here silent same = same

pub answers_are_offered : AnswersAreOffered
answers_are_offered first log s owed served newer round older given next e e' p is gave asked silent =
    let base = given ∷ older in
    let told = told_rest first newer (next ∷ round ++ base) owed (subst (λ steps. Told first steps owed) is served.told) in
    let accepted = accepted_rest first newer (next ∷ round ++ base) (subst (λ steps. IsAccepted first (history_of steps)) is served.holds.0) in
    let h = history_of (round ++ base) in
    let stands : Stands first h (late_in (entries_of (round ++ base))) told.1.0 (Gave e') (history_of (next ∷ round ++ base)) told.0 =
    subst (λ x. Stands first h (late_in (entries_of (round ++ base))) told.1.0 x (history_of (next ∷ round ++ base)) told.0) asked told.1.2
    in
    let late = late_round round base p (ap (λ x. late_in (x ∷ entries_of older) p) gave) silent in
    elim (round_holds first round base p told.1.0 (accepted_before first next.events h accepted) told.1.1 silent) [
      | inl there ↦ inr (inr there)
      | inr rest ↦ elim rest [
        | inl among ↦ absurd (subst (λ x. Among p x) stands.2 among)
        | inr sum ↦ elim (cases_lt 0 (length (waits_of p (content first h)))) [
          | inl some ↦ inr (inl (sym late ∙ stands.1 p some))
          | inr none ↦ inl (omega (arith, sum, none))
        ]
      ]
    ]
