-- What waits for a client: the answers to the lines of one piece, none longer than the longest.
use Rattle.std.proofs.Common.{◌≡◌, ℕ, zero, suc, ◌+◌, ◌*◌, ◌<◌, ◌≤◌, Bool, true, false, eqb, List, [], ◌∷◌, length, map, drop, refl, sym, subst, ◌∙◌, ap, arith, inl, inr, Option, Some, None, length-append, length-drop}
use Rattle.std.specs.Prelude.{not, filter}
use Rattle.std.specs.List.{AllByRecursion}
use Rattle.std.proofs.lemmas.Bool.{and_parts, cases_Bool, eqb-true, ltb-true, ltb-false, leb-true}
use Rattle.std.proofs.lemmas.List.{length-map}
use Rattle.nut_conf.specs.declared.limits.TheConstants.{CONNECTIONS_MAX}
use Rattle.nut_words.specs.Lines.{LineText, Text, TooLong, joined}
use Rattle.nut_words.specs.Reader as reader
use Rattle.nut_words.specs.declared.limits.TheConstants.{PIECE_MAX}
use Rattle.nut_state.specs.laws.Holds.{EveryTableHolds}
use Rattle.nut_state.specs.Table.{empty}
use Rattle.nut_server_spec.specs.Configuration.{Configuration}
use Rattle.nut_server_spec.specs.Command.{Command, Blank, command_of}
use Rattle.nut_server_spec.specs.Event.{Event, Open, Bytes, Took, Close, WriteFailed, DriverBytes, Reload, input, driver_input, steps, brought}
use Rattle.nut_server_spec.specs.Answer.{Answer, Silence, Guest, text_of}
use Rattle.nut_server_spec.specs.Device.{Device}
use Rattle.nut_server_spec.specs.Effect.{target}
use Rattle.nut_server_spec.specs.Trace.{configuration, reports, ups_numbers}
use Rattle.nut_server_spec.specs.Content.{Session, Supply, Content, content, past, supply, numbering_of, fresh}
use Rattle.nut_server_spec.specs.Acceptance.{IsAccepted, refusal, session_of, waiting_in, waiting_of, open_refusal, bytes_refusal}
use Rattle.nut_server_spec.specs.machine.Machine.{advance, update, update_at, act_on, acted, answered, answer_in, scene_of, guest_of, with_rest, line_heard, byte_heard, bytes_heard, without}
use Rattle.nut_server_spec.specs.laws.Laws.{IsOther, connection_of, closes, most_allowed}
use Rattle.nut_server_spec.specs.laws.Limits.{IsWithin, WaitsAreBounded, most_waits, AreWithin}
use Rattle.nut_server_spec.proofs.Alls.{all_append, all_filter, all_map}
use Rattle.nut_server_spec.proofs.AnswerLengths.{IsFit, IsShortScene, answer_fit, fewer, fit_silence, IsReadableCommand, readable-command}
use Rattle.nut_server_spec.proofs.Kept.{keeps-content, session_is}
use Rattle.nut_server_spec.proofs.Others.{advance-other, advance-took, opened-fresh, configuration_lines, configuration_reports}
use Rattle.nut_server_spec.proofs.Sessions.{bytes_heard-keeps, session_of-update, session_of-filter, session_of-without}
use Rattle.nut_server_spec.proofs.Tables.{IsShortTable, table_short}
use Rattle.nut_server_spec.specs.declared.limits.TheConstants.{ADDRESS_MAX, OPENED_MAX}
use Rattle.nut_server_spec.specs.Numbering.{fate_of, is_to_cleared}
use Rattle.std.specs.Option.{option_map_or}

-- ---- open connections

-- so many are open at most, and the address of each has at most ADDRESS_MAX bytes
pub record AreFew (m : ℕ) (ks : List Session) : Type 0 where
  pub few : length ks ≤ m
  pub addresses : AllByRecursion (λ k. length k.address ≤ ADDRESS_MAX) ks

few_update : (m c : ℕ) (change : Session → Session) (ks : List Session) → ((k : Session) → (change k).address ≡ k.address) → AreFew m ks → AreFew m (update c change ks)
few_update m c change ks keeps are = record { few = omega (arith, as_long ks, are.few); addresses = each ks are.addresses } where
  as_long : (ks : List Session) → length (update c change ks) ≡ length ks
  as_long [] = refl
  as_long (k ∷ ks) = elim (cases_Bool (eqb k.number c)) [ inl e ↦ rw e refl | inr e ↦ rw e (ap suc (as_long ks)) ]

  each : (ks : List Session) → AllByRecursion (λ k. length k.address ≤ ADDRESS_MAX) ks → AllByRecursion (λ k. length k.address ≤ ADDRESS_MAX) (update c change ks)
  each [] all = tt
  each (k ∷ ks) all =
      elim (cases_Bool (eqb k.number c)) [
        | inl e ↦ rw e (omega (arith, ap length (keeps k), all.0), all.1)
        | inr e ↦ rw e (all.0, each ks all.1)
      ]

few_filter : (m : ℕ) (p : Session → Bool) (ks : List Session) → AreFew m ks → AreFew m (filter p ks)
few_filter m p ks are = record { few = omega (arith, fewer p ks, are.few); addresses = all_filter _ p ks are.addresses }

few_without : (m c : ℕ) (ks : List Session) → AreFew m ks → AreFew m (without c ks)
few_without m c ks are = few_filter m (λ k. not (eqb k.number c)) ks are

-- an address that is accepted has at most ADDRESS_MAX bytes, and there is room and a number
pub opened_few : (s : Content) (address : List ℕ) → open_refusal s address ≡ None
    → (length address ≤ ADDRESS_MAX) × (length s.sessions < s.configuration.most_connections) × (s.opened < OPENED_MAX)
opened_few s address accepted = grind (arith, cases_Bool, and_parts, leb-true, ltb-true)

few_advance : (most : ℕ) (s : Content) (e : Event) → refusal s e ≡ None → s.configuration.most_connections ≤ most → AreFew most s.sessions → AreFew most (advance s e).sessions
few_advance most s (Open address) accepted allowed are =
    let k = fresh (s.opened + 1) address in
    let room = opened_few s address accepted in
    record { few = omega (arith, length-append s.sessions (k ∷ []), room.1, allowed); addresses = all_append (λ k. length k.address ≤ ADDRESS_MAX) s.sessions (k ∷ []) are.addresses (room.0, tt) }
few_advance most s (Bytes c piece) accepted allowed are = bytes_heard-keeps (AreFew most) c (λ change ks keeps same are'. few_update most c change ks same are') piece s are
few_advance most s (Took c n) accepted allowed are = few_update most c (λ k. record k { waits = drop n k.waits }) s.sessions (λ k. refl) are
few_advance most s (Close c) accepted allowed are = few_without most c s.sessions are
few_advance most s (WriteFailed c) accepted allowed are = few_without most c s.sessions are
few_advance most s (Reload k) accepted allowed are = few_filter most (λ j. not (is_to_cleared (fate_of k.upses (numbering_of s)) j.login)) s.sessions are
few_advance most s e accepted allowed are = are

-- ---- the configurations of a history

-- The configuration in force allows no more connections than one of those so far. If all are within the limits, so is it,
-- and so are the connections.
abbrev pub IsAllowed : Configuration → List Event → Configuration → Type 0
IsAllowed first h now = (now.most_connections ≤ most_allowed first h) × (AreWithin first h → IsWithin now) × (AreWithin first h → most_allowed first h ≤ CONNECTIONS_MAX)

pub allowed : (first : Configuration) (h : List Event) → IsAllowed first h (configuration first (past first h))
allowed first [] = (omega arith, λ within. within, λ within. within.connections)
allowed first (Bytes c piece ∷ h) = subst (IsAllowed first h) (sym (configuration_lines first c (brought (input c h) piece) (steps h))) (allowed first h)
allowed first (DriverBytes u piece ∷ h) = subst (IsAllowed first h) (sym (configuration_reports first u (brought (driver_input u h) piece) (steps h))) (allowed first h)
allowed first (Reload k ∷ h) =
    (omega arith, λ within. within.0, λ within. let own = within.0.connections in let earlier = (allowed first h).2 within.1 in omega (arith, own, earlier))
allowed first (e ∷ h) = allowed first h

pub were_within : (first : Configuration) (e : Event) (h : List Event) → AreWithin first (e ∷ h) → AreWithin first h
were_within first e h within = grind arith

few_next : (first : Configuration) (h : List Event) (e : Event) → IsAccepted first (e ∷ h) → AreFew (most_allowed first h) (content first h).sessions
    → AreFew (most_allowed first h) (content first (e ∷ h)).sessions
few_next first h e accepted before =
    let now' : (content first (e ∷ h)).sessions ≡ (advance (content first h) e).sessions = ap (λ (s : Content). s.sessions) (keeps-content first h e accepted) in
    subst (λ ks. AreFew (most_allowed first h) ks) (sym now') (few_advance (most_allowed first h) (content first h) e accepted.1 (allowed first h).0 before)

pub few_history : (first : Configuration) (h : List Event) → IsAccepted first h → AreFew (most_allowed first h) (content first h).sessions
few_history first [] accepted = record { few = omega arith; addresses = tt }
few_history first (Reload k ∷ h) accepted =
    let are = few_next first h (Reload k) accepted (few_history first h accepted.0) in
    record { few = omega (arith, are.few); addresses = are.addresses }
few_history first (e ∷ h) accepted = few_next first h e accepted (few_history first h accepted.0)

-- ---- a content within its limits

pub record IsShort (s : Content) : Type 0 where
  pub configured : IsWithin s.configuration
  pub tables : AllByRecursion (λ d. IsShortTable d.device.table) s.supplies
  pub nothing : IsShortTable empty
  pub sessions : AreFew CONNECTIONS_MAX s.sessions

scene_short : (s : Content) → IsShort s → IsShortScene (scene_of s)
scene_short s short = record {
  configured = short.configured;
  devices = each_device s.supplies short.tables;
  nothing = short.nothing;
  guests = each_guest s.sessions short.sessions.addresses;
  few = omega (arith, length-map s.sessions guest_of, short.sessions.few);
} where
  each_device : (ds : List Supply) → AllByRecursion (λ d. IsShortTable d.device.table) ds → AllByRecursion (λ (d : Device). IsShortTable d.table) (map (λ d. d.device) ds)
  each_device [] all = tt
  each_device (d ∷ ds) all = (all.0, each_device ds all.1)

  each_guest : (ks : List Session) → AllByRecursion (λ k. length k.address ≤ ADDRESS_MAX) ks → AllByRecursion (λ (g : Guest). length g.address ≤ ADDRESS_MAX) (map guest_of ks)
  each_guest [] all = tt
  each_guest (k ∷ ks) all = (all.0, each_guest ks all.1)

tables_at : (u : ℕ) (change : Supply → Supply) (ds : List Supply) → ((d : Supply) → (change d).device.table ≡ d.device.table) → AllByRecursion (λ d. IsShortTable d.device.table) ds
    → AllByRecursion (λ d. IsShortTable d.device.table) (update_at u change ds)
tables_at u change [] keeps all = tt
tables_at zero change (d ∷ ds) keeps all = (subst IsShortTable (sym (keeps d)) all.0, all.1)
tables_at (suc u) change (d ∷ ds) keeps all = (all.0, tables_at u change ds keeps all.1)

tables_acted : (o : Option ℕ) (command : Command) (reply : Answer) (ds : List Supply) → AllByRecursion (λ d. IsShortTable d.device.table) ds
    → AllByRecursion (λ d. IsShortTable d.device.table) (act_on o (acted command reply) ds)
tables_acted o command reply ds all = grind (arith, reply, tables_at)

short_line : (c : ℕ) (o : Option Session) (s : Content) → IsShort s → IsShort (line_heard c o s)
short_line c None s short = short
short_line c (Some k) s short =
    let command = command_of k.rest in
    let reply = answer_in s command k in
    record {
      configured = short.configured;
      tables = tables_acted (target (numbering_of s) command) command reply s.supplies short.tables;
      nothing = short.nothing;
      sessions = few_update CONNECTIONS_MAX c (λ k. with_rest (Text []) (answered (numbering_of s) command reply k)) s.sessions (λ k. refl) short.sessions;
    }

short_byte : (c b : ℕ) (s : Content) → IsShort s → IsShort (byte_heard c b s)
short_byte c b s short =
    elim (cases_Bool (eqb b 10)) [
      | inl e ↦ rw e (short_line c (session_of c s.sessions) s short)
      | inr e ↦ rw e (record {
        configured = short.configured;
        tables = short.tables;
        nothing = short.nothing;
        sessions = few_update CONNECTIONS_MAX c (λ k. with_rest (joined k.rest (b ∷ [])) k) s.sessions (λ k. refl) short.sessions;
      })
    ]

short_history : EveryTableHolds → (first : Configuration) (h : List Event) → AreWithin first h → IsAccepted first h → IsShort (content first h)
short_history every first h within accepted =
    let are = few_history first h accepted in
    record {
      configured = (allowed first h).1 within;
      tables = all_map (λ (d : Supply). IsShortTable d.device.table) (supply first h) (ups_numbers first (past first h)) (λ u. table_short every (reports u (past first h)));
      nothing = table_short every [];
      sessions = record { few = omega (arith, are.few, (allowed first h).2 within); addresses = are.addresses };
    }

-- ---- the answers to a piece

-- 1 for an unfinished line that isn't empty, which may be answered when it ends; else 0
abbrev unfinished : LineText → ℕ
unfinished (Text []) = 0
unfinished (Text (b ∷ bytes)) = 1
unfinished TooLong = 1

unfinished-le : (l : LineText) → unfinished l ≤ 1
unfinished-le other = grind arith

-- After n bytes, with one counted for an unfinished line before them: what waits is at most this many of the longest
-- answers, and each line answered took at least two of these bytes.
record IsServed (n : ℕ) (k : Session) : Type 0 where
  lines : ℕ
  answers : length k.waits ≤ 578146 * lines
  heard : 2 * lines + unfinished k.rest ≤ n

length-silence : length (text_of Silence) ≡ 0
unfolding text_of
length-silence = refl

-- An empty line gets no answer.
empty_blank : command_of (Text []) ≡ Blank
unfolding reader.read
empty_blank = refl

answer_empty : (s : Content) (k : Session) → answer_in s (command_of (Text [])) k ≡ Silence
answer_empty s k = grind (arith, empty_blank)

answer_in_fit : (s : Content) (command : Command) (k : Session) → IsShort s → IsReadableCommand command → IsFit (answer_in s command k)
answer_in_fit s command k short readable = grind (arith, IsFit, fit_silence, answer_fit, scene_short)

served_line : (n : ℕ) (s : Content) (k : Session) → IsShort s → IsServed n k
    → IsServed (n + 1) (with_rest (Text []) (answered (numbering_of s) (command_of k.rest) (answer_in s (command_of k.rest) k) k))
served_line n s k short served = by_rest k.rest refl where
  reply : Answer
  reply = answer_in s (command_of k.rest) k

  later : Session
  later = with_rest (Text []) (answered (numbering_of s) (command_of k.rest) reply k)

  one_more : unfinished k.rest ≡ 1 → IsServed (n + 1) later
  one_more is = record {
    lines = served.lines + 1;
    answers = omega (arith, length-append k.waits (text_of reply), answer_in_fit s (command_of k.rest) k short (readable-command k.rest), served.answers);
    heard = omega (arith, served.heard, is);
  }

  by_rest : (r : LineText) → k.rest ≡ r → IsServed (n + 1) later
  by_rest r is = grind (arith, reply, answer_empty, length-append, length-silence, one_more)

-- what is done if c is open
abbrev AreServed : ℕ → ℕ → Content → Type 0
AreServed c n s = (k : Session) → session_of c s.sessions ≡ Some k → IsServed n k

-- A session that is found after a change is the changed one.
found_changed : (c : ℕ) (change : Session → Session) (ks : List Session) (k : Session) → ((j : Session) → (change j).number ≡ j.number) → session_of c (update c change ks) ≡ Some k
    → (j : Session) × (session_of c ks ≡ Some j) × (change j ≡ k)
found_changed c change ks k keeps there = grind (arith, session_of-update)

served_feed : (c n : ℕ) (s : Content) (o : Option Session) → IsShort s → session_of c s.sessions ≡ o → AreServed c n s → AreServed c (n + 1) (line_heard c o s)
served_feed c n s o short is served k there = grind (arith, found_changed, served_line)

served_byte : (c b n : ℕ) (s : Content) → IsShort s → AreServed c n s → AreServed c (n + 1) (byte_heard c b s)
served_byte c b n s short served k there =
    elim (cases_Bool (eqb b 10)) [
      | inl e ↦ served_feed c n s (session_of c s.sessions) short refl served k (rw e at there)
      | inr e ↦
          let found = found_changed c (λ k. with_rest (joined k.rest (b ∷ [])) k) s.sessions k (λ k. refl) (rw e at there) in
          let before = served found.0 found.1 in
          subst (IsServed (n + 1)) found.2 (record {
            lines = before.lines;
            answers = before.answers;
            heard = omega (arith, before.heard, unfinished-le (joined found.0.rest (b ∷ [])));
          })
    ]

served_bytes : (c : ℕ) (piece : List ℕ) (n m : ℕ) (s : Content) → n + length piece ≤ m → IsShort s → AreServed c n s → AreServed c m (bytes_heard c piece s)
served_bytes c [] n m s le short served = λ k there.
    let before = served k there in
    record { lines = before.lines; answers = before.answers; heard = omega (arith, before.heard) }
served_bytes c (b ∷ bytes) n m s le short served = served_bytes c bytes (n + 1) m (byte_heard c b s) (omega arith) (short_byte c b s short) (served_byte c b n s short served)

-- If a piece is accepted, it is short and nothing waits.
pub piece_accepted : (piece : List ℕ) (o : Option Session) → bytes_refusal piece o ≡ None → (length piece ≤ PIECE_MAX) × (length (waiting_in o) ≤ 0)
piece_accepted piece o accepted = grind (arith, cases_Bool, ltb-false)

piece_bounded : (s : Content) (c : ℕ) (piece : List ℕ) (k : Session) → IsShort s → refusal s (Bytes c piece) ≡ None → session_of c (bytes_heard c piece s).sessions ≡ Some k → length k.waits ≤ most_waits
piece_bounded s c piece k short accepted there =
    let before = piece_accepted piece (session_of c s.sessions) accepted in
    let served = served_bytes c piece 1 (PIECE_MAX + 1) s (omega (arith, before.0)) short (λ j is. record {
      lines = 0;
      answers = omega (arith, before.1, ap (λ o. length (waiting_in o)) is);
      heard = omega (arith, unfinished-le j.rest);
    }) k there in
    omega (arith, served.answers, served.heard)

-- ---- every history

waiting_bounded : (o : Option Session) → ((k : Session) → o ≡ Some k → length k.waits ≤ most_waits) → length (waiting_in o) ≤ most_waits
waiting_bounded o bounded = grind arith

abbrev AreBounded : ℕ → Content → Type 0
AreBounded d s = (k : Session) → session_of d s.sessions ≡ Some k → length k.waits ≤ most_waits

bounded_other : (s : Content) (e : Event) (d : ℕ) → IsOther d (connection_of s e) → closes s e d ≡ false → AreBounded d s → AreBounded d (advance s e)
bounded_other s e d other stays bounded k there = bounded k (sym (advance-other s e d other stays) ∙ there)

module _ (first : Configuration) (h : List Event) (d : ℕ) (short : IsShort (content first h)) (bounded : AreBounded d (content first h)) where
  -- an event of d itself, or of another connection
  bounded_of : (e : Event) (c : ℕ) → connection_of (content first h) e ≡ Some c → closes (content first h) e d ≡ false → (c ≡ d → AreBounded d (advance (content first h) e)) → AreBounded d (advance (content first h) e)
  bounded_of e c is stays own = grind (arith, cases_Bool, eqb-true, bounded_other)

  bounded_advance : (e : Event) → IsAccepted first (e ∷ h) → AreBounded d (advance (content first h) e)
  bounded_advance (Open address) accepted = bounded_of (Open address) ((content first h).opened + 1) refl refl (λ is k there.
      let s = content first h in
      let opened : session_of (s.opened + 1) (advance s (Open address)).sessions ≡ Some (fresh (s.opened + 1) address) =
      sym (ap (λ (t : Content). session_of (s.opened + 1) t.sessions) (keeps-content first h (Open address) accepted)) ∙ opened-fresh first h address accepted in
      let same : Some (fresh (s.opened + 1) address) ≡ Some k = sym opened ∙ ap (λ n. session_of n (advance s (Open address)).sessions) is ∙ there in
      let this : fresh (s.opened + 1) address ≡ k = cc in
      omega (arith, ap (λ (k : Session). length k.waits) this))
  bounded_advance (Bytes c piece) accepted = bounded_of (Bytes c piece) c refl refl (λ is k there.
      piece_bounded (content first h) c piece k short accepted.1 (ap (λ n. session_of n (bytes_heard c piece (content first h)).sessions) is ∙ there))
  bounded_advance (Took c n) accepted = bounded_of (Took c n) c refl refl (λ is k there.
      let s = content first h in
      let left : k.waits ≡ drop n (waiting_of c s.sessions) = sym (ap waiting_in there) ∙ ap (λ m. waiting_of m (advance s (Took c n)).sessions) (sym is) ∙ advance-took s c n in
      let before : length (waiting_of c s.sessions) ≤ most_waits = waiting_bounded (session_of c s.sessions) (λ j found. bounded j (ap (λ m. session_of m s.sessions) (sym is) ∙ found)) in
      omega (arith, ap length left, length-drop n (waiting_of c s.sessions), before))
  bounded_advance (Close c) accepted = bounded_of (Close c) c refl refl (λ is k there.
      absurd (let bad : None ≡ Some k = sym (session_of-without c (content first h).sessions) ∙ ap (λ m. session_of m (advance (content first h) (Close c)).sessions) is ∙ there in cc))
  bounded_advance (WriteFailed c) accepted = bounded_of (WriteFailed c) c refl refl (λ is k there.
      absurd (let bad : None ≡ Some k = sym (session_of-without c (content first h).sessions) ∙ ap (λ m. session_of m (advance (content first h) (WriteFailed c)).sessions) is ∙ there in cc))
  bounded_advance (Reload c) accepted = λ k there. was_open k there (session_of d (content first h).sessions) refl where
    q : Session → Bool
    q j = not (is_to_cleared (fate_of c.upses (numbering_of (content first h))) j.login)

    was_open : (k : Session) → session_of d (advance (content first h) (Reload c)).sessions ≡ Some k → (o : Option Session) → session_of d (content first h).sessions ≡ o → length k.waits ≤ most_waits
    was_open k there None none =
        let gone = session_of-filter d q (content first h).sessions (ap (λ o. option_map_or q o true) none) ∙ none in
        let bad : None ≡ Some k = sym gone ∙ there in
        absurd (cc)
    was_open k there (Some j) found =
        let later : session_of d (content first (Reload c ∷ h)).sessions ≡ Some k = ap (λ (s : Content). session_of d s.sessions) (keeps-content first h (Reload c) accepted) ∙ there in
        let same : k ≡ j = session_is first (Reload c ∷ h) d k later ∙ sym (session_is first h d j found) in
        omega (arith, bounded j found, ap (λ (j : Session). length j.waits) same)
  bounded_advance e accepted = bounded_other (content first h) e d tt refl bounded

waits_history : EveryTableHolds → (first : Configuration) (h : List Event) (d : ℕ) → AreWithin first h → IsAccepted first h → AreBounded d (content first h)
waits_history every first [] d within accepted k there = absurd (cc)
waits_history every first (e ∷ h) d within accepted k there =
    let earlier = were_within first e h within in
    let before = waits_history every first h d earlier accepted.0 in
    let short = short_history every first h earlier accepted.0 in
    bounded_advance first h d short before e accepted k (sym (ap (λ (s : Content). session_of d s.sessions) (keeps-content first h e accepted)) ∙ there)

pub waits-bounded : EveryTableHolds → WaitsAreBounded
waits-bounded every first h within accepted c k there = waits_history every first h c within accepted k there
