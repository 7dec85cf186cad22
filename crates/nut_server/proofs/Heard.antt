-- How a connection's piece is handled while its cutter is taken out.
use Rattle.std.proofs.Common.{◌≡◌, ℕ, zero, suc, ◌<◌, true, eqb, List, [], ◌∷◌, refl, sym, ◌∙◌, ap, subst, inl, inr, Option, Some, None, slice_get}
use Rattle.std.specs.Prelude.{IsTrue, false, option_map}
use Rattle.std.specs.Option.{option_map_or}
use Rattle.std.proofs.lemmas.Bool.{cases_Bool}
use Rattle.nut_words.specs.Hearing.{StopsAt, heard_all}
use Rattle.nut_words.specs.Lines.{LineText, Text, lines_after, rest}
use Rattle.nut_server_spec.specs.Answer.{Answer}
use Rattle.nut_server_spec.specs.Command.{Command, command_of}
use Rattle.nut_server_spec.specs.Content.{Session, Content, numbering_of}
use Rattle.nut_server_spec.specs.Effect.{target}
use Rattle.nut_server_spec.specs.Trace.{given_then}
use Rattle.nut_server_spec.specs.Acceptance.{front, line_feeds, session_of}
use Rattle.nut_server_spec.specs.Event.{Close}
use Rattle.nut_server_spec.specs.machine.MachineOutcome.{RunsOut, content_lost, unfinished_of}
use Rattle.nut_server_spec.specs.Outcome.{line_takes}
use Rattle.nut_server_spec.specs.machine.Machine.{update, with_rest, with_sessions, answer_in, answered, act_on, acted, after_answer, without, advance, byte_heard, bytes_heard, line_heard}
use Rattle.nut_server_spec.proofs.Hearing.{byte_feed, byte_other, update-update, with_unfinished, with_unfinished-same}
use Rattle.nut_server_spec.proofs.Sessions.{IsOpen, KeepsNumber, session_of-update, without-update}
use Rattle.nut_server.specs.inside.Effects.{answered_by}
use Rattle.nut_server.specs.inside.Lines.{command_done, line_answered, line_heard_by, with_content}
use Rattle.nut_server.specs.inside.Place.{IsPlace, Stands}
use Rattle.nut_server.specs.declared.server.hearing.Hearer.{Hearer}
use Rattle.nut_server.proofs.Pieces.{HearsLines, stops_in}
use Rattle.nut_server.proofs.Places.{place_within, place_session, found_session}

place_updated : (c : ℕ) (change : Session → Session) (ks : List Session) (at : ℕ) → KeepsNumber change → IsPlace c ks at → IsPlace c (update c change ks) at
place_updated c change [] at keeps place = absurd place
place_updated c change (k ∷ ks) zero keeps place = rw place (ap (λ n. eqb n c) (keeps k) ∙ place)
place_updated c change (k ∷ ks) (suc at) keeps place = rw place.0 (place.0, place_updated c change ks at keeps place.1)

-- A change of a connection leaves its place as it is.
pub stands_updated : (c : ℕ) (change : Session → Session) (ks ks' : List Session) (at : ℕ) → KeepsNumber change → ks' ≡ update c change ks → Stands c ks at → Stands c ks' at
stands_updated c change ks ks' at keeps is stands =
    let place = place_updated c change ks at keeps stands.place in
    subst (λ xs. Stands c xs at) (sym is)
    (record { place = place; within = place_within c (update c change ks) at place; session = place_session c (update c change ks) at place })

-- the session at the place
pub standing : (c : ℕ) (ks : List Session) (at : ℕ) → Stands c ks at → (k : Session) × (session_of c ks ≡ Some k) × (slice_get ks at ≡ Some k)
standing c ks at stands = let found = found_session c ks at stands in (found.0, found.1, sym stands.session ∙ found.1)

-- While the cutter of c is taken out, c is open, and only its unfinished line is missing.
pub cutter_out : (c at : ℕ) (s started : Content) (cutter : LineText) (sessions : List Session) → Stands c s.sessions at → s ≡ started → ((k : Session) → slice_get s.sessions at ≡ Some k → cutter ≡ k.rest)
    → sessions ≡ update c (with_rest (Text [])) s.sessions → (with_unfinished c cutter (with_sessions sessions s) ≡ started) × IsOpen c (with_sessions sessions s)
cutter_out c at s started cutter sessions stands is taken left =
    let it = standing c s.sessions at stands in (
      ap (λ ks. with_unfinished c cutter (with_sessions ks s)) left
          ∙ ap (λ ks. with_sessions ks s) (update-update c (with_rest (Text [])) (with_rest cutter) s.sessions (λ k. refl))
          ∙ with_unfinished-same c cutter s it.0 it.1 (sym (taken it.0 it.2))
          ∙ is,
      (with_rest (Text []) it.0, ap (session_of c) left ∙ session_of-update c (with_rest (Text [])) s.sessions (λ k. refl) ∙ ap (option_map (with_rest (Text []))) it.1),
    )

-- a line was answered, and no byte of it is left
answered_then : (c : ℕ) (command : Command) (reply : Answer) (s : Content) → with_unfinished c (Text []) (answered_by c command reply s) ≡ after_answer c command reply s
answered_then c command reply s =
    ap (λ sessions. record s { sessions = sessions; supplies = act_on (target (numbering_of s) command) (acted command reply) s.supplies; given = given_then reply s.given })
    (update-update c (λ k. answered (numbering_of s) command reply k) (with_rest (Text [])) s.sessions (λ k. refl))

-- the connection is closed, whatever its unfinished line
closed_then : (c : ℕ) (r : LineText) (s h : Content) → with_unfinished c r s ≡ h → with_sessions (without c s.sessions) s ≡ advance h (Close c)
closed_then c r s h is =
    ap (λ sessions. with_sessions sessions s) (sym (without-update c (with_rest r) s.sessions (λ k. refl))) ∙ ap (λ s. advance s (Close c)) is

-- ---- its lines

-- There is nothing to change if c isn't open.
update-closed : (c : ℕ) (change : Session → Session) (ks : List Session) → session_of c ks ≡ None → update c change ks ≡ ks
update-closed c change [] none = refl
update-closed c change (k ∷ ks) none =
    elim (cases_Bool (eqb k.number c)) [
      | inl e ↦ absurd (let some : Some k ≡ None = rw e at none in cc)
      | inr e ↦ rw e (ap (λ ks. k ∷ ks) (update-closed c change ks (rw e at none)))
    ]

-- at a line feed, which completes the line r of c, open or not
feed_heard : (c b : ℕ) (r : LineText) (s : Content) (o : Option Session) → eqb b 10 ≡ true → session_of c s.sessions ≡ o
    → byte_heard c b (with_unfinished c r s) ≡ with_unfinished c (Text []) (command_done c (command_of r) o s)
feed_heard c b r s None e none =
    let there : session_of c (with_unfinished c r s).sessions ≡ None = session_of-update c (with_rest r) s.sessions (λ k. refl) ∙ ap (option_map (with_rest r)) none in
    let same : (line : LineText) → with_unfinished c line s ≡ s = λ line. ap (λ ks. with_sessions ks s) (update-closed c (with_rest line) s.sessions none) in
    rw e (ap (λ o. line_heard c o (with_unfinished c r s)) there ∙ same r ∙ sym (same (Text [])))
feed_heard c b r s (Some k) e found = byte_feed c b r s k found e ∙ sym (answered_then c (command_of r) (answer_in s (command_of r) k) s)

pub hears_client : (c : ℕ) → HearsLines (bytes_heard c) (line_answered c) (with_unfinished c)
hears_client c = record {
  none = λ s. refl;
  feed = λ b p r s e. ap (bytes_heard c p) (feed_heard c b r s (session_of c s.sessions) e refl);
  other = λ b p r s e. ap (bytes_heard c p) (byte_other c b r s e);
}

-- The server stopped at a line of c, and is as it was before the line.
abbrev pub Stopped : ℕ → Content → LineText → Content → Type 0
Stopped c after line before = (after ≡ before) × IsTrue (line_takes line (session_of c before.sessions))

-- Whether a line may take memory doesn't depend on unfinished lines.
takes_same : (line : LineText) (c : ℕ) (r : LineText) (s : Content) → line_takes line (session_of c s.sessions) ≡ line_takes line (session_of c (with_unfinished c r s).sessions)
takes_same line c r s = same (session_of c s.sessions) ∙ ap (line_takes line) (sym (session_of-update c (with_rest r) s.sessions (λ k. refl))) where
  same : (o : Option Session) → line_takes line o ≡ line_takes line (option_map (with_rest r) o)
  same None = refl
  same (Some k) = refl

-- The lines before it were answered, and the connection is then closed.
pub client_stopped : (c : ℕ) (b p : List ℕ) (r : LineText) (s started after : Content) (done : ℕ) → r ≡ rest b → with_unfinished c r s ≡ started → IsOpen c s
    → StopsAt (line_answered c) (Stopped c after) (lines_after r p) s done
    → (done < line_feeds p) × (with_sessions (without c after.sessions) after ≡ content_lost c p done started) × RunsOut c p done started
client_stopped c b p r s started after done here began is_open stops =
    let at = stops_in (hears_client c) b p r s started done here began stops in
    let P : Option LineText → Content → Type 0 = λ line s. IsTrue (option_map_or (λ l. line_takes l (session_of c s.sessions)) line false) in
    let takes = subst (λ line. P line (with_unfinished c at.left at.now)) (sym at.nth) (subst IsTrue (takes_same at.line c at.left at.now) at.stops.1) in
    let first : r ≡ unfinished_of (session_of c started.sessions) =
    sym (ap unfinished_of (session_of-update c (with_rest r) s.sessions (λ k. refl) ∙ ap (option_map (with_rest r)) is_open.1)) ∙ ap (λ (s : Content). unfinished_of (session_of c s.sessions)) began in (
      at.few,
      ap (λ (s : Content). with_sessions (without c s.sessions) s) at.stops.0 ∙ closed_then c at.left at.now _ (sym at.is),
      subst (λ r. P (slice_get (lines_after r p) done) (bytes_heard c (front done p) started)) first (subst (P (slice_get (lines_after r p) done)) (sym at.is) takes),
    )

-- ---- the hearer of its lines

told_lines : (ls : List LineText) (h : Hearer) → heard_all line_heard_by ls h ≡ with_content (heard_all (line_answered h.c) ls h.server.now) h
told_lines [] h = refl
told_lines (line ∷ ls) h = told_lines ls (line_heard_by line h)

-- After lines it holds the same server, which has answered them, and the connection has kept its place.
pub record HasTold (ls : List LineText) (h after : Hearer) : Type 0 where
  pub server : h.server.ghost_name ≡ after.server.ghost_name
  pub content : after.server.now ≡ heard_all (line_answered h.c) ls h.server.now
  pub place : Stands after.c after.server.now.sessions after.at → Stands h.c after.server.now.sessions h.at

pub has_told : (ls : List LineText) (h after : Hearer) → after ≡ heard_all line_heard_by ls h → HasTold ls h after
has_told ls h after told =
    let is = told ∙ told_lines ls h in
    record {
      server = sym (ap (λ (h : Hearer). h.server.ghost_name) is);
      content = ap (λ (h : Hearer). h.server.now) is;
      place = subst (λ (h : Hearer). Stands h.c after.server.now.sessions h.at) is;
    }

-- It stopped at a line, and is as it was before the line.
abbrev pub HearerStopped : Hearer → LineText → Hearer → Type 0
HearerStopped after line h = Stands h.c h.server.now.sessions h.at × ((after ≡ h) × IsTrue (line_takes line (session_of h.c h.server.now.sessions)))

pub server_stopped : (h after : Hearer) (ls : List LineText) (done : ℕ) → StopsAt line_heard_by (HearerStopped after) ls h done → StopsAt (line_answered h.c) (Stopped h.c after.server.now) ls h.server.now done
server_stopped h after ls done at =
    let stops = subst (HearerStopped after at.line) (told_lines at.earlier h) at.stops in
    record {
      earlier = at.earlier;
      line = at.line;
      later = at.later;
      parted = at.parted;
      count = at.count;
      stops = (ap (λ (h : Hearer). h.server.now) stops.1.0, stops.1.1);
    }
