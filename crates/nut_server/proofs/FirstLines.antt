-- How a piece is handled whose first line is whole, if nothing was kept of a line before it.
use Rattle.std.proofs.Common.{◌≡◌, ℕ, suc, ◌+◌, ◌<◌, ◌≤◌, false, eqb, List, [], ◌∷◌, ◌++◌, length, slice_get, refl, sym, ap, ap₂, subst, ◌∙◌, append_assoc, arith, inl, inr, Option, Some}
use Rattle.std.specs.Prelude.{option_map, IsTrue}
use Rattle.std.specs.Option.{option_map_or}
use Rattle.std.proofs.lemmas.Bool.{cases_Bool}
use Rattle.std.proofs.lemmas.List.{length-append}
use Rattle.nut_words.specs.Cutter.{IsFirstLine}
use Rattle.nut_words.specs.Hearing.{heard_all}
use Rattle.nut_words.specs.Lines.{LineText, Text, lines_after, rest_after}
use Rattle.nut_words.proofs.HearLemmas.{lines_cut}
use Rattle.nut_words.proofs.StreamGrowth.{lines-append, rest-append, rest_at_line_feed}
use Rattle.nut_server_spec.specs.Acceptance.{front, line_feeds, session_of}
use Rattle.nut_server_spec.specs.Command.{command_of}
use Rattle.nut_server_spec.specs.Content.{Session, Content, numbering_of}
use Rattle.nut_server_spec.specs.Event.{Close}
use Rattle.nut_server_spec.specs.machine.Machine.{advance, answer_in, answered, bytes_heard}
use Rattle.nut_server_spec.specs.Outcome.{line_takes}
use Rattle.nut_server_spec.specs.machine.MachineOutcome.{RunsOut, content_lost, unfinished_of}
use Rattle.nut_server_spec.proofs.Hearing.{with_unfinished-same}
use Rattle.nut_server_spec.proofs.Sessions.{session_of-update}
use Rattle.nut_server.specs.inside.Effects.{answered_by}
use Rattle.nut_server.specs.inside.Lines.{IsHeard, IsMissed, command_done, line_answered}
use Rattle.nut_server.specs.inside.Place.{Stands}
use Rattle.nut_server.proofs.Feeds.{lines_counted}
use Rattle.nut_server.proofs.Heard.{hears_client, stands_updated}
use Rattle.nut_server.proofs.Pieces.{heard_whole}

-- ---- bytes

heard_in_turn : (c : ℕ) (a b : List ℕ) (s : Content) → bytes_heard c (a ++ b) s ≡ bytes_heard c b (bytes_heard c a s)
heard_in_turn c [] b s = refl
heard_in_turn c (x ∷ a) b s = heard_in_turn c a b _

counted_in_turn : (a b : List ℕ) → line_feeds (a ++ b) ≡ line_feeds a + line_feeds b
counted_in_turn [] b = omega arith
counted_in_turn (x ∷ a) b = elim (cases_Bool (eqb x 10)) [
  | inl e ↦ rw e (omega (arith, counted_in_turn a b))
  | inr e ↦ rw e (omega (arith, counted_in_turn a b))
]

front_behind : (n : ℕ) (text after : List ℕ) → line_feeds text ≡ 0 → front (suc n) (text ++ 10 ∷ after) ≡ text ++ 10 ∷ front n after
front_behind n [] after none = refl
front_behind n (x ∷ text) after none = elim (cases_Bool (eqb x 10)) [
  | inl e ↦ absurd (let some : suc (line_feeds text) ≡ 0 = rw e at none in omega (arith, some))
  | inr e ↦ rw e (ap (λ bytes. x ∷ bytes) (front_behind n text after (rw e at none)))
]

-- ---- one line

module _ (c : ℕ) (text piece after : List ℕ) (s : Content) (k : Session) (found : session_of c s.sessions ≡ Some k) (start : k.rest ≡ Text [])
    (first : IsFirstLine text piece after) where
  abbrev whole : List ℕ
  whole = text ++ 10 ∷ []

  joint : piece ≡ whole ++ after
  joint = first.parted ∙ sym (append_assoc text (10 ∷ []) after)

  one_line : lines_after (Text []) whole ≡ Text text ∷ []
  one_line = sym (lines-append [] whole) ∙ first.whole

  all_lines : lines_after (Text []) piece ≡ Text text ∷ lines_after (Text []) after
  all_lines = ap (lines_after (Text [])) joint ∙ lines_cut [] whole after ∙ ap₂ (λ ls r. ls ++ lines_after r after) one_line (rest_at_line_feed text)

  feeds : line_feeds piece ≡ suc (line_feeds after)
  feeds = sym (lines_counted [] piece) ∙ ap length all_lines ∙ ap suc (lines_counted [] after)

  front_of : (n : ℕ) → front (suc n) piece ≡ whole ++ front n after
  front_of n =
      let none : line_feeds text ≡ 0 = omega (arith, sym feeds ∙ ap line_feeds first.parted ∙ counted_in_turn text (10 ∷ after)) in
      ap (front (suc n)) first.parted ∙ front_behind n text after none ∙ sym (append_assoc text (10 ∷ []) (front n after))

  -- the lines of the piece, wherever the unfinished line is looked up
  here : lines_after (unfinished_of (session_of c s.sessions)) piece ≡ Text text ∷ lines_after (Text []) after
  here = ap (λ o. lines_after (unfinished_of o) piece) found ∙ ap (λ r. lines_after r piece) start ∙ all_lines

  -- Memory may run out at the line if it may allocate some.
  missed : IsTrue (line_takes (Text text) (Some k)) → RunsOut c piece 0 s
  missed takes =
      let P : List LineText → Option Session → Type 0 = λ ls o. IsTrue (option_map_or (λ line. line_takes line o) (slice_get ls 0) false) in
      subst (λ ls. P ls (session_of c s.sessions)) (sym here) (subst (P (Text text ∷ lines_after (Text []) after)) (sym found) takes)

  abbrev answer_to : Content
  answer_to = answered_by c (command_of (Text text)) (answer_in s (command_of (Text text)) k) s

  there : session_of c answer_to.sessions ≡ Some (answered (numbering_of s) (command_of (Text text)) (answer_in s (command_of (Text text)) k) k)
  there =
      let change : Session → Session = λ k. answered (numbering_of s) (command_of (Text text)) (answer_in s (command_of (Text text)) k) k in
      session_of-update c (λ j. answered (numbering_of s) (command_of (Text text)) (answer_in s (command_of (Text text)) k) j) s.sessions (λ j. refl)
      ∙ ap (option_map (λ j. answered (numbering_of s) (command_of (Text text)) (answer_in s (command_of (Text text)) k) j)) found

  -- The answer to the line does what its bytes do.
  line_heard : answer_to ≡ bytes_heard c whole s
  line_heard =
      let ended : Text [] ≡ rest_after (Text []) whole = sym (rest_at_line_feed text) ∙ rest-append [] whole in
      let told : answer_to ≡ heard_all (line_answered c) (lines_after (Text []) whole) s =
      ap (λ o. command_done c (command_of (Text text)) o s) (sym found) ∙ ap (λ ls. heard_all (line_answered c) ls s) (sym one_line) in
      sym (with_unfinished-same c (Text []) answer_to _ there start)
      ∙ heard_whole (hears_client c) [] whole (Text []) (Text []) s s answer_to refl (with_unfinished-same c (Text []) s k found start) ended told

  module _ (new : Content) (is : new ≡ answer_to) where
    more : (n : ℕ) → bytes_heard c (front n after) new ≡ bytes_heard c (front (suc n) piece) s
    more n = ap (bytes_heard c (front n after)) (is ∙ line_heard) ∙ sym (heard_in_turn c whole (front n after) s) ∙ ap (λ bytes. bytes_heard c bytes s) (sym (front_of n))

    all : bytes_heard c after new ≡ bytes_heard c piece s
    all = ap (bytes_heard c after) (is ∙ line_heard) ∙ sym (heard_in_turn c whole after s) ∙ ap (λ bytes. bytes_heard c bytes s) (sym joint)

    runs_out : (n : ℕ) → RunsOut c after n new → RunsOut c piece (suc n) s
    runs_out n out =
        let P : List LineText → ℕ → Content → Type 0 = λ ls n s. IsTrue (option_map_or (λ line. line_takes line (session_of c s.sessions)) (slice_get ls n) false) in
        let kept : unfinished_of (session_of c new.sessions) ≡ Text [] = ap (λ (s : Content). unfinished_of (session_of c s.sessions)) is ∙ ap unfinished_of there ∙ start in
        subst (λ ls. P ls (suc n) (bytes_heard c (front (suc n) piece) s)) (sym here)
        (subst (P (lines_after (Text []) after) n) (more n) (subst (λ r. P (lines_after r after) n (bytes_heard c (front n after) new)) kept out))

-- ---- all lines

-- `done` lines of the piece were handled, which made the content `now` of the one before the piece; these bytes are left.
pub record IsAhead (c : ℕ) (piece left : List ℕ) (done : ℕ) (s now : Content) : Type 0 where
  pub heard : bytes_heard c left now ≡ bytes_heard c piece s
  pub feeds : line_feeds piece ≡ done + line_feeds left
  pub lost : (n m : ℕ) → m ≡ done + n → content_lost c left n now ≡ content_lost c piece m s
  pub memory : (n m : ℕ) → m ≡ done + n → RunsOut c left n now → RunsOut c piece m s

-- one line further
pub goes_ahead : (c : ℕ) (piece left after : List ℕ) (done : ℕ) (s now new : Content) (k : Session) → session_of c now.sessions ≡ Some k → IsHeard c k left after now new
    → IsAhead c piece left done s now → IsAhead c piece after (done + 1) s new
goes_ahead c piece left after done s now new k found it ahead = record {
  heard = all c it.text left after now k found it.start it.first new it.heard ∙ ahead.heard;
  feeds = omega (arith, ahead.feeds, feeds c it.text left after now k found it.start it.first);
  lost = λ n m is. ap (λ s. advance s (Close c)) (more c it.text left after now k found it.start it.first new it.heard n) ∙ ahead.lost (suc n) m (omega (arith, is));
  memory = λ n m is out. ahead.memory (suc n) m (omega (arith, is)) (runs_out c it.text left after now k found it.start it.first new it.heard n out);
}

-- Memory ran out at a line.
pub stopped_ahead : (c : ℕ) (piece left : List ℕ) (done : ℕ) (s now new : Content) (k : Session) → session_of c now.sessions ≡ Some k → IsMissed k left now new → IsAhead c piece left done s now
    → (content_lost c left 0 new ≡ content_lost c piece done s) × (done < line_feeds piece) × RunsOut c piece done s
stopped_ahead c piece left done s now new k found it ahead = (
  ap (content_lost c left 0) it.same ∙ ahead.lost 0 done (omega arith),
  omega (arith, ahead.feeds, feeds c it.text left it.after now k found it.start it.first),
  ahead.memory 0 done (omega arith) (missed c it.text left it.after now k found it.start it.first it.takes),
)

-- The bytes behind a line are fewer than those that it begins.
pub left_shorter : (c : ℕ) (k : Session) (left after : List ℕ) (now new : Content) → IsHeard c k left after now new → length after < length left
left_shorter c k left after now new it = omega (arith, ap length it.first.parted, length-append it.text (10 ∷ after))

-- There are no more line feeds than bytes.
pub few_feeds : (piece : List ℕ) → line_feeds piece ≤ length piece
few_feeds [] = omega arith
few_feeds (b ∷ piece) = elim (cases_Bool (eqb b 10)) [
  | inl e ↦ rw e (omega (arith, few_feeds piece))
  | inr e ↦ rw e (omega (arith, few_feeds piece))
]

-- The connection keeps its place.
pub stands_on : (c : ℕ) (k : Session) (left after : List ℕ) (s new : Content) (at : ℕ) → IsHeard c k left after s new → Stands c s.sessions at → Stands c new.sessions at
stands_on c k left after s new at it stands =
    let command = command_of (Text it.text) in
    stands_updated c (λ j. answered (numbering_of s) command (answer_in s command k) j) s.sessions new.sessions at (λ j. refl) (ap (λ (s : Content). s.sessions) it.heard) stands
