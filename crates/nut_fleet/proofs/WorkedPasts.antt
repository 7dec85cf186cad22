-- The made-up pasts: what isn't true of them.
use Rattle.std.proofs.Common.{◌≡◌, ℕ, zero, ◌<◌, ◌≤◌, ◌&&◌, ◌||◌, Contains, nat_le, inl, inr, List, [], ◌∷◌, length, Bool, true, false, not, Option, Some, None, refl, sym, ◌∙◌, ap, subst, arith, codes}
use Rattle.std.specs.Prelude.{◌==◌, nat_lt, reverse}
use Rattle.std.specs.Fmt.{digits}
use Rattle.std.proofs.lemmas.Bool.{and_from, and_parts, cases_Bool, eqb-true, le-leb, lt-ltb, ltb-true, or_cases}
use Rattle.nut_words.specs.Reader.{read}
use Rattle.nut_state.specs.Sorted.{named, put}
use Rattle.nut_state.specs.Change.{asked, heard}
use Rattle.nut_state.specs.Step.{accepts, changed, after, applied}
use Rattle.nut_state.specs.Verb.{verb_of}
use Rattle.nut_proto.specs.Answers.{answer_of}
use Rattle.nut_proto.specs.DriverAsks.{ask_line}
use Rattle.nut_proto.specs.Forms.{meaning}
use Rattle.nut_proto.specs.Keywords.{command_of}
use Rattle.nut_proto.specs.Lines.{line}
use Rattle.nut_proto.specs.Refusals.{refusal_name}
use Rattle.nut_proto.specs.Replies.{reply_line}
use Rattle.nut_proto.specs.Requests.{request_line}
use Rattle.nut_server_spec.specs.Answer.{text_of}
use Rattle.nut_server_spec.specs.Content.{past}
use Rattle.nut_server_spec.specs.Event as arrivals
use Rattle.nut_monitor_spec.specs.declared.Query.TheVariants.{NumLogins, Status}
use Rattle.nut_monitor_spec.specs.Configuration.{line_in}
use Rattle.nut_monitor_spec.specs.Query.{has}
use Rattle.nut_monitor_spec.specs.Trace.{Entry, at_status, begun, entry_of, logins, newest_answer}
use Rattle.nut_fleet.specs.Schedule.{Step, IsFront}
use Rattle.nut_fleet.specs.World.{monitor_of, seen, world}
use Rattle.nut_fleet.specs.Shown.{shown_status, logins as logged_in}
use Rattle.nut_fleet.specs.Fleet.{Cause, HasCauses, HasSupply, IsCalmLine, IsReason, WasAlone, WasShown, asked_at}
use Rattle.nut_fleet.specs.examples.Examples.{alone, live, pair, primary, secondary, world_of}
use Rattle.nut_fleet.specs.examples.PastExamples.{PastExamples, brings, counts_another, counts_two, forces, forcing, goes_off, logs, pass, passes}

-- ---- tests of each time of a schedule

abbrev pub each-front : (List Step → Bool) → List Step → Bool
each-front test [] = test []
each-front test (step ∷ earlier) = test (step ∷ earlier) && each-front test earlier

front-passes : (test : List Step → Bool) (schedule : List Step) → each-front test schedule ≡ true → (early : List Step) → IsFront early schedule → test early ≡ true
front-passes test [] all early is = ap test is ∙ all
front-passes test (step ∷ earlier) all early (inl is) =
    ap test is ∙ (and_parts (test (step ∷ earlier)) (each-front test earlier) all).0
front-passes test (step ∷ earlier) all early (inr is) =
    front-passes test earlier (and_parts (test (step ∷ earlier)) (each-front test earlier) all).1 early is

-- the monitor's events are at least this many, and fewer than that many
abbrev is-between : ℕ → ℕ → List Step → Bool
is-between asked_then read_then early =
    nat_le asked_then (length ((world alone early).monitor 0)) && nat_lt (length ((world alone early).monitor 0)) read_then

abbrev pub shows : List ℕ → Option (List (List ℕ)) → Bool
shows word None = false
shows word (Some words) = has word words

-- the status that the server shows between two events doesn't have this word
abbrev pub hides : List ℕ → ℕ → ℕ → List Step → Bool
hides word asked_then read_then early =
    not (is-between asked_then read_then early && shows word (shown_status alone.server (past alone.server (world alone early).server) (codes "su700")))

pub never-shown : (word : List ℕ) (schedule : List Step) (front : List Entry) (words : List (List ℕ)) →
    each-front (hides word (asked_at (newest_answer (at_status 0 front))) (length (at_status 0 front))) schedule ≡ true → has word words ≡ true →
    WasShown alone schedule 0 0 front words → ⊥
never-shown word schedule front words all is w = grind (arith, front-passes, and_from, nat_le, le-leb, lt-ltb)

-- ---- statuses

goes-off-hides : each-front (hides (codes "OL") 2 3) goes_off ≡ true
unfolding digits read named put asked heard accepts changed after applied verb_of ask_line meaning command_of line refusal_name reply_line request_line text_of answer_of entry_of
goes-off-hides = refl

on-line-hides : each-front (hides (codes "OB") 0 1) (reverse (live (codes "OL"))) ≡ true
unfolding digits read named put asked heard accepts changed after applied verb_of ask_line meaning command_of line refusal_name reply_line request_line text_of answer_of entry_of
on-line-hides = refl

low-hides : each-front (hides (codes "OL") 0 1) (reverse (live (codes "OB LB"))) ≡ true
unfolding digits read named put asked heard accepts changed after applied verb_of ask_line meaning command_of line refusal_name reply_line request_line text_of answer_of entry_of
low-hides = refl

-- ---- reasons

no-calibration : IsReason primary (line_in primary.lines 0) 10 0 10 (codes "OB" ∷ codes "LB" ∷ codes "CAL" ∷ []) → ⊥
no-calibration is = grind arith

no-secondary : IsReason secondary (line_in secondary.lines 0) 15 0 15 (codes "OB" ∷ codes "LB" ∷ []) → ⊥
no-secondary is = grind arith

not-dead : IsReason primary (line_in primary.lines 0) 15 0 0 (codes "OB" ∷ []) → ⊥
not-dead is = grind arith

-- ---- shutdowns

abbrev says_low : List Entry
says_low = brings 1 Status 0 (codes "OB LB") ∷ []

abbrev says_on_line : List Entry
says_on_line = brings 1 Status 0 (codes "OL") ∷ []

causeless : Cause alone (reverse (live (codes "OL"))) 0 0 (begun (monitor_of alone 0) says_low) → ⊥
causeless c =
    never-shown (codes "OB") (reverse (live (codes "OL"))) says_low c.words on-line-hides (sym (ap (shows (codes "OB")) c.status_is)) c.shown

no-cause : HasCauses alone (reverse (live (codes "OL"))) 0 says_low → ⊥
no-cause has_causes =
    let short : 1 < 1 = has_causes (λ i. i == 0) refl
    (λ i is c. causeless (subst (λ j. Cause alone (reverse (live (codes "OL"))) 0 j (begun (monitor_of alone 0) says_low)) (eqb-true i 0 is) c)) in
    absurd (omega (arith, short))

not-calm : IsCalmLine alone (reverse (live (codes "OB LB"))) 0 0 says_on_line → ⊥
not-calm (inl none) = let bad : Some (codes "OL" ∷ []) ≡ None = none in cc
not-calm (inr c) =
    never-shown (codes "OL") (reverse (live (codes "OB LB"))) says_on_line c.0 low-hides (sym (ap (shows (codes "OL")) c.1)) c.2

no-supply : HasSupply alone (reverse (live (codes "OB LB"))) 0 says_on_line → ⊥
no-supply has_supply =
    let enough : 1 ≤ 0 = has_supply (λ i. not (i == 0)) (λ none. cc) refl by in
    absurd (omega (arith, enough))
  where
    by : (i : ℕ) → IsCalmLine alone (reverse (live (codes "OB LB"))) 0 i says_on_line → not (i == 0) ≡ true
    by i calm = elim (cases_Bool (i == 0)) [
      | inl is ↦ absurd (not-calm (subst (λ j. IsCalmLine alone (reverse (live (codes "OB LB"))) 0 j says_on_line) (eqb-true i 0 is) calm))
      | inr is_not ↦ ap not is_not
    ]

-- ---- counts

abbrev number-of : Option ℕ → ℕ
number-of None = 0
number-of (Some n) = n

reads-two : logins 0 (seen pair (world_of pair counts_two) 0) ≡ Some 2
unfolding digits read named put asked heard accepts changed after applied verb_of ask_line meaning command_of line refusal_name reply_line request_line text_of answer_of entry_of
reads-two = refl

two-logins : WasAlone pair (reverse counts_two) 0 0 (seen pair (world_of pair counts_two) 0) → ⊥
two-logins w =
    let two : 2 ≡ w.count = ap number-of (sym reads-two ∙ w.count_is) in
    let few = w.at_most_one in
    absurd (omega (arith, two, few))

-- the server takes a line at the last step, before which the monitor's events are 11 to 13
abbrev answers-then : List Step → Bool
answers-then [] = false
answers-then (step ∷ early) =
    is-between 11 14 early && nat_lt (length (arrivals.steps (world alone early).server)) (length (arrivals.steps (world alone (step ∷ early)).server))

none-answered : each-front (λ front. not (answers-then front)) forces ≡ true
unfolding digits read named put asked heard accepts changed after applied verb_of ask_line meaning command_of line refusal_name reply_line request_line text_of answer_of entry_of
none-answered = refl

too-early : WasAlone alone forces 0 0 (brings 0 NumLogins 11 (codes "1") ∷ pass 13) → ⊥
too-early w =
    let events = length ((world alone w.early).monitor 0) in
    let before = length (arrivals.steps (world alone w.early).server) in
    let after_it = length (arrivals.steps (world alone (w.step ∷ w.early)).server) in
    let hidden = front-passes (λ front. not (answers-then front)) forces none-answered (w.step ∷ w.early) w.played in
    let grown = ap length w.answered.said in
    let yes : (is-between 11 14 w.early && nat_lt before after_it) ≡ true =
    and_from (is-between 11 14 w.early) (nat_lt before after_it)
    (and_from (nat_le 11 events) (nat_lt events 14) (le-leb 11 events w.between.asked) (lt-ltb events 14 w.between.unread))
    (lt-ltb before after_it (omega (arith, grown))) in
    let bad : false ≡ true = sym (ap not yes) ∙ hidden in
    cc

-- from the monitor's second event on, connection 1 is the first that is logged in, and 2 is the link's
abbrev starts-with-one : List ℕ → Bool
starts-with-one [] = false
starts-with-one (c ∷ cs) = c == 1

one-there : (xs : List ℕ) → starts-with-one xs ≡ true → Contains xs 1
one-there [] is = cc
one-there (c ∷ cs) is = (zero, omega arith, eqb-true c 1 is)

abbrev another-is-in : List Step → Bool
another-is-in early =
    nat_lt (length ((world forcing early).monitor 0)) 2
    || (starts-with-one (logged_in forcing.server (past forcing.server (world forcing early).server) (codes "su700")) && (world forcing early).connection 0 0 == 2)

another-in : each-front another-is-in (reverse counts_another) ≡ true
unfolding digits read named put asked heard accepts changed after applied verb_of ask_line meaning command_of line refusal_name reply_line request_line text_of answer_of entry_of
another-in = refl

another-one : WasAlone forcing (reverse counts_another) 0 0 (brings 0 NumLogins 2 (codes "1") ∷ logs ∷ pass 18) → ⊥
another-one w =
    let t = past forcing.server (world forcing w.early).server in
    let events = length ((world forcing w.early).monitor 0) in
    let is_in = starts-with-one (logged_in forcing.server t (codes "su700")) in
    let is_two = (world forcing w.early).connection 0 0 == 2 in
    let either = front-passes another-is-in (reverse counts_another) another-in w.early w.between.front in
    elim (or_cases (nat_lt events 2) (is_in && is_two) either) [
      | inl few ↦ let less = ltb-true events 2 few in let asked_then = w.between.asked in absurd (omega (arith, less, asked_then))
      | inr both ↦
          let parts = and_parts is_in is_two both in
          let own : 1 ≡ (world forcing w.early).connection 0 0 = w.alone (inr (inl (refl, refl))) 1 (one-there (logged_in forcing.server t (codes "su700")) parts.0) in
          let two = eqb-true ((world forcing w.early).connection 0 0) 2 parts.1 in
          absurd (omega (arith, own, two))
    ]

pub past-examples : PastExamples
past-examples = record {
  before_the_question = never-shown (codes "OL") goes_off (brings 3 Status 2 (codes "OL") ∷ passes 2 ∷ passes 1 ∷ []) (codes "OL" ∷ []) goes-off-hides refl;
  calibrates = no-calibration;
  waits_for_fsd = no-secondary;
  may_be_alive = not-dead;
  no_cause = no-cause;
  no_supply = no-supply;
  two_logins = two-logins;
  another_one = another-one;
  counted_too_early = too-early;
}
