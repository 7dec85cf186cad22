-- The worked machine with UPSes at two servers.
use Rattle.std.proofs.Common.{◌≡◌, ℕ, suc, ◌+◌, ◌<◌, ◌&&◌, ◌||◌, ◌==◌, nat_le, not, List, [], ◌∷◌, ◌++◌, length, Bool, true, Option, Some, None, is_none, refl, ap, arith}
use Rattle.std.specs.Prelude.{nat_lt}
use Rattle.std.proofs.lemmas.Bool.{and_parts, eq-eqb, leb-true, lt-ltb}
use Rattle.nut_words.specs.Reader.{read}
use Rattle.nut_proto.specs.Answers.{answer_of}
use Rattle.nut_proto.specs.Lines.{line}
use Rattle.nut_proto.specs.Requests.{request_line}
use Rattle.nut_link.specs.declared.outcome.Outcome.{Outcome}
use Rattle.nut_monitor_spec.specs.declared.Query.{Query}
use Rattle.nut_monitor_spec.specs.Acceptance.{IsAccepted, IsGiven as Happens, is_busy, refusal}
use Rattle.nut_monitor_spec.specs.Configuration.{Configuration}
use Rattle.nut_monitor_spec.specs.Content.{Content, content}
use Rattle.nut_monitor_spec.specs.Event.{Event, NoticeTaken}
use Rattle.nut_monitor_spec.specs.Query.{status_in}
use Rattle.nut_monitor_spec.specs.Trace.{Answer, Entry, clock, entry_of, last_query, linked, outstanding, trace}
use Rattle.nut_monitor_spec.specs.examples.Examples.{two_primaries}
use Rattle.nut_fleet.proofs.Others.{is_none-true}
use Rattle.nut_in_time.specs.AnyServers.{Always, EachGiven, IsEven, IsTold}
use Rattle.nut_in_time.specs.examples.AnyServersExamples.{AnyServersExamples, both_are_low, both_read, since_then}
use Rattle.nut_in_time.specs.examples.Examples.{all, pace}
use Rattle.nut_in_time.specs.InTime.{is_low, Needs}
use Rattle.nut_in_time.specs.Pace.{IsPrompt, Pace}
use Rattle.nut_in_time.specs.Tests.{is_polled, is_prompt, is_status, says}
use Rattle.nut_in_time.proofs.Testing.{polled-holds, prompt-holds, says-holds, below, Below}

-- ---- tests of the premises, and that they prove them

abbrev happens : Content → Event → Bool
happens s NoticeTaken = is_busy s
happens s event = true

happens-holds : (s : Content) (event : Event) → happens s event ≡ true → Happens s event
happens-holds s event is = grind arith

abbrev pub were_accepted : Configuration → List Event → Bool
were_accepted configuration [] = true
were_accepted configuration (event ∷ told) =
    were_accepted configuration told && (is_none (refusal (content configuration told) event) && happens (content configuration told) event)

pub accepted-holds : (configuration : Configuration) (told : List Event) → were_accepted configuration told ≡ true → IsAccepted configuration told
accepted-holds configuration [] is = tt
accepted-holds configuration (event ∷ told) is =
    let s = content configuration told in
    let parts = and_parts (were_accepted configuration told) (is_none (refusal s event) && happens s event) is in
    let both = and_parts (is_none (refusal s event)) (happens s event) parts.1 in
    (accepted-holds configuration told parts.0, (is_none-true (refusal s event) both.0, happens-holds s event both.1))

abbrev pub is_even : Configuration → Pace → List Event → List Event → Bool
is_even configuration pace first [] = true
is_even configuration pace first (event ∷ newest) =
    nat_le (clock (trace configuration (event ∷ (newest ++ first)))) (clock (trace configuration (newest ++ first)) + suc pace.skip) && is_even configuration pace first newest

pub even-holds : (configuration : Configuration) (pace : Pace) (first newest : List Event) → is_even configuration pace first newest ≡ true → IsEven configuration pace first newest
even-holds configuration pace first [] is = tt
even-holds configuration pace first (event ∷ newest) is =
    let now = clock (trace configuration (event ∷ (newest ++ first))) in
    let most = clock (trace configuration (newest ++ first)) + suc pace.skip in
    let parts = and_parts (nat_le now most) (is_even configuration pace first newest) is in
    (leb-true now most parts.0, even-holds configuration pace first newest parts.1)

abbrev pub keeps : Pace → ℕ → List Entry → Bool
keeps pace i past = linked i past && is_prompt pace.delay (clock past) (outstanding i past)

keeps-holds : (pace : Pace) (i : ℕ) (past : List Entry) → keeps pace i past ≡ true → (linked i past ≡ true) × IsPrompt pace i past
keeps-holds pace i past is = grind (arith, and_parts, prompt-holds)

abbrev pub always : Configuration → (List Entry → Bool) → List Event → List Event → Bool
always configuration test first [] = test (trace configuration first)
always configuration test first (event ∷ newest) = test (trace configuration (event ∷ (newest ++ first))) && always configuration test first newest

pub always-holds : (configuration : Configuration) (pace : Pace) (i : ℕ) (first newest : List Event) → always configuration (keeps pace i) first newest ≡ true →
    Always configuration (λ past. (linked i past ≡ true) × IsPrompt pace i past) first newest
always-holds configuration pace i first [] is = keeps-holds pace i (trace configuration first) is
always-holds configuration pace i first (event ∷ newest) is =
    let past = trace configuration (event ∷ (newest ++ first)) in
    let parts = and_parts (keeps pace i past) (always configuration (keeps pace i) first newest) is in
    (keeps-holds pace i past parts.0, always-holds configuration pace i first newest parts.1)

-- an answer on link i to such a query that was put after the n-th event passes this test
abbrev pub is_so : (Query → Bool) → ℕ → ℕ → (Query → Outcome → Bool) → Option Answer → Bool
is_so asks i n passes None = true
is_so asks i n passes (Some a) = not (a.link == i && (asks a.asked.query && nat_lt n a.asked.event)) || passes a.asked.query a.outcome

pub so-holds : (asks : Query → Bool) (i n : ℕ) (passes : Query → Outcome → Bool) (answer : Option Answer) → is_so asks i n passes answer ≡ true →
    (a : Answer) → answer ≡ Some a → a.link ≡ i → asks a.asked.query ≡ true → n < a.asked.event → passes a.asked.query a.outcome ≡ true
so-holds asks i n passes answer is a e link asked late = grind (arith, eq-eqb, lt-ltb)

abbrev says_in : (List (List ℕ) → Bool) → Query → Outcome → Bool
says_in Words query outcome = says Words (status_in query outcome)

abbrev pub each_given : ℕ → ℕ → (List (List ℕ) → Bool) → List Entry → Bool
each_given i n Words [] = true
each_given i n Words (entry ∷ past) = is_so is_status i n (says_in Words) entry.answer && each_given i n Words past

pub each_given-holds : (i n : ℕ) (Words : List (List ℕ) → Bool) (past : List Entry) → each_given i n Words past ≡ true → EachGiven i n Words past
each_given-holds i n Words [] is = tt
each_given-holds i n Words (entry ∷ past) is =
    let parts = and_parts (is_so is_status i n (says_in Words) entry.answer) (each_given i n Words past) is in (
      λ a e link status late.
          says-holds Words (status_in a.asked.query a.outcome) (so-holds is_status i n (says_in Words) entry.answer parts.0 a e link (ap is_status status) late),
      each_given-holds i n Words past parts.1,
    )

-- what is tested of a line
abbrev pub is_told : Configuration → Pace → (List (List ℕ) → Bool) → List Event → List Event → ℕ → Bool
is_told configuration pace Words first newest i =
    is_polled (last_query i (trace configuration first))
    && (always configuration (keeps pace i) first newest && each_given i (length first) Words (trace configuration (newest ++ first)))

pub told-holds : (configuration : Configuration) (pace : Pace) (Words : List (List ℕ) → Bool) (low : ℕ → Bool) (first newest : List Event) → Needs configuration low →
    were_accepted configuration (newest ++ first) ≡ true → is_even configuration pace first newest ≡ true →
    Below (length configuration.lines) (λ i. low i ≡ true → is_told configuration pace Words first newest i ≡ true) → IsTold configuration pace Words low first newest
told-holds configuration pace Words low first newest needs accepted even lines = record {
  accepted = accepted-holds configuration (newest ++ first) accepted;
  even = even-holds configuration pace first newest even;
  needs = needs;
  lines = λ i less is.
      let polled = is_polled (last_query i (trace configuration first)) in
      let kept = always configuration (keeps pace i) first newest in
      let given = each_given i (length first) Words (trace configuration (newest ++ first)) in
      let one = and_parts polled (kept && given) (below (length configuration.lines) (λ k. low k ≡ true → is_told configuration pace Words first newest k ≡ true) lines i less is) in
      let two = and_parts kept given one.1 in (
        polled-holds (last_query i (trace configuration first)) one.0,
        always-holds configuration pace i first newest two.0,
        each_given-holds i (length first) Words (trace configuration (newest ++ first)) two.1,
      );
}

pub any_servers-examples : AnyServersExamples
unfolding read answer_of line request_line entry_of
any_servers-examples = record {
  told = told-holds two_primaries pace is_low all both_read (since_then both_are_low) (record { one = 0; there = omega arith; passes = refl; short = omega arith }) refl refl ((λ is. refl), ((λ is. refl), tt));
  known_by = refl;
  at_last = refl;
  not_yet = refl;
  begun_at = refl;
  to_the_end = refl;
  still_up = refl;
  halted = refl;
}
