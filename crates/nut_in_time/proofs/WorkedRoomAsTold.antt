-- The worked primary with UPSes at two servers, and a machine that needs one of them.
use Rattle.std.proofs.Common.{◌≡◌, ℕ, ◌&&◌, List, [], ◌∷◌, ◌++◌, length, Bool, true, false, refl, ap, arith}
use Rattle.std.proofs.lemmas.Bool.{and_parts}
use Rattle.nut_words.specs.Reader.{read}
use Rattle.nut_proto.specs.Answers.{answer_of}
use Rattle.nut_proto.specs.Lines.{line}
use Rattle.nut_proto.specs.Requests.{request_line}
use Rattle.nut_monitor_spec.specs.declared.Query.{Query}
use Rattle.nut_monitor_spec.specs.declared.Query.TheVariants.{Fsd}
use Rattle.nut_monitor_spec.specs.Configuration.{line_in}
use Rattle.nut_monitor_spec.specs.Query.{is_forced}
use Rattle.nut_monitor_spec.specs.Trace.{Entry, entry_of, last_query, linked, trace}
use Rattle.nut_in_time.specs.AnyServers.{Always}
use Rattle.nut_in_time.specs.RoomAsTold.{EachTaken}
use Rattle.nut_in_time.specs.examples.AnyServersExamples.{newest_of}
use Rattle.nut_in_time.specs.examples.Examples.{all}
use Rattle.nut_in_time.specs.examples.RoomAsToldExamples.{RoomAsToldExamples, both_asked, following, has_asked, leading, asks_fsd, reads_fsd}
use Rattle.nut_in_time.specs.examples.RoomPaceExamples.{within}
use Rattle.nut_in_time.specs.InTime.{has_fsd}
use Rattle.nut_in_time.specs.Pace.{IsPolled, IsPrompt}
use Rattle.nut_in_time.proofs.Testing.{polled-holds, below}
use Rattle.nut_in_time.proofs.WorkedAnyServers.{accepted-holds, always-holds, told-holds, is_so, so-holds}

-- ---- a test that each FSD was taken

abbrev is_fsd : Query → Bool
is_fsd Fsd = true
is_fsd query = false

abbrev each_taken : ℕ → ℕ → List Entry → Bool
each_taken i n [] = true
each_taken i n (entry ∷ past) = is_so is_fsd i n is_forced entry.answer && each_taken i n past

each_taken-holds : (i n : ℕ) (past : List Entry) → each_taken i n past ≡ true → EachTaken i n past
each_taken-holds i n [] is = tt
each_taken-holds i n (entry ∷ past) is =
    let parts = and_parts (is_so is_fsd i n is_forced entry.answer) (each_taken i n past) is in
    ((λ a e link fsd late. so-holds is_fsd i n is_forced entry.answer parts.0 a e link (ap is_fsd fsd) late), each_taken-holds i n past parts.1)

pub room_as_told-examples : RoomAsToldExamples
unfolding read answer_of line request_line entry_of
room_as_told-examples = record {
  heeded = record {
    accepted = accepted-holds (leading 7) (newest_of (leading 7) asks_fsd (both_asked 7) ++ both_asked 7) refl;
    not_begun = refl;
    lines = below 2 (λ i. (line_in (leading 7).lines i).primary ≡ true → IsPolled i (trace (leading 7) (both_asked 7))
        × Always (leading 7) (λ past. (linked i past ≡ true) × IsPrompt (within 2) i past) (both_asked 7) (newest_of (leading 7) asks_fsd (both_asked 7))
        × EachTaken i (length (both_asked 7)) (trace (leading 7) (newest_of (leading 7) asks_fsd (both_asked 7) ++ both_asked 7))) (
          (λ is. absurd (cc)),
          (
            (λ is. (
              polled-holds (last_query 1 (trace (leading 7) (both_asked 7))) refl,
              always-holds (leading 7) (within 2) 1 (both_asked 7) (newest_of (leading 7) asks_fsd (both_asked 7)) refl,
              each_taken-holds 1 (length (both_asked 7)) (trace (leading 7) (newest_of (leading 7) asks_fsd (both_asked 7) ++ both_asked 7)) refl,
            )),
            tt,
          ),
        );
  };
  begun_at = refl;
  at_last = refl;
  not_yet_forced = refl;
  then_forced = refl;
  told = told-holds following (within 1) has_fsd all has_asked (newest_of following reads_fsd has_asked) (record { one = 0; there = omega arith; passes = refl; short = omega arith }) refl refl ((λ is. refl), tt);
  needed = refl;
  goes_early = refl;
  not_alone = refl;
  still_up = refl;
  goes_in_time = refl;
  is_down = refl;
}
