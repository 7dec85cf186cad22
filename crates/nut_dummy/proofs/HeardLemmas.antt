-- The lines told are read as what they say.
use Rattle.std.proofs.Common.{◌≡◌, ℕ, ◌<◌, ◌≤◌, ◌^◌, Bool, true, false, List, [], ◌∷◌, ◌++◌, Some, length, refl, sym, ap, ◌∙◌, arith, map, codes, decimal, append_assoc}
use Rattle.std.specs.Prelude.{nat_lt, if◌then◌else◌}
use Rattle.std.specs.Fmt.{digits}
use Rattle.std.specs.List.{AllByRecursion, list_all}
use Rattle.std.specs.Int.{IsInRange}
use Rattle.std.proofs.lemmas.Bool.Decides.{nat_tests}
use Rattle.std.proofs.lemmas.Fmt.{digits_decimal, decimal_nonempty}
use Rattle.std.proofs.lemmas.Str.Parse.{numerals_by_value}
use Rattle.std.specs.Option.{option_and_then}
use Rattle.std.specs.Result.{result_ok}
use Rattle.nut_words.specs.Spelling.{is_bare}
use Rattle.nut_words.specs.Quoting.{IsPrintable, stands_bare}
use Rattle.nut_words.specs.Reader.{read}
use Rattle.nut_proto.specs.declared.part.Part.TheVariants.{Word, Number}
use Rattle.nut_proto.specs.Lines.{AreWritable, message, message_words}
use Rattle.nut_proto.specs.Tracking.{IsTrackingNumber}
use Rattle.nut_proto.proofs.Numbers.{natural_back}
use Rattle.nut_proto.proofs.Spelling.{digits_test, message_spelled}
use Rattle.nut_state.specs.Change.{set_info, add_command, data_ok, dump_done, pong, tracking, asked, heard}
use Rattle.nut_state.specs.Verb.{verb_of}
use Rattle.nut_dummy.specs.declared.writable.Writable.{Writable}
use Rattle.nut_dummy.specs.declared.writable.Writable.TheVariants.{ChargeLow}
use Rattle.nut_dummy.specs.Command.{command_name, all_commands}
use Rattle.nut_dummy.specs.Telling.{Message, value_message, limits_of, closing_messages}
use Rattle.nut_dummy.specs.Writable.{attributes, name_of}
use Rattle.nut_dummy.specs.Teller.{ended}
use Rattle.nut_dummy.specs.Heard.{heard_in, attribute_changes, ToldLinesAreHeard}

-- a message is heard by its words
by_words : (m : Message) → AreWritable m → length m ≤ 32 → heard_in m ≡ asked (message_words m)
unfolding heard
by_words m printable few = ap (λ r. option_and_then asked (result_ok r)) (message_spelled m printable few)

value_heard : (name value : List ℕ) → IsPrintable name → IsPrintable value → heard_in (value_message name value) ≡ Some (set_info name value)
unfolding asked verb_of
value_heard name value n v = by_words (value_message name value) ((refl, (refl, (refl, (refl, (refl, (refl, (refl, tt))))))), (n, (v, tt))) (omega arith)

limits_heard : (w : Writable) → map heard_in (limits_of w) ≡ map (λ change. Some change) (attribute_changes (name_of w) (attributes w))
unfolding digits heard asked verb_of read
limits_heard ChargeLow = refl
limits_heard _ = refl

closing_heard : map heard_in closing_messages ≡ map (λ change. Some change) (map (λ c. add_command (command_name c)) all_commands ++ data_ok ∷ dump_done ∷ [])
unfolding heard asked verb_of read
closing_heard = refl

digit_bare : (c : ℕ) → IsInRange 48 57 c → is_bare c ≡ true
digit_bare c h = grind (arith, nat_tests)

digits_bare : (text : List ℕ) → AllByRecursion (λ c. IsInRange 48 57 c) text → list_all is_bare text ≡ true
digits_bare [] h = refl
digits_bare (c ∷ cs) h = rw (digit_bare c h.0, digits_bare cs h.1) refl

-- a number is written bare
number_bare : (n : ℕ) → n < 2 ^ 64 → stands_bare (decimal n) ≡ true
number_bare n small =
    let some : 0 < length (decimal n) = decimal_nonempty n small in
    let is : nat_lt 0 (length (decimal n)) ≡ true = grind (arith, nat_tests) in
    let all : list_all is_bare (decimal n) ≡ true =
    digits_bare (decimal n) (digits_decimal (numerals_by_value (λ text. AllByRecursion (λ c. IsInRange 48 57 c) text) digits_test) n small) in
    rw (is, all) refl

abbrev ended_line : ℕ → Bool → List ℕ
ended_line number done = codes "TRACKING " ++ (decimal number ++ (if done then codes " 0" else codes " 1"))

abbrev ended_message : ℕ → Bool → Message
ended_message number done = Word (codes "TRACKING") ∷ Number number ∷ Word (if done then codes "0" else codes "1") ∷ []

ended_text : (n : ℕ) (done : Bool) → IsTrackingNumber n → message (ended_message n done) ≡ ended_line n done
ended_text n true h = rw (number_bare n (omega (arith, h.1))) refl
ended_text n false h = rw (number_bare n (omega (arith, h.1))) refl

tracking_printable : (n : ℕ) (done : Bool) → IsTrackingNumber n → AreWritable (ended_message n done)
tracking_printable n true h = ((refl, (refl, (refl, (refl, (refl, (refl, (refl, (refl, tt)))))))), (omega (arith, h.1), ((refl, tt), tt)))
tracking_printable n false h = ((refl, (refl, (refl, (refl, (refl, (refl, (refl, (refl, tt)))))))), (omega (arith, h.1), ((refl, tt), tt)))

ended_asked : (n : ℕ) (done : Bool) → IsTrackingNumber n → asked (message_words (ended_message n done)) ≡ Some (tracking (Some n) (Some (if done then 0 else 1)))
unfolding asked verb_of
ended_asked n true h = rw (natural_back n h) refl
ended_asked n false h = rw (natural_back n h) refl

ended_heard : (n : ℕ) (done : Bool) → IsTrackingNumber n → heard (ended_line n done) ≡ Some (tracking (Some n) (Some (if done then 0 else 1)))
ended_heard n done h =
    ap heard (sym (ended_text n done h)) ∙ by_words (ended_message n done) (tracking_printable n done h) (omega arith) ∙ ended_asked n done h

ended_with_feed : (n : ℕ) (done : Bool) → ended (Some n) done ≡ ended_line n done ++ 10 ∷ []
ended_with_feed n true = sym (ap (λ text. codes "TRACKING " ++ text) (append_assoc (decimal n) (codes " 0") (10 ∷ [])))
ended_with_feed n false = sym (ap (λ text. codes "TRACKING " ++ text) (append_assoc (decimal n) (codes " 1") (10 ∷ [])))

pong_heard : heard (codes "PONG") ≡ Some pong
unfolding heard asked verb_of read
pong_heard = refl

pub told_lines_are_heard : ToldLinesAreHeard
told_lines_are_heard = (value_heard, limits_heard, closing_heard, λ n done h. (ended_line n done, ended_with_feed n done, ended_heard n done h), pong_heard)
