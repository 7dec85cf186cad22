-- How long the lines of answers are, if names and values are within their limits.
use Rattle.std.proofs.Common.{◌≡◌, ℕ, ◌+◌, ◌*◌, ◌<◌, ◌≤◌, ◌^◌, Bool, List, [], ◌∷◌, ◌++◌, length, Option, Some, refl, ap, ◌∙◌, arith, length-append, codes, decimal}
use Rattle.std.specs.Prelude.{ℤ, IfSome, if◌then◌else◌}
use Rattle.std.specs.Fmt.{signed_decimal}
use Rattle.std.specs.Int.Signed.{mag}
use Rattle.std.specs.List.{AllByRecursion}
use Rattle.std.specs.Str.{bytes_eq}
use Rattle.std.proofs.lemmas.Fmt.{length-decimal-le, length_signed_le}
use Rattle.nut_conf.specs.declared.limits.TheConstants.{DESCRIPTION_MAX}
use Rattle.nut_words.specs.Quoting.{quoted, word_text}
use Rattle.nut_words.specs.declared.limits.TheConstants.{NAME_MAX, UPS_NAME_MAX, VALUE_MAX}
use Rattle.nut_proto.specs.declared.part.Part.{Part}
use Rattle.nut_proto.specs.declared.part.Part.TheVariants.{Word, Quoted, Number, QuotedNumber}
use Rattle.nut_proto.specs.declared.refusal.Refusal.{Refusal}
use Rattle.nut_proto.specs.declared.reply.Reply.{Reply}
use Rattle.nut_proto.specs.declared.reply.Reply.TheVariants as replies
use Rattle.nut_proto.specs.declared.reply.VariableKind.{VariableKind}
use Rattle.nut_proto.specs.declared.reply.VariableKind.TheVariants as kinds
use Rattle.nut_proto.specs.declared.request.ListQuery.{ListQuery}
use Rattle.nut_proto.specs.declared.limits.TheConstants.{TRACKING_NUMBER_MAX}
use Rattle.nut_proto.specs.declared.tracking.TrackingStatus.{TrackingStatus}
use Rattle.nut_proto.specs.Tracking.{status_word}
use Rattle.nut_proto.specs.laws.Bounds.{IsName}
use Rattle.nut_proto.specs.Descriptions.{described_variables, described_commands, beside, told, variable_description, command_description}
use Rattle.nut_proto.specs.Lines.{line, part_text}
use Rattle.nut_proto.specs.Refusals.{refusal_name}
use Rattle.nut_proto.specs.Replies.{reply_line, reply_parts, kind_part}
use Rattle.nut_proto.specs.Requests.{begin_line, end_line, query_parts}
use Rattle.nut_proto.proofs.Lengths.{length-line, length-quoted, length-name, width}
use Rattle.nut_server_spec.specs.laws.Limits.{IsTextWithin}
use Rattle.nut_server_spec.proofs.Lengths.{length-word}
use Rattle.nut_server_spec.specs.declared.limits.TheConstants.{ADDRESS_MAX}

pub length-reply : (r : Reply) (part : Part) (parts : List Part) → reply_parts r ≡ part ∷ parts → length (reply_line r) ≡ length (part_text part) + width parts + 1
unfolding reply_line
length-reply r part parts is = ap (λ ps. length (line ps)) is ∙ length-line part parts

-- ---- lines that never vary

name-refused : (r : Refusal) → length (refusal_name r) ≤ 22
unfolding refusal_name
name-refused refusal = grind arith

pub length-refused : (r : Refusal) → length (reply_line (replies.Refused r)) ≤ 200
unfolding reply_line
length-refused r = omega (arith, length-line (Word (codes "ERR")) (Word (refusal_name r) ∷ []), length-word (refusal_name r), name-refused r)

pub length-accepted : length (reply_line replies.Accepted) ≤ 200
unfolding reply_line line
length-accepted = omega arith

pub length-accepted_as : (n : ℕ) → n ≤ TRACKING_NUMBER_MAX → length (reply_line (replies.AcceptedAs n)) ≤ 200
unfolding reply_line
length-accepted_as n few =
    omega (arith, length-line (Word (codes "OK")) (Word (codes "TRACKING") ∷ Number n ∷ []), length-word (decimal n), length-decimal-le 9 n (omega arith) (omega arith) (omega arith))

pub length-tracking_is : (on : Bool) → length (reply_line (replies.TrackingIs on)) ≤ 200
unfolding reply_line line
length-tracking_is on = grind arith

length-status : (status : TrackingStatus) → length (word_text (status_word status)) ≤ 7
length-status status = grind arith

pub length-tracking : (n : ℕ) (status : TrackingStatus) → n ≤ TRACKING_NUMBER_MAX → length (reply_line (replies.Tracking n status)) ≤ 200
unfolding reply_line
length-tracking n status few =
    omega (
      arith,
      length-line (Word (codes "TRACKING")) (Number n ∷ Word (status_word status) ∷ []),
      length-word (decimal n),
      length-status status,
      length-decimal-le 9 n (omega arith) (omega arith) (omega arith),
    )

pub length-fsd_set : length (reply_line replies.FsdSet) ≤ 200
unfolding reply_line line
length-fsd_set = omega arith

pub length-goodbye : length (reply_line replies.Goodbye) ≤ 200
unfolding reply_line line
length-goodbye = omega arith

pub length-version : length (reply_line replies.Version) ≤ 200
unfolding reply_line line
length-version = omega arith

pub length-network_version : length (reply_line replies.NetworkVersion) ≤ 200
unfolding reply_line line
length-network_version = omega arith

pub length-commands : length (reply_line replies.Commands) ≤ 200
unfolding reply_line line
length-commands = omega arith

-- ---- lines of GET

length-kind : (kind : VariableKind) → ((m : ℕ) → kind ≡ kinds.String m → m ≤ VALUE_MAX) → length (part_text (kind_part kind)) ≤ 24
length-kind (kinds.String m) few =
    let most : m ≤ VALUE_MAX = few m refl in
    omega (arith, length-word (codes "STRING:" ++ decimal m), length-append (codes "STRING:") (decimal m), length-decimal-le 3 m (omega arith) (omega arith) (omega arith))
length-kind other few = omega arith

pub length-type : (ups name : List ℕ) (writable : Bool) (kind : VariableKind) → length ups ≤ UPS_NAME_MAX → length name ≤ NAME_MAX → ((m : ℕ) → kind ≡ kinds.String m → m ≤ VALUE_MAX)
    → length (reply_line (replies.Type ups name writable kind)) ≤ 1000
unfolding reply_line
length-type ups name writable kind u n few = grind (arith, length-line, length-word, length-kind)

abbrev IsShortText : Option (List ℕ) → Type 0
IsShortText o = IfSome o (λ (t : List ℕ). length t ≤ 128)

short-either : (b : Bool) (t : List ℕ) (o : Option (List ℕ)) → length t ≤ 128 → IsShortText o → IsShortText (if b then Some t else o)
short-either b t o first second = grind arith

short-beside : (name : List ℕ) (rows : List (List ℕ × List ℕ)) → AllByRecursion IsTextWithin rows → IsShortText (beside name rows)
short-beside name [] short = tt
short-beside name (row ∷ rows) short = short-either (bytes_eq name row.0) row.1 (beside name rows) short.0 (short-beside name rows short.1)

length-told : (own other : Option (List ℕ)) → IsShortText own → IsShortText other → length (told own other) ≤ 128
length-told own other first second = grind arith

short-variables : AllByRecursion IsTextWithin described_variables
short-variables = (omega arith, (omega arith, (omega arith, (omega arith, (omega arith, (omega arith, (omega arith, (omega arith, (omega arith, tt)))))))))

short-commands : AllByRecursion IsTextWithin described_commands
short-commands = (omega arith, (omega arith, (omega arith, (omega arith, (omega arith, (omega arith, (omega arith, (omega arith, tt))))))))

pub length-variable_text : (rows : List (List ℕ × List ℕ)) (name : List ℕ) → AllByRecursion IsTextWithin rows → length (variable_description rows name) ≤ 128
unfolding variable_description
length-variable_text rows name short = grind (arith, length-told, short-beside, short-variables)

pub length-command_text : (rows : List (List ℕ × List ℕ)) (name : List ℕ) → AllByRecursion IsTextWithin rows → length (command_description rows name) ≤ 128
unfolding command_description
length-command_text rows name short = grind (arith, length-told, short-beside, short-commands)

-- ---- rows of lists

-- by the length of the value between its quotes
pub length-var : (ups name value : List ℕ) → IsName UPS_NAME_MAX ups → IsName NAME_MAX name → length (reply_line (replies.Var ups name value)) ≤ 103 + length (quoted value)
unfolding reply_line
length-var ups name value u n = grind (arith, length-line, length-name)

pub length-rw : (ups name value : List ℕ) → IsName UPS_NAME_MAX ups → IsName NAME_MAX name → length (reply_line (replies.Rw ups name value)) ≤ 103 + length (quoted value)
unfolding reply_line
length-rw ups name value u n = grind (arith, length-line, length-name)

pub length-ups : (ups text : List ℕ) → length ups ≤ UPS_NAME_MAX → length text ≤ DESCRIPTION_MAX → length (reply_line (replies.Ups ups text)) ≤ 1300
unfolding reply_line
length-ups ups text u t = omega (arith, length-line (Word (codes "UPS")) (Word ups ∷ Quoted text ∷ []), length-word ups, length-quoted text)

pub length-cmd : (ups name : List ℕ) → length ups ≤ UPS_NAME_MAX → length name ≤ NAME_MAX → length (reply_line (replies.Cmd ups name)) ≤ 1300
unfolding reply_line
length-cmd ups name u n = omega (arith, length-line (Word (codes "CMD")) (Word ups ∷ Word name ∷ []), length-word ups, length-word name)

pub length-enum : (ups name value : List ℕ) → length ups ≤ UPS_NAME_MAX → length name ≤ NAME_MAX → length value ≤ VALUE_MAX → length (reply_line (replies.Enum ups name value)) ≤ 1300
unfolding reply_line
length-enum ups name value u n v = grind (arith, length-line, length-word, length-quoted)

pub length-range : (ups name : List ℕ) (low high : ℤ) → length ups ≤ UPS_NAME_MAX → length name ≤ NAME_MAX → mag low < 10 ^ 9 → mag high < 10 ^ 9
    → length (reply_line (replies.Range ups name low high)) ≤ 1300
unfolding reply_line
length-range ups name low high u n l h =
    omega (
      arith,
      length-line (Word (codes "RANGE")) (Word ups ∷ Word name ∷ QuotedNumber low ∷ QuotedNumber high ∷ []),
      length-word ups,
      length-word name,
      length-quoted (signed_decimal low),
      length-quoted (signed_decimal high),
      length_signed_le 10 low (omega arith) (omega arith),
      length_signed_le 10 high (omega arith) (omega arith),
    )

pub length-client : (ups address : List ℕ) → length ups ≤ UPS_NAME_MAX → length address ≤ ADDRESS_MAX → length (reply_line (replies.Client ups address)) ≤ 1300
unfolding reply_line
length-client ups address u a = omega (arith, length-line (Word (codes "CLIENT")) (Word ups ∷ Word address ∷ []), length-word ups, length-word address)

-- ---- the lines around a list, by the length of what stands behind LIST

pub length-marks : (query : ListQuery) (most : ℕ) → width (query_parts query) ≤ most → length (begin_line query) + length (end_line query) ≤ 20 + 2 * most
unfolding begin_line end_line
length-marks query most few = grind (arith, length-line)
