-- A dump is its lines, and leads an empty table to the driver's own.
use Rattle.std.proofs.Common.{◌≡◌, ℕ, ◌+◌, ◌*◌, ◌≤◌, ◌&&◌, true, List, [], ◌∷◌, ◌++◌, Option, Some, None, length, map, nat_le, refl, sym, ap, subst, ◌∙◌, arith, append_assoc, length-append, codes, rules}
use Rattle.std.specs.Fmt.{digits}
use Rattle.std.specs.List.{AllByRecursion, concat, flat_map, list_all}
use Rattle.std.specs.Option.{option_map_or}
use Rattle.std.proofs.lemmas.Bool.Decides.{nat_tests}
use Rattle.std.proofs.lemmas.List.{append-nil, map-append}
use Rattle.std.proofs.lemmas.Bool.{and_parts, leb-true, cond_both}
use Rattle.nut_words.specs.Lines.{Text, as_line, lines, lines_after, rest, rest_after}
use Rattle.nut_words.specs.Name.{is_name_byte}
use Rattle.nut_words.specs.Quoting.{IsPrintable, quoted, stands_bare, word_text}
use Rattle.nut_words.specs.Spelling.{is_printing}
use Rattle.nut_words.proofs.StreamGrowth.{lines-append, rest-append}
use Rattle.nut_words.proofs.PlainLemmas.{all_printable}
use Rattle.nut_words.proofs.WrittenLine.{all-append, line_printable, lines_of_printable, quoted_printable, rest_of_printable}
use Rattle.nut_words.specs.declared.limits.TheConstants.{LINE_MAX, NAME_MAX, VALUE_MAX}
use Rattle.nut_proto.specs.Lines.{line, message}
use Rattle.nut_proto.proofs.Lengths.{length-quoted}
use Rattle.nut_state.specs.Change.{Change, set_info}
use Rattle.nut_state.specs.Step.{after, applied}
use Rattle.nut_state.specs.Table.{Table, empty}
use Rattle.nut_state.specs.Text.{is_name}
use Rattle.nut_dummy.specs.declared.writable.Writable.{Writable}
use Rattle.nut_dummy.specs.declared.writable.Writable.TheVariants.{ChargeLow}
use Rattle.nut_dummy.specs.Dummy.{timelines}
use Rattle.nut_dummy.specs.Dump.{table_after, lines_in, LeadTo, dump_messages, IsDump, DumpIsTheTable}
use Rattle.nut_dummy.specs.Heard.{heard_in}
use Rattle.nut_dummy.specs.History.{by_lines, deeds, seen}
use Rattle.nut_dummy.specs.Item.{is_value}
use Rattle.nut_dummy.specs.Table.{table_of}
use Rattle.nut_dummy.specs.Teller.{Variable, dump, lines_of}
use Rattle.nut_dummy.specs.Telling.{Message, text, value_message, limits, limits_of, variable_messages, closing_messages}
use Rattle.nut_dummy.specs.Writable.{writable_of}
use Rattle.nut_dummy.proofs.FilledLemmas.{followed, limiting, writable_named, changes_of, closing_changes, dump_fills}
use Rattle.nut_dummy.proofs.HeardLemmas.{told_lines_are_heard}
use Rattle.nut_dummy.proofs.LimitLemmas.{IsSound, IsValued, AreSound, deeds_sound, lines_sound}
use Rattle.nut_dummy.proofs.TextLemmas.{text_nil, text_cons, text_append}

-- ---- in pieces

lines_of_pieces : (b : List ℕ) (pieces : List (List ℕ)) → lines b ++ lines_in (rest b) pieces ≡ lines (b ++ concat pieces)
lines_of_pieces b [] = append-nil (lines b) ∙ ap lines (sym (append-nil b))
lines_of_pieces b (piece ∷ pieces) =
    sym (append_assoc (lines b) (lines_after (rest b) piece) (lines_in (rest_after (rest b) piece) pieces))
    ∙ ap (λ ls. ls ++ lines_in (rest_after (rest b) piece) pieces) (sym (lines-append b piece))
    ∙ ap (λ r. lines (b ++ piece) ++ lines_in r pieces) (sym (rest-append b piece))
    ∙ lines_of_pieces (b ++ piece) pieces ∙ ap lines (append_assoc b piece (concat pieces))

in_pieces : (bytes : List ℕ) (table : Table) → rest bytes ≡ Text [] → table_after (lines bytes) empty ≡ table → LeadTo table bytes
in_pieces bytes table ended led = (ended, λ pieces joined. ap (λ ls. table_after ls empty) (lines_of_pieces [] pieces ∙ ap lines joined) ∙ led)

-- ---- lines

-- The text of these messages is their lines.
abbrev AreLines : List Message → Type 0
AreLines ms = (lines (text ms) ≡ map (λ m. Text (message m)) ms) × (rest (text ms) ≡ Text [])

lines_behind : (b more : List ℕ) → rest b ≡ Text [] → lines (b ++ more) ≡ lines b ++ lines more
lines_behind b more is = lines-append b more ∙ ap (λ r. lines b ++ lines_after r more) is ∙ ap (λ ls. lines b ++ ls) (sym (lines-append [] more))

rest_behind : (b more : List ℕ) → rest b ≡ Text [] → rest (b ++ more) ≡ rest more
rest_behind b more is = rest-append b more ∙ ap (λ r. rest_after r more) is ∙ sym (rest-append [] more)

no_lines : AreLines []
no_lines = (ap lines text_nil, ap rest text_nil)

more_lines : (ms ns : List Message) → AreLines ms → AreLines ns → AreLines (ms ++ ns)
more_lines ms ns h k = (
  ap lines (text_append ms ns) ∙ lines_behind (text ms) (text ns) h.1 ∙ ap (λ ls. ls ++ lines (text ns)) h.0
      ∙ ap (λ ls. map (λ m. Text (message m)) ms ++ ls) k.0 ∙ sym (map-append (λ m. Text (message m)) ms ns),
  ap rest (text_append ms ns) ∙ rest_behind (text ms) (text ns) h.1 ∙ k.1,
)

-- a printable message that is short enough is one line
one_line : (m : Message) → IsPrintable (message m) → length (message m) ≤ LINE_MAX → AreLines (m ∷ [])
unfolding line
one_line m printable short =
    let is : text (m ∷ []) ≡ message m ++ 10 ∷ [] = text_cons m [] ∙ ap (λ t. line m ++ t) text_nil ∙ append-nil (line m) in
    let fits : as_line (message m) ≡ Text (message m) = fitting (message m) short in
    (ap lines is ∙ lines_of_printable [] (message m) printable ∙ ap (λ l. l ∷ []) fits, ap rest is ∙ rest_of_printable [] (message m) printable)
  where
    fitting : (t : List ℕ) → length t ≤ LINE_MAX → as_line t ≡ Text t
    fitting t h = let small : nat_le (length t) LINE_MAX ≡ true = grind (arith, nat_tests) in rw small refl

-- ---- the line of a value

module _ (name value : List ℕ) (named_so : is_name name ≡ true) (valued : is_value value ≡ true) where
  name_printable : IsPrintable name
  name_printable = all_printable is_name_byte (λ c is. grind (arith, nat_tests)) name (and_parts (nat_le 1 (length name) && nat_le (length name) NAME_MAX) (list_all is_name_byte name) named_so).1

  value_printable : IsPrintable value
  value_printable = all_printable is_printing (λ c is. is) value (and_parts (nat_le (length value) VALUE_MAX) (list_all is_printing value) valued).1

  message_printable : IsPrintable (message (value_message name value))
  message_printable =
      all-append (codes "SETINFO ") _ (refl, (refl, (refl, (refl, (refl, (refl, (refl, (refl, tt))))))))
      (all-append (word_text name) _ (line_printable (name ∷ []) (name_printable, tt)) (refl, all-append (quoted value) [] (quoted_printable value value_printable) tt))

length-word : (t : List ℕ) → length (word_text t) ≤ 2 * length t + 2
length-word t = cond_both (stands_bare t) t (quoted t) (λ u. length u ≤ 2 * length t + 2) (λ _. omega arith) (λ _. length-quoted t)

value_line : (name value : List ℕ) → is_name name ≡ true → is_value value ≡ true → AreLines (value_message name value ∷ [])
value_line name value named_so valued =
    let some_name : length name ≤ NAME_MAX = leb-true _ _ (and_parts (nat_le 1 (length name)) (nat_le (length name) NAME_MAX) ((and_parts _ _ named_so).0)).1 in
    let some_value : length value ≤ VALUE_MAX = leb-true _ _ (and_parts _ _ valued).0 in
    one_line (value_message name value) (message_printable name value named_so valued)
    (omega (arith, length-append (word_text name) (32 ∷ (quoted value ++ [])), length-append (quoted value) [], length-word name, length-quoted value))

limits_lines : (w : Writable) → AreLines (limits_of w)
unfolding digits text line
limits_lines ChargeLow = (refl, refl)
limits_lines _ = (refl, refl)

closing_lines : AreLines closing_messages
unfolding text line
closing_lines = (refl, refl)

-- ---- what they are heard as

abbrev AreHeard : List Message → List Change → Type 0
AreHeard ms changes = map heard_in ms ≡ map (λ change. Some change) changes

more_heard : (ms ns : List Message) (cs ds : List Change) → AreHeard ms cs → AreHeard ns ds → AreHeard (ms ++ ns) (cs ++ ds)
more_heard ms ns cs ds h k =
    map-append heard_in ms ns ∙ ap (λ xs. xs ++ map heard_in ns) h ∙ ap (λ xs. map (λ change. Some change) cs ++ xs) k ∙ sym (map-append (λ change. Some change) cs ds)

table_follows : (ms : List Message) (changes : List Change) (t : Table) → AreHeard ms changes → table_after (map (λ m. Text (message m)) ms) t ≡ followed changes t
unfolding applied
table_follows [] [] t is = refl
table_follows (m ∷ ms) (change ∷ changes) t is =
    let first : heard_in m ≡ Some change = cc in
    let later : AreHeard ms changes = cc in
    ap (λ o. table_after (map (λ m. Text (message m)) ms) (option_map_or (after t) o t)) first ∙ table_follows ms changes (after t change) later
table_follows _ _ t is = cc

-- ---- a variable in a dump

abbrev messages_of : List ℕ → Option (List ℕ) → List Message
messages_of name value = option_map_or (variable_messages true name) value []

limits_said : (name : List ℕ) → AreLines (limits name) × AreHeard (limits name) (limiting name (writable_of name))
limits_said name = by (writable_of name) refl where
  by : (w : Option Writable) → writable_of name ≡ w → AreLines (option_map_or limits_of w []) × AreHeard (option_map_or limits_of w []) (limiting name w)
  by None is = (no_lines, refl)
  by (Some w) is =
      (limits_lines w, subst (λ n. AreHeard (limits_of w) (limiting n (Some w))) (writable_named name w is) (told_lines_are_heard.1 w))

variable_said : (name : List ℕ) (value : Option (List ℕ)) → is_name name ≡ true → IsValued value
    → AreLines (messages_of name value) × AreHeard (messages_of name value) (changes_of name value) × (lines_of true name value ≡ text (messages_of name value))
variable_said name None named_so valued = (no_lines, refl, sym text_nil)
variable_said name (Some value) named_so valued =
    let said = limits_said name in
    let heard_so : heard_in (value_message name value) ≡ Some (set_info name value) =
    told_lines_are_heard.0 name value (name_printable name value named_so valued) (value_printable name value named_so valued) in (
      more_lines (value_message name value ∷ []) (limits name) (value_line name value named_so valued) said.0,
      more_heard (value_message name value ∷ []) (limits name) (set_info name value ∷ []) (limiting name (writable_of name)) (ap (λ o. o ∷ []) heard_so) said.1,
      refl,
    )

variables_said : (variables : List Variable) → AllByRecursion IsSound variables
    → AreLines (flat_map (λ v. messages_of v.name v.value) variables)
    × AreHeard (flat_map (λ v. messages_of v.name v.value) variables) (flat_map (λ v. changes_of v.name v.value) variables)
    × (flat_map (λ v. lines_of true v.name v.value) variables ≡ text (flat_map (λ v. messages_of v.name v.value) variables))
variables_said [] h = (no_lines, refl, sym text_nil)
variables_said (v ∷ variables) h =
    let first = variable_said v.name v.value h.0.0 h.0.2 in
    let later = variables_said variables h.1 in
    let ms = messages_of v.name v.value in
    let ns = flat_map (λ (v : Variable). messages_of v.name v.value) variables in (
      more_lines ms ns first.0 later.0,
      more_heard ms ns (changes_of v.name v.value) (flat_map (λ v. changes_of v.name v.value) variables) first.1 later.1,
      ap (λ t. t ++ flat_map (λ v. lines_of true v.name v.value) variables) first.2 ∙ ap (λ t. text ms ++ t) later.2 ∙ sym (text_append ms ns),
    )

-- ---- the dump

dump_is : (variables : List Variable) → AreSound variables → IsDump variables (dump variables)
dump_is variables h =
    let said = variables_said variables h.each in
    let ms = flat_map (λ (v : Variable). messages_of v.name v.value) variables in
    let cs = flat_map (λ (v : Variable). changes_of v.name v.value) variables in
    let are = more_lines ms closing_messages said.0 closing_lines in
    let is : dump variables ≡ text (dump_messages variables) = ap (λ t. t ++ text closing_messages) said.2 ∙ sym (text_append ms closing_messages) in
    let in_order : lines (dump variables) ≡ map (λ m. Text (message m)) (dump_messages variables) = ap lines is ∙ are.0 in
    let ended : rest (dump variables) ≡ Text [] = ap rest is ∙ are.1 in
    let heard_so = more_heard ms closing_messages cs closing_changes said.1 told_lines_are_heard.2 in
    let led : table_after (lines (dump variables)) empty ≡ table_of variables =
    ap (λ ls. table_after ls empty) in_order ∙ table_follows (dump_messages variables) (cs ++ closing_changes) empty heard_so ∙ dump_fills variables h in
    record {
      in_order = in_order;
      variables_ascend = h.ascending;
      commands_ascend = search rules;
      is_table = in_pieces (dump variables) (table_of variables) ended led;
    }

pub dump_is_the_table : DumpIsTheTable
dump_is_the_table kind script_text script start h before reads =
    let past = deeds script.round start h in
    dump_is (map (seen (by_lines before past)) (timelines script)) (lines_sound (timelines script) before past (deeds_sound kind script_text script start h reads))
