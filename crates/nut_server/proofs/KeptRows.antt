-- Rows that end in a text that is kept with their variable.
use Rattle.std.proofs.Common.{◌≡◌, ℕ, Bool, true, false, List, [], ◌∷◌, ◌++◌, Option, Some, codes, flat_map, map, refl, sym, ap, ◌∙◌, append_assoc}
use Rattle.std.specs.Prelude.{◌&&◌}
use Rattle.std.specs.Str.{bytes_eq}
use Rattle.std.proofs.lemmas.List.{append-nil}
use Rattle.std.proofs.lemmas.List.Folds.{flat_map-map}
use Rattle.nut_words.specs.Quoting.{quoted, word_text}
use Rattle.nut_state.specs.Row.{row_end}
use Rattle.nut_state.specs.Table.{Entry, variable}
use Rattle.nut_proto.specs.declared.refusal.Refusal.TheVariants as refusals
use Rattle.nut_proto.specs.declared.reply.Reply.TheVariants as replies
use Rattle.nut_proto.specs.declared.request.ListQuery.TheVariants as queries
use Rattle.nut_proto.specs.Lines.{line}
use Rattle.nut_proto.specs.Replies.{reply_line}
use Rattle.nut_proto.specs.Requests.{begin_line, end_line}
use Rattle.nut_server_spec.specs.Answer.{Line, Listing, on_variable, require, shown, text_of, var_row}
use Rattle.nut_server_spec.specs.Configuration.{Ups}
use Rattle.nut_server_spec.specs.Device.{Device}
use Rattle.nut_server.specs.inside.Rows.{row_front, row_word, value_row, variable_row}
use Rattle.nut_server.specs.inside.Answers.{described}

in_two : (ups name value : List ℕ) → (ups ++ 32 ∷ (name ++ 32 ∷ (value ++ []))) ++ 10 ∷ [] ≡ (ups ++ 32 ∷ []) ++ (name ++ 32 ∷ (value ++ 10 ∷ []))
in_two ups name value =
    let end : (value ++ []) ++ 10 ∷ [] ≡ value ++ 10 ∷ [] = ap (λ bytes. bytes ++ 10 ∷ []) (append-nil value) in
    append_assoc ups (32 ∷ (name ++ 32 ∷ (value ++ []))) (10 ∷ [])
    ∙ ap (λ bytes. ups ++ 32 ∷ bytes) (append_assoc name (32 ∷ (value ++ [])) (10 ∷ []) ∙ ap (λ bytes. name ++ 32 ∷ bytes) end)
    ∙ sym (append_assoc ups (32 ∷ []) (name ++ 32 ∷ (value ++ 10 ∷ [])))

described_in_two : (ups text : List ℕ) → (ups ++ 32 ∷ (text ++ [])) ++ 10 ∷ [] ≡ ups ++ 32 ∷ (text ++ 10 ∷ [])
described_in_two ups text = append_assoc ups (32 ∷ (text ++ [])) (10 ∷ []) ∙ ap (λ bytes. ups ++ 32 ∷ (bytes ++ 10 ∷ [])) (append-nil text)

var_text : (ups name value : List ℕ) → reply_line (replies.Var ups name value) ≡ row_front (codes "VAR") ups ++ row_end name value
unfolding reply_line line
var_text ups name value = ap (λ bytes. codes "VAR" ++ 32 ∷ bytes) (in_two (word_text ups) (word_text name) (quoted value))

rw_text : (ups name value : List ℕ) → reply_line (replies.Rw ups name value) ≡ row_front (codes "RW") ups ++ row_end name value
unfolding reply_line line
rw_text ups name value = ap (λ bytes. codes "RW" ++ 32 ∷ bytes) (in_two (word_text ups) (word_text name) (quoted value))

row_text : (is_rw : Bool) (ups name value : List ℕ) → reply_line (value_row is_rw ups name value) ≡ row_front (row_word is_rw) ups ++ row_end name value
row_text true = rw_text
row_text false = var_text

-- The answer to GET UPSDESC in its parts.
pub described_text : (ups text before one two three : List ℕ) → one ≡ before ++ row_front (codes "UPSDESC") ups → two ≡ one ++ quoted text → three ≡ two ++ 10 ∷ []
    → three ≡ before ++ reply_line (replies.UpsDesc ups text)
unfolding reply_line line
described_text ups text before one two three first second third =
    third ∙ ap (λ bytes. bytes ++ 10 ∷ []) (second ∙ ap (λ bytes. bytes ++ quoted text) first) ∙ append_assoc (before ++ row_front (codes "UPSDESC") ups) (quoted text) (10 ∷ [])
    ∙ append_assoc before (row_front (codes "UPSDESC") ups) (quoted text ++ 10 ∷ [])
    ∙ ap (λ bytes. before ++ (codes "UPSDESC" ++ 32 ∷ bytes)) (append_assoc (word_text ups) (32 ∷ []) (quoted text ++ 10 ∷ []) ∙ sym (described_in_two (word_text ups) (quoted text)))

pub described_told : (ups : List ℕ) (ups_found : Option Ups) (found : Ups) (before one two three : List ℕ) → ups_found ≡ Some found → one ≡ before ++ row_front (codes "UPSDESC") ups
    → two ≡ one ++ quoted found.description → three ≡ two ++ 10 ∷ [] → three ≡ before ++ text_of (described ups ups_found)
unfolding text_of
described_told ups ups_found found before one two three is first second third =
    described_text ups found.description before one two three first second third ∙ ap (λ (o : Option Ups). before ++ text_of (described ups o)) (sym is)

-- The value is shown as it is.
as_it_is : (d : Device) (v : Entry) → false ≡ (d.forced && bytes_eq v.name (codes "ups.status")) → shown d v ≡ v.value
as_it_is d v plain = rw (sym plain) refl

pub variable_kept : (is_rw : Bool) (ups : List ℕ) (d : Device) (v : Entry) (front end before after : List ℕ) → false ≡ (d.forced && bytes_eq v.name (codes "ups.status"))
    → front ≡ row_front (row_word is_rw) ups → end ≡ row_end v.name v.value → after ≡ before ++ (front ++ end) → after ≡ before ++ reply_line (variable_row is_rw ups d v)
variable_kept is_rw ups d v front end before after plain begins ends is =
    rw (is, begins, ends) (ap (λ row. before ++ row) (sym (ap (λ value. reply_line (value_row is_rw ups v.name value)) (as_it_is d v plain) ∙ row_text is_rw ups v.name v.value)))

-- The answer to GET VAR, if the row is kept.
pub kept_told : (ups name : List ℕ) (d : Device) (v : Entry) (end : List ℕ) → variable d.table name ≡ Some v → false ≡ (d.forced && bytes_eq v.name (codes "ups.status"))
    → end ≡ row_end v.name v.value → text_of (on_variable name d (λ v. Line (var_row ups d v))) ≡ row_front (codes "VAR") ups ++ end
unfolding text_of
kept_told ups name d v end is plain ends =
    ap (λ (o : Option Entry). text_of (require refusals.VarNotSupported o (λ v. Line (var_row ups d v)))) is
    ∙ ap (λ value. reply_line (replies.Var ups v.name value)) (as_it_is d v plain) ∙ var_text ups v.name v.value ∙ ap (λ e. row_front (codes "VAR") ups ++ e) (sym ends)

-- ---- a list

begin_text : (ups : List ℕ) → begin_line (queries.Var ups) ≡ codes "BEGIN LIST VAR " ++ (word_text ups ++ 10 ∷ [])
unfolding begin_line line
begin_text ups = ap (λ bytes. codes "BEGIN LIST VAR " ++ (bytes ++ 10 ∷ [])) (append-nil (word_text ups))

end_text : (ups : List ℕ) → end_line (queries.Var ups) ≡ codes "END LIST VAR " ++ (word_text ups ++ 10 ∷ [])
unfolding end_line line
end_text ups = ap (λ bytes. codes "END LIST VAR " ++ (bytes ++ 10 ∷ [])) (append-nil (word_text ups))

-- The answer to LIST VAR in its parts.
pub list_told : (ups : List ℕ) (d : Device) (before one two three : List ℕ) → one ≡ before ++ (codes "BEGIN LIST VAR " ++ (word_text ups ++ 10 ∷ []))
    → two ≡ one ++ flat_map (λ v. reply_line (var_row ups d v)) d.table.variables → three ≡ two ++ (codes "END LIST VAR " ++ (word_text ups ++ 10 ∷ []))
    → three ≡ before ++ text_of (Listing (queries.Var ups) (map (var_row ups d) d.table.variables))
unfolding text_of
list_told ups d before one two three first second third =
    let begins = codes "BEGIN LIST VAR " ++ (word_text ups ++ 10 ∷ []) in
    let rows = flat_map (λ v. reply_line (var_row ups d v)) d.table.variables in
    let ends = codes "END LIST VAR " ++ (word_text ups ++ 10 ∷ []) in
    rw (third, second, first, begin_text ups, end_text ups, flat_map-map)
    (append_assoc (before ++ begins) rows ends ∙ append_assoc before begins (rows ++ ends))
