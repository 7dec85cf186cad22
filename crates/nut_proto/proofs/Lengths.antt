-- The lengths of messages.
use Rattle.std.proofs.Common.{◌≡◌, ℕ, ◌+◌, ◌*◌, ◌≤◌, Bool, true, false, cond, List, [], ◌∷◌, ◌++◌, length, refl, arith, length-append, codes, IsTrue}
use Rattle.std.specs.Prelude.{◌==◌, ◌||◌}
use Rattle.std.specs.List.{flat_map, AllByRecursion}
use Rattle.nut_words.specs.Quoting.{escaped, quoted, stands_bare, word_text}
use Rattle.nut_words.specs.declared.limits.TheConstants.{NAME_MAX, UPS_NAME_MAX}
use Rattle.nut_proto.specs.declared.part.Part.{Part}
use Rattle.nut_proto.specs.declared.part.Part.TheVariants.{Word, Quoted}
use Rattle.nut_proto.specs.declared.reply.Reply.TheVariants as replies
use Rattle.nut_proto.specs.declared.request.ListQuery.TheVariants as queries
use Rattle.nut_proto.specs.Lines.{line, part_text}
use Rattle.nut_proto.specs.Requests.{begin_line, end_line}
use Rattle.nut_proto.specs.Replies.{reply_line}
use Rattle.nut_proto.specs.laws.Bounds.{IsName, IsVariable, variable_rows, variable_list, RowsAreBounded, ListsAreBounded, ForcedListsAreBounded}

-- the number of bytes of parts with a space before each
abbrev pub width : List Part → ℕ
width [] = 0
width (part ∷ parts) = 1 + length (part_text part) + width parts

length-behind : (parts : List Part) → length (flat_map (λ part. 32 ∷ part_text part) parts) ≡ width parts
length-behind [] = refl
length-behind (part ∷ parts) = omega (arith, length-append (32 ∷ part_text part) (flat_map (λ part. 32 ∷ part_text part) parts), length-behind parts)

pub length-line : (part : Part) (parts : List Part) → length (line (part ∷ parts)) ≡ length (part_text part) + width parts + 1
unfolding line
length-line part parts =
    let others : List ℕ = flat_map (λ part. 32 ∷ part_text part) parts in
    omega (arith, length-append (part_text part ++ others) (10 ∷ []), length-append (part_text part) others, length-behind parts)

length-cond : (b : Bool) (c : ℕ) → length (cond b (92 ∷ c ∷ []) (c ∷ [])) ≤ 2
length-cond true c = omega arith
length-cond false c = omega arith

length-escaped : (text : List ℕ) → length (flat_map escaped text) ≤ 2 * length text
length-escaped [] = omega arith
length-escaped (c ∷ cs) =
    omega (arith, length-append (escaped c) (flat_map escaped cs), length-cond (c == 34 || c == 92 || c == 35) c, length-escaped cs)

pub length-quoted : (text : List ℕ) → length (quoted text) ≤ 2 * length text + 2
length-quoted text = omega (arith, length-append (flat_map escaped text) (34 ∷ []), length-escaped text)

length-bare : (name : List ℕ) (b : Bool) → stands_bare name ≡ b → IsTrue b → length (cond b name (quoted name)) ≡ length name
length-bare name true e h = refl
length-bare name false e h = cc

-- a word that is written bare
pub length-name : (most : ℕ) (name : List ℕ) → IsName most name → length (word_text name) ≤ most
length-name most name h = omega (arith, length-bare name (stands_bare name) refl h.0, h.1)

-- the length of a row, by the length of its quoted value
length-row : (ups name value : List ℕ) → IsName UPS_NAME_MAX ups → IsName NAME_MAX name → length (reply_line (replies.Var ups name value)) ≤ 103 + length (quoted value)
unfolding reply_line
length-row ups name value u n =
    omega (arith, length-line (Word (codes "VAR")) (Word ups ∷ Word name ∷ Quoted value ∷ []), length-name 32 ups u, length-name 64 name n)

pub rows_are_bounded : RowsAreBounded
rows_are_bounded ups name value u v = omega (arith, length-row ups name value u v.0, length-quoted value, v.1)

length-begin : (ups : List ℕ) → IsName UPS_NAME_MAX ups → length (begin_line (queries.Var ups)) ≤ 48
unfolding begin_line
length-begin ups u =
    omega (arith, length-line (Word (codes "BEGIN")) (Word (codes "LIST") ∷ Word (codes "VAR") ∷ Word ups ∷ []), length-name 32 ups u)

length-end : (ups : List ℕ) → IsName UPS_NAME_MAX ups → length (end_line (queries.Var ups)) ≤ 46
unfolding end_line
length-end ups u =
    omega (arith, length-line (Word (codes "END")) (Word (codes "LIST") ∷ Word (codes "VAR") ∷ Word ups ∷ []), length-name 32 ups u)

length-rows : (ups : List ℕ) (rows : List (List ℕ × List ℕ)) → IsName UPS_NAME_MAX ups → AllByRecursion IsVariable rows → length (variable_rows ups rows) ≤ 1129 * length rows
length-rows ups [] u h = omega arith
length-rows ups (row ∷ rows) u h =
    omega (arith, length-append (reply_line (replies.Var ups row.0 row.1)) (variable_rows ups rows), rows_are_bounded ups row.0 row.1 u h.0, length-rows ups rows u h.1)

length-list : (ups : List ℕ) (rows : List (List ℕ × List ℕ)) → IsName UPS_NAME_MAX ups → length (variable_list ups rows) ≤ 94 + length (variable_rows ups rows)
length-list ups rows u =
    omega (
      arith,
      length-append (begin_line (queries.Var ups)) (variable_rows ups rows ++ end_line (queries.Var ups)),
      length-append (variable_rows ups rows) (end_line (queries.Var ups)),
      length-begin ups u,
      length-end ups u,
    )

pub lists_are_bounded : ListsAreBounded
lists_are_bounded ups rows u h most = omega (arith, length-list ups rows u, length-rows ups rows u h)

-- the length of the rows, if one value has `FSD ` before it
length-forced_rows : (ups name value : List ℕ) (before after : List (List ℕ × List ℕ)) → IsName UPS_NAME_MAX ups → AllByRecursion IsVariable before → IsVariable (name, value) → AllByRecursion IsVariable after →
    length (variable_rows ups (before ++ (name, codes "FSD " ++ value) ∷ after)) ≤ 1129 * (length before + length after) + 1133
length-forced_rows ups name value [] after u h v k =
    omega (
      arith,
      length-append (reply_line (replies.Var ups name (codes "FSD " ++ value))) (variable_rows ups after),
      length-row ups name (codes "FSD " ++ value) u v.0,
      length-quoted value,
      v.1,
      length-rows ups after u k,
    )
length-forced_rows ups name value (row ∷ before) after u h v k =
    omega (
      arith,
      length-append (reply_line (replies.Var ups row.0 row.1)) (variable_rows ups (before ++ (name, codes "FSD " ++ value) ∷ after)),
      rows_are_bounded ups row.0 row.1 u h.0,
      length-forced_rows ups name value before after u h.1 v k,
    )

pub forced_lists_are_bounded : ForcedListsAreBounded
forced_lists_are_bounded ups name value before after u h v k most =
    omega (arith, length-list ups (before ++ (name, codes "FSD " ++ value) ∷ after) u, length-forced_rows ups name value before after u h v k)
