-- How long messages are, if names and values are within their limits.
use Rattle.std.specs.Prelude.{ℕ, ◌+◌, ◌<◌, ◌≤◌, List, ◌∷◌, ◌++◌, length, codes, IsTrue}
use Rattle.std.specs.List.{flat_map, AllByRecursion}
use Rattle.nut_words.specs.Quoting.{stands_bare}
use Rattle.nut_words.specs.declared.limits.TheConstants.{NAME_MAX, UPS_NAME_MAX, VALUE_MAX}
use Rattle.nut_proto.specs.declared.reply.Reply.TheVariants as replies
use Rattle.nut_proto.specs.declared.request.ListQuery.TheVariants as queries
use Rattle.nut_proto.specs.Requests.{begin_line, end_line}
use Rattle.nut_proto.specs.Replies.{reply_line}
use Rattle.nut_proto.specs.declared.limits.TheConstants.{ROWS_MAX}

-- The name can be written bare and has at most `most` bytes.
abbrev pub IsName : ℕ → List ℕ → Type 0
IsName most name = IsTrue (stands_bare name) × (length name ≤ most)

-- A variable's name has at most NAME_MAX bytes, and its value at most VALUE_MAX.
abbrev pub IsVariable : List ℕ × List ℕ → Type 0
IsVariable row = IsName NAME_MAX row.0 × (length row.1 ≤ VALUE_MAX)

-- the rows of LIST VAR, for these names and values
abbrev pub variable_rows : List ℕ → List (List ℕ × List ℕ) → List ℕ
variable_rows ups rows = flat_map (λ row. reply_line (replies.Var ups row.0 row.1)) rows

-- the whole answer to LIST VAR
abbrev pub variable_list : List ℕ → List (List ℕ × List ℕ) → List ℕ
variable_list ups rows = begin_line (queries.Var ups) ++ (variable_rows ups rows ++ end_line (queries.Var ups))

-- If the name of the UPS can be written bare and has at most 32 bytes, and the variable is within its limits, its row
-- in LIST VAR has at most 1129 bytes.
abbrev pub RowsAreBounded : Type 0
RowsAreBounded =
    (ups name value : List ℕ) → IsName UPS_NAME_MAX ups → IsVariable (name, value) → length (reply_line (replies.Var ups name value)) ≤ 1129

-- The answer to LIST VAR, of at most ROWS_MAX variables, has at most 578,142 bytes.
abbrev pub ListsAreBounded : Type 0
ListsAreBounded =
    (ups : List ℕ) (rows : List (List ℕ × List ℕ)) →
    IsName UPS_NAME_MAX ups → AllByRecursion IsVariable rows → length rows ≤ ROWS_MAX → length (variable_list ups rows) ≤ 578142

-- If the name of the UPS can be written bare and has at most 32 bytes, and there are at most 512 variables, each within
-- its limits, the answer to LIST VAR with `FSD ` put before one value has at most 578,146 bytes.
abbrev pub ForcedListsAreBounded : Type 0
ForcedListsAreBounded =
    (ups name value : List ℕ) (before after : List (List ℕ × List ℕ)) →
    IsName UPS_NAME_MAX ups → AllByRecursion IsVariable before → IsVariable (name, value) → AllByRecursion IsVariable after →
    length before + length after < ROWS_MAX →
    length (variable_list ups (before ++ (name, codes "FSD " ++ value) ∷ after)) ≤ 578146
