-- What the lines of a piece lead to: the link has the answer and the failure that the definitions give.
use Rattle.std.proofs.Common.{arith}
use Rattle.std.proofs.Common.{◌≡◌, ℕ, Bool, true, false, ◌⊎◌, inl, inr, List, [], ◌∷◌, length, refl, sym, ◌∙◌, ap, subst, Option, Some, None, is_some, if◌then◌else◌}
use Rattle.std.specs.Prelude.{Result, Ok, Err, ◌==◌}
use Rattle.std.specs.Option.{option_map}
use Rattle.nut_words.specs.Lines.{LineText, Text, TooLong}
use Rattle.nut_proto.specs.Answers.{answer_in}
use Rattle.nut_proto.specs.declared.answer.Answer.{Answer as Said}
use Rattle.nut_proto.specs.declared.answer.Answer.TheVariants as answers
use Rattle.nut_proto.specs.declared.answer.AnswerFault.{AnswerFault}
use Rattle.nut_link.specs.Exchange.{Exchange, Stage}
use Rattle.nut_link.specs.Exchange as stages
use Rattle.nut_link.specs.declared.fault.LinkFault.{LinkFault}
use Rattle.nut_link.specs.declared.fault.LinkFault.TheVariants.{BadLine, OutOfOrder}
use Rattle.nut_link.specs.declared.outcome.Outcome.{Outcome}
use Rattle.nut_link.specs.Asking.{Asked as Query}
use Rattle.nut_link.specs.Matching.{Progress, Listing, Complete, expected, progress}
use Rattle.nut_link.specs.Link.{stage_after, on_read, on_line, left_of, moved, lines_heard, outcome_of, taken_out}
use Rattle.nut_monitor_spec.specs.declared.Query.{Query as Ask}
use Rattle.nut_monitor_spec.specs.declared.Query.TheVariants.{Status, NumLogins, Username, Password, Login, Primary, Fsd}
use Rattle.nut_monitor_spec.specs.Configuration.{Line}
use Rattle.nut_monitor_spec.specs.Query.{request, complete, outcome_by, outcome_in as said_in}
use Rattle.nut_monitor_spec.specs.Trace.{Asked, Answer, answered, answer_to, lost_by}
use Rattle.nut_monitor_spec.specs.Content.{stage_in}

-- ---- no query of a monitor is answered by a list

tests-whole : (b : Bool) (outcome : Outcome) (fault : LinkFault) (rows : List (List (List ℕ))) →
    (let r : Result Progress LinkFault = if b then Ok (Complete outcome) else Err fault in r) ≡ Ok (Listing rows) → ⊥
tests-whole b outcome fault rows is = grind arith

is-whole : (line : Line) (ask : Ask) (said : Said) (rows : List (List (List ℕ))) → progress (expected (request line ask)) None said ≡ Ok (Listing rows) → ⊥
is-whole line Username (answers.Ok words) rows is = cc
is-whole line Password (answers.Ok words) rows is = cc
is-whole line Login (answers.Ok words) rows is = cc
is-whole line Primary (answers.Ok words) rows is = cc
is-whole line Fsd (answers.Ok words) rows is = cc
is-whole line Status (answers.Row words) rows is = tests-whole _ _ _ rows is
is-whole line NumLogins (answers.Row words) rows is = tests-whole _ _ _ rows is
is-whole line other _ rows is = cc

-- ---- one line

-- Either both say that a line is no answer, or both that it is this answer.
abbrev Agrees : Result Stage LinkFault → Option Outcome → Type 0
Agrees result said =
    ((said ≡ None) × (fault : LinkFault) × (result ≡ Err fault))
    ⊎ ((outcome : Outcome) × (said ≡ Some outcome) × (result ≡ Ok (stages.Answered outcome)))

by-progress : (query : Query) (p : Result Progress LinkFault) → ((rows : List (List (List ℕ))) → p ≡ Ok (Listing rows) → ⊥) → Agrees (stage_after query p) (complete p)
by-progress query (Ok (Listing rows)) whole = absurd (whole rows refl)
by-progress query (Ok (Complete outcome)) whole = inr (outcome, refl, refl)
by-progress query (Err fault) whole = inl (refl, fault, refl)

-- the query of a monitor, while these of its bytes wait
abbrev pending : Line → Ask → List ℕ → Query
pending line ask waits = record { expected = expected (request line ask); waits = waits; rows = None }

-- what a line makes of a query, by whether all its bytes are taken
abbrev read_by : Bool → Query → Result Said AnswerFault → Result Stage LinkFault
read_by all query (Ok said) = stage_after query (if all then progress query.expected query.rows said else Err OutOfOrder)
read_by all query (Err fault) = Err BadLine

by-reading : (all : Bool) (line : Line) (ask : Ask) (waits : List ℕ) (read : Result Said AnswerFault) →
    Agrees (read_by all (pending line ask waits) read) (if all then outcome_by (request line ask) read else None)
by-reading true line ask waits (Ok said) = by-progress (pending line ask waits) (progress (expected (request line ask)) None said) (is-whole line ask said)
by-reading true line ask waits (Err fault) = inl (refl, BadLine, refl)
by-reading false line ask waits (Ok said) = inl (refl, OutOfOrder, refl)
by-reading false line ask waits (Err fault) = inl (refl, BadLine, refl)

on_read-is : (query : Query) (read : Result Said AnswerFault) → on_read (stages.Asked query) read ≡ read_by (length query.waits == 0) query read
on_read-is query read = grind arith

none-either : (all : Bool) → (let o : Option Outcome = if all then None else None in o) ≡ None
none-either all = grind arith

by-line : (line : Line) (ask : Ask) (waits : List ℕ) (text : LineText) →
    Agrees (on_line (stages.Asked (pending line ask waits)) text) (if length waits == 0 then said_in (request line ask) text else None)
by-line line ask waits (Text text) =
    subst (λ r. Agrees r (if length waits == 0 then outcome_by (request line ask) (answer_in text) else None)) (sym (on_read-is (pending line ask waits) (answer_in text)))
    (by-reading (length waits == 0) line ask waits (answer_in text))
by-line line ask waits TooLong = inl (none-either (length waits == 0), BadLine, refl)

-- a line while no query is outstanding
idle-read : (read : Result Said AnswerFault) → (fault : LinkFault) × (on_read stages.Idle read ≡ Err fault)
idle-read (Ok said) = (OutOfOrder, refl)
idle-read (Err fault) = (BadLine, refl)

idle-line : (text : LineText) → (fault : LinkFault) × (on_line stages.Idle text ≡ Err fault)
idle-line (Text text) = idle-read (answer_in text)
idle-line TooLong = (BadLine, refl)

-- a line behind an answer
late-read : (outcome : Outcome) (read : Result Said AnswerFault) → (fault : LinkFault) × (on_read (stages.Answered outcome) read ≡ Err fault)
late-read outcome (Ok said) = (OutOfOrder, refl)
late-read outcome (Err fault) = (BadLine, refl)

late-line : (outcome : Outcome) (text : LineText) → (fault : LinkFault) × (on_line (stages.Answered outcome) text ≡ Err fault)
late-line outcome (Text text) = late-read outcome (answer_in text)
late-line outcome TooLong = (BadLine, refl)

-- ---- lines

abbrev pub going : Stage → Exchange
going stage = record { stage = stage; fault = None }

abbrev pub stopped : Stage → LinkFault → Exchange
stopped stage fault = record { stage = stage; fault = Some fault }

stays-stopped : (texts : List LineText) (stage : Stage) (fault : LinkFault) → lines_heard texts (stopped stage fault) ≡ stopped stage fault
stays-stopped [] stage fault = refl
stays-stopped (text ∷ texts) stage fault = stays-stopped texts stage fault

-- the first line at which the exchange fails ends it
fails-at : (text : LineText) (texts : List LineText) (stage : Stage) (fault : LinkFault) → on_line stage text ≡ Err fault →
    lines_heard (text ∷ texts) (going stage) ≡ stopped (left_of stage) fault
fails-at text texts stage fault is = grind (arith, stays-stopped)

-- the answer to the first line
abbrev pub first_by : Line → ℕ → Option Asked → List ℕ → List LineText → Option Answer
first_by line i asked waits [] = None
first_by line i asked waits (text ∷ texts) = answer_to line i asked (length waits == 0) text

-- What the lines lead to.
pub record Comes (line : Line) (i : ℕ) (asked : Option Asked) (waits : List ℕ) (texts : List LineText) (after : Exchange) : Type 0 where
  pub outcome : outcome_of after ≡ option_map (λ a. a.outcome) (first_by line i asked waits texts)
  pub fault : is_some after.fault ≡ is_some (lost_by i (first_by line i asked waits texts) texts)
  pub goes : is_some after.fault ≡ false → taken_out after ≡ going (stage_in line (if is_some (first_by line i asked waits texts) then None else asked) waits)

comes-idle : (line : Line) (i : ℕ) (asked : Option Asked) (waits : List ℕ) → Comes line i asked waits [] (going (stage_in line asked waits))
comes-idle line i asked waits = grind arith

none-first : (line : Line) (i : ℕ) (asked : Option Asked) (waits : List ℕ) (text : LineText) (texts : List LineText) (fault : LinkFault) →
    answer_to line i asked (length waits == 0) text ≡ None → on_line (stage_in line asked waits) text ≡ Err fault → left_of (stage_in line asked waits) ≡ stages.Idle →
    Comes line i asked waits (text ∷ texts) (lines_heard (text ∷ texts) (going (stage_in line asked waits)))
none-first line i asked waits text texts fault none is left = grind (arith, fails-at)

comes-answered : (line : Line) (i : ℕ) (asked : Asked) (waits : List ℕ) (text : LineText) (texts : List LineText) (outcome : Outcome) →
    (if length waits == 0 then said_in (request line asked.query) text else None) ≡ Some outcome →
    on_line (stage_in line (Some asked) waits) text ≡ Ok (stages.Answered outcome) →
    Comes line i (Some asked) waits (text ∷ texts) (lines_heard (text ∷ texts) (going (stage_in line (Some asked) waits)))
comes-answered line i asked waits text [] outcome some is =
    let first : answer_to line i (Some asked) (length waits == 0) text ≡ Some (record { link = i; asked = asked; outcome = outcome }) = ap (answered i asked) some in
    let e : lines_heard (text ∷ []) (going (stage_in line (Some asked) waits)) ≡ going (stages.Answered outcome) = ap (moved (going (stage_in line (Some asked) waits))) is in
    record {
      outcome = ap outcome_of e ∙ sym (ap (option_map (λ a. a.outcome)) first);
      fault = ap (λ x. is_some x.fault) e ∙ sym (ap (λ a. is_some (lost_by i a (text ∷ []))) first);
      goes = λ going'. ap taken_out e ∙ sym (ap (λ a. going (stage_in line (if is_some a then None else Some asked) waits)) first);
    }
comes-answered line i asked waits text (other ∷ texts) outcome some is =
    let first : answer_to line i (Some asked) (length waits == 0) text ≡ Some (record { link = i; asked = asked; outcome = outcome }) = ap (answered i asked) some in
    let late = late-line outcome other in
    let e : lines_heard (text ∷ other ∷ texts) (going (stage_in line (Some asked) waits)) ≡ stopped (stages.Answered outcome) late.0 =
    ap (λ r. lines_heard (other ∷ texts) (moved (going (stage_in line (Some asked) waits)) r)) is ∙ fails-at other texts (stages.Answered outcome) late.0 late.1 in
    record {
      outcome = ap outcome_of e ∙ sym (ap (option_map (λ a. a.outcome)) first);
      fault = ap (λ x. is_some x.fault) e ∙ sym (ap (λ a. is_some (lost_by i a (text ∷ other ∷ texts))) first);
      goes = λ going'. let no' : true ≡ false = sym (ap (λ x. is_some x.fault) e) ∙ going' in cc;
    }

pub comes : (line : Line) (i : ℕ) (asked : Option Asked) (waits : List ℕ) (texts : List LineText) →
    Comes line i asked waits texts (lines_heard texts (going (stage_in line asked waits)))
comes line i asked waits [] = comes-idle line i asked waits
comes line i None waits (text ∷ texts) = let idle = idle-line text in none-first line i None waits text texts idle.0 refl idle.1 refl
comes line i (Some asked) waits (text ∷ texts) =
    elim (by-line line asked.query waits text) [
      | inl none ↦ none-first line i (Some asked) waits text texts none.1 (ap (answered i asked) none.0) none.2 refl
      | inr some ↦ comes-answered line i asked waits text texts some.0 some.1 some.2
    ]
