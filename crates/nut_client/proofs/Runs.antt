-- How a run continues by the parts of lines that are heard.
use Rattle.std.proofs.Common.{◌≡◌, ℕ, map, Bool, ◌++◌, List, [], ◌∷◌, Option, Some, None, is_some, if◌then◌else◌, Result, Ok, Err, refl, sym, ap, ap₂, ◌∙◌, ◌⊎◌, inl, inr}
use Rattle.std.proofs.lemmas.Bool.{cases_Bool}
use Rattle.std.proofs.lemmas.List.{append_assoc, append_cancel_left, append-nil}
use Rattle.std.specs.Io.KnownBytes.{append_known, prepend_known}
use Rattle.nut_words.specs.Lines.{LineText, Text, TooLong, all_but_last, as_line, completed, joined, last_of, lines, lines_after, parts, rest, rest_after, unfinished}
use Rattle.nut_words.proofs.LineLemmas.{is_some_parts, lines_of_line, lines_of_unbroken, rest_of_line, rest_of_unbroken}
use Rattle.nut_words.proofs.StreamGrowth.{lines-append, rest-append}
use Rattle.nut_proto.specs.declared.request.Request.{Request}
use Rattle.nut_proto.specs.Requests.{request_line}
use Rattle.nut_link.specs.Exchange.{Exchange, Stage}
use Rattle.nut_link.specs.Exchange as stages
use Rattle.nut_client.specs.declared.failure.ToolFailure.TheVariants as failures
use Rattle.nut_link.specs.declared.fault.LinkFault.{LinkFault}
use Rattle.nut_link.specs.declared.fault.LinkFault.TheVariants.{BadLine}
use Rattle.nut_link.specs.declared.outcome.Outcome.{Outcome}
use Rattle.nut_client.specs.inside.Conversation.{HasLength, IsWaiting}
use Rattle.nut_link.specs.Link.{LinkValue, failed, fed, heard, left_of, lines_heard, moved, on_line, outcome_in, outcome_of}
use Rattle.nut_link.specs.Asking.{is_writable}
use Rattle.nut_client.specs.Script.{Script, Asks, Pauses}
use Rattle.nut_client.specs.Tool.{Run, Waits, Failed, after, begin, sent, failure_of, goes_on, hears, overlong, settled_lines}
use Rattle.nut_client.specs.inside.Unread.{IsUnbroken, IsWhole}

pub after-append : (xs ys : List LineText) (run : Run) → after (xs ++ ys) run ≡ after ys (after xs run)
after-append [] ys run = refl
after-append (x ∷ xs) ys run = after-append xs ys (hears x run.queries run.standing)

pub prepend_twice : (x y : List ℕ) (known : Option (List ℕ)) → prepend_known x (prepend_known y known) ≡ prepend_known (x ++ y) known
prepend_twice x y None = refl
prepend_twice x y (Some bytes) = ap Some (sym (append_assoc x y bytes))

pub prepend_none : (known : Option (List ℕ)) → prepend_known [] known ≡ known
prepend_none None = refl
prepend_none (Some bytes) = refl

pub append_twice : (x y : List ℕ) (known : Option (List ℕ)) → append_known (append_known known x) y ≡ append_known known (x ++ y)
append_twice x y None = refl
append_twice x y (Some bytes) = ap Some (append_assoc bytes x y)

pub append_none : (known : Option (List ℕ)) → append_known known [] ≡ known
append_none None = refl
append_none (Some bytes) = ap Some (append-nil bytes)

-- the lines of bytes whose unfinished line isn't too long
pub settled : (b t : List ℕ) → rest b ≡ Text t → settled_lines b ≡ lines b
settled b t short = ap (λ r. lines b ++ overlong r) short ∙ append-nil (lines b)

-- what more bytes settle
more_settled : (line : LineText) (ps : List (List ℕ)) → (p : List ℕ) (more : List (List ℕ)) → ps ≡ p ∷ more
    → (tail : List LineText) × (completed line ps ++ overlong (unfinished line ps) ≡ overlong line ++ tail)
more_settled (Text t) ps p more is = (completed (Text t) ps ++ overlong (unfinished (Text t) ps), refl)
more_settled TooLong ps p [] is = ([], ap (λ ps. completed TooLong ps ++ overlong (unfinished TooLong ps)) is)
more_settled TooLong ps p (u ∷ ts) is = (map as_line (all_but_last (u ∷ ts)) ++ overlong (as_line (last_of (u ∷ ts))), ap (λ ps. completed TooLong ps ++ overlong (unfinished TooLong ps)) is)

-- Lines that are settled stay as they are.
pub settled-append : (b more : List ℕ) → (tail : List LineText) × (settled_lines (b ++ more) ≡ settled_lines b ++ tail)
settled-append b more =
    let some = is_some_parts more in
    let m = more_settled (rest b) (parts more) some.0 some.1 some.2 in (
      m.0,
      ap₂ (λ ls r. ls ++ overlong r) (lines-append b more) (rest-append b more)
          ∙ append_assoc (lines b) (lines_after (rest b) more) (overlong (rest_after (rest b) more))
          ∙ ap (λ ls. lines b ++ ls) m.1
          ∙ sym (append_assoc (lines b) (overlong (rest b)) m.0),
    )

-- A part of a line that was heard after b.
record HeardPart (v : LinkValue) (b p : List ℕ) : Type 0 where
  line : LineText
  heard_is : (fed p v).exchange ≡ heard line v.exchange
  brought : lines (b ++ p) ≡ lines b ++ line ∷ []
  ended : rest (b ++ p) ≡ Text []

NothingHeard : LinkValue → List ℕ → List ℕ → Type 0
NothingHeard v b p = ((fed p v).exchange ≡ v.exchange) × (lines (b ++ p) ≡ lines b)

part_heard : (v : LinkValue) (b p : List ℕ) → v.rest ≡ rest b → IsUnbroken p ⊎ IsWhole p → NothingHeard v b p ⊎ HeardPart v b p
unfolding NothingHeard
part_heard v b p here (inl unbroken) = inl (ap (λ ps. lines_heard (completed v.rest ps) v.exchange) unbroken, lines_of_unbroken b p unbroken)
part_heard v b p here (inr whole) =
    let more : lines (b ++ p) ≡ lines b ++ joined (rest b) whole.0 ∷ [] = ap (λ p. lines (b ++ p)) whole.2 ∙ lines_of_line b whole.0 whole.1 in
    let one : lines_after (rest b) p ≡ joined (rest b) whole.0 ∷ [] = append_cancel_left (lines b) (lines_after (rest b) p) (joined (rest b) whole.0 ∷ []) (sym (lines-append b p) ∙ more) in
    inr (record {
      line = joined (rest b) whole.0;
      heard_is = ap (λ r. lines_heard (lines_after r p) v.exchange) here ∙ ap (λ ls. lines_heard ls v.exchange) one;
      brought = more;
      ended = ap (λ p. rest (b ++ p)) whole.2 ∙ rest_of_line b whole.0 whole.1;
    })

-- a run that waits with this exchange, and continues by its answer
abbrev pub waiting_run : List ℕ → Exchange → (Outcome → Script) → Run
waiting_run queries e next = record { queries = queries; standing = Waits e next }

-- what a line does to a run that waits
line_run : (v : LinkValue) (b t p : List ℕ) (run : Run) (q : List ℕ) (next : Outcome → Script) → rest b ≡ Text t → after (settled_lines b) run ≡ waiting_run q v.exchange next → (h : HeardPart v b p)
    → after (settled_lines (b ++ p)) run ≡ goes_on q next (fed p v).exchange (outcome_of (fed p v).exchange) (fed p v).exchange.fault
line_run v b t p run q next short is h =
    ap (λ ls. after ls run) (settled (b ++ p) [] h.ended ∙ h.brought ∙ ap (λ ls. ls ++ h.line ∷ []) (sym (settled b t short)))
    ∙ after-append (settled_lines b) (h.line ∷ []) run
    ∙ ap (after (h.line ∷ [])) is
    ∙ ap (λ e. goes_on q next e (outcome_of e) e.fault) (sym h.heard_is)

nothing_run : (v : LinkValue) (b t u p : List ℕ) (run : Run) (q : List ℕ) (next : Outcome → Script) → rest b ≡ Text t → rest (b ++ p) ≡ Text u
    → after (settled_lines b) run ≡ waiting_run q v.exchange next → NothingHeard v b p → after (settled_lines (b ++ p)) run ≡ waiting_run q (fed p v).exchange next
unfolding NothingHeard
nothing_run v b t u p run q next short short' is h =
    ap (λ ls. after ls run) (settled (b ++ p) u short' ∙ h.1 ∙ sym (settled b t short)) ∙ is ∙ ap (λ e. waiting_run q e next) (sym h.0)

left_outcome : (stage : Stage) → outcome_in (left_of stage) ≡ outcome_in stage
left_outcome stages.Idle = refl
left_outcome stage = refl

-- The unfinished line becomes too long.
overlong_run : (e : Exchange) (b t p : List ℕ) (run : Run) (q : List ℕ) (next : Outcome → Script) → rest b ≡ Text t → lines (b ++ p) ≡ lines b → rest (b ++ p) ≡ TooLong → IsWaiting e
    → after (settled_lines b) run ≡ waiting_run q e next → after (settled_lines (b ++ p)) run ≡ record { queries = q; standing = Failed failures.BadAnswer }
overlong_run e b t p run q next short same over waits is =
    ap (λ ls. after ls run) (ap₂ (λ ls r. ls ++ overlong r) same over ∙ ap (λ ls. ls ++ TooLong ∷ []) (sym (settled b t short)))
    ∙ after-append (settled_lines b) (TooLong ∷ []) run
    ∙ ap (after (TooLong ∷ [])) is
    ∙ ap (λ x. goes_on q next x (outcome_of x) x.fault) (ap (λ o. if is_some o then e else failed BadLine e) waits.0)
    ∙ ap (λ o. goes_on q next (failed BadLine e) o (Some BadLine)) (left_outcome e.stage ∙ waits.1)

pub too_long : (v : LinkValue) (b p : List ℕ) (n : ℕ) → v.rest ≡ rest b → HasLength v.rest n → IsUnbroken p → joined v.rest p ≡ TooLong → IsWaiting v.exchange → (run : Run) (q : List ℕ) (next : Outcome → Script)
    → after (settled_lines b) run ≡ waiting_run q v.exchange next → after (settled_lines (b ++ p)) run ≡ record { queries = q; standing = Failed failures.BadAnswer }
too_long v b p n here short unbroken over waits run q next is =
    overlong_run v.exchange b short.0 p run q next (sym here ∙ short.1) (lines_of_unbroken b p unbroken) (rest_of_unbroken b p unbroken ∙ ap (λ r. joined r p) (sym here) ∙ over) waits is

-- what a link that waits keeps of an unfinished line
pub rest_waits : (v : LinkValue) (b p : List ℕ) → v.rest ≡ rest b → (fed p v).exchange.fault ≡ None → (fed p v).rest ≡ rest (b ++ p)
rest_waits v b p here going = ap (λ o. if is_some o then Text [] else rest_after v.rest p) going ∙ ap (λ r. rest_after r p) here ∙ sym (rest-append b p)

-- The answer isn't complete.
pub still_waits : (v : LinkValue) (b p : List ℕ) (n n' : ℕ) → v.rest ≡ rest b → HasLength v.rest n → IsUnbroken p ⊎ IsWhole p → IsWaiting (fed p v).exchange → HasLength (fed p v).rest n'
    → (run : Run) (q : List ℕ) (next : Outcome → Script) → after (settled_lines b) run ≡ waiting_run q v.exchange next → after (settled_lines (b ++ p)) run ≡ waiting_run q (fed p v).exchange next
still_waits v b p n n' here short broken waits short' run q next is = elim (part_heard v b p here broken) [
  | inl none ↦ nothing_run v b short.0 short'.0 p run q next (sym here ∙ short.1) (sym (rest_waits v b p here waits.0) ∙ short'.1) is none
  | inr one ↦ line_run v b short.0 p run q next (sym here ∙ short.1) is one ∙ ap₂ (goes_on q next (fed p v).exchange) waits.1 waits.0
]

-- The answer is complete.
pub comes : (v : LinkValue) (b p : List ℕ) (n : ℕ) → v.rest ≡ rest b → HasLength v.rest n → IsUnbroken p ⊎ IsWhole p → IsWaiting v.exchange → (outcome : Outcome) → outcome_of (fed p v).exchange ≡ Some outcome
    → (rest (b ++ p) ≡ Text []) × ((run : Run) (q : List ℕ) (next : Outcome → Script) → after (settled_lines b) run ≡ waiting_run q v.exchange next → after (settled_lines (b ++ p)) run ≡ begin q (next outcome))
unfolding NothingHeard
comes v b p n here short broken waits outcome some = elim (part_heard v b p here broken) [
  | inl none ↦ let never : None ≡ Some outcome = sym waits.1 ∙ sym (ap outcome_of none.0) ∙ some in absurd (cc)
  | inr one ↦ (one.ended, λ run q next is. line_run v b short.0 p run q next (sym here ∙ short.1) is one ∙ ap (λ o. goes_on q next (fed p v).exchange o (fed p v).exchange.fault) some)
]

moved_outcome : (e : Exchange) (r : Result Stage LinkFault) (fault : LinkFault) → (moved e r).fault ≡ Some fault → outcome_of (moved e r) ≡ outcome_of e
moved_outcome e (Ok stage) fault is = absurd (cc)
moved_outcome e (Err other) fault is = left_outcome e.stage

-- an exchange that fails at a line has no answer that it hadn't before
failed_outcome : (e : Exchange) (line : LineText) (fault : LinkFault) → e.fault ≡ None → (heard line e).fault ≡ Some fault → outcome_of (heard line e) ≡ outcome_of e
failed_outcome e line fault going is =
    let same : heard line e ≡ moved e (on_line e.stage line) = ap (λ o. if is_some o then e else moved e (on_line e.stage line)) going in
    ap outcome_of same ∙ moved_outcome e (on_line e.stage line) fault (sym (ap (λ x. x.fault) same) ∙ is)

-- The link failed.
pub fails : (v : LinkValue) (b p : List ℕ) (n : ℕ) → v.rest ≡ rest b → HasLength v.rest n → IsUnbroken p ⊎ IsWhole p → IsWaiting v.exchange → (fault : LinkFault) → (fed p v).exchange.fault ≡ Some fault
    → (run : Run) (q : List ℕ) (next : Outcome → Script) → after (settled_lines b) run ≡ waiting_run q v.exchange next
    → after (settled_lines (b ++ p)) run ≡ record { queries = q; standing = Failed (failure_of fault) }
unfolding NothingHeard
fails v b p n here short broken waits fault failed run q next is = elim (part_heard v b p here broken) [
  | inl none ↦ let never : None ≡ Some fault = sym waits.0 ∙ sym (ap (λ e. e.fault) none.0) ∙ failed in absurd (cc)
  | inr one ↦
      let over : (heard one.line v.exchange).fault ≡ Some fault = sym (ap (λ e. e.fault) one.heard_is) ∙ failed in
      let none : outcome_of (fed p v).exchange ≡ None = ap outcome_of one.heard_is ∙ failed_outcome v.exchange one.line fault waits.0 over ∙ waits.1 in
      line_run v b short.0 p run q next (sym here ∙ short.1) is one ∙ ap₂ (goes_on q next (fed p v).exchange) none failed
]

abbrev pub begun : Bool → List ℕ → Request → (Outcome → Script) → Run
begun b q request next = if b then record { queries = q ++ request_line request; standing = Waits (sent request) next } else record { queries = q; standing = Failed failures.BadQuery }

-- A script that begins asks at most one query more.
pub begin_more : (q : List ℕ) (script : Script) → (back : List ℕ) × ((begin q script).queries ≡ q ++ back)
begin_more q (Pauses next) = begin_more q next
begin_more q (Asks request next) = elim (cases_Bool (is_writable request)) [
  | inl fits ↦ (request_line request, ap (λ b. (begun b q request next).queries) fits)
  | inr unfit ↦ ([], ap (λ b. (begun b q request next).queries) unfit ∙ sym (append-nil q))
]
begin_more q script = ([], sym (append-nil q))

goes_on_more : (q : List ℕ) (next : Outcome → Script) (e : Exchange) (o : Option Outcome) (f : Option LinkFault) → (back : List ℕ) × ((goes_on q next e o f).queries ≡ q ++ back)
goes_on_more q next e (Some outcome) f = begin_more q (next outcome)
goes_on_more q next e None (Some fault) = ([], sym (append-nil q))
goes_on_more q next e None None = ([], sym (append-nil q))

nothing_grows : (v : LinkValue) (b t p : List ℕ) (line : LineText) (run : Run) (q : List ℕ) (next : Outcome → Script) → rest b ≡ Text t → rest (b ++ p) ≡ line → IsWaiting v.exchange
    → after (settled_lines b) run ≡ waiting_run q v.exchange next → NothingHeard v b p → (back : List ℕ) × ((after (settled_lines (b ++ p)) run).queries ≡ q ++ back)
unfolding NothingHeard
nothing_grows v b t p (Text u) run q next short ends waits is none = ([], ap (λ r. r.queries) (nothing_run v b t u p run q next short ends is none) ∙ sym (append-nil q))
nothing_grows v b t p TooLong run q next short ends waits is none = ([], ap (λ r. r.queries) (overlong_run v.exchange b t p run q next short none.1 ends waits is) ∙ sym (append-nil q))

-- However a part is heard, queries are only added.
pub grows : (v : LinkValue) (b p : List ℕ) (n : ℕ) → v.rest ≡ rest b → HasLength v.rest n → IsUnbroken p ⊎ IsWhole p → IsWaiting v.exchange → (run : Run) (q : List ℕ) (next : Outcome → Script) → after (settled_lines b) run ≡ waiting_run q v.exchange next
    → (back : List ℕ) × ((after (settled_lines (b ++ p)) run).queries ≡ q ++ back)
grows v b p n here short broken waits run q next is = elim (part_heard v b p here broken) [
  | inl none ↦ nothing_grows v b short.0 p (rest (b ++ p)) run q next (sym here ∙ short.1) refl waits is none
  | inr one ↦
      let more = goes_on_more q next (fed p v).exchange (outcome_of (fed p v).exchange) (fed p v).exchange.fault in
      (more.0, ap (λ r. r.queries) (line_run v b short.0 p run q next (sym here ∙ short.1) is one) ∙ more.1)
]
