-- A link never keeps more than it may.
use Rattle.std.proofs.Common.{◌≡◌, ℕ, ◌≤◌, Bool, true, false, nat_le, nat_lt, List, [], ◌∷◌, ◌++◌, length, drop, Option, Some, None, is_some, Result, Ok, Err, if◌then◌else◌, refl, sym, subst, inl, inr, arith, length-append, length-drop, leb-true, ltb-true}
use Rattle.std.specs.List.{list_all}
use Rattle.std.specs.Prelude.{◌==◌}
use Rattle.std.proofs.lemmas.Bool.{and_parts, cond_both}
use Rattle.nut_words.specs.Cutter.{kept_of}
use Rattle.nut_words.specs.Spelling.{is_printing}
use Rattle.nut_words.specs.Lines.{LineText, Text, TooLong, as_line, joined, last_of, lines_after, parts, rest, rest_after, unfinished}
use Rattle.nut_words.specs.declared.limits.TheConstants.{LINE_MAX}
use Rattle.nut_proto.specs.declared.answer.Answer.{Answer}
use Rattle.nut_proto.specs.declared.answer.Answer.TheVariants as answers
use Rattle.nut_proto.specs.declared.answer.AnswerFault.{AnswerFault}
use Rattle.nut_proto.specs.declared.request.Request.{Request}
use Rattle.nut_proto.specs.Answers.{answer_in}
use Rattle.nut_proto.specs.Requests.{request_parts}
use Rattle.nut_proto.specs.Lines.{message}
use Rattle.nut_link.specs.Exchange.{Exchange, Stage}
use Rattle.nut_link.specs.Exchange as stages
use Rattle.nut_link.specs.declared.expected.AnswerKind.{AnswerKind}
use Rattle.nut_link.specs.declared.expected.AnswerKind.TheVariants as kinds
use Rattle.nut_link.specs.declared.fault.LinkFault.{LinkFault}
use Rattle.nut_link.specs.declared.fault.LinkFault.TheVariants.{OutOfOrder, BadQuery}
use Rattle.nut_link.specs.Asking.{Asked, is_writable, query_of}
use Rattle.nut_link.specs.Bounds.{IsBounded, IsStageBounded, rows_in, rows_of}
use Rattle.nut_link.specs.Hearing.{Feeds}
use Rattle.nut_link.specs.laws.Laws.{BoundsStay}
use Rattle.nut_link.specs.Link.{LinkValue, asked, fed, heard, is_idle, left_of, lines_heard, link_with, moved, on_answer, on_line, on_read, or_else, progress_of, stage_after, stage_taken, stage_without, take_fault, taken, taken_out}
use Rattle.nut_link.specs.Matching.{Progress, Listing, Complete, first, is_heading, is_line, is_numbered, is_row, next, progress}
use Rattle.nut_words.specs.Hearing.{IsRest}
use Rattle.nut_link.proofs.Feeding.{HearsLines}
use Rattle.nut_link.proofs.Writable.{length_line}
use Rattle.nut_proto.specs.declared.limits.TheConstants.{ROWS_MAX}
use Rattle.nut_link.specs.declared.limits.TheConstants.{QUERY_MAX}

none : 0 ≤ ROWS_MAX
none = omega arith

-- What comes of a query has at most ROWS_MAX rows.
abbrev HasFew : Result Progress LinkFault → Type 0
HasFew (Ok (Listing rows)) = length rows ≤ ROWS_MAX
HasFew (Ok (Complete outcome)) = rows_of outcome ≤ ROWS_MAX
HasFew (Err fault) = Unit {0}

few_if : (b : Bool) (p q : Result Progress LinkFault) → (b ≡ true → HasFew p) → HasFew q → HasFew (if b then p else q)
few_if true p q x y = x refl
few_if false p q x y = y

few_first : (kind : AnswerKind) (heading : List (List ℕ)) (answer : Answer) → HasFew (first kind heading answer)
few_first kind heading (answers.Err name) = none
few_first kinds.Success heading (answers.Ok words) = none
few_first kinds.NumberedSuccess heading (answers.Ok words) = few_if (is_numbered words) _ _ (λ is. none) none
few_first (kinds.Line more) heading (answers.Row words) = few_if (is_line heading more words) _ _ (λ is. none) tt
few_first kinds.AnyLine heading (answers.Row words) = none
few_first (kinds.Listing count) heading (answers.Begin words) = few_if (is_heading heading words) _ _ (λ is. none) tt
few_first kind heading answer = tt

few_next : (kind : AnswerKind) (heading : List (List ℕ)) (rows : List (List (List ℕ))) (answer : Answer) → length rows ≤ ROWS_MAX → HasFew (next kind heading rows answer)
few_next (kinds.Listing count) heading rows (answers.Row words) few =
    few_if (is_row heading count words) _ _ (λ is. few_if (nat_lt (length rows) ROWS_MAX) _ _
    (λ less. omega (arith, ltb-true (length rows) ROWS_MAX less, length-append rows (drop (length heading) words ∷ []))) tt) tt
few_next (kinds.Listing count) heading rows (answers.End words) few = few_if (is_heading heading words) _ _ (λ is. few) tt
few_next kind heading rows answer few = tt

few_progress : (query : Asked) (answer : Answer) → rows_in (stages.Asked query) ≤ ROWS_MAX → HasFew (progress_of query answer)
few_progress query answer few = few_if (length query.waits == 0) _ _ (λ is. go query.rows few) tt where
  go : (rows : Option (List (List (List ℕ)))) → rows_in (stages.Asked (record query { rows = rows })) ≤ ROWS_MAX → HasFew (progress query.expected rows answer)
  go None few = few_first query.expected.kind query.expected.heading answer
  go (Some rows) few = few_next query.expected.kind query.expected.heading rows answer few

-- a stage that follows is bounded
abbrev IsWithin : Result Stage LinkFault → Type 0
IsWithin (Ok stage) = IsStageBounded stage
IsWithin (Err fault) = Unit {0}

after : (query : Asked) (p : Result Progress LinkFault) → length query.waits ≤ QUERY_MAX → HasFew p → IsWithin (stage_after query p)
after query (Ok (Listing rows)) waits few = record { query = waits; rows = few }
after query (Ok (Complete outcome)) waits few = record { query = omega arith; rows = few }
after query (Err fault) waits few = tt

on_answer_within : (stage : Stage) (answer : Answer) → IsStageBounded stage → IsWithin (on_answer stage answer)
on_answer_within (stages.Asked query) answer h = after query (progress_of query answer) h.query (few_progress query answer h.rows)
on_answer_within _ answer h = tt

on_read_within : (stage : Stage) (read : Result Answer AnswerFault) → IsStageBounded stage → IsWithin (on_read stage read)
on_read_within stage (Ok answer) h = on_answer_within stage answer h
on_read_within stage (Err fault) h = tt

on_line_within : (stage : Stage) (line : LineText) → IsStageBounded stage → IsWithin (on_line stage line)
on_line_within stage (Text text) h = on_read_within stage (answer_in text) h
on_line_within stage TooLong h = tt

left_within : (stage : Stage) → IsStageBounded stage → IsStageBounded (left_of stage)
left_within (stages.Asked query) h = record { query = omega arith; rows = none }
left_within _ h = h

moved_within : (e : Exchange) (to : Result Stage LinkFault) → IsStageBounded e.stage → IsWithin to → IsStageBounded (moved e to).stage
moved_within e (Ok stage) h within = within
moved_within e (Err fault) h within = left_within e.stage h

heard_within : (line : LineText) (e : Exchange) → IsStageBounded e.stage → IsStageBounded (heard line e).stage
heard_within line e h =
    cond_both (is_some e.fault) e (moved e (on_line e.stage line)) (λ to. IsStageBounded to.stage) (λ _. h) (λ _. moved_within e (on_line e.stage line) h (on_line_within e.stage line h))

lines_within : (ls : List LineText) (e : Exchange) → IsStageBounded e.stage → IsStageBounded (lines_heard ls e).stage
lines_within [] e h = h
lines_within (line ∷ ls) e h = lines_within ls (heard line e) (heard_within line e h)

nothing : 0 ≤ LINE_MAX
nothing = omega arith

kept_as_line : (text : List ℕ) → kept_of (as_line text) ≤ LINE_MAX
kept_as_line text =
    cond_both (nat_le (length text) LINE_MAX) (Text text) TooLong (λ line. kept_of line ≤ LINE_MAX) (leb-true (length text) LINE_MAX) (λ _. nothing)

kept_joined : (old : LineText) (more : List ℕ) → kept_of (joined old more) ≤ LINE_MAX
kept_joined (Text text) more = kept_as_line (text ++ more)
kept_joined TooLong more = nothing

kept_unfinished : (old : LineText) (ps : List (List ℕ)) → kept_of old ≤ LINE_MAX → kept_of (unfinished old ps) ≤ LINE_MAX
kept_unfinished old [] h = h
kept_unfinished old (t ∷ []) h = kept_joined old t
kept_unfinished old (t ∷ u ∷ ts) h = kept_as_line (last_of (u ∷ ts))

kept_masked : (b : Bool) (line : LineText) → kept_of line ≤ LINE_MAX → kept_of (if b then Text [] else line) ≤ LINE_MAX
kept_masked true line h = nothing
kept_masked false line h = h

-- A piece keeps a link within its bounds, also if memory runs out in it.
pub fed_within : (v w : LinkValue) (p : List ℕ) (done : ℕ) (result : Result (Unit {0}) LinkFault) → Feeds v p done result w → IsBounded v → IsBounded w
fed_within v w p done result feeds h = elim feeds.stands [
  | inl said ↦ subst IsBounded (sym said.0) (record {
    stage = lines_within (lines_after v.rest p) v.exchange h.stage;
    line = kept_masked (is_some (fed p v).exchange.fault) (rest_after v.rest p) (kept_unfinished v.rest (parts p) h.line);
  })
  | inr out ↦ record {
    stage = subst (λ e. IsStageBounded e.stage) (sym out.0.stands.0) (left_within (lines_heard out.0.earlier v.exchange).stage (lines_within out.0.earlier v.exchange h.stage));
    line = subst (λ line. kept_of line ≤ LINE_MAX) (sym out.1) nothing;
  }
]

kept_rest : (bytes : List ℕ) → kept_of (rest bytes) ≤ LINE_MAX
kept_rest bytes = kept_as_line (last_of (parts bytes))

-- A link is within its bounds if its exchange is and it keeps an unfinished line.
pub link_within : (cutter : LineText) (e : Exchange) → IsRest cutter → IsStageBounded e.stage → IsBounded (link_with cutter e)
link_within cutter e is h = record {
  stage = h;
  line = kept_masked (is_some e.fault) cutter (subst (λ line. kept_of line ≤ LINE_MAX) (sym is.1) (kept_rest is.0));
}

-- A piece keeps an exchange within its bounds, also if memory runs out in it.
pub heard_stage_within : (start cutter : LineText) (before after : Exchange) (p : List ℕ) (done : ℕ) → HearsLines start cutter before after p done
    → IsStageBounded before.stage → IsStageBounded after.stage
heard_stage_within start cutter before after p done stands h = elim stands [
  | inl said ↦ subst (λ (v : LinkValue). IsStageBounded v.exchange.stage) (sym said.0) (lines_within (lines_after (link_with start before).rest p) before h)
  | inr out ↦ subst (λ (e : Exchange). IsStageBounded e.stage) (sym out.stands.0) (left_within (lines_heard out.earlier before).stage (lines_within out.earlier before h))
]

asked_within : (request : Request) (e : Exchange) → IsStageBounded e.stage → IsStageBounded (asked request e).stage
asked_within request e h = go e.fault (is_idle e.stage) (is_writable request) refl where
  go : (o : Option LinkFault) (idle writable : Bool) → is_writable request ≡ writable
      → IsStageBounded (if is_some (or_else o (if idle then (if writable then None else Some BadQuery) else Some OutOfOrder)) then e.stage else stages.Asked (query_of request))
  go None true true is =
      let text = message (request_parts request) in
      record { query = omega (arith, length_line request, leb-true (length text) LINE_MAX (and_parts (nat_le (length text) LINE_MAX) (list_all is_printing text) is).0); rows = none }
  go _ _ _ is = h

taken_within : (n : ℕ) (e : Exchange) → IsStageBounded e.stage → IsStageBounded (taken n e).stage
taken_within n e h = cond_both (is_some (take_fault n e)) e.stage (stage_taken n e.stage) IsStageBounded (λ _. h) (λ _. drops e.stage h) where
  drops : (stage : Stage) → IsStageBounded stage → IsStageBounded (stage_taken n stage)
  drops (stages.Asked query) h = record { query = omega (arith, length-drop n query.waits, h.query); rows = h.rows }
  drops _ h = h

taken_out_within : (e : Exchange) → IsStageBounded e.stage → IsStageBounded (taken_out e).stage
taken_out_within e h = go e.stage h where
  go : (stage : Stage) → IsStageBounded stage → IsStageBounded (stage_without stage)
  go (stages.Answered outcome) h = record { query = omega arith; rows = none }
  go _ h = h

pub bounds_stay : BoundsStay
bounds_stay = record {
  begun = record { stage = record { query = omega arith; rows = none }; line = nothing };
  asks = asked_within;
  takes = taken_within;
  takes_out = taken_out_within;
}
