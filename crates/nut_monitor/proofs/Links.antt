-- What lines do to a link: the answer to a query for a number has one to nine digits, and no line says that memory is lacking.
use Rattle.std.proofs.Common.{◌≡◌, ℕ, ◌++◌, Bool, true, false, nat_lt, List, [], ◌∷◌, length, drop, refl, sym, ap, subst, ◌∙◌, Option, Some, None, is_some, is_err, Result, Ok, Err, inl, inr}
use Rattle.std.specs.Prelude.{◌==◌, if◌then◌else◌}
use Rattle.std.specs.List.{list_all}
use Rattle.nut_words.specs.Lines.{LineText, Text, TooLong, lines_after}
use Rattle.nut_words.specs.Number.{is_natural}
use Rattle.nut_proto.specs.Answers.{answer_in}
use Rattle.nut_proto.specs.declared.answer.Answer.{Answer}
use Rattle.nut_proto.specs.declared.answer.Answer.TheVariants as answers
use Rattle.nut_proto.specs.declared.answer.AnswerFault.{AnswerFault}
use Rattle.nut_link.specs.Asking.{Asked}
use Rattle.nut_link.specs.Hearing.{Feeds, RunsOut}
use Rattle.nut_link.specs.Link.{LinkValue, answer_by, heard, left_of, lines_heard, moved, on_line, on_read, outcome_in, outcome_of, progress_of, stage_after, stage_without, taken_out, with_exchange}
use Rattle.nut_link.specs.Matching.{Progress, Listing, Complete, begins, first, has_more, is_heading, is_line, is_numbered, is_row, next, progress}
use Rattle.nut_link.specs.Exchange.{Exchange, Stage}
use Rattle.nut_link.specs.Exchange as stages
use Rattle.nut_link.specs.declared.expected.ExpectedAnswer.{ExpectedAnswer}
use Rattle.nut_link.specs.declared.expected.AnswerKind.{AnswerKind}
use Rattle.nut_link.specs.declared.expected.AnswerKind.TheVariants as kinds
use Rattle.nut_link.specs.declared.expected.More.TheVariants as mores
use Rattle.nut_link.specs.declared.fault.LinkFault.{LinkFault}
use Rattle.nut_link.specs.declared.fault.LinkFault.TheVariants.{NotMine, BadLine, OutOfOrder, Memory}
use Rattle.nut_link.specs.declared.outcome.Outcome.{Outcome}
use Rattle.nut_link.specs.declared.outcome.Outcome.TheVariants as outcomes
use Rattle.nut_proto.specs.declared.limits.TheConstants.{ROWS_MAX}
use Rattle.nut_monitor_spec.specs.declared.LastQuery.{LastQuery}
use Rattle.nut_monitor_spec.specs.declared.Query.{Query}
use Rattle.nut_monitor_spec.specs.declared.Query.TheVariants.{NumLogins}
use Rattle.nut_monitor.specs.inside.Hearing.{IsFed}
use Rattle.nut_monitor.specs.inside.Sound.{ExpectsCount, IsCount, IsCountAfter, IsSoundLink, IsSoundStage}
use Rattle.nut_monitor.proofs.Counts.{left_true, right_true}

-- ---- counts

abbrev Fine : Query → Stage → Type 0
Fine query stages.Idle = Unit {0}
Fine query (stages.Asked asked) = ExpectsCount query asked
Fine query (stages.Answered outcome) = IsCount query outcome

abbrev FineResult : Query → Result Stage LinkFault → Type 0
FineResult query (Ok stage) = Fine query stage
FineResult query (Err fault) = Unit {0}

said_count : (ws : List (List ℕ)) → list_all is_natural ws ≡ true → IsCount NumLogins (outcomes.Said ws)
said_count [] h = tt
said_count (d ∷ ws) h = left_true (is_natural d) (list_all is_natural ws) h

row_count : (q : Asked) (b : Bool) (ws : List (List ℕ)) → (b ≡ true → IsCount NumLogins (outcomes.Said ws))
    → FineResult NumLogins (stage_after q (if b then Ok (Complete (outcomes.Said ws)) else Err NotMine))
row_count q true ws h = h refl
row_count q false ws h = tt

first_count : (q : Asked) (heading : List (List ℕ)) (a : Answer) → FineResult NumLogins (stage_after q (first (kinds.Line mores.Number) heading a))
first_count q heading (answers.Row words) =
    let ws = drop (length heading) words in
    row_count q (is_line heading mores.Number words) ws (λ e. said_count ws (right_true (length ws == 1) (list_all is_natural ws) (right_true (begins heading words) (has_more mores.Number ws) e)))
first_count q heading _ = tt

fine_if : (q : Asked) (b : Bool) (r : Result Progress LinkFault) → FineResult NumLogins (stage_after q r) → FineResult NumLogins (stage_after q (if b then r else Err OutOfOrder))
fine_if q true r h = h
fine_if q false r h = tt

asked_count : (q : Asked) (a : Answer) → ExpectsCount NumLogins q → FineResult NumLogins (stage_after q (progress_of q a))
asked_count q a h =
    let heading = q.expected.heading in
    let same : progress q.expected q.rows a ≡ first (kinds.Line mores.Number) heading a =
    ap (λ rows. progress q.expected rows a) h.1 ∙ ap (λ kind. first kind heading a) h.0 in
    fine_if q (length q.waits == 0) (progress q.expected q.rows a) (subst (λ r. FineResult NumLogins (stage_after q r)) (sym same) (first_count q heading a))

-- A line that answers another query than that for the logins may say anything.
fine_result : (query : Query) (q : Asked) (r : Result Progress LinkFault) → (query ≡ NumLogins → FineResult query (stage_after q r)) → FineResult query (stage_after q r)
fine_result NumLogins q r count = count refl
fine_result _ q (Ok (Listing rows)) count = tt
fine_result _ q _ count = tt

fine_asked : (query : Query) (q : Asked) (a : Answer) → ExpectsCount query q → FineResult query (stage_after q (progress_of q a))
fine_asked query q a h =
    fine_result query q (progress_of q a) (λ is.
    let P : Query → Type 0 = λ k. ExpectsCount k q → FineResult k (stage_after q (progress_of q a)) in subst P (sym is) (asked_count q a) h)

fine_read : (query : Query) (s : Stage) (r : Result Answer AnswerFault) → Fine query s → FineResult query (on_read s r)
fine_read query (stages.Asked q) (Ok a) h = fine_asked query q a h
fine_read query _ (Ok a) h = tt
fine_read query _ (Err fault) h = tt

fine_line : (query : Query) (s : Stage) (l : LineText) → Fine query s → FineResult query (on_line s l)
fine_line query s TooLong h = tt
fine_line query s (Text text) h = fine_read query s (answer_in text) h

fine_left : (query : Query) (s : Stage) → Fine query s → Fine query (left_of s)
fine_left query (stages.Answered outcome) h = h
fine_left query _ h = tt

fine_moved : (query : Query) (e : Exchange) (r : Result Stage LinkFault) → Fine query e.stage → FineResult query r → Fine query (moved e r).stage
fine_moved query e (Ok s) h g = g
fine_moved query e (Err fault) h g = fine_left query e.stage h

fine_either : (query : Query) (b : Bool) (x y : Exchange) → Fine query x.stage → Fine query y.stage → Fine query (if b then x else y).stage
fine_either query true x y h g = h
fine_either query false x y h g = g

fine_heard : (query : Query) (l : LineText) (e : Exchange) → Fine query e.stage → Fine query (heard l e).stage
fine_heard query l e h = fine_either query (is_some e.fault) e (moved e (on_line e.stage l)) h (fine_moved query e (on_line e.stage l) h (fine_line query e.stage l h))

fine_lines : (query : Query) (ls : List LineText) (e : Exchange) → Fine query e.stage → Fine query (lines_heard ls e).stage
fine_lines query [] e h = h
fine_lines query (l ∷ ls) e h = fine_lines query ls (heard l e) (fine_heard query l e h)

fine_sound : (last : LastQuery) (s : Stage) → IsSoundStage (Some last) s → Fine last.query s
fine_sound last stages.Idle h = tt
fine_sound last (stages.Asked q) h = h
fine_sound last (stages.Answered outcome) h = absurd h

fine_fed : (last : LastQuery) (v : LinkValue) (p : List ℕ) (done : ℕ) (r : Result (Unit {0}) LinkFault) (w : LinkValue) → IsSoundLink (Some last) v → Feeds v p done r w → Fine last.query w.exchange.stage
fine_fed last v p done r w sound feeds = elim feeds.stands [
  | inl said ↦ subst (λ x. Fine last.query x.exchange.stage) (sym said.0) (fine_lines last.query (lines_after v.rest p) v.exchange (fine_sound last v.exchange.stage sound.stage))
  | inr out ↦ subst (λ x. Fine last.query x.stage) (sym out.0.stands.0)
      (fine_left last.query (lines_heard out.0.earlier v.exchange).stage (fine_lines last.query out.0.earlier v.exchange (fine_sound last v.exchange.stage sound.stage)))
]

count_in : (last : LastQuery) (s : Stage) → Fine last.query s → IsCountAfter (Some last) (outcome_in s)
count_in last (stages.Answered outcome) h = h
count_in last _ h = tt

pub fed_count : (last : Option LastQuery) (v : LinkValue) (p : List ℕ) (done : ℕ) (r : Result (Unit {0}) LinkFault) (w : LinkValue) → IsSoundLink last v → Feeds v p done r w → IsCountAfter last (outcome_of w.exchange)
fed_count None v p done r w sound feeds = tt
fed_count (Some last) v p done r w sound feeds = count_in last w.exchange.stage (fine_fed last v p done r w sound feeds)

sound_without : (last : LastQuery) (s : Stage) → Fine last.query s → IsSoundStage (Some last) (stage_without s)
sound_without last (stages.Asked q) h = h
sound_without last _ h = tt

sound_anew : (s : Stage) → IsSoundStage None (stage_without s)
sound_anew (stages.Answered outcome) = tt
sound_anew _ = tt

pub fed_sound : (last : Option LastQuery) (v : LinkValue) (p : List ℕ) (done : ℕ) (r : Result (Unit {0}) LinkFault) (w : LinkValue) → IsSoundLink last v → Feeds v p done r w → w.exchange.fault ≡ None
    → IsSoundLink last (with_exchange (taken_out w.exchange) w)
fed_sound None v p done r w sound feeds going = record { going = going; stage = sound_anew w.exchange.stage }
fed_sound (Some last) v p done r w sound feeds going = record { going = going; stage = sound_without last w.exchange.stage (fine_fed last v p done r w sound feeds) }

-- ---- no line says that memory is lacking

abbrev NotMemory : LinkFault → Type 0
NotMemory Memory = ⊥
NotMemory _ = Unit {0}

abbrev Fed : {A : Type 0} → Result A LinkFault → Type 0
Fed (Ok x) = Unit {0}
Fed (Err fault) = NotMemory fault

nm_if : {A : Type 0} (b : Bool) (r : Result A LinkFault) → Fed r → Fed (if b then r else Err NotMine)
nm_if true r h = h
nm_if false r h = tt

nm_row : (heading : List (List ℕ)) (count : ℕ) (rows : List (List (List ℕ))) (words : List (List ℕ)) (a b : Bool)
    → Fed (if a then (if b then Ok (Listing (rows ++ drop (length heading) words ∷ [])) else Err BadLine) else Err NotMine)
nm_row heading count rows words true true = tt
nm_row heading count rows words _ _ = tt

nm_any : (b : Bool) (p q : Outcome) → Fed (if b then Ok (Complete p) else Ok (Complete q))
nm_any true p q = tt
nm_any false p q = tt

nm_first : (kind : AnswerKind) (heading : List (List ℕ)) (a : Answer) → Fed (first kind heading a)
nm_first kind heading (answers.Err name) = tt
nm_first kinds.Success heading (answers.Ok words) = tt
nm_first kinds.NumberedSuccess heading (answers.Ok words) = nm_any (is_numbered words) (outcomes.Said (drop 1 words)) outcomes.Done
nm_first (kinds.Line more) heading (answers.Row words) = nm_if (is_line heading more words) (Ok (Complete (outcomes.Said (drop (length heading) words)))) tt
nm_first kinds.AnyLine heading (answers.Row words) = tt
nm_first (kinds.Listing count) heading (answers.Begin words) = nm_if (is_heading heading words) (Ok (Listing [])) tt
nm_first kind heading answer = tt

nm_next : (kind : AnswerKind) (heading : List (List ℕ)) (rows : List (List (List ℕ))) (a : Answer) → Fed (next kind heading rows a)
nm_next (kinds.Listing count) heading rows (answers.Row words) = nm_row heading count rows words (is_row heading count words) (nat_lt (length rows) ROWS_MAX)
nm_next (kinds.Listing count) heading rows (answers.End words) = nm_if (is_heading heading words) (Ok (Complete (outcomes.List rows))) tt
nm_next kind heading rows answer = tt

nm_progress : (e : ExpectedAnswer) (rows : Option (List (List (List ℕ)))) (a : Answer) → Fed (progress e rows a)
nm_progress e None a = nm_first e.kind e.heading a
nm_progress e (Some rows) a = nm_next e.kind e.heading rows a

nm_taken : (b : Bool) (r : Result Progress LinkFault) → Fed r → Fed (if b then r else Err OutOfOrder)
nm_taken true r h = h
nm_taken false r h = tt

nm_stage : (q : Asked) (r : Result Progress LinkFault) → Fed r → Fed (stage_after q r)
nm_stage q (Ok (Listing rows)) h = tt
nm_stage q (Ok (Complete outcome)) h = tt
nm_stage q (Err fault) h = h

nm_read : (s : Stage) (r : Result Answer AnswerFault) → Fed (on_read s r)
nm_read (stages.Asked q) (Ok a) = nm_stage q (progress_of q a) (nm_taken (length q.waits == 0) (progress q.expected q.rows a) (nm_progress q.expected q.rows a))
nm_read _ (Ok a) = tt
nm_read _ (Err fault) = tt

nm_line : (s : Stage) (l : LineText) → Fed (on_line s l)
nm_line s TooLong = tt
nm_line s (Text text) = nm_read s (answer_in text)

abbrev NotLacking : Option LinkFault → Type 0
NotLacking None = Unit {0}
NotLacking (Some fault) = NotMemory fault

nm_moved : (e : Exchange) (r : Result Stage LinkFault) → Fed r → NotLacking (moved e r).fault
nm_moved e (Ok s) h = tt
nm_moved e (Err fault) h = h

nm_either : (b : Bool) (x y : Exchange) → NotLacking x.fault → NotLacking y.fault → NotLacking (if b then x else y).fault
nm_either true x y h g = h
nm_either false x y h g = g

nm_lines : (ls : List LineText) (e : Exchange) → NotLacking e.fault → NotLacking (lines_heard ls e).fault
nm_lines [] e h = h
nm_lines (l ∷ ls) e h = nm_lines ls (heard l e) (nm_either (is_some e.fault) e (moved e (on_line e.stage l)) h (nm_moved e (on_line e.stage l) (nm_line e.stage l)))

-- a link that failed for lack of memory ran out of it at one of the lines
pub ran_out : (v : LinkValue) (p : List ℕ) (done : ℕ) (r : Result (Unit {0}) LinkFault) (w : LinkValue) → v.exchange.fault ≡ None → Feeds v p done r w → w.exchange.fault ≡ Some Memory
    → RunsOut (lines_after v.rest p) v.exchange done w.exchange
ran_out v p done r w going feeds lacks = elim feeds.stands [
  | inl said ↦ absurd (subst NotLacking lacks (subst (λ x. NotLacking x.exchange.fault) (sym said.0) (nm_lines (lines_after v.rest p) v.exchange (subst NotLacking (sym going) tt))))
  | inr out ↦ out.0
]

-- ---- answers of a link

pub err_fault : (r : Result (Unit {0}) LinkFault) (f : Option LinkFault) → r ≡ answer_by f → is_err r ≡ true → is_some f ≡ true
err_fault r None is err = sym (ap is_err is) ∙ err
err_fault r (Some fault) is err = refl

pub ok_fault : (r : Result (Unit {0}) LinkFault) (f : Option LinkFault) → r ≡ answer_by f → is_err r ≡ false → f ≡ None
ok_fault r None is ok = refl
ok_fault r (Some fault) is ok = absurd (let err : is_err r ≡ true = ap is_err is in cc)

pub fed_failed : (old : Option LinkValue) (v g : LinkValue) (p : List ℕ) (done : ℕ) (r : Result (Unit {0}) LinkFault) (w : LinkValue) (o : Option Outcome) (left : Option LinkValue)
    → old ≡ Some v → old ≡ Some g → Feeds g p done r w → is_err r ≡ true → o ≡ outcome_of w.exchange → left ≡ None → IsFed v p done r o left
fed_failed old v g p done r w o left is was feeds err answer none =
    let same : g ≡ v = cc in
    record {
      link = w;
      feeds = subst (λ x. Feeds x p done r w) same feeds;
      answer = answer;
      stands = none ∙ sym (ap (λ b. if b then None else Some (with_exchange (taken_out w.exchange) w)) (err_fault r w.exchange.fault feeds.answered err));
    }
