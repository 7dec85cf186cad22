-- Which lines match.
use Rattle.std.proofs.Common.{◌≡◌, ℕ, ◌<◌, ◌^◌, Bool, true, false, List, [], ◌∷◌, length, map, bytes_eq, decimal, refl, sym, ap, ◌∙◌, inl, inr, None, Ok, Result}
use Rattle.std.proofs.lemmas.Bool.{false≢true, eq-eqb, lt-ltb, or_left, or_right}
use Rattle.std.proofs.lemmas.List.Elements.{All-cons, All-nil}
use Rattle.std.proofs.lemmas.List.Folds.{list_any-append}
use Rattle.std.proofs.lemmas.Slice.Eq.{bytes_eq-Decides}
use Rattle.std.specs.List.{All, list_any}
use Rattle.nut_words.specs.Lines.{lines_after}
use Rattle.nut_words.specs.Reader.{read}
use Rattle.nut_proto.specs.Answers.{answer_of}
use Rattle.nut_proto.proofs.Numbers.{decimal_natural, number_back}
use Rattle.nut_proto.specs.declared.limits.TheConstants.{ROWS_MAX}
use Rattle.nut_proto.specs.declared.reply.VariableKind.{VariableKind}
use Rattle.nut_proto.specs.declared.tracking.TrackingStatus.{TrackingStatus}
use Rattle.nut_link.specs.Hearing.{Feeds, may_take_memory}
use Rattle.nut_link.specs.laws.Laws.{Answers, Case, OkTakesNoMemory, RepliesMatch, gets}
use Rattle.nut_link.specs.Link.{LinkValue, fed}
use Rattle.nut_link.specs.Matching.{Complete, Progress, begins, expected, is_heading, progress}
use Rattle.nut_proto.specs.Lines.{message_words}
use Rattle.nut_proto.specs.laws.ReadBack.{answer_to}
use Rattle.nut_proto.specs.Requests.{query_parts}
use Rattle.nut_link.specs.declared.outcome.Outcome.TheVariants as outcomes
use Rattle.nut_link.specs.declared.fault.LinkFault.{LinkFault}

bytes_same : (x : List ℕ) → bytes_eq x x ≡ true
bytes_same x = (bytes_eq-Decides x x).1 refl

-- if no line may allocate, memory doesn't run out
pub without_memory : (v w : LinkValue) (p : List ℕ) (done : ℕ) (result : Result (Unit {0}) LinkFault) → Feeds v p done result w → list_any may_take_memory (lines_after v.rest p) ≡ false → w ≡ fed p v
without_memory v w p done result feeds none = elim feeds.stands [
  | inl said ↦ said.0
  | inr out ↦
      let here : list_any may_take_memory (out.0.line ∷ out.0.later) ≡ true = or_left (may_take_memory out.0.line) (list_any may_take_memory out.0.later) out.0.stands.1 in
      let some : list_any may_take_memory (lines_after v.rest p) ≡ true =
      ap (list_any may_take_memory) out.0.parted
      ∙ list_any-append may_take_memory out.0.earlier (out.0.line ∷ out.0.later)
      ∙ or_right (list_any may_take_memory out.0.earlier) (list_any may_take_memory (out.0.line ∷ out.0.later)) here in
      absurd (false≢true (sym none ∙ some))
]

pub ok_takes_no_memory : OkTakesNoMemory
unfolding answer_of read
ok_takes_no_memory = refl

begins_itself : (heading : List (List ℕ)) → begins heading heading ≡ true
begins_itself [] = refl
begins_itself (word ∷ words) = rw (bytes_same word, begins_itself words) refl

heading_itself : (heading : List (List ℕ)) → is_heading heading heading ≡ true
heading_itself heading = rw (eq-eqb (length heading) (length heading) refl, begins_itself heading) refl

each_same : {X Y : Type 0} (f g : X → Y) (xs : List X) → map f xs ≡ map g xs → All (λ x. f x ≡ g x) xs
each_same f g [] same = All-nil (λ x. f x ≡ g x)
each_same f g (x ∷ xs) same = All-cons (λ x. f x ≡ g x) x xs (cc) (each_same f g xs (cc))

-- what a link makes of the reply in a case, and what it has to make of it
abbrev made : Case → Result Progress LinkFault
made case = progress (expected case.0) None (answer_to case.1)

abbrev told : Case → Result Progress LinkFault
told case = Ok (Complete (outcomes.Said case.2))

each_get : (ups name text : List ℕ) (count number : ℕ) (flag : Bool) (kind : VariableKind) (status : TrackingStatus) → count < 10 ^ 9 →
    All (λ case. Answers case.0 case.1 (outcomes.Said case.2)) (gets ups name text count number flag kind status)
each_get ups name text count number true kind status small =
    each_same made told (gets ups name text count number true kind status)
    (rw (bytes_same ups, bytes_same name, bytes_same (decimal number), decimal_natural count small) refl)
each_get ups name text count number false kind status small =
    each_same made told (gets ups name text count number false kind status)
    (rw (bytes_same ups, bytes_same name, bytes_same (decimal number), decimal_natural count small) refl)

pub replies_match : RepliesMatch
replies_match = record {
  refused = λ request refusal. refl;
  of_get = each_get;
  set = λ ups variable text. refl;
  set_as = λ ups variable text number is. rw (number_back number is) refl;
  instructed = λ ups name parameter. refl;
  instructed_as = λ ups name parameter number is. rw (number_back number is) refl;
  switched = λ on. refl;
  user = λ name. refl;
  password = λ text. refl;
  login = λ ups. refl;
  primary = λ ups. refl;
  shutdown = λ ups. refl;
  logout = refl;
  version = refl;
  network_version = refl;
  commands = refl;
  begins = λ query. rw (heading_itself (message_words (query_parts query))) refl;
  of_ups = λ ups text rows few. rw (lt-ltb (length rows) ROWS_MAX few) refl;
  of_var = λ ups variable text rows few. rw (bytes_same ups, lt-ltb (length rows) ROWS_MAX few) refl;
  of_rw = λ ups variable text rows few. rw (bytes_same ups, lt-ltb (length rows) ROWS_MAX few) refl;
  of_cmd = λ ups name rows few. rw (bytes_same ups, lt-ltb (length rows) ROWS_MAX few) refl;
  of_enum = λ ups variable text rows few. rw (bytes_same ups, bytes_same variable, lt-ltb (length rows) ROWS_MAX few) refl;
  of_range = λ ups variable minimum maximum rows few. rw (bytes_same ups, bytes_same variable, lt-ltb (length rows) ROWS_MAX few) refl;
  of_client = λ ups address rows few. rw (bytes_same ups, lt-ltb (length rows) ROWS_MAX few) refl;
  ends = λ query rows. rw (heading_itself (message_words (query_parts query))) refl;
}
