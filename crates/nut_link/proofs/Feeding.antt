-- How a link hears a piece by the lines that it completes.
use Rattle.std.proofs.Common.{◌≡◌, ℕ, ◌+◌, true, false, List, [], ◌∷◌, ◌++◌, length, Option, Some, None, is_some, Result, Ok, Err, if◌then◌else◌, refl, sym, ap, ap₂, subst, ◌∙◌, inl, inr, OnOk, IfErr, ◌⊎◌, add-one}
use Rattle.std.proofs.lemmas.Bool.{cases_Bool}
use Rattle.std.proofs.lemmas.List.{append_assoc}
use Rattle.nut_words.specs.Lines.{LineText, Text, rest, lines_after, rest_after}
use Rattle.nut_words.proofs.HearLemmas.{heard_all-append, lines_cut}
use Rattle.nut_words.proofs.StreamGrowth.{rest-append}
use Rattle.nut_words.specs.Hearing.{StopsAt}
use Rattle.nut_link.specs.Exchange.{Exchange}
use Rattle.nut_link.specs.declared.fault.LinkFault.{LinkFault}
use Rattle.nut_link.specs.declared.fault.LinkFault.TheVariants.{Memory}
use Rattle.nut_link.specs.Hearing.{Feeds, Hears, LacksMemory, RunsOut, count_heard}
use Rattle.nut_link.specs.Link.{answer_by, failed, fed, heard, lines_heard, link_with, moved, on_line}
use Rattle.nut_link.specs.laws.Laws.{CutsDoNotMatter, RestsStay}

-- An exchange that failed hears nothing.
heard_failed : (line : LineText) (e : Exchange) → is_some e.fault ≡ true → heard line e ≡ e
heard_failed line e over = ap (λ b. if b then e else moved e (on_line e.stage line)) over

pub lines_heard_failed : (ls : List LineText) (e : Exchange) → is_some e.fault ≡ true → lines_heard ls e ≡ e
lines_heard_failed [] e over = refl
lines_heard_failed (l ∷ ls) e over = ap (lines_heard ls) (heard_failed l e over) ∙ lines_heard_failed ls e over

pub rest_cut : (b x y : List ℕ) → rest_after (rest b) (x ++ y) ≡ rest_after (rest (b ++ x)) y
rest_cut b x y = sym (rest-append b (x ++ y)) ∙ ap rest (sym (append_assoc b x y)) ∙ rest-append (b ++ x) y

-- how a link is fed whose exchange hasn't failed
pub fed_going : (r : LineText) (e : Exchange) (p : List ℕ) → e.fault ≡ None → fed p (link_with r e) ≡ link_with (rest_after r p) (lines_heard (lines_after r p) e)
fed_going r e p going = rw going refl

-- Once a link failed, it doesn't matter what it had kept of an unfinished line.
pub link_failed : (r s : LineText) (e : Exchange) → is_some e.fault ≡ true → link_with r e ≡ link_with s e
link_failed r s e over = rw over refl

-- the whole piece was heard
pub all_heard : (r s : LineText) (e e' : Exchange) (p : List ℕ) → e.fault ≡ None → s ≡ rest_after r p → e' ≡ lines_heard (lines_after r p) e → link_with s e' ≡ fed p (link_with r e)
all_heard r s e e' p going there is = ap₂ link_with there is ∙ sym (fed_going r e p going)

-- the exchange failed at a line of the piece, with the fault that the line leads to
failed_heard : (r s : LineText) (e e' e'' : Exchange) (p : List ℕ) (earlier later : List LineText) (line : LineText) → e.fault ≡ None → is_some e''.fault ≡ true
    → lines_after r p ≡ earlier ++ line ∷ later → e' ≡ lines_heard earlier e → e'' ≡ heard line e' → link_with s e'' ≡ fed p (link_with r e)
failed_heard r s e e' e'' p earlier later line going over parted is said =
    let all : lines_heard (lines_after r p) e ≡ e'' =
    ap (λ ls. lines_heard ls e) parted
    ∙ heard_all-append heard earlier (line ∷ later) e
    ∙ ap (λ e. lines_heard later (heard line e)) (sym is)
    ∙ ap (lines_heard later) (sym said)
    ∙ lines_heard_failed later e'' over in
    link_failed s (rest_after r p) e'' over ∙ ap (link_with (rest_after r p)) (sym all) ∙ sym (fed_going r e p going)

none_at : (o : Option LinkFault) → Ok tt ≡ answer_by o → o ≡ None
none_at None is = refl
none_at (Some fault) is = absurd (cc)

some_at : (o : Option LinkFault) (fault : LinkFault) → Err fault ≡ answer_by o → is_some o ≡ true
some_at None fault is = absurd (cc)
some_at (Some other) fault is = refl

-- an exchange that hasn't failed at a line has heard it
pub heard_on : (e e' : Exchange) (line : LineText) (result : Result (Unit {0}) LinkFault) → result ≡ Ok tt → Hears e line result e' → (e' ≡ heard line e) × (e'.fault ≡ None)
heard_on e e' line result ok h =
    let going = none_at e'.fault (sym ok ∙ h.answered) in
    elim h.stands [
      | inl said ↦ (said, going)
      | inr lacks ↦ let some : None ≡ Some Memory = sym going ∙ ap (λ e. e.fault) lacks.0 in absurd (cc)
    ]

-- an exchange that returned a fault has failed
pub heard_over : (e e' : Exchange) (line : LineText) (result : Result (Unit {0}) LinkFault) (fault : LinkFault) → result ≡ Err fault → Hears e line result e' → is_some e'.fault ≡ true
heard_over e e' line result fault err h = some_at e'.fault fault (sym err ∙ h.answered)

-- An exchange that hasn't failed behind some lines hadn't failed before them.
going_before : (ls : List LineText) (e : Exchange) → (lines_heard ls e).fault ≡ None → e.fault ≡ None
going_before ls e going = elim (cases_Bool (is_some e.fault)) [
  | inl over ↦ ap (λ e. e.fault) (sym (lines_heard_failed ls e over)) ∙ going
  | inr on ↦ none_of e.fault on
] where
  none_of : (o : Option LinkFault) → is_some o ≡ false → o ≡ None
  none_of None is = refl
  none_of (Some fault) is = absurd (cc)

-- An exchange that failed hears no line.
count_over : (ls : List LineText) (e : Exchange) → is_some e.fault ≡ true → count_heard ls e ≡ 0
count_over [] e over = refl
count_over (l ∷ ls) e over = ap (λ b. if b then 0 else count_heard ls (heard l e) + 1) (ap (λ e. is_some e.fault) (heard_failed l e over) ∙ over)

-- Lines behind which it goes on are heard, one by one.
count_on : (l : LineText) (ls : List LineText) (e : Exchange) → (lines_heard ls (heard l e)).fault ≡ None → count_heard (l ∷ ls) e ≡ count_heard ls (heard l e) + 1
count_on l ls e going = ap (λ o. if is_some o then 0 else count_heard ls (heard l e) + 1) (going_before ls (heard l e) going)

count_all : (ls : List LineText) (e : Exchange) → (lines_heard ls e).fault ≡ None → count_heard ls e ≡ length ls
count_all [] e going = refl
count_all (l ∷ ls) e going = count_on l ls e going ∙ ap (λ n. n + 1) (count_all ls (heard l e) going) ∙ add-one (length ls)

-- It fails at a line behind others.
count_until : (earlier later : List LineText) (line : LineText) (e : Exchange) → (lines_heard earlier e).fault ≡ None → is_some (heard line (lines_heard earlier e)).fault ≡ true
    → count_heard (earlier ++ line ∷ later) e ≡ length earlier
count_until [] later line e going over = ap (λ b. if b then 0 else count_heard later (heard line e) + 1) over
count_until (l ∷ ls) later line e going over =
    ap (λ o. if is_some o then 0 else count_heard (ls ++ line ∷ later) (heard l e) + 1) (going_before ls (heard l e) going)
    ∙ ap (λ n. n + 1) (count_until ls later line (heard l e) going over)
    ∙ add-one (length ls)

-- A link that failed is as it was.
pub fed_over : (r : LineText) (e : Exchange) (p : List ℕ) (fault : LinkFault) → e.fault ≡ Some fault → Feeds (link_with r e) p 0 (Err fault) (link_with r e)
fed_over r e p fault failed =
    let over : is_some e.fault ≡ true = ap is_some failed in
    let same = lines_heard_failed (lines_after (link_with r e).rest p) e over in
    record {
      answered = sym (ap answer_by failed);
      stands = inl (
        link_failed r (rest_after (link_with r e).rest p) e over ∙ ap (link_with (rest_after (link_with r e).rest p)) (sym same),
        sym (count_over (lines_after (link_with r e).rest p) e over),
      );
    }

-- memory ran out at the line at which an exchange stopped
lacked : (ls : List LineText) (e e' : Exchange) (done : ℕ) (fault : LinkFault) (at : StopsAt heard (λ line before. (before.fault ≡ None) × Hears before line (Err fault) e') ls e done)
    → LacksMemory (lines_heard at.earlier e) at.line e' → RunsOut ls e done e'
lacked ls e e' done fault at lacks = record {
  earlier = at.earlier;
  line = at.line;
  later = at.later;
  parted = at.parted;
  count = sym at.count;
  going = at.stops.0;
  stands = lacks;
}

-- How an exchange hears the lines that a piece completes: all up to one at which it fails, unless memory runs out.
abbrev pub HearsLines : LineText → LineText → Exchange → Exchange → List ℕ → ℕ → Type 0
HearsLines r s e e' p done =
    ((link_with s e' ≡ fed p (link_with r e)) × (done ≡ count_heard (lines_after r p) e)) ⊎ RunsOut (lines_after r p) e done e'

-- the exchange failed at a line of the piece, or memory ran out there
pub stopped : (r s : LineText) (e e' : Exchange) (p : List ℕ) (done : ℕ) (fault : LinkFault) → e.fault ≡ None → StopsAt heard (λ line before. (before.fault ≡ None) × Hears before line (Err fault) e') (lines_after r p) e done
    → HearsLines r s e e' p done
stopped r s e e' p done fault going at = elim at.stops.1.stands [
  | inl said ↦
      let over = heard_over (lines_heard at.earlier e) e' at.line (Err fault) fault refl at.stops.1 in
      inl (
        failed_heard r s e (lines_heard at.earlier e) e' p at.earlier at.later at.line going over at.parted refl said,
        at.count
            ∙ sym (ap (λ ls. count_heard ls e) at.parted ∙ count_until at.earlier at.later at.line e at.stops.0 (ap (λ e. is_some e.fault) (sym said) ∙ over)),
      )
  | inr lacks ↦ inr (lacked (lines_after r p) e e' done fault at lacks)
]

-- what a piece does to an exchange that goes on
pub piece_heard : (r s : LineText) (e e' : Exchange) (p : List ℕ) (done : ℕ) (result : Result (Unit {0}) LinkFault) → e.fault ≡ None → OnOk result (s ≡ rest_after r p) → OnOk result (done ≡ length (lines_after r p))
    → OnOk result (e' ≡ lines_heard (lines_after r p) e) → OnOk result (e'.fault ≡ None)
    → IfErr result (λ fault. StopsAt heard (λ line before. (before.fault ≡ None) × Hears before line (Err fault) e') (lines_after r p) e done)
    → (result ≡ answer_by e'.fault) × HearsLines r s e e' p done
piece_heard r s e e' p done (Ok u) going rest_is count is goes_on at = (
  sym (ap answer_by goes_on),
  inl (all_heard r s e e' p going rest_is is, count ∙ sym (count_all (lines_after r p) e (ap (λ e. e.fault) (sym is) ∙ goes_on))),
)
piece_heard r s e e' p done (Err fault) going rest_is count is goes_on at = (at.stops.1.answered, stopped r s e e' p done fault going at)

-- What a piece does to a link follows from what it does to its exchange.
pub fed_link : (r s : LineText) (e e' : Exchange) (p : List ℕ) (done : ℕ) (result : Result (Unit {0}) LinkFault) → e.fault ≡ None → result ≡ answer_by e'.fault → HearsLines r s e e' p done
    → Feeds (link_with r e) p done result (link_with s e')
fed_link r s e e' p done result going answered stands = record {
  answered = answered;
  stands = elim stands [
    | inl said ↦ inl (said.0, subst (λ r. done ≡ count_heard (lines_after r p) e) (sym (rest_going r e going)) said.1)
    | inr out ↦ inr (
      subst (λ r. RunsOut (lines_after r p) e done e') (sym (rest_going r e going)) out,
      rest_over s e' (ap (λ e. is_some e.fault) out.stands.0),
    )
  ];
} where
  rest_going : (r : LineText) (e : Exchange) → e.fault ≡ None → (link_with r e).rest ≡ r
  rest_going r e going = ap (λ o. if is_some o then Text [] else r) going

  rest_over : (s : LineText) (e : Exchange) → is_some e.fault ≡ true → (link_with s e).rest ≡ Text []
  rest_over s e over = ap (λ b. if b then Text [] else s) over

-- a piece behind another one
fed_behind : (r : LineText) (e : Exchange) (p : List ℕ) → fed p (link_with r e) ≡ link_with (rest_after r p) (lines_heard (lines_after r p) e)
fed_behind r e p = elim (cases_Bool (is_some e.fault)) [
  | inl over ↦
      let same : (ls : List LineText) → lines_heard ls e ≡ e = λ ls. lines_heard_failed ls e over in
      ap (link_with (rest_after (link_with r e).rest p)) (same (lines_after (link_with r e).rest p))
      ∙ link_failed (rest_after (link_with r e).rest p) (rest_after r p) e over
      ∙ ap (link_with (rest_after r p)) (sym (same (lines_after r p)))
  | inr on ↦ ap (λ b. link_with (rest_after (if b then Text [] else r) p) (lines_heard (lines_after (if b then Text [] else r) p) e)) on
]

pub cuts_do_not_matter : CutsDoNotMatter
cuts_do_not_matter v x y is =
    let b = is.0 in
    let e = v.exchange in
    let between : rest_after v.rest x ≡ rest (b ++ x) = ap (λ r. rest_after r x) is.1 ∙ sym (rest-append b x) in
    let first = lines_heard (lines_after v.rest x) e in
    let rests : rest_after v.rest (x ++ y) ≡ rest_after (rest_after v.rest x) y =
    ap (λ r. rest_after r (x ++ y)) is.1 ∙ rest_cut b x y ∙ ap (λ r. rest_after r y) (sym between) in
    let heard : lines_heard (lines_after v.rest (x ++ y)) e ≡ lines_heard (lines_after (rest_after v.rest x) y) first =
    ap (λ r. lines_heard (lines_after r (x ++ y)) e) is.1
    ∙ ap (λ ls. lines_heard ls e) (lines_cut b x y)
    ∙ heard_all-append heard (lines_after (rest b) x) (lines_after (rest (b ++ x)) y) e
    ∙ ap₂ (λ r s. lines_heard (lines_after r y) (lines_heard (lines_after s x) e)) (sym between) (sym is.1) in
    ap₂ link_with rests heard ∙ sym (fed_behind (rest_after v.rest x) first y)

pub rests_stay : RestsStay
rests_stay v x is = elim (cases_Bool (is_some (lines_heard (lines_after v.rest x) v.exchange).fault)) [
  | inl over ↦ ([], ap (λ b. if b then Text [] else rest_after v.rest x) over)
  | inr on ↦ (is.0 ++ x, ap (λ b. if b then Text [] else rest_after v.rest x) on ∙ ap (λ r. rest_after r x) is.1 ∙ sym (rest-append is.0 x))
]
