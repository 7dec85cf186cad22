-- How the parts of a tool's work follow one another.
use Rattle.std.proofs.Common.{◌≡◌, ℕ, true, false, ◌+◌, ◌<◌, ◌∷◌, List, [], length, drop, get_or, Option, Result, Ok, Err, IsErrAnd, refl, sym, ap, subst, ◌∙◌, inl, inr}
use Rattle.std.specs.Io.KnownBytes.{prepend_known}
use Rattle.std.proofs.lemmas.List.{append-nil, drop_more}
use Rattle.nut_link.specs.declared.outcome.Outcome.{Outcome}
use Rattle.nut_client.specs.declared.failure.ToolFailure.{ToolFailure}
use Rattle.nut_client.specs.declared.failure.ToolFailure.TheVariants as failures
use Rattle.nut_client.specs.Forcing.{without_text}
use Rattle.nut_client.specs.Script.{Script, Prints, Pauses}
use Rattle.nut_client.specs.Tool.{Ends, begin, breaks_off, ending}
use Rattle.nut_client.specs.inside.Between.{FailsBy, Gives, Goes, IsAt, IsMade, Point}
use Rattle.nut_client.proofs.Runs.{append_none, begin_more, prepend_none}

-- what is left of a list from one of its elements on
pub drop_at : {A : Type 0} (xs : List A) (i : ℕ) (x : A) → i < length xs → x ≡ get_or xs i x → drop i xs ≡ x ∷ drop (i + 1) xs
drop_at xs i x within is = drop_more xs i x within ∙ ap (λ y. y ∷ drop (i + 1) xs) (sym is)

-- nothing was asked yet
starts : (script : Script) (p : Point) → p.unread ≡ [] → IsAt script script p.remaining p.taken p
starts script p none = record {
  heard = [];
  written = [];
  ended = refl;
  runs = refl;
  read = sym (prepend_none p.remaining) ∙ ap (λ u. prepend_known u p.remaining) (sym none);
  in_time = inl none;
  wrote = sym (append_none p.taken);
}

-- The text is complete.
prints : (script : Script) (text : List ℕ) (input before : Option (List ℕ)) (p : Point) → IsAt script (Prints text) input before p → Ends script (Ok text) input p.remaining before p.taken
prints script text input before p at = record {
  heard = at.heard;
  unheard = p.unread;
  written = at.written;
  read = at.read;
  in_time = at.in_time;
  wrote = at.wrote;
  ended = inr (ap (λ r. ending r.standing) (sym at.runs));
  queries = ap (λ r. r.queries) at.runs;
  lost = tt;
}

keeps_link : (left : Script) (failure : ToolFailure) → FailsBy left failure → failure ≡ failures.ConnectionLost → ⊥
keeps_link left failure fails is = elim fails [
  | inl lacks ↦ let never : failures.Memory ≡ failures.ConnectionLost = sym lacks ∙ is in absurd (cc)
  | inr over ↦ let never : true ≡ false = ap breaks_off (sym is) ∙ over.1 in absurd (cc)
]

-- The script fails, or memory could not be allocated.
fails_so : (script left : Script) (failure : ToolFailure) (input before : Option (List ℕ)) (p : Point) → FailsBy left failure → IsAt script left input before p
    → Ends script (Err failure) input p.remaining before p.taken
fails_so script left failure input before p fails at = record {
  heard = at.heard;
  unheard = p.unread;
  written = at.written;
  read = at.read;
  in_time = at.in_time;
  wrote = at.wrote;
  ended = elim fails [
    | inl lacks ↦ inl (ap Err lacks)
    | inr over ↦ inr (ap (λ s. ending (begin at.written s).standing) (sym over.0) ∙ ap (λ r. ending r.standing) (sym at.runs))
  ];
  queries = elim fails [
    | inl lacks ↦
        let more = begin_more at.written left in
        (more.0, ap (λ r. r.queries) at.runs ∙ more.1, λ whole. let never : true ≡ false = ap breaks_off (sym lacks) ∙ whole in absurd (cc))
    | inr over ↦ ([], ap (λ r. r.queries) at.runs ∙ ap (λ s. (begin at.written s).queries) over.0 ∙ sym (append-nil at.written), λ whole. refl)
  ];
  lost = λ is. absurd (keeps_link left failure fails is);
}

-- Nothing is asked.
pub stays : {A : Type 0} {left : Script} {next : A → Script} {value : A} {p : Point} → left ≡ next value → Goes left next (Ok value) p p
stays {A} {left} {next} {value} {p} is = record { leads = λ script input before at. subst (λ l. IsAt script l input before p) is at; lost = tt }

-- One part follows another.
pub follows : {A B : Type 0} {left : Script} {mid : A → Script} {next : B → Script} {value : A} {result : Result B ToolFailure} {p p' p'' : Point}
    → Goes left mid (Ok value) p p' → Goes (mid value) next result p' p'' → Goes left next result p p''
follows first more = record { leads = λ script input before at. more.leads script input before (first.leads script input before at); lost = more.lost }

-- What comes next may be told otherwise.
pub turns : {A B : Type 0} {left : Script} {mid : A → Script} {next : B → Script} {value : A} {other : B} {p p' : Point}
    → Goes left mid (Ok value) p p' → mid value ≡ next other → Goes left next (Ok other) p p'
turns first is = follows first (stays is)

-- A part ends the tool.
pub ends : {A B : Type 0} {left : Script} {mid : A → Script} {next : B → Script} {failure : ToolFailure} {p p' : Point} → Goes left mid (Err failure) p p' → Goes left next (Err failure) p p'
ends first = record { leads = first.leads; lost = first.lost }

-- The tool ends behind a part.
pub fails : {A B : Type 0} {left : Script} {mid : A → Script} {next : B → Script} {value : A} {failure : ToolFailure} {p p' : Point}
    → Goes left mid (Ok value) p p' → FailsBy (mid value) failure → Goes left next (Err failure) p p'
fails {A} {B} {left} {mid} {next} {value} {failure} {p} {p'} first why = record {
  leads = λ script input before at. fails_so script (mid value) failure input before p' why (first.leads script input before at);
  lost = λ is. absurd (keeps_link (mid value) failure why is);
}

-- The exits of a `?`: a part ends the tool, or the tool ends behind a part.
pub ends_at : {A B : Type 0} {left : Script} {mid : A → Script} {next : B → Script} {failure : ToolFailure} {p p' : Point} (r : Result B ToolFailure)
    → IsErrAnd r (λ y. y ≡ failure) → Goes left mid (Err failure) p p' → Goes left next r p p'
ends_at (Ok value) is first = absurd is
ends_at {left = left} {next = next} {p = p} {p' = p'} (Err y) is first = subst (λ f. Goes left next (Err f) p p') (sym is) (ends first)

pub fails_at : {A B : Type 0} {left : Script} {mid : A → Script} {next : B → Script} {value : A} {failure : ToolFailure} {p p' : Point} (r : Result B ToolFailure)
    → IsErrAnd r (λ y. y ≡ failure) → Goes left mid (Ok value) p p' → FailsBy (mid value) failure → Goes left next r p p'
fails_at (Ok value) is first why = absurd is
fails_at {left = left} {next = next} {p = p} {p' = p'} (Err y) is first why = subst (λ f. Goes left next (Err f) p p') (sym is) (fails first why)

-- What is left may be told otherwise.
pub asked_as : {A : Type 0} {left left' : Script} {next : A → Script} {result : Result A ToolFailure} {p p' : Point} → left ≡ left' → Goes left' next result p p' → Goes left next result p p'
asked_as {A} {left} {left'} {next} {result} {p} {p'} is goes = subst (λ s. Goes s next result p p') (sym is) goes

-- A pause changes nothing but the time.
pub pauses : {A B : Type 0} {left then_left : Script} {mid : A → Script} {next : B → Script} {value : A} {other : B} {p p' : Point}
    → Goes left mid (Ok value) p p' → mid value ≡ Pauses then_left → then_left ≡ next other → Goes left next (Ok other) p p'
pauses {A} {B} {left} {then_left} {mid} {next} {value} {other} {p} {p'} first is same =
    let paused : Goes left (λ (o : B). then_left) (Ok other) p p' = record {
      leads = λ script input before at.
          let a = subst (λ s. IsAt script s input before p') is (first.leads script input before at) in
          record { heard = a.heard; written = a.written; ended = a.ended; runs = a.runs; read = a.read; in_time = a.in_time; wrote = a.wrote };
      lost = tt;
    } in
    turns paused same

-- What an outcome gives.
pub gives : {A : Type 0} {left : Script} {outcome : Outcome} {p p' : Point} (on : (A → Script) → Outcome → Script) (next : A → Script) (result : Result A ToolFailure) → Goes left (on next) (Ok outcome) p p' → Gives on outcome result → Goes left next result p p'
gives on next (Ok value) first is = turns first (is next)
gives on next (Err failure) first why = fails first (inr (why.1 next, why.0))

-- A text is made of what came.
pub makes : {A : Type 0} {left : Script} {mid : A → Script} {value : A} {text : List ℕ} {p p' : Point} (result : Result (List ℕ) ToolFailure)
    → Goes left mid (Ok value) p p' → mid value ≡ Prints text → IsMade text result → Goes left Prints result p p'
makes (Ok made) first is same = turns first (is ∙ ap Prints (sym same))
makes (Err failure) first is lacks = fails first (inl lacks)

-- All of the script was done.
pub all_done : (script : Script) (result : Result (List ℕ) ToolFailure) (p p' : Point) → p.unread ≡ [] → Goes script Prints result p p' → Ends script result p.remaining p'.remaining p.taken p'.taken
all_done script (Ok text) p p' none goes = prints script text p.remaining p.taken p' (goes.leads script p.remaining p.taken (starts script p none))
all_done script (Err failure) p p' none goes = goes.leads script p.remaining p.taken (starts script p none)

pub all_asked : (script : Script) (result : Result (Unit {0}) ToolFailure) (p p' : Point) → p.unread ≡ [] → Goes script (λ _. Prints []) result p p'
    → Ends script (without_text result) p.remaining p'.remaining p.taken p'.taken
all_asked script (Ok done) p p' none goes = prints script [] p.remaining p.taken p' (goes.leads script p.remaining p.taken (starts script p none))
all_asked script (Err failure) p p' none goes = goes.leads script p.remaining p.taken (starts script p none)
