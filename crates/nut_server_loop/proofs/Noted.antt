-- What the world over memory notes, and what it then has left to give.
use Rattle.std.proofs.Common.{◌≡◌, ℕ, zero, suc, ◌+◌, Bool, true, cond, List, [], ◌∷◌, ◌++◌, map, reverse, get_or, Option, Some, unwrap_or, sym, ◌∙◌, ap, subst, zero-add, arith}
use Rattle.std.specs.Prelude.{slice_get, remove, count_by}
use Rattle.std.proofs.lemmas.List.{reverse-append, map-append}
use Rattle.std.proofs.lemmas.List.Quantifiers.{position-Some}
use Rattle.std.proofs.lemmas.Option.{unwrap_or-slice_get}
use Rattle.std.proofs.lemmas.List.Sums.{sum_by-cons}
use Rattle.nut_server_spec.specs.Event.{Event}
use Rattle.nut_server_spec.specs.Event as event
use Rattle.nut_server_spec.specs.Content.{Content}
use Rattle.nut_server_loop.specs.Record.{Entry, Gave, tells, tells_arrival, tells_next, arrival_of, LeadsTo, MayCome}
use Rattle.nut_server_loop.specs.Memory.{MemoryState, event_of_given, entry_of, log_of, gave_of, GoesOn, may_come, first_coming, GivesAt}
use Rattle.nut_server_loop.specs.declared.types.Given.{Given}
use Rattle.nut_server_loop.specs.declared.types.Given.TheVariants.{Close}
use Rattle.nut_server_loop.specs.declared.types.Note.{Note}
use Rattle.nut_server_loop.specs.declared.types.Next.{Next}
use Rattle.nut_server_loop.specs.declared.types.Next.TheVariants as next

-- One more note is the newest entry.
pub log_more : (notes : List Note) (one : Note) → log_of (notes ++ one ∷ []) ≡ entry_of one ∷ log_of notes
log_more notes one = ap reverse (map-append entry_of notes (one ∷ [])) ∙ reverse-append (map entry_of notes) (entry_of one ∷ [])

-- What `next` gives is recorded as the arrival that it stands for.
pub tells_given : (n : Next) (items : List ℕ) (e : Event) (o : Option (List Entry)) → arrival_of n items ≡ Some e → tells_next n items o ≡ tells (Gave e) o
tells_given n items e o same = ap (λ a. tells_arrival a o) same

may_come_next : (s : Content) (n : Next) (items : List ℕ) (e : Event) → may_come s e ≡ true → arrival_of n items ≡ Some e → MayCome n s
may_come_next s (next.Bytes c) items e may is =
    subst (λ a. may_come s (unwrap_or a (event.Close 0)) ≡ true) (sym is) may
may_come_next s n items e may is = tt

-- The first arrival that may come does come, and it isn't the end.
pub came : (s : Content) (left left' : List Given) (i : ℕ) (n : Next) (items : List ℕ) → first_coming s left ≡ Some i → GivesAt (Some i) left left' n items → MayCome n s
came s left left' i n items place gives =
    let first = position-Some (λ g. may_come s (event_of_given g)) left i (Close 0) place in
    let here : get_or left i (Close 0) ≡ gives.0 = sym (unwrap_or-slice_get left i (Close 0)) ∙ ap (λ x. unwrap_or x (Close 0)) gives.1 in
    may_come_next s n items (event_of_given gives.0) (subst (λ g. may_come s (event_of_given g) ≡ true) here first.1) gives.2

count-cons : (p : Event → Bool) (e : Event) (es : List Event) → count_by p (e ∷ es) ≡ cond (p e) 1 0 + count_by p es
count-cons p e es = sum_by-cons (λ x. cond (p x) 1 0) e es

count-remove : (p : Event → Bool) (left : List Given) (i : ℕ) (g : Given) → slice_get left i ≡ Some g → count_by p (map event_of_given left) ≡ cond (p (event_of_given g)) 1 0 + count_by p (map event_of_given (remove left i))
count-remove p [] i g there = cc
count-remove p (x ∷ left) zero g there =
    let same : x ≡ g = cc in
    count-cons p (event_of_given x) (map event_of_given left) ∙ ap (λ y. cond (p (event_of_given y)) 1 0 + count_by p (map event_of_given left)) same
count-remove p (x ∷ left) (suc i) g there =
    omega (arith, count-cons p (event_of_given x) (map event_of_given left), count-cons p (event_of_given x) (map event_of_given (remove left i)), count-remove p left i g there)

-- Where waiting for an answer is nothing more.
pub leads_both : (o : Option Event) (A : Type 0) → A → LeadsTo o A A
leads_both o A a = (λ some. a, λ none. a)

-- The log grew, and no arrival was given.
pub goes_on_more : (a b : MemoryState) (e : Entry) → gave_of (e ∷ []) ≡ [] → b.log ≡ e ∷ a.log → b.left ≡ a.left → GoesOn a b
goes_on_more a b e silent grown same =
    record {
      more = e ∷ [];
      grown = grown;
      each = λ p. sym (ap (λ g. count_by p g + count_by p (map event_of_given b.left)) silent ∙ ap (λ l. 0 + count_by p (map event_of_given l)) same ∙ zero-add (count_by p (map event_of_given a.left)));
    }

-- What was given moves from what is left into the log.
pub gave_reached : (a b : MemoryState) (i : ℕ) (n : Next) (items : List ℕ) → GivesAt (Some i) a.left b.left n items → Some b.log ≡ tells_next n items (Some a.log) → GoesOn a b
gave_reached a b i n items gives grown =
    let e : Event = event_of_given gives.0 in
    let told : Some b.log ≡ Some (Gave e ∷ a.log) = grown ∙ tells_given n items e (Some a.log) gives.2 in
    record {
      more = Gave e ∷ [];
      grown = ap (λ o. unwrap_or o []) told;
      each = λ p.
          let one : count_by p (e ∷ []) ≡ cond (p e) 1 0 = omega (arith, count-cons p e []) in
          count-remove p a.left i gives.0 gives.1 ∙ ap (λ l. cond (p e) 1 0 + count_by p (map event_of_given l)) (sym gives.3)
          ∙ ap (λ n. n + count_by p (map event_of_given b.left)) (sym one);
    }
