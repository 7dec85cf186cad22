-- The numbers of open connections rise, each is at least 1, and none is greater than how many were opened.
use Rattle.std.proofs.Common.{◌≡◌, ℕ, ◌+◌, ◌<◌, Bool, List, [], ◌∷◌, ◌++◌, filter, map, refl, arith, inl, inr}
use Rattle.std.proofs.lemmas.Bool.{cases_Bool}
use Rattle.nut_server_spec.specs.laws.Laws.{IsBelow, IsRising, IsUpTo, numbers, NumbersRise}
use Rattle.nut_server_spec.specs.Configuration.{Configuration}
use Rattle.nut_server_spec.specs.Content.{Session, content, session, past}
use Rattle.nut_server_spec.specs.Event.{Event, Step}
use Rattle.nut_server_spec.specs.Trace.{Entry, opened, open_numbers, numbers_after, opened_after}

IsUpTo-filter : (n : ℕ) (p : ℕ → Bool) (ns : List ℕ) → IsUpTo n ns → IsUpTo n (filter p ns)
IsUpTo-filter n p [] h = tt
IsUpTo-filter n p (m ∷ ns) h = elim (cases_Bool (p m)) [ inl e ↦ rw e (h.0, IsUpTo-filter n p ns h.1) | inr e ↦ rw e (IsUpTo-filter n p ns h.1) ]

IsUpTo-push : (n : ℕ) (ns : List ℕ) → IsUpTo n ns → IsUpTo (n + 1) (ns ++ (n + 1) ∷ [])
IsUpTo-push n [] up = (omega arith, tt)
IsUpTo-push n (m ∷ ns) up = (omega (arith, up.0), IsUpTo-push n ns up.1)

step_up : (s : Step) (closes : ℕ → Bool) (n : ℕ) (ns : List ℕ) → IsUpTo n ns → IsUpTo (opened_after s n) (numbers_after s closes n ns)
step_up step closes n ns up = grind (arith, IsUpTo-push, IsUpTo-filter)

pub numbers_up_to : (t : List Entry) → IsUpTo (opened t) (open_numbers t)
numbers_up_to [] = tt
numbers_up_to (e ∷ t) = step_up e.step e.closes (opened t) (open_numbers t) (numbers_up_to t)

IsBelow-filter : (n : ℕ) (p : ℕ → Bool) (ns : List ℕ) → IsBelow n ns → IsBelow n (filter p ns)
IsBelow-filter n p [] h = tt
IsBelow-filter n p (m ∷ ns) h = elim (cases_Bool (p m)) [ inl e ↦ rw e (h.0, IsBelow-filter n p ns h.1) | inr e ↦ rw e (IsBelow-filter n p ns h.1) ]

pub IsRising-filter : (p : ℕ → Bool) (ns : List ℕ) → IsRising ns → IsRising (filter p ns)
IsRising-filter p [] h = tt
IsRising-filter p (m ∷ ns) h = elim (cases_Bool (p m)) [ inl e ↦ rw e (IsBelow-filter m p ns h.0, IsRising-filter p ns h.1) | inr e ↦ rw e (IsRising-filter p ns h.1) ]

pub IsBelow-push : (n k : ℕ) (ns : List ℕ) → IsBelow n ns → n < k → IsBelow n (ns ++ k ∷ [])
IsBelow-push n k [] h less = (less, tt)
IsBelow-push n k (m ∷ ns) h less = (h.0, IsBelow-push n k ns h.1 less)

IsRising-push : (n : ℕ) (ns : List ℕ) → IsRising ns → IsUpTo n ns → IsRising (ns ++ (n + 1) ∷ [])
IsRising-push n [] h up = (tt, tt)
IsRising-push n (m ∷ ns) h up = (IsBelow-push m (n + 1) ns h.0 (omega (arith, up.0)), IsRising-push n ns h.1 up.1)

step_rising : (s : Step) (closes : ℕ → Bool) (n : ℕ) (ns : List ℕ) → IsUpTo n ns → IsRising ns → IsRising (numbers_after s closes n ns)
step_rising step closes n ns up h = grind (arith, IsRising-push, IsRising-filter)

pub open_numbers_rise : (t : List Entry) → IsRising (open_numbers t)
open_numbers_rise [] = tt
open_numbers_rise (e ∷ t) = step_rising e.step e.closes (opened t) (open_numbers t) (numbers_up_to t) (open_numbers_rise t)

step_above : (s : Step) (closes : ℕ → Bool) (n : ℕ) (ns : List ℕ) → IsBelow 0 ns → IsBelow 0 (numbers_after s closes n ns)
step_above step closes n ns h = grind (arith, IsBelow-push, IsBelow-filter)

pub open_numbers_above : (t : List Entry) → IsBelow 0 (open_numbers t)
open_numbers_above [] = tt
open_numbers_above (e ∷ t) = step_above e.step e.closes (opened t) (open_numbers t) (open_numbers_above t)

-- The numbers of a content's sessions are those of the open connections.
sessions_numbered : (f : ℕ → Session) (ns : List ℕ) → ((d : ℕ) → (f d).number ≡ d) → map (λ k. k.number) (map f ns) ≡ ns
sessions_numbered f [] numbered = refl
sessions_numbered f (n ∷ ns) numbered = rw (numbered n, sessions_numbered f ns numbered) refl

pub numbers_are : (first : Configuration) (h : List Event) → numbers (content first h) ≡ open_numbers (past first h)
numbers_are first h = sessions_numbered (session first h) (open_numbers (past first h)) (λ d. refl)

pub numbers-rise : NumbersRise
numbers-rise first h = grind (arith, numbers_are, open_numbers_above, open_numbers_rise, numbers_up_to)
