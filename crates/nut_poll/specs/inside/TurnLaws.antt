-- Turns that are taken one after the other.
use Rattle.std.specs.Prelude.{◌≡◌, ◌⊎◌, ◌<◌, ℕ, Bool, ◌||◌, true, false, List, [], ◌∷◌, ◌++◌, nat_eq}
use Rattle.std.proofs.Common.{refl, sym, subst, ◌∙◌, ap, append_assoc, inl, inr}
use Rattle.std.proofs.lemmas.Bool.{or_cases}
use Rattle.std.proofs.lemmas.List.{append-nil}
use Rattle.std.proofs.lemmas.List.Folds.{list_any-append}
use Rattle.mio.specs.Events.{items}
use Rattle.nut_poll.specs.Queue.{Queue, Looks, is_waiting, reported}
use Rattle.nut_poll.specs.Turns.{Heeds, LooksGoOn, TakesTurns}
use Rattle.nut_poll.specs.declared.ready.TheConstants.{SOCKETS_MAX}
use Rattle.nut_poll.specs.declared.rounds.Rounds.{Rounds}

pub looks_go_on : LooksGoOn
looks_go_on before after a b c (came, first) (more, then) = (
  came ++ more,
  append_assoc before after c.waiting
      ∙ ap (λ xs. before ++ xs) then
      ∙ sym (append_assoc before b.waiting more)
      ∙ ap (λ xs. xs ++ more) first
      ∙ append_assoc a.waiting came more,
)

-- one of the first, or of those behind them
pub is_before : (n : ℕ) (xs ys : List ℕ) → is_waiting n xs ≡ true → is_waiting n (xs ++ ys) ≡ true
is_before n xs ys is = list_any-append (nat_eq n) xs ys ∙ ap (λ b. b || is_waiting n ys) is

or_true : (b : Bool) → (b || true) ≡ true
or_true true = refl
or_true false = refl

pub is_behind : (n : ℕ) (xs ys : List ℕ) → is_waiting n ys ≡ true → is_waiting n (xs ++ ys) ≡ true
is_behind n [] ys is = is
is_behind n (x ∷ xs) ys is = ap (λ b. nat_eq n x || b) (is_behind n xs ys is) ∙ or_true (nat_eq n x)

-- who waited waits or was looked at
pub looked_or_waits : (n : ℕ) (looked : List ℕ) (a b : Queue) → Looks looked a b → is_waiting n a.waiting ≡ true → is_waiting n (looked ++ b.waiting) ≡ true
looked_or_waits n looked a b (came, is) here = subst (λ xs. is_waiting n xs ≡ true) (sym is) (is_before n a.waiting came here)

pub still_waits : (n : ℕ) (a b : Queue) → Looks [] a b → is_waiting n a.waiting ≡ true → is_waiting n b.waiting ≡ true
still_waits n a b = looked_or_waits n [] a b

-- no poll was asked
pub heeds_as_before : (looked : List ℕ) (a b : Rounds) → Looks looked a.ready b.ready → b.events ≡ a.events → Heeds looked a b
heeds_as_before looked a b looks same = (looks, λ n less is. inl same)

-- more was looked at
looked_on : (n : ℕ) (before after : List ℕ) (c : Queue) → is_waiting n (after ++ c.waiting) ≡ true → is_waiting n ((before ++ after) ++ c.waiting) ≡ true
looked_on n before after c here = subst (λ xs. is_waiting n xs ≡ true) (sym (append_assoc before after c.waiting)) (is_behind n before (after ++ c.waiting) here)

looked_before : (n : ℕ) (before after : List ℕ) (b c : Queue) → Looks after b c → (is_waiting n before ≡ true) ⊎ (is_waiting n b.waiting ≡ true)
    → is_waiting n ((before ++ after) ++ c.waiting) ≡ true
looked_before n before after b c looks (inl here) =
    subst (λ xs. is_waiting n xs ≡ true) (sym (append_assoc before after c.waiting)) (is_before n before (after ++ c.waiting) here)
looked_before n before after b c looks (inr here) = looked_on n before after c (looked_or_waits n after b c looks here)

heeded_before : (n : ℕ) (before after : List ℕ) (a b c : Rounds) → Looks after b.ready c.ready → c.events ≡ b.events
    → (b.events ≡ a.events) ⊎ (is_waiting n (before ++ b.ready.waiting) ≡ true)
    → (c.events ≡ a.events) ⊎ (is_waiting n ((before ++ after) ++ c.ready.waiting) ≡ true)
heeded_before n before after a b c looks same (inl still) = inl (same ∙ still)
heeded_before n before after a b c looks same (inr here) = inr (looked_before n before after b.ready c.ready looks
    (or_cases (is_waiting n before) (is_waiting n b.ready.waiting) (sym (list_any-append (nat_eq n) before b.ready.waiting) ∙ here)))

heeded : (n : ℕ) (before after : List ℕ) (a b c : Rounds) → n < SOCKETS_MAX → Heeds before a b → Looks after b.ready c.ready
    → is_waiting n (reported (items c.events)) ≡ true → (c.events ≡ b.events) ⊎ (is_waiting n (after ++ c.ready.waiting) ≡ true)
    → (c.events ≡ a.events) ⊎ (is_waiting n ((before ++ after) ++ c.ready.waiting) ≡ true)
heeded n before after a b c less first looks is (inl same) =
    heeded_before n before after a b c looks same (first.1 n less (subst (λ e. is_waiting n (reported (items e)) ≡ true) same is))
heeded n before after a b c less first looks is (inr here) = inr (looked_on n before after c.ready here)

pub heeds_on : (before after : List ℕ) (a b c : Rounds) → Heeds before a b → Heeds after b c → Heeds (before ++ after) a c
heeds_on before after a b c first then = (
  looks_go_on before after a.ready b.ready c.ready first.0 then.0,
  λ n less is. heeded n before after a b c less first then.0 is (then.1 n less is),
)

pub turns_self : (a : Rounds) → TakesTurns a a
turns_self a = ([], heeds_as_before [] a a ([], sym (append-nil a.ready.waiting)) refl)

pub turns_on : (a b c : Rounds) → TakesTurns a b → TakesTurns b c → TakesTurns a c
turns_on a b c first then = (first.0 ++ then.0, heeds_on first.0 then.0 a b c first.1 then.1)
