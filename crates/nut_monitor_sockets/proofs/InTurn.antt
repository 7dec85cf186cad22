-- Looks at links in turn, one after the other.
use Rattle.std.proofs.Common.{◌≡◌, ℕ, List, [], ◌∷◌, ◌++◌, Result, Ok, Err, IfOk, OnErr, ap, sym, subst, ◌∙◌, append_assoc}
use Rattle.std.proofs.lemmas.List.{append-nil}
use Rattle.nut_poll.specs.Queue.{Queue, Looks, begun}
use Rattle.nut_poll.specs.Turns.{Heeds, TakesTurns}
use Rattle.nut_poll.specs.declared.rounds.Rounds.{Rounds}
use Rattle.nut_poll.specs.inside.TurnLaws.{heeds_as_before, heeds_on}
use Rattle.nut_monitor_loop.specs.declared.types.Next.{Next}
use Rattle.nut_monitor_loop.specs.declared.types.Next.TheVariants.{Moment, Linked, LinkBytes, LinkLost, Again, End}
use Rattle.nut_monitor_sockets.specs.Turns.{ComesInTurn, IsGivenBy, IsOfLast, WaitsUnread}
use Rattle.nut_monitor_sockets.specs.declared.links.Links.{Links}

-- nobody came
pub stays : (a b : Rounds) → b.ready ≡ a.ready → b.events ≡ a.events → Heeds [] a b
stays a b same = heeds_as_before [] a b ([], ap (λ q. q.waiting) same ∙ sym (append-nil a.ready.waiting))

pub still : (a b : Rounds) → b ≡ a → Heeds [] a b
still a b same = stays a b (ap (λ r. r.ready) same) (ap (λ r. r.events) same)

-- some came, and no poll was asked
pub comes : (a b : Rounds) → Looks [] a.ready b.ready → b.events ≡ a.events → Heeds [] a b
comes a b = heeds_as_before [] a b

-- some came, and then others
pub comes_on : (a b c : Rounds) → Heeds [] a b → Heeds [] b c → Heeds [] a c
comes_on a b c = heeds_on [] [] a b c

-- some came, and a round began
pub turned : (a b : Rounds) (q : Queue) → Looks [] a.ready q → b.ready ≡ begun q → b.events ≡ a.events → Heeds [] a b
turned a b q looks is = heeds_as_before [] a b (looks.0, ap (λ r. r.waiting) is ∙ looks.1)

-- a round began
pub began : (a b : Rounds) → b.ready ≡ begun a.ready → b.events ≡ a.events → Heeds [] a b
began a b is = heeds_as_before [] a b ([], ap (λ q. q.waiting) is ∙ sym (append-nil a.ready.waiting))

-- others were looked at before
of_last_still : (n : Next) (before looked : List ℕ) (links : Links) → IsOfLast n looked links → IsOfLast n (before ++ looked) links
of_last_still (LinkBytes i) before looked links it = (before ++ it.0, ap (λ xs. before ++ xs) it.1 ∙ sym (append_assoc before it.0 (i ∷ [])), it.2)
of_last_still (Moment m) before looked links it = tt
of_last_still (Linked i) before looked links it = tt
of_last_still (LinkLost i) before looked links it = tt
of_last_still Again before looked links it = tt
of_last_still End before looked links it = tt

-- others came to wait, and then this came
pub comes_then : (n : Next) (a b c : Links) → Heeds [] a.rounds b.rounds → ComesInTurn n b c → ComesInTurn n a c
comes_then n a b c came then = (then.0, heeds_on [] then.0 a.rounds b.rounds c.rounds came then.1, then.2)

-- nothing came, others came to wait, and then this came
pub waited : (n : Next) (a b c d : Links) → ComesInTurn Again a b → Heeds [] b.rounds c.rounds → ComesInTurn n c d → ComesInTurn n a d
waited n a b c d first came then = (
  (first.0 ++ []) ++ then.0,
  heeds_on (first.0 ++ []) then.0 a.rounds c.rounds d.rounds (heeds_on first.0 [] a.rounds b.rounds c.rounds first.1 came) then.1,
  of_last_still n (first.0 ++ []) then.0 d then.2,
)

-- the link that was looked at last gave this
of_last : (n : Next) (others : List ℕ) (i : ℕ) (links : Links) → IsGivenBy i n → WaitsUnread i links → IsOfLast n (others ++ i ∷ []) links
of_last (LinkBytes j) others i links is waits = (others, ap (λ k. others ++ k ∷ []) is, subst (λ k. WaitsUnread k links) is waits)
of_last (Moment m) others i links is waits = tt
of_last (Linked j) others i links is waits = tt
of_last (LinkLost j) others i links is waits = tt
of_last Again others i links is waits = tt
of_last End others i links is waits = tt

-- one more look: the next was taken, and then others came
pub look_more : (looked : List ℕ) (i : ℕ) (a b c d : Rounds) → Heeds looked a b → b.ready.waiting ≡ i ∷ c.ready.waiting → c.events ≡ b.events → Heeds [] c d
    → Heeds (looked ++ i ∷ []) a d
look_more looked i a b c d before taken same came =
    heeds_on looked (i ∷ []) a b d before (heeds_on (i ∷ []) [] b c d
    (heeds_as_before (i ∷ []) b c ([], sym taken ∙ sym (append-nil b.ready.waiting)) same) came)

pub found_last : (n : Next) (looked : List ℕ) (i : ℕ) (a b : Links) → Heeds (looked ++ i ∷ []) a.rounds b.rounds → IsGivenBy i n → WaitsUnread i b
    → ComesInTurn n a b
found_last n looked i a b looks given waits = (looked ++ i ∷ [], looks, of_last n looked i b given waits)

-- what holds at each error
pub on_err : {A E X : Type 0} (result : Result A E) → X → OnErr result X
on_err (Ok a) x = tt
on_err (Err e) x = x

-- this came or a call failed, and links were looked at in turn
pub took : {E : Type 0} (result : Result Next E) (a b : Links) → IfOk result (λ n. ComesInTurn n a b) → OnErr result (TakesTurns a.rounds b.rounds)
    → TakesTurns a.rounds b.rounds
took (Ok n) a b turns kept = (turns.0, turns.1)
took (Err e) a b turns kept = kept

-- this came in turn, and then others came to wait
pub took_turns : (n : Next) (a b c : Links) → ComesInTurn n a b → Heeds [] b.rounds c.rounds → TakesTurns a.rounds c.rounds
took_turns n a b c first came = (first.0 ++ [], heeds_on first.0 [] a.rounds b.rounds c.rounds first.1 came)
