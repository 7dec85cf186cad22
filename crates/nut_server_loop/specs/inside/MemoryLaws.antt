-- The states that calls of the world over memory lead to, one after the other.
use Rattle.std.specs.Prelude.{◌≡◌, ◌+◌, Bool, List, [], ◌∷◌, ◌++◌, map, count_by, refl}
use Rattle.std.proofs.Common.{cond, sym, ◌∙◌, ap, add_assoc, zero-add, append_assoc}
use Rattle.std.proofs.Math.Nat.{add_comm}
use Rattle.std.proofs.lemmas.List.Sums.{sum_by-append}
use Rattle.nut_server_spec.specs.Event.{Event}
use Rattle.nut_server_loop.specs.Record as entry
use Rattle.nut_server_loop.specs.Memory.{MemoryState, event_of_given, gave_of, GoesOn}

gave_of-append : (xs ys : List entry.Entry) → gave_of (xs ++ ys) ≡ gave_of xs ++ gave_of ys
gave_of-append [] ys = refl
gave_of-append (entry.Gave e ∷ r) ys = ap (λ l. e ∷ l) (gave_of-append r ys)
gave_of-append (e ∷ r) ys = gave_of-append r ys

count-append : (p : Event → Bool) (xs ys : List Event) → count_by p (xs ++ ys) ≡ count_by p xs + count_by p ys
count-append p xs ys = sum_by-append (λ x. cond (p x) 1 0) xs ys

-- Each state is reached from itself.
pub goes_on_self : (a : MemoryState) → GoesOn a a
goes_on_self a = record { more = []; grown = refl; each = λ p. sym (zero-add (count_by p (map event_of_given a.left))) }

pub goes_on_twice : (a b c : MemoryState) → GoesOn a b → GoesOn b c → GoesOn a c
goes_on_twice a b c first second =
    record {
      more = second.more ++ first.more;
      grown = second.grown ∙ ap (λ x. second.more ++ x) first.grown ∙ sym (append_assoc second.more first.more a.log);
      each = λ p.
          let before = count_by p (gave_of first.more) in
          let later = count_by p (gave_of second.more) in
          let left = count_by p (map event_of_given c.left) in
          let joined : count_by p (gave_of (second.more ++ first.more)) ≡ later + before =
          ap (count_by p) (gave_of-append second.more first.more) ∙ count-append p (gave_of second.more) (gave_of first.more)
          in
          first.each p ∙ ap (λ n. before + n) (second.each p) ∙ sym (add_assoc before later left) ∙ ap (λ n. n + left) (add_comm before later ∙ sym joined);
    }
