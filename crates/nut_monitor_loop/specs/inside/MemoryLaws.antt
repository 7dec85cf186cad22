-- What a world over memory may become by its calls, and by calls after calls.
use Rattle.std.specs.Prelude.{◌≡◌, List, [], ◌∷◌, ◌++◌, map, refl}
use Rattle.std.proofs.Common.{sym, ◌∙◌, ap, append_assoc, append-nil}
use Rattle.nut_monitor_loop.specs.Record as entry
use Rattle.nut_monitor_loop.specs.Memory.{MemoryState, event_of, given_in, GoesOn}

given_in-append : (xs ys : List entry.Entry) → given_in (xs ++ ys) ≡ given_in ys ++ given_in xs
given_in-append [] ys = sym (append-nil (given_in ys))
given_in-append (entry.Gave e ∷ r) ys = ap (λ l. l ++ e ∷ []) (given_in-append r ys) ∙ append_assoc (given_in ys) (given_in r) (e ∷ [])
given_in-append (e ∷ r) ys = given_in-append r ys

-- without a call nothing is done
pub goes_on_self : (a : MemoryState) → GoesOn a a []
goes_on_self a = record { grown = refl; each = refl }

pub goes_on_twice : (a b c : MemoryState) (xs ys : List entry.Entry) → GoesOn a b xs → GoesOn b c ys → GoesOn a c (ys ++ xs)
goes_on_twice a b c xs ys first second =
    record {
      grown = second.grown ∙ ap (λ x. ys ++ x) first.grown ∙ sym (append_assoc ys xs a.log);
      each =
          first.each ∙ ap (λ x. given_in xs ++ x) second.each
          ∙ sym (append_assoc (given_in xs) (given_in ys) (map event_of c.left))
          ∙ ap (λ x. x ++ map event_of c.left) (sym (given_in-append ys xs));
    }
