-- If a queue holds what its past calls lead to, it still does after one call more.
use Rattle.std.proofs.Common.{◌≡◌, ℕ, ◌≤◌, List, ◌∷◌, ◌++◌, Result, Ok, Err, OnOk, drop, length, sym, ap, ◌∙◌, arith, length-append, length-drop}
use Rattle.std.proofs.lemmas.List.{drop-append-le, drop-drop}
use Rattle.nut_queue.specs.History.{Call, Pushed, Taken, Holds, pushed, taken}

pub holds_pushed : (old new bytes : List ℕ) → new ≡ old ++ bytes → (past : List Call) → Holds old past → Holds new (Pushed bytes ∷ past)
holds_pushed old new bytes grown past h = record {
  within = omega (arith, h.within, length-append (pushed past) bytes);
  left = grown ∙ ap (λ q. q ++ bytes) h.left ∙ sym (drop-append-le (taken past) (pushed past) bytes h.within);
}

pub holds_taken : (old new : List ℕ) (n : ℕ) → n ≤ length old → new ≡ drop n old → (past : List Call) → Holds old past → Holds new (Taken n ∷ past)
holds_taken old new n waited gone past h = record {
  within = omega (arith, h.within, waited, ap length h.left, length-drop (taken past) (pushed past));
  left = gone ∙ ap (drop n) h.left ∙ drop-drop n (taken past) (pushed past);
}

-- What follows from a success holds if there was one.
pub where_ok : {T E P Q : Type 0} → (r : Result T E) → (P → Q) → OnOk r P → OnOk r Q
where_ok (Ok x) f p = f p
where_ok (Err e) f p = tt
