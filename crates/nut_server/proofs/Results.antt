-- What is known of a result, if it is an error and if it isn't.
use Rattle.std.proofs.Common.{Result, Ok, Err, IfErr, OnOk, OnErr}

pub on_ok : {A E : Type 0} (r : Result A E) (P Q : Type 0) → (P → Q) → OnOk r P → OnOk r Q
on_ok (Ok v) P Q f h = f h
on_ok (Err e) P Q f h = h

pub if_err : {A E : Type 0} (r : Result A E) (P Q : Type 0) → (P → Q) → OnErr r P → OnErr r Q
if_err (Ok v) P Q f h = tt
if_err (Err e) P Q f h = f h

pub err_both : {A E : Type 0} (r : Result A E) (P Q : Type 0) (S : E → Type 0) → ((e : E) → P → Q → S e) → OnErr r P → OnErr r Q → IfErr r S
err_both (Ok v) P Q S f p q = tt
err_both (Err e) P Q S f p q = f e p q
