-- A value that is returned if a call before it passed.
use Rattle.std.proofs.Common.{◌≡◌, sym, subst}
use Rattle.std.specs.Prelude.{Result, Ok, Err, IfOk, OnOk}
use Rattle.std.specs.Result.{result_and}

pub if_both : {T U E : Type 0} (P : U → Type 0) (made : Result T E) (value : U) (result : Result U E)
    → result ≡ result_and made (Ok value) → OnOk made (P value) → IfOk result P
if_both P (Ok x) value result is holds = subst (λ r. IfOk r P) (sym is) holds
if_both P (Err e) value result is holds = subst (λ r. IfOk r P) (sym is) tt
