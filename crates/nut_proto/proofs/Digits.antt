-- The digits of a number: those before the last, and the last.
use Rattle.std.proofs.Common.{◌≡◌, ℕ, ◌+◌, ◌<◌, ◌≤◌, ◌^◌, ◌/◌, ◌%◌, List, [], ◌∷◌, ◌++◌, length, decimal, arith, sym, ap, ◌∙◌, append_assoc, length-append}
use Rattle.std.proofs.lemmas.Fmt.{decimal_digit, decimal_step, length-decimal-le}

pub last_digit : (out : List ℕ) (n : ℕ) → 10 ≤ n → n < 2 ^ 32 → (out ++ decimal (n / 10)) ++ (48 + n % 10) ∷ [] ≡ out ++ decimal n
last_digit out n big fits =
    append_assoc out (decimal (n / 10)) ((48 + n % 10) ∷ []) ∙ ap (λ digits. out ++ digits) (sym (decimal_step n big (omega arith)))

pub one_digit : (out : List ℕ) (n : ℕ) → n < 10 → out ++ (48 + n) ∷ [] ≡ out ++ decimal n
one_digit out n small = ap (λ digits. out ++ digits) (sym (decimal_digit n small))

pub length_step : (n : ℕ) → 10 ≤ n → n < 2 ^ 32 → length (decimal (n / 10)) + 1 ≡ length (decimal n)
length_step n big fits = omega (arith, ap length (decimal_step n big (omega arith)), length-append (decimal (n / 10)) ((48 + n % 10) ∷ []))

pub length_digit : (n : ℕ) → n < 10 → length (decimal n) ≡ 1
length_digit n small = ap length (decimal_digit n small)

pub fits_ten : (n : ℕ) → n < 2 ^ 32 → length (decimal n) ≤ 10
fits_ten n fits = length-decimal-le 10 n (omega arith) (omega arith) (omega arith)
