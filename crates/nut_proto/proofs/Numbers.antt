-- Numbers of one to nine digits: how great they are, and that they are read as they were written.
use Rattle.std.proofs.Common.{◌≡◌, ℕ, ◌+◌, ◌-◌, ◌*◌, ◌<◌, ◌≤◌, ◌^◌, ◌==◌, ◌&&◌, Bool, true, false, List, [], ◌∷◌, length, fold, get_or, decimal, arith, refl, ap, ◌∙◌, Some}
use Rattle.std.specs.Prelude.{nat_lt, nat_le}
use Rattle.std.specs.List.{list_all}
use Rattle.std.specs.Char.{is_ascii_digit}
use Rattle.std.specs.Int.{IsInRange}
use Rattle.std.proofs.lemmas.Bool.Decides.{nat_tests}
use Rattle.std.proofs.lemmas.Fmt.{digits_decimal, digits_value-decimal, first_decimal, decimal_nonempty, length-decimal-le}
use Rattle.std.specs.Str.Parse.{digits_value as value}
use Rattle.std.proofs.lemmas.Int.Digits.{digits_value-lt}
use Rattle.std.proofs.Math.Nat.{pow-le-pow_right}
use Rattle.std.proofs.lemmas.Str.Parse.{IsDigitsTest, FoldsDigits, numerals_by_fold, IsNumeralModel}
use Rattle.std.proofs.lemmas.Bool.{and_from, and_parts, le-leb, leb-true, lt-ltb}
use Rattle.nut_words.specs.Number.{digits_value, is_natural, natural}
use Rattle.nut_proto.specs.Tracking.{IsTrackingNumber, tracking_number}

digit_parts : (c : ℕ) (others : Bool) → (is_ascii_digit c && others) ≡ true → IsInRange 48 57 c × (others ≡ true)
digit_parts c others e = grind (arith, nat_tests)

digit_more : (c : ℕ) (others : Bool) → IsInRange 48 57 c → others ≡ true → (is_ascii_digit c && others) ≡ true
digit_more c others k e = grind (arith, nat_tests)

tells : IsDigitsTest (λ ds. list_all is_ascii_digit ds ≡ true)
tells = record {
  empty = refl;
  parts = λ c cs e. digit_parts c (list_all is_ascii_digit cs) e;
  more = λ c cs k e. digit_more c (list_all is_ascii_digit cs) k e;
}

folds : FoldsDigits (λ n ds. fold (λ m digit. 10 * m + (digit - 48)) n ds)
folds = record {
  empty = λ n. refl;
  more = λ n c cs k. ap (λ (m : ℕ). fold (λ m digit. 10 * m + (digit - 48)) m cs) (omega arith);
}

pub model : IsNumeralModel (λ ds. list_all is_ascii_digit ds ≡ true) digits_value
model = numerals_by_fold _ tells _ folds

pub natural_parts : (text : List ℕ) → is_natural text ≡ true → (length text ≤ 9) × (list_all is_ascii_digit text ≡ true)
natural_parts text is =
    let are = and_parts (nat_lt 0 (length text) && nat_le (length text) 9) (list_all is_ascii_digit text) is in
    (leb-true _ _ (and_parts (nat_lt 0 (length text)) (nat_le (length text) 9) are.0).1, are.1)

pub natural_below : (text : List ℕ) → is_natural text ≡ true → digits_value text < 10 ^ 9
natural_below text is =
    let are = natural_parts text is in
    let positive : 0 < 10 = omega arith in
    let below : value 10 text < 10 ^ length text = digits_value-lt 10 text (model.to text are.1) in
    let same : digits_value text ≡ value 10 text = model.same text (model.to text are.1) in
    let power : 10 ^ length text ≤ 10 ^ 9 = pow-le-pow_right positive are.0 in
    omega (arith, below, same, power)

pub decimal_natural : (n : ℕ) → n < 10 ^ 9 → is_natural (decimal n) ≡ true
decimal_natural n small =
    let few : length (decimal n) ≤ 9 = length-decimal-le 9 n (omega arith) (omega (arith, small)) (omega (arith, small)) in
    let some : 0 < length (decimal n) = decimal_nonempty n (omega (arith, small)) in
    let all : list_all is_ascii_digit (decimal n) ≡ true = digits_decimal model n (omega (arith, small)) in
    and_from _ _ (and_from _ _ (lt-ltb _ _ some) (le-leb _ _ few)) all

pub natural_back : (n : ℕ) → IsTrackingNumber n → natural (decimal n) ≡ Some n
natural_back n h =
    let said : digits_value (decimal n) ≡ n = digits_value-decimal model n (omega (arith, h.1)) in
    let is : is_natural (decimal n) ≡ true = decimal_natural n (omega (arith, h.1)) in
    rw (is, said) refl

pub number_back : (n : ℕ) → IsTrackingNumber n → tracking_number (decimal n) ≡ Some n
number_back n h = by_digits (decimal n) (first_decimal n h.0 (omega (arith, h.1))) ∙ natural_back n h where
  by_digits : (text : List ℕ) → 48 < get_or text 0 0 → tracking_number text ≡ natural text
  by_digits [] first = absurd (omega (arith, first))
  by_digits (digit ∷ digits) first =
      let other : (digit == 48) ≡ false = grind (arith, nat_tests) in
      rw other refl
