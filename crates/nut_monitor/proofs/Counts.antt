-- Numbers of logins, as digits.
use Rattle.std.proofs.Common.{◌≡◌, ℕ, nat_le, Bool, true, false, ◌&&◌, List, [], ◌∷◌, refl, Option, Some, Ok, Err, slice_get, arith, le-leb}
use Rattle.std.proofs.lemmas.Bool.{false≢true}
use Rattle.nut_words.specs.Number.{digits_value, is_natural}
use Rattle.nut_proto.proofs.Numbers.{natural_below}
use Rattle.nut_link.specs.declared.outcome.Outcome.TheVariants as outcomes
use Rattle.nut_conf.specs.Values.{number}
use Rattle.nut_conf.specs.declared.fault.FaultKind.{FaultKind}
use Rattle.nut_monitor_spec.specs.machine.Machine.{newer}
use Rattle.nut_monitor_spec.specs.Query.{logins_in}
use Rattle.nut_monitor_spec.specs.declared.Query.TheVariants.{NumLogins}
use Rattle.nut_monitor.specs.inside.Sound.{IsCount}

pub left_true : (x y : Bool) → (x && y) ≡ true → x ≡ true
left_true true y h = refl
left_true false y h = absurd (false≢true h)

pub right_true : (x y : Bool) → (x && y) ≡ true → y ≡ true
right_true true y h = h
right_true false y h = absurd (false≢true h)

pub count_reads : (digits : List ℕ) → is_natural digits ≡ true → number 0 999999999 digits ≡ Ok (digits_value digits)
count_reads digits is =
    let low : nat_le 0 (digits_value digits) ≡ true = le-leb 0 (digits_value digits) (omega arith) in
    let high : nat_le (digits_value digits) 999999999 ≡ true = le-leb (digits_value digits) 999999999 (omega (arith, natural_below digits is)) in
    rw (is, low, high) refl

pub no_count : (fs : List (List ℕ)) (d : List ℕ) (f : FaultKind) (before : Option ℕ) → slice_get fs 0 ≡ Some d → IsCount NumLogins (outcomes.Said fs) → number 0 999999999 d ≡ Err f
    → before ≡ newer (logins_in NumLogins (outcomes.Said fs)) before
no_count [] d f before is count bad = refl
no_count (x ∷ fs) d f before is count bad = absurd (let read = count_reads x count in let same : x ≡ d = cc in cc)
