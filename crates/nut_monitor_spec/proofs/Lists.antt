-- Lists with an element for each MONITOR line, and pasts: what they are after one more element.
use Rattle.std.proofs.Common.{◌≡◌, ℕ, zero, suc, ◌+◌, ◌<◌, ◌≤◌, Bool, true, false, not, ◌&&◌, ◌||◌, eqb, List, [], ◌∷◌, length, refl, ap, arith, Some, None, is_none, if◌then◌else◌}
use Rattle.std.specs.Prelude.{slice_get}
use Rattle.std.proofs.lemmas.Bool.{ne_eqb, eq-eqb, eqb-false}
use Rattle.nut_monitor_spec.specs.declared.Phase.{Phase}
use Rattle.nut_monitor_spec.specs.Configuration.{Line, Configuration, line_in}
use Rattle.nut_monitor_spec.specs.Decision.{is_critical, power_where, each_primary, is_alone}
use Rattle.nut_monitor_spec.specs.Trace.{Entry, or_else, earliest, is_any, number, moment_of, clock}
use Rattle.nut_monitor_spec.specs.Content.{Watch, for_each_line}
use Rattle.nut_monitor_spec.specs.machine.Machine.{update, supply_of, all_alone, all_asked, asked_next}

-- ---- one element a line

pub for_each-same : {A : Type 0} (f g : ℕ → A) (lines : List Line) → ((i : ℕ) → i < length lines → g i ≡ f i) → for_each_line g lines ≡ for_each_line f lines
for_each-same f g [] same = refl
for_each-same f g (line ∷ lines) same =
    rw (same 0 (omega arith), for_each-same (λ i. f (suc i)) (λ i. g (suc i)) lines (λ i less. same (suc i) (omega (arith, less)))) refl

pub for_each-update : (i : ℕ) (f g : ℕ → Watch) (change : Watch → Watch) (lines : List Line)
    → ((j : ℕ) → eqb i j ≡ false → g j ≡ f j) → g i ≡ change (f i) → for_each_line g lines ≡ update i change (for_each_line f lines)
for_each-update i f g change [] other this = refl
for_each-update zero f g change (line ∷ lines) other this =
    rw (this, for_each-same (λ i. f (suc i)) (λ i. g (suc i)) lines (λ i less. other (suc i) (ne_eqb 0 (suc i) (λ e. omega (arith, e))))) refl
for_each-update (suc i) f g change (line ∷ lines) other this =
    rw (
      other 0 (ne_eqb (suc i) 0 (λ e. omega (arith, e))),
      for_each-update i (λ j. f (suc j)) (λ j. g (suc j)) change lines
          (λ j differ. other (suc j) (ne_eqb (suc i) (suc j) (λ e. eqb-false i j differ (omega (arith, e))))) this,
    ) refl

pub found_at : (i : ℕ) (f : ℕ → Watch) (lines : List Line) (w : Watch) → slice_get (for_each_line f lines) i ≡ Some w → w ≡ f i
found_at i f [] w found = cc
found_at zero f (line ∷ lines) w found = cc
found_at (suc i) f (line ∷ lines) w found = found_at i (λ j. f (suc j)) lines w found

pub found_within : (i : ℕ) (f : ℕ → Watch) (lines : List Line) (w : Watch) → slice_get (for_each_line f lines) i ≡ Some w → i < length lines
found_within i f [] w found = cc
found_within zero f (line ∷ lines) w found = omega arith
found_within (suc i) f (line ∷ lines) w found = omega (arith, found_within i (λ j. f (suc j)) lines w found)

pub get_at : (i : ℕ) (f : ℕ → Watch) (lines : List Line) → i < length lines → slice_get (for_each_line f lines) i ≡ Some (f i)
get_at i f [] less = absurd (omega (arith, less))
get_at zero f (line ∷ lines) less = refl
get_at (suc i) f (line ∷ lines) less = get_at i (λ j. f (suc j)) lines (omega (arith, less))

-- ---- sums and tests over lines

pub supply-law : (configuration : Configuration) (time : ℕ) (lines : List Line) (f : ℕ → Watch) →
    supply_of configuration time lines (for_each_line f lines)
    ≡ power_where (λ i. not (is_critical configuration (line_in lines i) time (f i).known.calm (f i).known.polled (f i).known.flags)) lines
supply-law configuration time [] f = refl
supply-law configuration time (line ∷ lines) f =
    ap (λ n. (if not (is_critical configuration line time (f 0).known.calm (f 0).known.polled (f 0).known.flags) then line.power else 0) + n)
    (supply-law configuration time lines (λ i. f (suc i)))

pub alone-law : (lines : List Line) (f : ℕ → Watch) → all_alone lines (for_each_line f lines) ≡ each_primary (λ i. is_alone (f i).known.logins) lines
alone-law [] f = refl
alone-law (line ∷ lines) f = ap (λ b. (not line.primary || is_alone (f 0).known.logins) && b) (alone-law lines (λ i. f (suc i)))

pub asked-law : (configuration : Configuration) (time : ℕ) (phase : Phase) (lines : List Line) (f : ℕ → Watch) →
    all_asked configuration time phase lines (for_each_line f lines)
    ≡ for_each_line (λ i. asked_next configuration time phase (line_in lines i) (f i)) lines
asked-law configuration time phase [] f = refl
asked-law configuration time phase (line ∷ lines) f =
    ap (λ ws. asked_next configuration time phase line (f 0) ∷ ws) (asked-law configuration time phase lines (λ i. f (suc i)))

-- ---- pasts

-- whether something begins with the newest entry
abbrev pub begins_now : (List Entry → Bool) → List Entry → Entry → Bool
begins_now test past entry = is_none (moment_of (earliest test past)) && test (entry ∷ past)

moment-or_else : (front past : List Entry) (entry : Entry) (b : Bool) →
    moment_of (or_else front (if b then entry ∷ past else []))
    ≡ (if is_none (moment_of front) && b then Some (clock (entry ∷ past)) else moment_of front)
moment-or_else front past entry b = grind arith

pub earliest-moment : (test : List Entry → Bool) (past : List Entry) (entry : Entry) →
    moment_of (earliest test (entry ∷ past))
    ≡ (if begins_now test past entry then Some (clock (entry ∷ past)) else moment_of (earliest test past))
earliest-moment test past entry = moment-or_else (earliest test past) past entry (test (entry ∷ past))

pub moment-same : (test : List Entry → Bool) (past : List Entry) (x y : Entry) → test (x ∷ past) ≡ test (y ∷ past) → clock (x ∷ past) ≡ clock (y ∷ past) →
    moment_of (earliest test (x ∷ past)) ≡ moment_of (earliest test (y ∷ past))
moment-same test past x y same time = grind (arith, earliest-moment)

any-or_else : (front past : List Entry) (entry : Entry) (b : Bool) →
    (is_any (or_else front (if b then entry ∷ past else [])) && not (is_any front)) ≡ (is_none (moment_of front) && b)
any-or_else front past entry b = grind arith

pub earliest-any : (test : List Entry → Bool) (past : List Entry) (entry : Entry) →
    (is_any (earliest test (entry ∷ past)) && not (is_any (earliest test past))) ≡ begins_now test past entry
earliest-any test past entry = any-or_else (earliest test past) past entry (test (entry ∷ past))

-- if nothing has begun, the newest past doesn't pass the test
or_else-none : (front past : List Entry) (entry : Entry) (b : Bool) → or_else front (if b then entry ∷ past else []) ≡ [] → b ≡ false
or_else-none front past entry b none = grind arith

pub earliest-none : (test : List Entry → Bool) (past : List Entry) (entry : Entry) → earliest test (entry ∷ past) ≡ [] → test (entry ∷ past) ≡ false
earliest-none test past entry none = or_else-none (earliest test past) past entry (test (entry ∷ past)) none

-- ---- numbered elements

pub number-none : {X : Type 0} (n : ℕ) (xs : List X) → length xs ≤ n → number n xs ≡ None
number-none n [] few = refl
number-none n (x ∷ xs) few =
    let test : eqb (length xs) n ≡ false = ne_eqb (length xs) n (λ e. omega (arith, e, few)) in
    rw test (number-none n xs (omega (arith, few)))

pub number-head : {X : Type 0} (n : ℕ) (x : X) (xs : List X) → length xs ≡ n → number n (x ∷ xs) ≡ Some x
number-head n x xs is = let test : eqb (length xs) n ≡ true = eq-eqb (length xs) n is in rw test refl
