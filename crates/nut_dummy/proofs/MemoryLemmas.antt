-- Where memory may run out.
use Rattle.std.proofs.Common.{◌≡◌, ℕ, ◌<◌, Bool, true, false, not, List, [], ◌∷◌, ◌++◌, length, get_or, take, Some, slice_get, refl, sym, ap, ap₂, subst, ◌∙◌, arith, length-append}
use Rattle.std.proofs.Math.Seq.{take-append_seam}
use Rattle.std.proofs.lemmas.Bool.Decides.{nat_tests}
use Rattle.std.proofs.lemmas.List.Folds.{length-flat_map-take}
use Rattle.std.specs.List.{flat_map}
use Rattle.std.specs.Option.{option_map_or}
use Rattle.std.specs.Prelude.{nat_lt, IsTrue, ⊤}
use Rattle.nut_words.specs.Hearing.{StopsAt}
use Rattle.nut_words.specs.Lines.{LineText}
use Rattle.nut_proto.specs.Lines.{line}
use Rattle.nut_dummy.specs.Telling.{text, limits, variable_messages, closing_messages}
use Rattle.nut_dummy.specs.Teller.{Change, Teller, Variable, dump, is_told, lines_of, says, value_after}
use Rattle.nut_dummy.specs.inside.Machine.{heard, heard_all, may_take_memory}
use Rattle.nut_dummy.proofs.TextLemmas.{text_value, with_limits}

-- The lines of a value are not empty.
value_some : (name value : List ℕ) → 0 < length (text (variable_messages false name value))
value_some name value = rw (text_value name value) (omega arith)

pub lines_some : (limited : Bool) (name value : List ℕ) → 0 < length (text (variable_messages limited name value))
lines_some false name value = value_some name value
lines_some true name value = omega (arith, ap length (with_limits name value), length-append (text (variable_messages false name value)) (text (limits name)), value_some name value)

-- nor are those of a change that is told
pub says_some : (change : Change) (v : Variable) (value : List ℕ) → is_told change v.name v.steps v.value ≡ true → value_after change v.name v.steps v.value ≡ Some value → 0 < length (says change v)
says_some change v value told is = rw (told, is) (lines_some (not v.told) v.name value)

pub one_says : {X : Type 0} (f : X → List ℕ) (xs : List X) (i : ℕ) (x : X) → i < length xs → x ≡ get_or xs i x → 0 < length (f x) → 0 < length (flat_map f xs)
one_says f xs i x within is some =
    let here : 0 < length (f (get_or xs i x)) = subst (λ y. 0 < length (f y)) is some in
    omega (arith, here, length-flat_map-take f xs i x within)

-- nor is a dump
closing_some : 0 < length (text closing_messages)
unfolding text line
closing_some = omega arith

pub dump_some : (variables : List Variable) → 0 < length (dump variables)
dump_some variables = omega (arith, length-append (flat_map (λ v. lines_of true v.name v.value) variables) (text closing_messages), closing_some)

-- Then more bytes wait.
pub longer : (waits more : List ℕ) → 0 < length more → IsTrue (nat_lt (length waits) (length (waits ++ more)))
longer waits more some =
    let rises : length waits < length (waits ++ more) = omega (arith, length-append waits more) in
    grind (arith, nat_tests)

-- ---- what a result says

-- the element behind others
seam_at : {A : Type 0} (xs : List A) (x : A) (ys : List A) → slice_get (xs ++ x ∷ ys) (length xs) ≡ Some x
seam_at [] x ys = refl
seam_at (y ∷ xs) x ys = seam_at xs x ys

-- Memory ran out at one of these lines.
pub runs_out : (lines : List LineText) (s after : Teller) (k : ℕ)
    → StopsAt heard (λ line before. ⊤ × ((after ≡ before) × IsTrue (may_take_memory line before))) lines s k
    → (after ≡ heard_all (take k lines) s) × IsTrue (option_map_or (λ line. may_take_memory line (heard_all (take k lines) s)) (slice_get lines k) false)
runs_out lines s after k at =
    let nth : slice_get lines k ≡ Some at.line = ap₂ slice_get at.parted at.count ∙ seam_at at.earlier at.line at.later in
    let front : take k lines ≡ at.earlier = ap₂ take at.count at.parted ∙ take-append_seam at.earlier (at.line ∷ at.later) in (
      at.stops.1.0 ∙ ap (λ ls. heard_all ls s) (sym front),
      subst (λ ls. IsTrue (option_map_or (λ line. may_take_memory line (heard_all ls s)) (slice_get lines k) false)) (sym front)
          (subst (λ found. IsTrue (option_map_or (λ line. may_take_memory line (heard_all at.earlier s)) found false)) (sym nth) at.stops.1.1),
    )
