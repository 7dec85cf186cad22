-- A reload in a schedule leaves a fleet's server its users, its MAXAGE, and each UPS that it has, with driver and number.
use Rattle.std.proofs.Common.{◌≡◌, ℕ, ◌<◌, Bool, true, false, not, List, [], ◌∷◌, length, refl, sym, ◌∙◌, ap, arith, Option, Some, None}
use Rattle.std.specs.Prelude.{slice_get}
use Rattle.std.specs.List.{AllByRecursion, list_any}
use Rattle.std.specs.Option.{option_and_then}
use Rattle.std.specs.Str.{bytes_eq}
use Rattle.std.proofs.lemmas.Bool.{cases_Bool, not-true}
use Rattle.std.proofs.lemmas.List.{map-id}
use Rattle.std.proofs.lemmas.List.Quantifiers.{position-Some}
use Rattle.std.proofs.lemmas.Slice.Eq.{bytes_eq-Decides}
use Rattle.nut_words.specs.Lines.{LineText}
use Rattle.nut_server_spec.specs.Configuration.{Configuration, Ups, number_of_ups}
use Rattle.nut_server_spec.specs.Event.{Step, Said, Reported, Reloaded, steps, with_lines, with_reports}
use Rattle.nut_server_spec.specs.Event as arrivals
use Rattle.nut_server_spec.specs.Numbering.{Fate, Kept, Numbering, below, by_fate, fate_between, fate_of, number_of, ups_with, with_numbers}
use Rattle.nut_server_spec.specs.Reloading.{is_kept}
use Rattle.nut_server_spec.specs.Trace.{Entry, trace, configuration, fate_at, numbers, numbering}
use Rattle.nut_server_spec.proofs.Places.{below_counts, get_below}
use Rattle.nut_fleet.specs.Schedule as schedules
use Rattle.nut_fleet.specs.World.{Setup, World, keeps_all, world}
use Rattle.nut_fleet.proofs.Deeds.{IsFair, each-deed}
use Rattle.nut_fleet.proofs.Numbers.{HaveOneName, counted-one, has-number, name-of, number-again, number-among, one-number, renumbered-one}

-- ---- a server whose reloads keep its UPSes

-- each reload among the steps keeps the users, MAXAGE and the UPSes that there are
abbrev pub KeepsRoom : Configuration → List Step → Type 0
KeepsRoom first [] = Unit {0}
KeepsRoom first (Reloaded k ∷ s) =
    (k.users ≡ first.users) × (k.max_age ≡ first.max_age) × (keeps_all k.upses (numbering first (trace first s)) ≡ true) × KeepsRoom first s
KeepsRoom first (step ∷ s) = KeepsRoom first s

pub number-within : (name : List ℕ) (upses : List Ups) (u : ℕ) → number_of_ups name upses ≡ Some u → u < length upses
number-within name upses u is = (position-Some (λ (x : Ups). bytes_eq x.name name) upses u (record { name = []; driver = []; description = [] }) is).0

-- ---- a UPS that there is

all-kept : (upses : List Ups) (now : Numbering) (ns : List ℕ) → list_any (λ u. not (is_kept (fate_of upses now u))) ns ≡ false → AllByRecursion (λ u. fate_of upses now u ≡ Kept) ns
all-kept upses now [] none = tt
all-kept upses now (u ∷ us) none = by (fate_of upses now u) refl none (all-kept upses now us)
  where
    by : (fate : Fate) → fate_of upses now u ≡ fate → list_any (λ v. not (is_kept (fate_of upses now v))) (u ∷ us) ≡ false →
        (list_any (λ v. not (is_kept (fate_of upses now v))) us ≡ false → AllByRecursion (λ v. fate_of upses now v ≡ Kept) us) →
        AllByRecursion (λ v. fate_of upses now v ≡ Kept) (u ∷ us)
    by Kept is none rest = (is, rest (rw is at none))
    by fate is none rest = let bad : true ≡ false = rw is at none in cc

kept-is : (upses : List Ups) (now : Numbering) (name : List ℕ) (u : ℕ) → keeps_all upses now ≡ true → number_of name now ≡ Some u → fate_of upses now u ≡ Kept
kept-is upses now name u keeps is =
    number-among now name u (λ v. fate_of upses now v ≡ Kept)
    (all-kept upses now now.numbers (not-true (list_any (λ v. not (is_kept (fate_of upses now v))) now.numbers) keeps)) is

-- whose UPS the number was, and whose it is
fate-ups : (o other : Option Ups) → fate_between o other ≡ Kept → (x y : Ups) × (o ≡ Some x) × (other ≡ Some y) × (x.name ≡ y.name)
fate-ups o other is = grind (arith, cases_Bool, bytes_eq-Decides)

-- ---- what stays

-- What this configuration with these numbers of UPSes has as it had at first: the users, MAXAGE, and the number of each UPS.
-- No two UPSes of other names have one number.
pub record AreFirst (first now : Configuration) (given : List ℕ) : Type 0 where
  pub users : now.users ≡ first.users
  pub max_age : now.max_age ≡ first.max_age
  pub one : HaveOneName now.upses given
  pub named : (name : List ℕ) (u : ℕ) → number_of_ups name first.upses ≡ Some u → number_of name (with_numbers now.upses given) ≡ Some u

-- After this past that is so.
abbrev pub IsAsMade : Configuration → List Entry → Type 0
IsAsMade first t = AreFirst first (configuration first t) (numbers first t)

module _ (first : Configuration) (k : Configuration) (s : List Step) (one : HaveOneName (configuration first (trace first s)).upses (numbers first (trace first s)))
    (keeps : keeps_all k.upses (numbering first (trace first s)) ≡ true) where
  abbrev before : Numbering
  before = numbering first (trace first s)

  abbrev after : Numbering
  after = numbering first (trace first (Reloaded k ∷ s))

  number-kept : (name : List ℕ) (u : ℕ) → number_of name before ≡ Some u → number_of name after ≡ Some u
  number-kept name u is =
      let both = fate-ups (ups_with u before) (ups_with u after) (kept-is k.upses before name u keeps is) in
      number-again before k.upses name u both.1 is both.3 (sym both.4 ∙ name-of before name u both.0 one is both.2)

pub as-made : (first : Configuration) (s : List Step) → KeepsRoom first s → IsAsMade first (trace first s)
as-made first [] kept = record {
  users = refl;
  max_age = refl;
  one = counted-one 0 first.upses (below (length first.upses)) (below_counts (length first.upses));
  named = λ name u is. number-first first name ∙ is;
}
  where
    number-first : (first : Configuration) (name : List ℕ) → number_of name (with_numbers first.upses (below (length first.upses))) ≡ number_of_ups name first.upses
    number-first first name = by (number_of_ups name first.upses) (number-within name first.upses)
      where
        by : (o : Option ℕ) → ((u : ℕ) → o ≡ Some u → u < length first.upses) → option_and_then (slice_get (below (length first.upses))) o ≡ o
        by None within = refl
        by (Some u) within =
            sym (ap (λ ns. slice_get ns u) (map-id (below (length first.upses)))) ∙ get_below u (length first.upses) (λ n. n) (within u refl)
as-made first (Reloaded k ∷ s) kept =
    let made = as-made first s kept.3 in
    record {
      users = kept.0;
      max_age = kept.1;
      one = renumbered-one (numbering first (trace first s)) k.upses made.one;
      named = λ name u is. number-kept first k s made.one kept.2 name u (made.named name u is);
    }
as-made first (step ∷ s) kept = as-made first s kept

-- ---- the number of a name, and its fate, at a reload

module _ (first : Configuration) (s : List Step) (k : Configuration) (name : List ℕ) (u : ℕ) (kept : KeepsRoom first (Reloaded k ∷ s)) where
  pub stays-kept : number_of name (numbering first (trace first s)) ≡ Some u → fate_at first (trace first s) (Reloaded k) u ≡ Kept
  stays-kept is = kept-is k.upses (numbering first (trace first s)) name u kept.2 is

  pub number-stays : number_of name (numbering first (trace first s)) ≡ Some u → number_of name (numbering first (trace first (Reloaded k ∷ s))) ≡ Some u
  number-stays is = number-kept first k s (as-made first s kept.3).one kept.2 name u is

  fate-there : (o other : Option Ups) (b : Bool) → by_fate (fate_between o other) false (λ x. x) b ≡ true →
      (x y : Ups) × (o ≡ Some x) × (other ≡ Some y) × (x.name ≡ y.name)
  fate-there o other b is = grind (arith, cases_Bool, bytes_eq-Decides)

  -- a UPS of which something stays was there before
  pub number-was : (b : Bool) → by_fate (fate_at first (trace first s) (Reloaded k) u) false (λ x. x) b ≡ true →
      number_of name (numbering first (trace first (Reloaded k ∷ s))) ≡ Some u → number_of name (numbering first (trace first s)) ≡ Some u
  number-was b left is =
      let now = numbering first (trace first s) in
      let then = numbering first (trace first (Reloaded k ∷ s)) in
      let both = fate-there (ups_with u now) (ups_with u then) b left in
      let same : both.0.name ≡ name = both.4 ∙ name-of then name u both.1 (as-made first (Reloaded k ∷ s) kept).one is both.3 in
      let had = has-number now name u both.0 both.2 same in
      let equal : Some had.0 ≡ Some u = sym (number-stays-as had.0 had.1) ∙ is in
      had.1 ∙ equal
    where
      number-stays-as : (v : ℕ) → number_of name (numbering first (trace first s)) ≡ Some v → number_of name (numbering first (trace first (Reloaded k ∷ s))) ≡ Some v
      number-stays-as v had = number-kept first k s (as-made first s kept.3).one kept.2 name v had

pub only-name : (first : Configuration) (s : List Step) → KeepsRoom first s → (a b : List ℕ) (u : ℕ) → number_of a (numbering first (trace first s)) ≡ Some u →
    number_of b (numbering first (trace first s)) ≡ Some u → a ≡ b
only-name first s kept a b u is is' = one-number (numbering first (trace first s)) a b u (as-made first s kept).one is is'

-- ---- the server of a fleet

lines-keep : (first : Configuration) (c : ℕ) (ls : List LineText) (s : List Step) → KeepsRoom first s → KeepsRoom first (with_lines c ls s)
lines-keep first c [] s kept = kept
lines-keep first c (l ∷ ls) s kept = lines-keep first c ls (Said c l ∷ s) kept

reports-keep : (first : Configuration) (u : ℕ) (ls : List LineText) (s : List Step) → KeepsRoom first s → KeepsRoom first (with_reports u ls s)
reports-keep first u [] s kept = kept
reports-keep first u (l ∷ ls) s kept = reports-keep first u ls (Reported u l ∷ s) kept

module _ (setup : Setup) (w : World) (kept : KeepsRoom setup.server (steps w.server)) where
  keeps : (e : arrivals.Event) → IsFair setup w e → KeepsRoom setup.server (steps (e ∷ w.server))
  keeps e is = grind (arith, lines-keep, reports-keep)

-- Every reload of a schedule keeps the room.
pub room-stays : (setup : Setup) (schedule : List schedules.Step) → KeepsRoom setup.server (steps (world setup schedule).server)
room-stays setup [] = tt
room-stays setup (step ∷ earlier) =
    let kept = room-stays setup earlier in
    each-deed setup (world setup earlier) (λ v. KeepsRoom setup.server (steps v.server)) kept (keeps setup (world setup earlier) kept) (λ m event. kept) (λ m i cut. kept) (λ m i there ok. kept)
    (λ m i c there none unknown. kept) step
