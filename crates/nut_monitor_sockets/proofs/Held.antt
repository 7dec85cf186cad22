-- Losses that are held, and what comes behind them.
use Rattle.std.proofs.Common.{◌≡◌, ◌≢◌, ◌<◌, ◌≤◌, ◌+◌, ℕ, suc, Bool, true, false, not, cond, List, [], ◌∷◌, ◌++◌, Some, None, map, length, ap, sym, subst, ◌∙◌, arith, refl, nat_lt, eqb}
use Rattle.std.specs.List.{AllByRecursion, position, position_or_len, prefix_len, remove}
use Rattle.std.proofs.lemmas.List.{map-append}
use Rattle.std.proofs.lemmas.Bool.{eqb-true}
use Rattle.std.proofs.lemmas.Bool.Decides.{nat_tests}
use Rattle.nut_conf.specs.declared.notice.Notice.{Notice as Kind}
use Rattle.nut_conf.specs.declared.notice.Notice.TheVariants.{Commbad, Commok, Shutdown}
use Rattle.nut_monitor_spec.specs.declared.Notice.{Notice}
use Rattle.nut_monitor_sockets.specs.Handing.{StandFor, all, later, neither, lost, back}
use Rattle.nut_monitor_sockets.specs.inside.HandingLaws.{stand_again, stand_behind}

-- A notice comes before losses that are held, unless it is SHUTDOWN or the return of one of these UPSes.
pub told_before : (notice : Notice) (lines : List ℕ) → notice.kind ≢ Shutdown
    → ((line : ℕ) → notice ≡ back line → AllByRecursion (λ it. it ≢ line) lines) → StandFor (notice ∷ map lost lines) (map lost lines ++ notice ∷ [])
told_before notice [] may none = all
told_before notice (line ∷ lines) may none =
    stand_again (notice ∷ lost line ∷ map lost lines) (lost line ∷ notice ∷ map lost lines) (lost line ∷ (map lost lines ++ notice ∷ []))
    (later [] (map lost lines) line notice may (λ is. (none line is).0 refl) all)
    (stand_behind (lost line) (notice ∷ map lost lines) (map lost lines ++ notice ∷ []) (told_before notice lines may (λ other is. (none other is).1)))

-- A loss before others is left out with the return behind them.
left_out : (line : ℕ) (lines : List ℕ) → StandFor (map lost lines) (lost line ∷ (map lost lines ++ back line ∷ []))
left_out line [] = neither [] [] line all
left_out line (other ∷ lines) =
    later [] (map lost lines ++ back line ∷ []) line (lost other) (λ is. cc) (λ is. let kinds : Commbad ≡ Commok = ap (λ (n : Notice). n.kind) is in cc)
    (stand_behind (lost other) (map lost lines) (lost line ∷ (map lost lines ++ back line ∷ [])) (left_out line lines))

released_at : (line : ℕ) (lines : List ℕ) → prefix_len (λ it. not (eqb it line)) lines < length lines
    → StandFor (map lost (remove lines (prefix_len (λ it. not (eqb it line)) lines))) (map lost lines ++ back line ∷ [])
released_at line [] lt = absurd (omega (arith, lt))
released_at line (x ∷ lines) lt = by_test (released_at line lines) (eqb x line) refl lt where
  at : ℕ
  at = prefix_len (λ it. not (eqb it line)) lines

  after : List Notice
  after = map lost lines ++ back line ∷ []

  by_test : (at < length lines → StandFor (map lost (remove lines at)) after) → (b : Bool) → eqb x line ≡ b → cond (not b) (1 + at) 0 < length (x ∷ lines)
      → StandFor (map lost (remove (x ∷ lines) (cond (not b) (1 + at) 0))) (lost x ∷ after)
  by_test others true is lt = subst (λ x. StandFor (map lost lines) (lost x ∷ after)) (sym (eqb-true x line is)) (left_out line lines)
  by_test others false is lt =
      let next : 1 + at ≡ suc at = omega arith in
      subst (λ n. StandFor (map lost (remove (x ∷ lines) n)) (lost x ∷ after)) (sym next)
      (stand_behind (lost x) (map lost (remove lines at)) after (others (omega (arith, lt))))

absent_at : (line : ℕ) (lines : List ℕ) → length lines ≤ prefix_len (λ it. not (eqb it line)) lines → AllByRecursion (λ it. it ≢ line) lines
absent_at line [] le = tt
absent_at line (x ∷ lines) le = by_test (absent_at line lines) (eqb x line) refl le where
  at : ℕ
  at = prefix_len (λ it. not (eqb it line)) lines

  differ : (a b : ℕ) → eqb a b ≡ false → a ≢ b
  differ a b is same = grind (arith, nat_tests)

  by_test : (length lines ≤ at → AllByRecursion (λ it. it ≢ line) lines) → (b : Bool) → eqb x line ≡ b → length (x ∷ lines) ≤ cond (not b) (1 + at) 0
      → AllByRecursion (λ it. it ≢ line) (x ∷ lines)
  by_test others true is le = absurd (omega (arith, le))
  by_test others false is le = (λ same. differ x line is same, others (omega (arith, le)))

-- The loss that was held longest of its line is dropped.
pub released : (line at : ℕ) (lines : List ℕ) → Some at ≡ position (λ it. eqb it line) lines
    → StandFor (map lost (remove lines at)) (map lost lines ++ back line ∷ [])
released line at lines is = by_test (nat_lt place (length lines)) refl is where
  place : ℕ
  place = position_or_len (λ it. eqb it line) lines

  below : (k n : ℕ) → nat_lt k n ≡ true → k < n
  below k n h = grind (arith, nat_tests)

  by_test : (b : Bool) → nat_lt place (length lines) ≡ b → Some at ≡ cond b (Some place) None → StandFor (map lost (remove lines at)) (map lost lines ++ back line ∷ [])
  by_test true here is = let same : at ≡ place = cc in rw same (released_at line lines (below place (length lines) here))
  by_test false here is = absurd (cc)

-- None is held.
pub absent : (line : ℕ) (lines : List ℕ) → None ≡ position (λ it. eqb it line) lines → AllByRecursion (λ it. it ≢ line) lines
absent line lines is = by_test (nat_lt place (length lines)) refl is where
  place : ℕ
  place = position_or_len (λ it. eqb it line) lines

  past : (k n : ℕ) → nat_lt k n ≡ false → n ≤ k
  past k n h = grind (arith, nat_tests)

  by_test : (b : Bool) → nat_lt place (length lines) ≡ b → None ≡ cond b (Some place) None → AllByRecursion (λ it. it ≢ line) lines
  by_test true here is = absurd (cc)
  by_test false here is = absent_at line lines (past place (length lines) here)

-- a notice of this kind and line
pub is_notice : (notice : Notice) (kind : Kind) (line : ℕ) → notice.kind ≡ kind → notice.line ≡ Some line → notice ≡ record { kind = kind; line = Some line }
is_notice notice kind line is_kind is_line = λ i. record { kind = is_kind i; line = is_line i }

-- What is said of one line is said of the line of a notice.
pub of_notice : (notice : Notice) (line : ℕ) (lines : List ℕ) → notice.line ≡ Some line → AllByRecursion (λ it. it ≢ line) lines
    → (other : ℕ) → notice ≡ back other → AllByRecursion (λ it. it ≢ other) lines
of_notice notice line lines is none other same =
    let some : Some line ≡ Some other = sym is ∙ ap (λ (n : Notice). n.line) same in
    let also : line ≡ other = cc in
    subst (λ other. AllByRecursion (λ it. it ≢ other) lines) also none

-- one more loss is held
pub held_more : (notice : Notice) (line : ℕ) (lines more : List ℕ) → notice ≡ lost line → more ≡ lines ++ line ∷ [] → StandFor (map lost more) (map lost lines ++ notice ∷ [])
held_more notice line lines more is_lost is_more =
    subst (λ n. StandFor (map lost more) (map lost lines ++ n ∷ [])) (sym is_lost)
    (subst (λ l. StandFor l (map lost lines ++ lost line ∷ [])) (sym (ap (map lost) is_more ∙ map-append lost lines (line ∷ []))) all)
