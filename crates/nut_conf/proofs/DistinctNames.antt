-- In a file that reads without a fault, no two sections have the same name.
use Rattle.std.proofs.Common.{◌≡◌, ℕ, ◌+◌, ◌==◌, Bool, true, false, cond, nat_lt, nat_le, List, [], ◌∷◌, ◌++◌, length, map, Option, None, Some, Result, Ok, Err, refl, sym, ap, subst}
use Rattle.std.specs.List.{AllByRecursion, IsDistinct, list_any}
use Rattle.std.specs.Option.{option_map_or}
use Rattle.std.specs.Result.{result_err}
use Rattle.std.specs.Str.{bytes_eq}
use Rattle.std.proofs.lemmas.Slice.Eq.{bytes_eq-Decides}
use Rattle.std.proofs.lemmas.Bool.{or_parts, cond_both, false_from_ne_true}
use Rattle.nut_conf.specs.Faults.{◌>>=◌}
use Rattle.nut_conf.specs.Values.{Words, name}
use Rattle.nut_conf.specs.Files.{LineFault, words_of, unless, with_line, at_line, read_lines, read_file, lines_of}
use Rattle.nut_conf.specs.Sections.{Section, section_name, sections, last, is_name_of, opens, sectioned_fault}
use Rattle.nut_conf.specs.laws.Laws.{HasDistinctNames}
use Rattle.nut_conf.specs.declared.fault.FaultKind.{FaultKind}
use Rattle.nut_conf.specs.declared.fault.FaultKind.TheVariants.{OutsideSection, Repeated, PastLimit}
use Rattle.nut_words.specs.declared.limits.TheConstants.{UPS_NAME_MAX}
use Rattle.nut_conf.proofs.SectionLemmas.{sections-opens, sections-more, with_line_in, name-same}
use Rattle.nut_conf.specs.declared.limits.TheConstants.{FILE_MAX}

abbrev Taken : List Words → Result (List Words) FaultKind
Taken lines = Ok lines

-- What holds before the first line, and is kept by each line without a fault, holds of a file that reads without a
-- fault.
module _ (fault : LineFault) (P : List Words → Type 0) (keeps : (before : List Words) (ws : Words) → fault before ws ≡ None → P before → P (before ++ ws ∷ [])) where
  keeps_line : (before more : List Words) (line : List ℕ) → P before → with_line fault before line ≡ Ok more → P more
  keeps_line before more line holds is = by_words (words_of line) is where
    by_fault : (ws : Words) (o : Option FaultKind) → fault before ws ≡ o → unless o (before ++ ws ∷ []) ≡ Ok more → P more
    by_fault ws None here is = let e : before ++ ws ∷ [] ≡ more = cc in subst P e (keeps before ws here holds)
    by_fault ws (Some k) here is = absurd (cc)

    by_test : (ws : Words) (b : Bool) → cond b (Taken before) (unless (fault before ws) (before ++ ws ∷ [])) ≡ Ok more → P more
    by_test ws true is = let e : before ≡ more = cc in subst P e holds
    by_test ws false is = by_fault ws (fault before ws) refl is

    by_words : (r : Result Words FaultKind) → (r >>= (λ ws. cond (length ws == 0) (Taken before) (unless (fault before ws) (before ++ ws ∷ [])))) ≡ Ok more → P more
    by_words (Ok ws) is = by_test ws (length ws == 0) is
    by_words (Err e) is = absurd (cc)

  keeps_lines : (lines : List (List ℕ)) (before after : List Words) (n : ℕ) → P before → read_lines fault before n lines ≡ Ok after → P after
  unfolding read_lines
  keeps_lines [] before after n holds is = let e : before ≡ after = cc in subst P e holds
  keeps_lines (line ∷ lines) before after n holds is =
      elim (with_line fault before line) as (λ r. with_line fault before line ≡ r → at_line n r (λ more. read_lines fault more (n + 1) lines) ≡ Ok after → P after) [
        | Ok more ↦ λ here later. keeps_lines lines more after (n + 1) (keeps_line before more line holds here) later
        | Err k ↦ λ here later. absurd (cc)
      ] refl is

  pub keeps_file : (file : List ℕ) (after : List Words) → P [] → read_file fault file ≡ Ok after → P after
  keeps_file file after holds is =
      cond_both (nat_lt FILE_MAX (length file)) (Err (0, PastLimit)) (read_lines fault [] 1 (lines_of file)) (λ r. r ≡ Ok after → P after)
      (λ _ e. absurd (cc)) (λ _ e. keeps_lines (lines_of file) [] after 1 holds e) is

bytes_eq-swap : (a b : List ℕ) → bytes_eq a b ≡ false → bytes_eq b a ≡ false
bytes_eq-swap a b h = false_from_ne_true (bytes_eq b a) (λ t.
    let again : bytes_eq a b ≡ true = (bytes_eq-Decides a b).1 (sym ((bytes_eq-Decides b a).0 t)) in
    absurd (cc))

abbrev names : List Section → List (List ℕ)
names ss = map (λ s. s.0) ss

abbrev IsApartFrom : List ℕ → List ℕ → Type 0
IsApartFrom m n = bytes_eq m n ≡ false

apart-push : (m : List ℕ) (ss : List Section) (n : List ℕ) → AllByRecursion (IsApartFrom m) (names ss) → IsApartFrom m n → AllByRecursion (IsApartFrom m) (names (ss ++ (n, []) ∷ []))
apart-push m [] n all apart = (apart, tt)
apart-push m (s ∷ ss) n all apart = (all.0, apart-push m ss n all.1 apart)

-- a new name after the others
distinct-push : (ss : List Section) (n : List ℕ) → HasDistinctNames ss → list_any (is_name_of n) ss ≡ false → HasDistinctNames (ss ++ (n, []) ∷ [])
unfolding IsDistinct
distinct-push [] n all new = (tt, tt)
distinct-push (s ∷ ss) n all new =
    let apart : bytes_eq s.0 n ≡ false = bytes_eq-swap n s.0 (or_parts (bytes_eq n s.0) (list_any (is_name_of n) ss) new).0 in
    (apart-push s.0 ss n all.0 apart, distinct-push ss n all.1 (or_parts (bytes_eq n s.0) (list_any (is_name_of n) ss) new).1)

names-with_line_in : (ss : List Section) (ws : Words) → names (with_line_in ss ws) ≡ names ss
names-with_line_in (s ∷ t ∷ ss) ws = ap (λ ns. s.0 ∷ ns) (names-with_line_in (t ∷ ss) ws)
names-with_line_in _ ws = refl

no_names : HasDistinctNames []
unfolding IsDistinct
no_names = tt

-- a section that may begin has a new name
new_name : (most : ℕ) (earlier : List Section) (bytes : List ℕ) → result_err (opens most earlier bytes) ≡ None → list_any (is_name_of bytes) earlier ≡ false
new_name most earlier bytes is = by_name (name UPS_NAME_MAX bytes) refl is where
  by_test : (n : List ℕ) (b : Bool) → list_any (is_name_of n) earlier ≡ b → result_err (cond b (Err Repeated) (cond (nat_le most (length earlier)) (Err PastLimit) (Ok n))) ≡ None → list_any (is_name_of n) earlier ≡ false
  by_test n true here is = absurd (cc)
  by_test n false here is = here

  by_name : (r : Result (List ℕ) FaultKind) → name UPS_NAME_MAX bytes ≡ r
      → result_err (r >>= (λ n. cond (list_any (is_name_of n) earlier) (Err Repeated) (cond (nat_le most (length earlier)) (Err PastLimit) (Ok n)))) ≡ None
      → list_any (is_name_of bytes) earlier ≡ false
  by_name (Ok n) here is =
      subst (λ (b : List ℕ). list_any (is_name_of b) earlier ≡ false) (name-same UPS_NAME_MAX bytes n here) (by_test n (list_any (is_name_of n) earlier) refl is)
  by_name (Err e) here is = absurd (cc)

module _ (fault : List Words → Words → Option FaultKind) (most : ℕ) where
  distinct_after : (before : List Words) (ws : Words) → sectioned_fault fault most before ws ≡ None → HasDistinctNames (sections before) → HasDistinctNames (sections (before ++ ws ∷ []))
  distinct_after before ws ok all =
      elim (section_name ws) as (λ o. section_name ws ≡ o
      → option_map_or (λ n. result_err (opens most (sections before) n)) o (option_map_or (λ s. fault s.1 ws) (last (sections before)) (Some OutsideSection)) ≡ None
      → HasDistinctNames (sections (before ++ ws ∷ []))) [
        | None ↦ λ here ok. subst HasDistinctNames (sym (sections-more before ws here)) (subst (IsDistinct bytes_eq) (sym (names-with_line_in (sections before) ws)) all)
        | Some n ↦ λ here ok. subst HasDistinctNames (sym (sections-opens before ws n here)) (distinct-push (sections before) n all (new_name most (sections before) n ok))
      ] refl ok

  pub distinct_names : (file : List ℕ) (lines : List Words) → read_file (sectioned_fault fault most) file ≡ Ok lines → HasDistinctNames (sections lines)
  distinct_names file lines is = keeps_file (sectioned_fault fault most) (λ before. HasDistinctNames (sections before)) distinct_after file lines no_names is
