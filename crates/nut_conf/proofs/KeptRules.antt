-- In a file that reads without a fault, the settings of each directive keep its rule.
use Rattle.std.proofs.Common.{◌≡◌, ℕ, ◌<◌, Bool, true, false, cond, List, [], ◌∷◌, ◌++◌, length, Option, None, Some, Result, Ok, Err, refl, sym, ap, ◌∙◌, subst, arith, length-append}
use Rattle.std.specs.List.{list_any}
use Rattle.std.specs.Option.{option_map_or}
use Rattle.std.specs.Result.{result_err}
use Rattle.std.proofs.lemmas.Bool.Decides.{nat_tests}
use Rattle.std.proofs.lemmas.List.Folds.{list_any-append}
use Rattle.std.proofs.lemmas.Slice.Eq.{bytes_eq-Decides}
use Rattle.std.proofs.lemmas.Bool.{or_parts}
use Rattle.nut_conf.specs.Faults.{◌>>=◌}
use Rattle.nut_conf.specs.Values.{Words, nth}
use Rattle.nut_conf.specs.Settings.{Directive, Rule, Setting, accepts, added, directive_of, is_full, line_fault, names, setting, settings}
use Rattle.nut_conf.specs.Files.{read_file}
use Rattle.nut_conf.specs.Sections.{Section, last, opens, section_name, sectioned_fault, sections}
use Rattle.nut_conf.specs.laws.Laws.{AreApart, AreFew, EachKeepsRule, KeepRule}
use Rattle.nut_conf.specs.declared.fault.FaultKind.{FaultKind}
use Rattle.nut_conf.specs.declared.fault.FaultKind.TheVariants.{OutsideSection, PastLimit, Repeated, UnknownDirective}
use Rattle.nut_conf.proofs.DraftLemmas.{settings-more, settings-other}
use Rattle.nut_conf.proofs.SectionLemmas.{sections-more, sections-opens, with_line_in}
use Rattle.nut_conf.proofs.DistinctNames.{keeps_file}

apart-push : (clashes : Setting → Setting → Bool) (xs : List Setting) (s : Setting) → AreApart clashes xs → list_any (clashes s) xs ≡ false → AreApart clashes (xs ++ s ∷ [])
apart-push clashes [] s all new = (refl, tt)
apart-push clashes (x ∷ xs) s all new = (
  list_any-append (λ other. clashes other x) xs (s ∷ []) ∙ rw (all.0, (or_parts (clashes s x) (list_any (clashes s) xs) new).0) refl,
  apart-push clashes xs s all.1 (or_parts (clashes s x) (list_any (clashes s) xs) new).1,
)

few-none : (most : Option ℕ) → AreFew most []
few-none None = tt
few-none (Some n) = omega arith

few-push : (most : Option ℕ) (xs : List Setting) (s : Setting) → is_full most (length xs) ≡ false → AreFew most (xs ++ s ∷ [])
few-push None xs s room = tt
few-push (Some n) xs s room = let below : length xs < n = grind (arith, nat_tests) in omega (arith, length-append xs (s ∷ []))

-- a setting that may be added: it clashes with none, and there is room for it
record IsTaken (r : Rule) (earlier : List Setting) (s : Setting) : Type 0 where
  apart : list_any (r.clashes s) earlier ≡ false
  room : is_full r.most (length earlier) ≡ false

taken : (r : Rule) (earlier : List Setting) (s : Setting) → result_err (added r earlier s) ≡ None → IsTaken r earlier s
taken r earlier s ok = by (list_any (r.clashes s) earlier) (is_full r.most (length earlier)) refl refl ok where
  by : (a b : Bool) → list_any (r.clashes s) earlier ≡ a → is_full r.most (length earlier) ≡ b
      → result_err (cond a (Err Repeated) (cond b (Err PastLimit) (Ok (earlier ++ s ∷ [])))) ≡ None → IsTaken r earlier s
  by false false e f h = record { apart = e; room = f }
  by _ _ e f h = absurd (cc)

keep-push : (r : Rule) (earlier : List Setting) (s : Setting) → KeepRule r earlier → IsTaken r earlier s → KeepRule r (earlier ++ s ∷ [])
keep-push r earlier s k t = record { apart = apart-push r.clashes earlier s k.apart t.apart; few = few-push r.most earlier s t.room }

-- A directive that its word finds keeps its rule when one line is added.
module _ (directives : List Directive) (d : Directive) (found : directive_of d.word directives ≡ Some d) where
  -- the fault of a line, by the directive that it names
  abbrev of_directive : List Words → Words → Option Directive → Option FaultKind
  of_directive before ws o = option_map_or (λ e. result_err (accepts e.rule (settings e before) ws)) o (Some UnknownDirective)

  keep-line : (before : List Words) (ws : Words) → line_fault directives before ws ≡ None → KeepRule d.rule (settings d before) → KeepRule d.rule (settings d (before ++ ws ∷ []))
  keep-line before ws ok k = by_name (names ws d) refl where
    by_setting : (r : Result Setting FaultKind) → setting d.rule ws ≡ r → names ws d ≡ true → result_err (r >>= added d.rule (settings d before)) ≡ None
        → KeepRule d.rule (settings d (before ++ ws ∷ []))
    by_setting (Ok s) is here none =
        subst (KeepRule d.rule) (sym (settings-more d before ws s here is)) (keep-push d.rule (settings d before) s k (taken d.rule (settings d before) s none))
    by_setting (Err e) is here none = absurd (cc)

    by_name : (b : Bool) → names ws d ≡ b → KeepRule d.rule (settings d (before ++ ws ∷ []))
    by_name false here = subst (KeepRule d.rule) (sym (settings-other d before ws here)) k
    by_name true here =
        let word : nth ws 0 ≡ d.word = (bytes_eq-Decides (nth ws 0) d.word).0 here in
        let mine : line_fault directives before ws ≡ result_err (accepts d.rule (settings d before) ws) = ap (λ w. of_directive before ws (directive_of w directives)) word ∙ ap (of_directive before ws) found in
        by_setting (setting d.rule ws) refl here (sym mine ∙ ok)

  pub keeps_rule : (file : List ℕ) (lines : List Words) → read_file (line_fault directives) file ≡ Ok lines → KeepRule d.rule (settings d lines)
  keeps_rule file lines is = keeps_file (line_fault directives) (λ before. KeepRule d.rule (settings d before)) keep-line file lines (record { apart = tt; few = few-none d.rule.most }) is

  -- The settings of each section keep the rule when one line is added.
  opened : (ss : List Section) (n : List ℕ) → EachKeepsRule d ss → EachKeepsRule d (ss ++ (n, []) ∷ [])
  opened [] n all = (record { apart = tt; few = few-none d.rule.most }, tt)
  opened (s ∷ ss) n all = (all.0, opened ss n all.1)

  inside : (ss : List Section) (ws : Words) → option_map_or (λ (s : Section). line_fault directives s.1 ws) (last ss) (Some OutsideSection) ≡ None → EachKeepsRule d ss → EachKeepsRule d (with_line_in ss ws)
  inside [] ws ok all = absurd (cc)
  inside (s ∷ []) ws ok all = (keep-line s.1 ws ok all.0, tt)
  inside (s ∷ t ∷ ss) ws ok all = (all.0, inside (t ∷ ss) ws ok all.1)

  module _ (most : ℕ) where
    each-line : (before : List Words) (ws : Words) → sectioned_fault (line_fault directives) most before ws ≡ None → EachKeepsRule d (sections before) → EachKeepsRule d (sections (before ++ ws ∷ []))
    each-line before ws ok all =
        elim (section_name ws) as (λ o. section_name ws ≡ o
        → option_map_or (λ n. result_err (opens most (sections before) n)) o (option_map_or (λ s. line_fault directives s.1 ws) (last (sections before)) (Some OutsideSection)) ≡ None
        → EachKeepsRule d (sections (before ++ ws ∷ []))) [
          | None ↦ λ here ok. subst (EachKeepsRule d) (sym (sections-more before ws here)) (inside (sections before) ws ok all)
          | Some n ↦ λ here ok. subst (EachKeepsRule d) (sym (sections-opens before ws n here)) (opened (sections before) n all)
        ] refl ok

    pub each_keeps_rule : (file : List ℕ) (lines : List Words) → read_file (sectioned_fault (line_fault directives) most) file ≡ Ok lines → EachKeepsRule d (sections lines)
    each_keeps_rule file lines is = keeps_file (sectioned_fault (line_fault directives) most) (λ before. EachKeepsRule d (sections before)) each-line file lines tt is
