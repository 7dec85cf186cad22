-- Laws of every file: lines without words change nothing, the names of sections are distinct, and the settings of a
-- directive keep its rule.
use Rattle.std.specs.Prelude.{◌≡◌, ℕ, ◌≤◌, Bool, false, List, [], ◌∷◌, ◌++◌, length, map, Option, None, Some, Result, Ok, Err}
use Rattle.std.specs.List.{IsDistinct, list_any}
use Rattle.std.specs.Str.{bytes_eq}
use Rattle.nut_conf.specs.Files.{LineFault, read_lines, words_of}
use Rattle.nut_conf.specs.Sections.{Section}
use Rattle.nut_conf.specs.Settings.{Directive, Rule, Setting, settings}
use Rattle.nut_conf.specs.declared.fault.FaultKind.{FaultKind}

-- what was read, or the kind of the first fault, without the number of its line
abbrev pub unnumbered : {X : Type 0} → Result X (ℕ × FaultKind) → Result X FaultKind
unnumbered (Ok x) = Ok x
unnumbered (Err f) = Err f.1

-- If a line without words is added anywhere, the lines mean the same, or have the same kind of fault.
abbrev pub BlankChangesNothing : LineFault → Type 0
BlankChangesNothing fault =
    (front rest : List (List ℕ)) (blank : List ℕ) → words_of blank ≡ Ok []
    → unnumbered (read_lines fault [] 1 (front ++ blank ∷ rest)) ≡ unnumbered (read_lines fault [] 1 (front ++ rest))

-- No section has the name of another.
abbrev pub HasDistinctNames : List Section → Type 0
HasDistinctNames ss = IsDistinct bytes_eq (map (λ s. s.0) ss)

-- There are at most `most` settings, if there is a limit.
abbrev pub AreFew : Option ℕ → List Setting → Type 0
AreFew None set = Unit {0}
AreFew (Some most) set = length set ≤ most

-- No setting clashes with one before it.
abbrev pub AreApart : (Setting → Setting → Bool) → List Setting → Type 0
AreApart clashes [] = Unit {0}
AreApart clashes (s ∷ later) = (list_any (λ other. clashes other s) later ≡ false) × AreApart clashes later

-- The settings keep the rule of their directive: no two clash, and there are at most as many as the rule allows.
pub record KeepRule (rule : Rule) (set : List Setting) : Type 0 where
  pub apart : AreApart rule.clashes set
  pub few : AreFew rule.most set

-- In each section, the settings of the directive keep its rule.
abbrev pub EachKeepsRule : Directive → List Section → Type 0
EachKeepsRule d [] = Unit {0}
EachKeepsRule d (s ∷ ss) = KeepRule d.rule (settings d s.1) × EachKeepsRule d ss
