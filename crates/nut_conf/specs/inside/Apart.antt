-- For private functions, nothing here has to be believed: what isn't set by the line of a directive.
use Rattle.std.specs.Prelude.{ℕ, List, [], map, if◌then◌else◌}
use Rattle.std.specs.Str.{bytes_eq}
use Rattle.nut_conf.specs.Settings.{Setting}
use Rattle.nut_conf.specs.Rows.{Row}

-- what a configuration has set for each row apart from the one with this word
abbrev pub set_apart : {C D : Type 0} → (D → Row C) → List D → List ℕ → C → List (List Setting)
set_apart row rows word c = map (λ d. if bytes_eq word (row d).directive.word then [] else (row d).set c) rows
