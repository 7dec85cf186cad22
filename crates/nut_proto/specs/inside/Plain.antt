-- Where the words of a plain query lie.
use Rattle.std.specs.Prelude.{◌≡◌, ℕ, ◌+◌, true, List, [], ◌∷◌, ◌++◌, length, codes}
use Rattle.nut_words.specs.Bytes.{blank, line_feed}
use Rattle.nut_words.specs.Quoting.{stands_bare}
use Rattle.nut_proto.specs.declared.plain.PlainQuery.{PlainQuery}
use Rattle.nut_proto.specs.declared.plain.PlainQuery.TheVariants.{GetVar}

-- The line is that of a GET VAR about these bare words.
abbrev pub AsksFor : List ℕ → List ℕ → List ℕ → Type 0
AsksFor ups variable line =
    (line ≡ codes "GET VAR " ++ (ups ++ blank ∷ (variable ++ line_feed ∷ []))) × (stands_bare ups ≡ true) × (stands_bare variable ≡ true)

-- The line is that of a GET VAR, in which the name of the variable begins at this place.
abbrev pub IsGetVar : List ℕ → ℕ → Type 0
IsGetVar line at = (ups : List ℕ) × (variable : List ℕ) × AsksFor ups variable line × (at ≡ length ups + 9)

-- If the query is a GET VAR, the line holds its words.
abbrev pub LiesIn : List ℕ → PlainQuery → Type 0
LiesIn line (GetVar front ups variable) = AsksFor ups.now variable.now line
LiesIn line query = Unit {0}
