-- The file cmdvartab: texts for people, by the names of variables and commands.
use Rattle.std.specs.Prelude.{ℕ, ◌==◌, Bool, false, List, [], ◌∷◌, length, map, codes, if◌then◌else◌, Some, Result, Ok, Err}
use Rattle.std.specs.Str.{bytes_eq}
use Rattle.nut_words.specs.declared.limits.TheConstants.{NAME_MAX}
use Rattle.nut_conf.specs.declared.limits.TheConstants.{DESCRIPTION_MAX, DESCRIPTIONS_MAX}
use Rattle.nut_conf.specs.Faults.{◌>>=◌}
use Rattle.nut_conf.specs.Values.{Words, nth, name, text}
use Rattle.nut_conf.specs.Settings.{Setting, Description, Rule, line_fault, distinct}
use Rattle.nut_conf.specs.Rows.{Row, list_row, directives_of, line_grows, RowsHold}
use Rattle.nut_conf.specs.Files.{LineFault}
use Rattle.nut_conf.specs.declared.fault.FaultKind.{FaultKind}
use Rattle.nut_conf.specs.declared.fault.FaultKind.TheVariants.{BadForm}
use Rattle.nut_conf.specs.declared.text.Name.{Name}
use Rattle.nut_conf.specs.declared.text.Text.{Text}
use Rattle.nut_conf.specs.declared.values.Form.TheVariants.{Plain}
use Rattle.nut_conf.specs.declared.texts.Texts.{Texts}
use Rattle.nut_conf.specs.declared.descriptions.Descriptions.{Descriptions}
use Rattle.nut_conf.specs.declared.descriptions.DescriptionDirective.{DescriptionDirective}
use Rattle.nut_conf.specs.declared.descriptions.DescriptionDirective.TheVariants.{Variable, Command}

-- a name and a text
abbrev pub description_value : Words → Result Setting FaultKind
description_value vs =
    if length vs == 2 then name NAME_MAX (nth vs 0) >>= (λ n. text 0 DESCRIPTION_MAX (nth vs 1) >>= (λ t. Ok (Description n t)))
    else Err BadForm

-- two lines on one name; the case of letters counts
abbrev pub same_described : Setting → Setting → Bool
same_described (Description n _) (Description m _) = bytes_eq n m
same_described _ _ = false

-- both directives are read alike: at most DESCRIPTIONS_MAX lines, and no name twice
abbrev pub description_rule : Rule
description_rule = distinct same_described (Some DESCRIPTIONS_MAX) Plain description_value

-- a name and its text, without where they lie in memory
abbrev pub row_of : Name NAME_MAX × Text 0 DESCRIPTION_MAX → List ℕ × List ℕ
row_of e = (e.0.bytes.items, e.1.bytes.items)

-- the names and their texts, in the order of the file
abbrev pub rows_of : Texts → List (List ℕ × List ℕ)
rows_of t = map row_of t.by_name.entries

-- what a line sets that has this name and this text
abbrev pub described : List ℕ × List ℕ → Setting
described row = Description row.0 row.1

-- the directives of the file
abbrev pub description_row : DescriptionDirective → Row Descriptions
description_row Variable = list_row (codes "VARDESC") description_rule described (λ (c : Descriptions). rows_of c.variables)
description_row Command = list_row (codes "CMDDESC") description_rule described (λ (c : Descriptions). rows_of c.commands)

-- the rows of the table
abbrev pub description_rows : List DescriptionDirective
description_rows = Variable ∷ Command ∷ []

-- whether a line adds to a list, and so allocates memory for what it sets
abbrev pub descriptions_grow : Words → Bool
descriptions_grow = line_grows description_row description_rows

-- the first fault of a line of cmdvartab
abbrev pub descriptions_fault : LineFault
descriptions_fault = line_fault (directives_of description_row description_rows)

-- the descriptions are those that the lines of the file set
abbrev pub DescriptionsHold : Descriptions → List Words → Type 0
DescriptionsHold = RowsHold description_row
