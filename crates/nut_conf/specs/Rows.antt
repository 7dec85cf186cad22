-- Tables of directives: how the lines of each are read, and what a configuration has set for it. The range of a value
-- is that of the type of its field.
use Rattle.std.specs.Prelude.{◌≡◌, ℕ, Bool, true, false, List, [], ◌∷◌, map, if◌then◌else◌, Option, Result}
use Rattle.std.specs.List.{find}
use Rattle.std.specs.Option.{option_map, option_map_or, option_to_list}
use Rattle.std.specs.Str.{bytes_eq}
use Rattle.nut_conf.specs.Values.{Words, nth}
use Rattle.nut_conf.specs.Settings.{Setting, Number, Text, Rule, Directive, settings, once, name_value, text_value, number_value}
use Rattle.nut_conf.specs.declared.fault.FaultKind.{FaultKind}
use Rattle.nut_conf.specs.declared.lines.Lines.{Lines}
use Rattle.nut_conf.specs.declared.text.Name.{Name}
use Rattle.nut_conf.specs.declared.text.NumberOr.{NumberOr}
use Rattle.nut_conf.specs.declared.text.Text.{Text as TextField}
use Rattle.nut_conf.specs.declared.values.Form.{Form}
use Rattle.nut_conf.specs.declared.values.Form.TheVariants.{Plain}

-- a row of a table: the directive; whether its lines add to a list, and so allocate memory for what they set; and what a
-- configuration has set for it
pub record Row (C : Type 0) : Type 0 where
  pub directive : Directive
  pub grows : Bool
  pub set : C → List Setting

-- a directive that is allowed once, with its field, and the setting that the field's value represents
abbrev pub once_row : {C T : Type 0} → List ℕ → Form → (Words → Result Setting FaultKind) → (T → Setting) → (C → Option T) → Row C
once_row word form reads seen field = record {
  directive = record { word = word; rule = once form reads };
  grows = false;
  set = λ c. option_to_list (option_map seen (field c));
}

-- a directive with a name that is allowed once
abbrev pub name_row : {C : Type 0} {most : ℕ} → List ℕ → Form → (C → Option (Name most)) → Row C
name_row {most} word form field = once_row word form (name_value most) (λ n. Text n.bytes.items) field

-- a directive with a text that is allowed once
abbrev pub text_row : {C : Type 0} {least most : ℕ} → List ℕ → Form → (C → Option (TextField least most)) → Row C
text_row {least} {most} word form field = once_row word form (text_value least most) (λ t. Text t.bytes.items) field

-- the number that a line has set, if one has
abbrev pub number_set : {least most default : ℕ} → NumberOr least most default → List Setting
number_set n = if n.is_set then Number n.value ∷ [] else []

-- a directive with a number that is allowed once
abbrev pub number_row : {C : Type 0} {least most default : ℕ} → List ℕ → (C → NumberOr least most default) → Row C
number_row {least} {most} word field = record {
  directive = record { word = word; rule = once Plain (number_value least most) };
  grows = false;
  set = λ c. number_set (field c);
}

-- a directive that is allowed more than once, with its list, and the setting that a value in it represents
abbrev pub list_row : {C T : Type 0} → List ℕ → Rule → (T → Setting) → (C → List T) → Row C
list_row word rule seen field = record {
  directive = record { word = word; rule = rule };
  grows = true;
  set = λ c. map seen (field c);
}

module _ {C D : Type 0} (row : D → Row C) where
  -- all directives of a table with these rows
  abbrev pub directives_of : List D → List Directive
  directives_of rows = map (λ d. (row d).directive) rows

  -- the row with this word, if there is one
  abbrev pub row_of : List D → List ℕ → Option D
  row_of rows word = find (λ d. bytes_eq word (row d).directive.word) rows

  -- whether a line adds to a list
  abbrev pub line_grows : List D → Words → Bool
  line_grows rows ws = option_map_or (λ d. (row d).grows) (row_of rows (nth ws 0)) false

  -- The configuration holds what the lines set, for each directive.
  abbrev pub RowsHold : C → List Words → Type 0
  RowsHold c lines = (d : D) → (row d).set c ≡ settings (row d).directive lines

-- the least and the greatest number that a field takes, and its default
abbrev pub numbers_of : {C : Type 0} {least most default : ℕ} → (C → NumberOr least most default) → ℕ × ℕ × ℕ
numbers_of {least} {most} {default} field = (least, most, default)

-- the least and the greatest length of the text that a field takes
abbrev pub lengths_of : {C : Type 0} {least most : ℕ} → (C → Option (TextField least most)) → ℕ × ℕ
lengths_of {least} {most} field = (least, most)

-- the greatest number of values of a field that holds several
abbrev pub most_of : {C T : Type 0} {most : ℕ} → (C → Lines T most) → ℕ
most_of {most = most} field = most
