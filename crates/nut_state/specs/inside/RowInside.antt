-- The name and the value inside a row's end.
use Rattle.std.specs.Prelude.{◌≡◌, ℕ, ◌+◌, ◌-◌, ◌≤◌, true, List, [], ◌∷◌, ◌++◌, length, slice_range, take}
use Rattle.nut_words.specs.Bytes.{blank, line_feed, quote}
use Rattle.nut_words.specs.declared.limits.TheConstants.{VALUE_MAX}
use Rattle.nut_state.specs.Row.{Named, is_unescaped}
use Rattle.nut_state.specs.Text.{is_name}
use Rattle.nut_state.specs.declared.row_end.RowEnd.TheInside.{Inside}

-- the bytes before the blank are the name, and those between the quotes the value
abbrev pub named_in : Inside → Named
named_in r = record {
  name = take r.name_len r.text.items;
  value = slice_range r.text.items (r.name_len + 2) (length r.text.items - 2);
}

-- a name and a value as they are kept: a blank between them, the value between quotes, and a line feed at the end
abbrev pub row_text : Named → List ℕ
row_text named = named.name ++ blank ∷ quote ∷ (named.value ++ quote ∷ line_feed ∷ [])

-- A row's end keeps this name and this value, and knows whether a byte of the value would be escaped.
pub record Keeps (r : Inside) (named : Named) : Type 0 where
  pub text : r.text.items ≡ row_text named
  pub name_len : r.name_len ≡ length named.name
  pub is_name : is_name named.name ≡ true
  pub within : length named.value ≤ VALUE_MAX
  pub unescaped : r.unescaped ≡ is_unescaped named.value

-- A row's end keeps the name and the value that are seen in it.
abbrev pub IsRowEnd : Inside → Type 0
IsRowEnd r = Keeps r (named_in r)
