-- The variables that clients may set: this project's own.
use Rattle.std.specs.Prelude.{ℕ, ℤ, pos, ◌&&◌, Bool, true, false, List, [], ◌∷◌, Option, Some, None, codes, length, find, nat_le, int_le}
use Rattle.std.specs.List.{list_any}
use Rattle.std.specs.Option.{option_map_or}
use Rattle.std.specs.Str.{bytes_eq}
use Rattle.nut_state.specs.declared.number.Range.{Range}
use Rattle.nut_state.specs.declared.variable.Flags.{Flags}
use Rattle.nut_state.specs.Attribute.{no_flags, lists_enum}
use Rattle.nut_state.specs.Number.{whole_number}
use Rattle.nut_dummy.specs.declared.writable.Writable.{Writable}
use Rattle.nut_dummy.specs.Item.{is_value}
use Rattle.nut_dummy.specs.declared.writable.Writable.TheVariants.{ChargeLow, RuntimeLow, Sensitivity, ShutdownDelay, Id}

-- what a driver reports of a variable besides its value
pub record Attributes : Type 0 where
  pub flags : Flags
  pub aux : ℕ
  pub enums : List (List ℕ)
  pub ranges : List Range

abbrev pub name_of : Writable → List ℕ
name_of ChargeLow = codes "battery.charge.low"
name_of RuntimeLow = codes "battery.runtime.low"
name_of Sensitivity = codes "input.sensitivity"
name_of ShutdownDelay = codes "ups.delay.shutdown"
name_of Id = codes "ups.id"

abbrev pub number_up_to : ℤ → Attributes
number_up_to most = record {
  flags = record { writable = true; string = false; number = true };
  aux = 0;
  enums = [];
  ranges = record { minimum = pos 0; maximum = most } ∷ [];
}

abbrev pub text_of : ℕ → List (List ℕ) → Attributes
text_of most enums = record { flags = record { writable = true; string = true; number = false }; aux = most; enums = enums; ranges = [] }

abbrev pub attributes : Writable → Attributes
attributes ChargeLow = number_up_to (pos 100)
attributes RuntimeLow = number_up_to (pos 86400)
attributes Sensitivity = text_of 8 (codes "low" ∷ codes "medium" ∷ codes "high" ∷ [])
attributes ShutdownDelay = number_up_to (pos 600)
attributes Id = text_of 16 []

abbrev pub all_writable : List Writable
all_writable = ChargeLow ∷ RuntimeLow ∷ Sensitivity ∷ ShutdownDelay ∷ Id ∷ []

-- the writable variable of a name, if there is one
unfoldable pub writable_of : List ℕ → Option Writable
writable_of name = find (λ w. bytes_eq (name_of w) name) all_writable

-- A variable that clients may not set has only a value.
abbrev pub attributes_of : Option Writable → Attributes
attributes_of w = option_map_or attributes w (record { flags = no_flags; aux = 0; enums = []; ranges = [] })

-- ---- what it may be set to

abbrev pub is_within : Option ℤ → Range → Bool
is_within None range = false
is_within (Some n) range = int_le range.minimum n && int_le n range.maximum

-- What a value has to fit depends on the first of these that the variable has: enum values, ranges, a string's length.
-- Else any value fits.
abbrev pub fits_kind : List (List ℕ) → List Range → Bool → ℕ → List ℕ → Bool
fits_kind (first ∷ more) ranges is_string aux value = lists_enum value (first ∷ more)
fits_kind [] (first ∷ more) is_string aux value = list_any (is_within (whole_number value)) (first ∷ more)
fits_kind [] [] true aux value = nat_le (length value) aux
fits_kind [] [] false aux value = true

-- A writable variable may be set to a value that isn't too long and fits.
abbrev pub fits : Attributes → List ℕ → Bool
fits a value = is_value value && fits_kind a.enums a.ranges a.flags.string a.aux value

-- whether a client may set the variable of this name to this value
abbrev pub may_be : List ℕ → List ℕ → Bool
may_be name value = option_map_or (λ w. fits (attributes w) value) (writable_of name) false
