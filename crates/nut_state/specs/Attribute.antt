-- What a variable has besides its name and value: flags, enum values and ranges.
use Rattle.std.specs.Prelude.{ℕ, ◌&&◌, Bool, false, not, List, length, nat_lt, nat_le}
use Rattle.std.specs.List.{list_any}
use Rattle.std.specs.Str.{bytes_eq}
use Rattle.std.specs.Ordering.{int_eq}
use Rattle.nut_words.specs.declared.limits.TheConstants.{VALUE_MAX}
use Rattle.nut_state.specs.declared.limits.TheConstants.{ENUMS_MAX, RANGES_MAX}
use Rattle.nut_state.specs.declared.variable.Flags.{Flags}
use Rattle.nut_state.specs.declared.number.Range.{Range}

-- No flags. A variable has none before a SETFLAGS.
abbrev pub no_flags : Flags
no_flags = record { writable = false; string = false; number = false }

-- Two ranges are the same if both their numbers are.
abbrev pub same_range : Range → Range → Bool
same_range a b = int_eq a.minimum b.minimum && int_eq a.maximum b.maximum

-- Whether the text is among the listed enum values.
abbrev pub lists_enum : List ℕ → List (List ℕ) → Bool
lists_enum text listed = list_any (λ other. bytes_eq other text) listed

-- Whether an enum value may be added to those listed: it is short enough, there is room, and it isn't listed.
abbrev pub takes_enum : List ℕ → List (List ℕ) → Bool
takes_enum text listed = nat_le (length text) VALUE_MAX && nat_lt (length listed) ENUMS_MAX && not (lists_enum text listed)

-- Whether the range is among those listed.
abbrev pub lists_range : Range → List Range → Bool
lists_range range listed = list_any (λ other. same_range other range) listed

-- Whether a range may be added to those listed: there is room, and it isn't listed.
abbrev pub takes_range : Range → List Range → Bool
takes_range range listed = nat_lt (length listed) RANGES_MAX && not (lists_range range listed)
