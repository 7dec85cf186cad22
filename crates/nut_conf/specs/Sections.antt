-- Files that consist of sections. A section begins with its name in brackets.
use Rattle.std.specs.Prelude.{◌≡◌, ℕ, ◌-◌, ◌==◌, Bool, ◌&&◌, ◌||◌, List, [], ◌∷◌, is_some, length, map, nat_le, if◌then◌else◌, slice_index, slice_range, Option, None, Some, Result, Ok, Err}
use Rattle.std.specs.List.{list_any}
use Rattle.std.specs.Option.{option_map_or}
use Rattle.std.specs.Result.{result_err}
use Rattle.std.specs.Str.{bytes_eq}
use Rattle.nut_words.specs.declared.limits.TheConstants.{UPS_NAME_MAX}
use Rattle.nut_conf.specs.Bytes.{closing_bracket, opening_bracket}
use Rattle.nut_conf.specs.Faults.{◌>>=◌}
use Rattle.nut_conf.specs.Values.{Words, nth, name}
use Rattle.nut_conf.specs.declared.text.Name.{Name}
use Rattle.nut_conf.specs.declared.fault.FaultKind.{FaultKind}
use Rattle.nut_conf.specs.declared.fault.FaultKind.TheVariants.{OutsideSection, Repeated, PastLimit}

-- the bytes between `[` and `]`, if the word begins and ends with these
abbrev pub bracketed : List ℕ → Option (List ℕ)
bracketed w =
    if nat_le 2 (length w) && (slice_index w 0 == opening_bracket) && (slice_index w (length w - 1) == closing_bracket)
    then Some (slice_range w 1 (length w - 1)) else None

-- the name in a section line, which is one word in brackets
abbrev pub section_name : Words → Option (List ℕ)
section_name ws = if length ws == 1 then bracketed (nth ws 0) else None

-- the lines up to the next section line
abbrev pub body : List Words → List Words
body [] = []
body (ws ∷ rest) = option_map_or (λ _. []) (section_name ws) (ws ∷ body rest)

-- a section: its name and its lines
abbrev pub Section : Type 0
Section = List ℕ × List Words

-- the sections of a file, in order; lines before the first section line belong to none
abbrev pub sections : List Words → List Section
sections [] = []
sections (ws ∷ rest) = option_map_or (λ n. (n, body rest) ∷ sections rest) (section_name ws) (sections rest)

-- the last section
abbrev pub last : List Section → Option Section
last [] = None
last (s ∷ []) = Some s
last (s ∷ t ∷ rest) = last (t ∷ rest)

-- whether the section has this name
abbrev pub is_name_of : List ℕ → Section → Bool
is_name_of n s = bytes_eq n s.0

-- the name, if a section with it may begin; else the fault
abbrev pub opens : ℕ → List Section → List ℕ → Result (List ℕ) FaultKind
opens most earlier bytes =
    name UPS_NAME_MAX bytes >>= (λ n.
    if list_any (is_name_of n) earlier then Err Repeated
    else if nat_le most (length earlier) then Err PastLimit
    else Ok n)

-- The first fault of a line in a file of at most `most` sections, given the lines before it and the fault of a line
-- within a section.
abbrev pub sectioned_fault : (List Words → Words → Option FaultKind) → ℕ → List Words → Words → Option FaultKind
sectioned_fault fault most before ws =
    option_map_or (λ n. result_err (opens most (sections before) n)) (section_name ws)
    (option_map_or (λ s. fault s.1 ws) (last (sections before)) (Some OutsideSection))

-- Whether a line adds a section, or adds to a list within a section.
abbrev pub sectioned_grows : (Words → Bool) → Words → Bool
sectioned_grows grows ws = is_some (section_name ws) || grows ws

-- The entries are the sections, in order: each has the section's name and holds what its lines set.
abbrev pub AllHold : {S : Type 0} → (S → List Words → Type 0) → List (Name UPS_NAME_MAX × S) → List Section → Type 0
AllHold holds [] [] = Unit {0}
AllHold holds [] (s ∷ ss) = ⊥
AllHold holds (e ∷ es) [] = ⊥
AllHold holds (e ∷ es) (s ∷ ss) = (e.0.bytes.items ≡ s.0) × holds e.1 s.1 × AllHold holds es ss

-- whether the name has these bytes
abbrev pub is_named : List ℕ → Name UPS_NAME_MAX → Bool
is_named bytes n = bytes_eq bytes n.bytes.items

-- the bytes of the names
abbrev pub names_in : List (Name UPS_NAME_MAX) → List (List ℕ)
names_in names = map (λ n. n.bytes.items) names
