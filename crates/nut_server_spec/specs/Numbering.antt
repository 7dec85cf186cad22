-- The numbers of the UPSes. Without a reload they are the places in the file, counted from 0. A reload keeps the number of
-- each name that both configurations have, and gives the other names the least free numbers.
use Rattle.std.specs.Prelude.{ℕ, zero, suc, ◌==◌, ◌+◌, Bool, true, false, if◌then◌else◌, List, [], ◌∷◌, ◌++◌, length, position, slice_get, Option, Some, None}
use Rattle.std.specs.List.{list_any}
use Rattle.std.specs.Option.{option_and_then, option_map_or}
use Rattle.std.specs.Str.{bytes_eq}
use Rattle.nut_server_spec.specs.Configuration.{Ups, number_of_ups}

-- The UPSes of a configuration, in the order of its file, and the number of each.
pub record Numbering : Type 0 where
  pub upses : List Ups
  pub numbers : List ℕ

-- these UPSes with these numbers
abbrev pub with_numbers : List Ups → List ℕ → Numbering
with_numbers upses numbers = record { upses = upses; numbers = numbers }

-- the number of the UPS with this name, if there is one
abbrev pub number_of : List ℕ → Numbering → Option ℕ
number_of name now = option_and_then (slice_get now.numbers) (number_of_ups name now.upses)

-- the UPS with this number, if there is one
abbrev pub ups_with : ℕ → Numbering → Option Ups
ups_with u now = option_and_then (slice_get now.upses) (position (λ n. n == u) now.numbers)

-- the numbers less than n, rising
abbrev pub below : ℕ → List ℕ
below zero = []
below (suc n) = below n ++ n ∷ []

-- ---- a new configuration

-- whether a number is among those that are in use
abbrev pub is_taken : ℕ → List ℕ → Bool
is_taken n taken = list_any (λ m. m == n) taken

-- the first number, of so many from n on, that is free; if none is, the number after them
abbrev pub first_free : ℕ → ℕ → List ℕ → ℕ
first_free zero n taken = n
first_free (suc more) n taken = if is_taken n taken then first_free more (n + 1) taken else n

-- the least number that is free
abbrev pub least_free : List ℕ → ℕ
least_free taken = first_free (length taken) 0 taken

-- the numbers that these UPSes keep of those before
abbrev pub kept_numbers : Numbering → List Ups → List ℕ
kept_numbers before [] = []
kept_numbers before (ups ∷ upses) =
    option_map_or (λ n. n ∷ kept_numbers before upses) (number_of ups.name before) (kept_numbers before upses)

-- the numbers of these UPSes: each keeps its number if it had one, else it gets the least that is free
abbrev pub given_numbers : Numbering → List ℕ → List Ups → List ℕ
given_numbers before taken [] = []
given_numbers before taken (ups ∷ upses) =
    option_map_or (λ n. n ∷ given_numbers before taken upses) (number_of ups.name before)
    (least_free taken ∷ given_numbers before (least_free taken ∷ taken) upses)

-- the numbers of the UPSes after a reload
abbrev pub renumbered : List Ups → Numbering → List ℕ
renumbered upses before = given_numbers before (kept_numbers before upses) upses

-- ---- what becomes of the UPS with a number

-- What a step makes of the UPS with a number. Every step keeps it but a reload.
pub data Fate : Type 0 where
  -- it stays as it is
  Kept : Fate
  -- its driver has changed: the old one is disconnected
  Disconnected : Fate
  -- the number is free, or another UPS has it: nothing is known of the UPS any more
  Cleared : Fate

-- what becomes of a number's UPS, if these have the number before and after
abbrev pub fate_between : Option Ups → Option Ups → Fate
fate_between None after = Cleared
fate_between (Some old) None = Cleared
fate_between (Some old) (Some new) =
    if bytes_eq old.name new.name then (if bytes_eq old.driver new.driver then Kept else Disconnected) else Cleared

-- what a reload of these UPSes makes of the UPS with the number u
abbrev pub fate_of : List Ups → Numbering → ℕ → Fate
fate_of upses before u = fate_between (ups_with u before) (ups_with u (with_numbers upses (renumbered upses before)))

-- A value of a UPS after its fate: the same if it was kept, `left` of it if its driver was disconnected, and `start` if the
-- UPS was cleared.
abbrev pub by_fate : {A : Type 0} → Fate → A → (A → A) → A → A
by_fate Kept start left before = before
by_fate Disconnected start left before = left before
by_fate Cleared start left before = start

abbrev pub is_cleared : Fate → Bool
is_cleared Cleared = true
is_cleared fate = false

-- whether a login is to a UPS that is cleared
abbrev pub is_to_cleared : (ℕ → Fate) → Option ℕ → Bool
is_to_cleared fate login = option_map_or (λ u. is_cleared (fate u)) login false
