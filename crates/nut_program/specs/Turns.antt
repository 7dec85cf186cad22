-- When a program answers a request to read its files again.
use Rattle.std.specs.Prelude.{Bool, true, false}
use Rattle.nut_program.specs.declared.reload_file.Turn.{Turn}
use Rattle.nut_program.specs.declared.reload_file.Turn.TheVariants.{First, Second}

-- whether it answers at a look: by its turn, whether a request waits since the look before, and whether this look finds a new one
abbrev pub answers_now : Turn → Bool → Bool → Bool
answers_now First was_waiting is_request = is_request
answers_now Second was_waiting true = false
answers_now Second was_waiting false = was_waiting

-- whether a request waits from this look to the next: by the turn, and whether this look finds a new one
abbrev pub waits_on : Turn → Bool → Bool
waits_on First is_request = false
waits_on Second is_request = is_request
