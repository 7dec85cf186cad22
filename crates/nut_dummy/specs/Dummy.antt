-- What a dummy driver holds, and the variables that it has.
use Rattle.std.specs.Prelude.{ℕ, Bool, List, [], ◌∷◌, Some, if◌then◌else◌, is_some}
use Rattle.nut_words.specs.Lines.{LineText}
use Rattle.nut_state.specs.Sorted.{put}
use Rattle.nut_dummy.specs.Command.{command_variables}
use Rattle.nut_dummy.specs.Script.{Script, Timeline, timeline}
use Rattle.nut_dummy.specs.Teller.{Teller}

-- The moment of the start and the greatest so far, in seconds; the seconds of a round; whether there is a link, and its
-- unfinished line; what is held and reported.
pub record Content : Type 0 where
  pub start : ℕ
  pub clock : ℕ
  pub round : ℕ
  pub linked : Bool
  pub rest : LineText
  pub teller : Teller

-- the variables, with one of this name added if there was none; it gets no value from the script
abbrev pub declared : List ℕ → List Timeline → List Timeline
declared name variables =
    if is_some (timeline name variables) then variables else put (λ t. t.name) name (Some (record { name = name; steps = [] })) variables

-- the variables, with one of each of these names
abbrev pub all_declared : List (List ℕ) → List Timeline → List Timeline
all_declared [] variables = variables
all_declared (name ∷ names) variables = all_declared names (declared name variables)

-- the variables that the script names, and those that commands set
abbrev pub timelines : Script → List Timeline
timelines script = all_declared command_variables script.variables
