-- What a line of a schedule says.
use Rattle.std.specs.Prelude.{ℕ, ◌≡◌, Bool, true, false, ◌||◌, List, [], ◌∷◌, Option, Some, None, Result, Ok, Err, if◌then◌else◌, codes, find, length, nat_le, slice_index_or}
use Rattle.std.specs.Option.{option_and_then, option_map}
use Rattle.std.specs.Str.{bytes_eq}
use Rattle.nut_words.specs.declared.words.WordFault.{WordFault}
use Rattle.nut_words.specs.Reader.{spelled, has_backslash}
use Rattle.nut_words.specs.Number.{natural}
use Rattle.nut_play.specs.declared.reading.StepFault.{StepFault}
use Rattle.nut_play.specs.declared.reading.StepFault.TheVariants.{BadStep, Memory}
use Rattle.nut_play.specs.declared.verb.Verb.{Verb}
use Rattle.nut_play.specs.declared.verb.Verb.TheVariants as verbs
use Rattle.nut_play.specs.declared.limits.TheConstants.{STEP_LINE_MAX}
use Rattle.nut_fleet.specs.Schedule.{Step, ServerClock, MonitorClock, Up, Driver, Down, Link, Out, Reach, Back, Land, CutServer, CutMonitor}

abbrev pub verb_name : Verb → List ℕ
verb_name verbs.Server = codes "server"
verb_name verbs.Monitor = codes "monitor"
verb_name verbs.Up = codes "up"
verb_name verbs.Driver = codes "driver"
verb_name verbs.Down = codes "down"
verb_name verbs.Link = codes "link"
verb_name verbs.Out = codes "out"
verb_name verbs.Reach = codes "reach"
verb_name verbs.Back = codes "back"
verb_name verbs.Land = codes "land"
verb_name verbs.CutServer = codes "cut-server"
verb_name verbs.CutMonitor = codes "cut-monitor"

abbrev pub all_verbs : List Verb
all_verbs =
    verbs.Server ∷ verbs.Monitor ∷ verbs.Up ∷ verbs.Driver ∷ verbs.Down ∷ verbs.Link ∷ verbs.Out ∷ verbs.Reach ∷ verbs.Back ∷
    verbs.Land ∷ verbs.CutServer ∷ verbs.CutMonitor ∷ []

-- the verb that a word is, if it is one
unfoldable pub verb_of : List ℕ → Option Verb
verb_of word = find (λ verb. bytes_eq word (verb_name verb)) all_verbs

-- The numbers behind a verb, if there are exactly this many words and each has 1 to 9 digits.
abbrev pub one_number : List (List ℕ) → Option ℕ
one_number (verb ∷ a ∷ []) = natural a
one_number words = None

abbrev pub two_numbers : List (List ℕ) → Option (ℕ × ℕ)
two_numbers (verb ∷ a ∷ b ∷ []) = option_and_then (λ x. option_map (λ y. (x, y)) (natural b)) (natural a)
two_numbers words = None

abbrev pub three_numbers : List (List ℕ) → Option (ℕ × ℕ × ℕ)
three_numbers (verb ∷ a ∷ b ∷ c ∷ []) =
    option_and_then (λ x. option_and_then (λ y. option_map (λ z. (x, y, z)) (natural c)) (natural b)) (natural a)
three_numbers words = None

-- a number and a word behind a verb
abbrev pub numbered_word : List (List ℕ) → Option (ℕ × List ℕ)
numbered_word (verb ∷ a ∷ word ∷ []) = option_map (λ x. (x, word)) (natural a)
numbered_word words = None

abbrev pub one : (ℕ → Step) → List (List ℕ) → Option Step
one step words = option_map step (one_number words)

abbrev pub two : (ℕ → ℕ → Step) → List (List ℕ) → Option Step
two step words = option_map (λ x. step x.0 x.1) (two_numbers words)

abbrev pub three : (ℕ → ℕ → ℕ → Step) → List (List ℕ) → Option Step
three step words = option_map (λ x. step x.0 x.1 x.2) (three_numbers words)

abbrev pub said_by_driver : List (List ℕ) → Option Step
said_by_driver words = option_map (λ x. Driver x.0 x.1) (numbered_word words)

-- The forms of steps, by their verbs.
abbrev pub form : Verb → List (List ℕ) → Option Step
form verbs.Server = one ServerClock
form verbs.Monitor = two MonitorClock
form verbs.Up = one Up
form verbs.Driver = said_by_driver
form verbs.Down = one Down
form verbs.Link = two Link
form verbs.Out = three Out
form verbs.Reach = three Reach
form verbs.Back = three Back
form verbs.Land = three Land
form verbs.CutServer = two CutServer
form verbs.CutMonitor = two CutMonitor

-- The step that the words of a line spell, if they spell one.
abbrev pub meant : List (List ℕ) → Option Step
meant words = option_and_then (λ verb. form verb words) (verb_of (slice_index_or words 0 []))

abbrev pub meant_by : Result (List (List ℕ)) WordFault → Option Step
meant_by (Ok words) = meant words
meant_by (Err fault) = None

-- The step that a line spells, if it spells one.
abbrev pub said : List ℕ → Option Step
said line = if nat_le (length line) STEP_LINE_MAX then meant_by (spelled line) else None

-- Reading a line allocates for its words if it has a backslash, and for what a driver says.
abbrev pub is_of_driver : Option Step → Bool
is_of_driver (Some (Driver u line)) = true
is_of_driver step = false

abbrev pub takes_memory : List ℕ → Bool
takes_memory line = has_backslash line || is_of_driver (said line)

-- The result of a reading: that of the text, unless memory could not be allocated.
abbrev pub Gives : {X Y : Type 0} → (X → Y) → Option Y → Result X StepFault → Type 0
Gives view found (Ok x) = found ≡ Some (view x)
Gives view found (Err BadStep) = found ≡ None
Gives view found (Err Memory) = Unit {0}
