-- The inputs of a server: events, and histories of events. A history is a list with the newest event first.
use Rattle.std.specs.Prelude.{ℕ, ◌==◌, if◌then◌else◌, ◌+◌, List, [], ◌∷◌, ◌++◌, drop, length}
use Rattle.nut_words.specs.Lines.{LineText, lines}
use Rattle.nut_server_spec.specs.Configuration.{Configuration}

-- Connections are numbered from 1 in the order in which they are opened, and no number is used again. The number of a
-- UPS, and of its driver, is its place in the file, counted from 0, until a reload: see Numbering.
pub data Event : Type 0 where
  -- t seconds have passed since the start
  Moment : (t : ℕ) → Event
  -- a client connects from this address
  Open : (address : List ℕ) → Event
  -- c sent this piece of bytes
  Bytes : (c : ℕ) (piece : List ℕ) → Event
  -- c took the first n of the bytes that waited for it
  Took : (c : ℕ) (n : ℕ) → Event
  -- c was closed, by its client or by the world around the server
  Close : (c : ℕ) → Event
  -- a write to c failed, which closes it
  WriteFailed : (c : ℕ) → Event
  -- the driver of the UPS u was connected, or connected anew
  DriverUp : (u : ℕ) → Event
  -- the driver of u sent this piece of bytes
  DriverBytes : (u : ℕ) (piece : List ℕ) → Event
  -- the driver of u took the first n of the bytes that waited for it
  DriverTook : (u : ℕ) (n : ℕ) → Event
  -- the driver of u was disconnected
  DriverDown : (u : ℕ) → Event
  -- this configuration takes the place of the one before
  Reload : (configuration : Configuration) → Event

-- all bytes that c sent, joined
abbrev pub input : ℕ → List Event → List ℕ
input c [] = []
input c (Bytes d piece ∷ h) = if d == c then input c h ++ piece else input c h
input c (e ∷ h) = input c h

-- how many bytes c took
abbrev pub taken : ℕ → List Event → ℕ
taken c [] = 0
taken c (Took d n ∷ h) = if d == c then taken c h + n else taken c h
taken c (e ∷ h) = taken c h

-- all bytes that the driver of u sent since it was last connected, joined
abbrev pub driver_input : ℕ → List Event → List ℕ
driver_input u [] = []
driver_input u (DriverUp v ∷ h) = if v == u then [] else driver_input u h
driver_input u (DriverBytes v piece ∷ h) = if v == u then driver_input u h ++ piece else driver_input u h
driver_input u (e ∷ h) = driver_input u h

-- What a history comes to, with lines in place of pieces: how the bytes were cut doesn't show.
pub data Step : Type 0 where
  -- t seconds have passed since the start
  Clock : (t : ℕ) → Step
  -- the next connection was opened, from this address
  Opened : (address : List ℕ) → Step
  -- c completed a line
  Said : (c : ℕ) (line : LineText) → Step
  -- c was closed
  Gone : (c : ℕ) → Step
  -- the driver of u was connected, and what it said before no longer counts
  Up : (u : ℕ) → Step
  -- the driver of u completed a line
  Reported : (u : ℕ) (line : LineText) → Step
  -- the driver of u took n bytes
  Drained : (u : ℕ) (n : ℕ) → Step
  -- the driver of u was disconnected
  Down : (u : ℕ) → Step
  -- this configuration took the place of the one before
  Reloaded : (configuration : Configuration) → Step

-- the lines that a piece completes, if the bytes `before` came before it
abbrev pub brought : List ℕ → List ℕ → List LineText
brought before piece = drop (length (lines before)) (lines (before ++ piece))

-- the steps s, and after them these lines of c, one by one
abbrev pub with_lines : ℕ → List LineText → List Step → List Step
with_lines c [] s = s
with_lines c (line ∷ lines) s = with_lines c lines (Said c line ∷ s)

-- the steps s, and after them these lines of the driver of u, one by one
abbrev pub with_reports : ℕ → List LineText → List Step → List Step
with_reports u [] s = s
with_reports u (line ∷ lines) s = with_reports u lines (Reported u line ∷ s)

-- The steps of a history, the newest first. A piece becomes the lines that it completes. What a client took is no step.
abbrev pub steps : List Event → List Step
steps [] = []
steps (Moment t ∷ h) = Clock t ∷ steps h
steps (Open address ∷ h) = Opened address ∷ steps h
steps (Bytes c piece ∷ h) = with_lines c (brought (input c h) piece) (steps h)
steps (Took c n ∷ h) = steps h
steps (Close c ∷ h) = Gone c ∷ steps h
steps (WriteFailed c ∷ h) = Gone c ∷ steps h
steps (DriverUp u ∷ h) = Up u ∷ steps h
steps (DriverBytes u piece ∷ h) = with_reports u (brought (driver_input u h) piece) (steps h)
steps (DriverTook u n ∷ h) = Drained u n ∷ steps h
steps (DriverDown u ∷ h) = Down u ∷ steps h
steps (Reload configuration ∷ h) = Reloaded configuration ∷ steps h
