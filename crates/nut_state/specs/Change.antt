-- What a driver's line asks for, whether or not the table then accepts it.
use Rattle.std.specs.Prelude.{ℕ, List, [], Option, Some, None, if◌then◌else◌, length, codes, drop, slice_index_or}
use Rattle.std.specs.List.{list_any}
use Rattle.std.specs.Option.{option_and_then}
use Rattle.std.specs.Result.{result_ok}
use Rattle.nut_words.specs.Number.{natural}
use Rattle.nut_words.specs.Reader.{spelled}
use Rattle.nut_state.specs.declared.number.Range.{Range}
use Rattle.nut_state.specs.declared.variable.Flags.{Flags}
use Rattle.nut_state.specs.declared.verb.Verb.{Verb}
use Rattle.nut_state.specs.declared.verb.Verb.TheVariants.{SetInfo, DelInfo, AddEnum, DelEnum, AddRange, DelRange, SetAux, SetFlags, AddCommand, DelCommand, DumpDone, DataOk, DataStale, Pong, Tracking}
use Rattle.nut_state.specs.Number.{range_of}
use Rattle.nut_state.specs.Verb.{says, verb_of, takes}

-- A change that a line asks for. `None` stands for a number that can't be read, or for a range with such a number or with
-- its minimum above its maximum.
pub data Change : Type 0 where
  set_info : (name value : List ℕ) → Change
  del_info : (name : List ℕ) → Change
  add_enum : (name value : List ℕ) → Change
  del_enum : (name value : List ℕ) → Change
  add_range : (name : List ℕ) (range : Option Range) → Change
  del_range : (name : List ℕ) (range : Option Range) → Change
  set_aux : (name : List ℕ) (aux : Option ℕ) → Change
  set_flags : (name : List ℕ) (flags : Flags) → Change
  add_command : (name : List ℕ) → Change
  del_command : (name : List ℕ) → Change
  dump_done : Change
  data_ok : Change
  data_stale : Change
  pong : Change
  tracking : (number status : Option ℕ) → Change

-- The word at a place, or the empty word past the last.
abbrev pub word : List (List ℕ) → ℕ → List ℕ
word words place = slice_index_or words place []

-- The flags that the words name, in upper or lower case. Other words name no flag.
abbrev pub flags_named : List (List ℕ) → Flags
flags_named words = record {
  writable = list_any (says (codes "RW")) words;
  string = list_any (says (codes "STRING")) words;
  number = list_any (says (codes "NUMBER")) words;
}

-- What a line with this first word asks for.
abbrev pub asked_by : Verb → List (List ℕ) → Change
asked_by SetInfo ws = set_info (word ws 1) (word ws 2)
asked_by DelInfo ws = del_info (word ws 1)
asked_by AddEnum ws = add_enum (word ws 1) (word ws 2)
asked_by DelEnum ws = del_enum (word ws 1) (word ws 2)
asked_by AddRange ws = add_range (word ws 1) (range_of (word ws 2) (word ws 3))
asked_by DelRange ws = del_range (word ws 1) (range_of (word ws 2) (word ws 3))
asked_by SetAux ws = set_aux (word ws 1) (natural (word ws 2))
asked_by SetFlags ws = set_flags (word ws 1) (flags_named (drop 2 ws))
asked_by AddCommand ws = add_command (word ws 1)
asked_by DelCommand ws = del_command (word ws 1)
asked_by DumpDone ws = dump_done
asked_by DataOk ws = data_ok
asked_by DataStale ws = data_stale
asked_by Pong ws = pong
asked_by Tracking ws = tracking (natural (word ws 1)) (natural (word ws 2))

-- What these words ask for, if the first word is known, in upper or lower case, and there are as many words as it
-- takes.
unfoldable pub asked : List (List ℕ) → Option Change
asked words = option_and_then (λ verb. if takes verb (length words) then Some (asked_by verb words) else None) (verb_of (word words 0))

-- What a line asks for, if it reads as words that ask for something. Such a line is heard; every other line is ignored.
unfoldable pub heard : List ℕ → Option Change
heard line = option_and_then asked (result_ok (spelled line))
