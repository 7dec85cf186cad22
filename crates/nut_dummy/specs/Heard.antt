-- How a server hears the lines that a dummy driver sends.
use Rattle.std.specs.Prelude.{◌≡◌, ℕ, ◌==◌, Bool, List, [], ◌∷◌, ◌++◌, Option, Some, codes, if◌then◌else◌, map}
use Rattle.nut_words.specs.Bytes.{line_feed}
use Rattle.nut_words.specs.Quoting.{IsPrintable}
use Rattle.nut_proto.specs.Lines.{message}
use Rattle.nut_proto.specs.Tracking.{IsTrackingNumber}
use Rattle.nut_state.specs.Change.{Change, set_info, set_flags, set_aux, add_enum, add_range, add_command, data_ok, dump_done, pong, tracking, heard}
use Rattle.nut_dummy.specs.declared.writable.Writable.{Writable}
use Rattle.nut_dummy.specs.Command.{command_name, all_commands}
use Rattle.nut_dummy.specs.Teller.{ended}
use Rattle.nut_dummy.specs.Telling.{Message, value_message, limits_of, closing_messages}
use Rattle.nut_dummy.specs.Writable.{Attributes, attributes, name_of}

-- the change as which a server hears a line, if it does
abbrev pub heard_in : Message → Option Change
heard_in m = heard (message m)

-- the changes that give a variable these attributes
abbrev pub attribute_changes : List ℕ → Attributes → List Change
attribute_changes name a =
    set_flags name a.flags
    ∷ ((if a.aux == 0 then [] else set_aux name (Some a.aux) ∷ [])
    ++ (map (λ value. add_enum name value) a.enums ++ map (λ range. add_range name (Some range)) a.ranges))

-- The line of a value is heard as that value; the lines that limit a variable as exactly its attributes; the end of a dump
-- as all commands, current data and a dump that is done; how a tracked request ended as 0 or 1 with its number; and the
-- answer to PING as such.
abbrev pub ToldLinesAreHeard : Type 0
ToldLinesAreHeard =
    ((name value : List ℕ) → IsPrintable name → IsPrintable value → heard_in (value_message name value) ≡ Some (set_info name value))
    × ((w : Writable) → map heard_in (limits_of w) ≡ map (λ change. Some change) (attribute_changes (name_of w) (attributes w)))
    × (map heard_in closing_messages ≡ map (λ change. Some change) (map (λ c. add_command (command_name c)) all_commands ++ data_ok ∷ dump_done ∷ []))
    × ((number : ℕ) (done : Bool) → IsTrackingNumber number →
    (line : List ℕ) × (ended (Some number) done ≡ line ++ line_feed ∷ [])
    × (heard line ≡ Some (tracking (Some number) (Some (if done then 0 else 1)))))
    × (heard (codes "PONG") ≡ Some pong)
