-- The lines that a driver sends (NUT developer guide, on a driver and its server on one machine).
use Rattle.std.specs.Prelude.{ℕ, ◌==◌, Bool, List, [], ◌∷◌, ◌++◌, if◌then◌else◌, codes, decimal, map}
use Rattle.std.specs.Fmt.{signed_decimal}
use Rattle.std.specs.List.{flat_map}
use Rattle.std.specs.Option.{option_map_or}
use Rattle.nut_proto.specs.declared.part.Part.{Part}
use Rattle.nut_proto.specs.declared.part.Part.TheVariants.{Word, Quoted}
use Rattle.nut_proto.specs.Lines.{line}
use Rattle.nut_dummy.specs.declared.writable.Writable.{Writable}
use Rattle.nut_dummy.specs.Writable.{Attributes, attributes, name_of, writable_of}
use Rattle.nut_dummy.specs.Command.{command_name, all_commands}

abbrev pub Message : Type 0
Message = List Part

abbrev pub value_message : List ℕ → List ℕ → Message
value_message name value = Word (codes "SETINFO") ∷ Word name ∷ Quoted value ∷ []

-- The lines that report flags, aux, enum values and ranges of a variable that clients may set.
abbrev pub attribute_messages : List ℕ → Attributes → List Message
attribute_messages name a =
    (Word (codes "SETFLAGS") ∷ Word name ∷ Word (codes "RW") ∷ Word (if a.flags.string then codes "STRING" else codes "NUMBER") ∷ [])
    ∷ ((if a.aux == 0 then [] else (Word (codes "SETAUX") ∷ Word name ∷ Word (decimal a.aux) ∷ []) ∷ [])
    ++ (map (λ value. Word (codes "ADDENUM") ∷ Word name ∷ Quoted value ∷ []) a.enums
    ++ map (λ r. Word (codes "ADDRANGE") ∷ Word name ∷ Word (signed_decimal r.minimum) ∷ Word (signed_decimal r.maximum) ∷ []) a.ranges))

-- That these say exactly its attributes is the law `told_lines_are_heard`.
abbrev pub limits_of : Writable → List Message
limits_of w = attribute_messages (name_of w) (attributes w)

-- A variable that no client may set has no limits.
abbrev pub limits : List ℕ → List Message
limits name = option_map_or limits_of (writable_of name) []

-- the lines of a variable, with or without its limits
abbrev pub variable_messages : Bool → List ℕ → List ℕ → List Message
variable_messages limited name value = value_message name value ∷ (if limited then limits name else [])

-- the end of a dump: the commands, that the data are current, and that the dump is done
abbrev pub closing_messages : List Message
closing_messages =
    map (λ c. Word (codes "ADDCMD") ∷ Word (command_name c) ∷ []) all_commands ++ ((Word (codes "DATAOK") ∷ []) ∷ (Word (codes "DUMPDONE") ∷ []) ∷ [])

-- the bytes of these lines, joined
unfoldable pub text : List Message → List ℕ
text messages = flat_map line messages
