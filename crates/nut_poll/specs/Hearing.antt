-- What a link hears.
use Rattle.std.specs.Prelude.{◌<◌, ℕ, List, length, Option}
use Rattle.std.specs.Io.KnownBytes.{Consumes, Keeps}
use Rattle.nut_poll.specs.declared.link.Heard.{Heard}
use Rattle.nut_poll.specs.declared.link.Heard.TheVariants.{All, Part, Nothing, End}

-- The bytes that were heard, at least one, are those that the stream gave; if none were heard, it gave none.
abbrev pub IsHeard : Heard → List ℕ → Option (List ℕ) → Option (List ℕ) → Type 0
IsHeard All piece before after = (0 < length piece) × Consumes before after piece
IsHeard Part piece before after = (0 < length piece) × Consumes before after piece
IsHeard Nothing piece before after = Keeps before after
IsHeard End piece before after = Keeps before after
