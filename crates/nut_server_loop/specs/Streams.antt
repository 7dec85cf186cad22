-- What a world over streams reads.
use Rattle.std.specs.Prelude.{ℕ, List, Option, None}
use Rattle.std.specs.Io.KnownBytes.{Consumes, Keeps}
use Rattle.nut_server_loop.specs.Record.{Entry}
use Rattle.nut_server_loop.specs.declared.types.Next.{Next}
use Rattle.nut_server_loop.specs.declared.types.Next.TheVariants.{Bytes}

-- The bytes that `next` gave, those in the piece, were read, and no others; with any other arrival none were.
abbrev pub IsRead : Next → List ℕ → Option (List ℕ) → Option (List ℕ) → Type 0
IsRead (Bytes c) piece before after = Consumes before after piece
IsRead n piece before after = Keeps before after

-- the record of a world that keeps none
abbrev pub no_record : Option (List Entry)
no_record = None
