-- What a line of a client says (RFC 9271).
use Rattle.std.specs.Prelude.{ℕ, List, [], ◌∷◌, Result, Ok, Err}
use Rattle.nut_words.specs.declared.words.WordFault.{WordFault}
use Rattle.nut_words.specs.Lines.{LineText, Text, TooLong}
use Rattle.nut_words.specs.Reader.{spelled}
use Rattle.nut_proto.specs.declared.request.Request.{Request}
use Rattle.nut_proto.specs.declared.refusal.Refusal.{Refusal}
use Rattle.nut_proto.specs.declared.refusal.Refusal.TheVariants.{InvalidArgument}
use Rattle.nut_proto.specs.Forms.{meaning}

-- what a line says: nothing, something of a wrong form, or a request
pub data Command : Type 0 where
  Blank : Command
  Malformed : (refusal : Refusal) → Command
  Asks : (request : Request) → Command

-- what words say: the request that they make, or the refusal of their form
abbrev pub asked : Result Request Refusal → Command
asked (Ok request) = Asks request
asked (Err refusal) = Malformed refusal

-- what a line says, by the words that it spells; one without words, such as a comment, is blank
abbrev pub command_in : Result (List (List ℕ)) WordFault → Command
command_in (Ok []) = Blank
command_in (Ok (word ∷ words)) = asked (meaning (word ∷ words))
command_in (Err fault) = Malformed InvalidArgument

-- what a line says; one that can't be read as words or is too long is `INVALID-ARGUMENT`
abbrev pub command_of : LineText → Command
command_of (Text bytes) = command_in (spelled bytes)
command_of TooLong = Malformed InvalidArgument
