-- What the words of a client's line mean, by the tables of forms in `Requests` (RFC 9271).
use Rattle.std.specs.Prelude.{ℕ, List, [], ◌∷◌, Option, Some, None, Result, Err}
use Rattle.std.specs.Option.{ok_or}
use Rattle.nut_proto.specs.declared.refusal.Refusal.{Refusal}
use Rattle.nut_proto.specs.declared.refusal.Refusal.TheVariants.{InvalidArgument, UnknownCommand}
use Rattle.nut_proto.specs.declared.request.Request.{Request}
use Rattle.nut_proto.specs.declared.keyword.Command.{Command}
use Rattle.nut_proto.specs.Keywords.{command_of}
use Rattle.nut_proto.specs.Requests.{request_by}

-- the request, or why there is none: the first word is no command, or the words after a command fit none of its forms
abbrev pub meaning_by : Option Command → List (List ℕ) → Result Request Refusal
meaning_by None words = Err UnknownCommand
meaning_by (Some command) words = ok_or (request_by command words) InvalidArgument

-- the request that the words of a line make, or the refusal; without words it is `InvalidArgument`
unfoldable pub meaning : List (List ℕ) → Result Request Refusal
meaning [] = Err InvalidArgument
meaning (word ∷ words) = meaning_by (command_of word) words
