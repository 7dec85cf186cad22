-- A user name or a password that a line gives has at most CREDENTIAL_MAX bytes.
use Rattle.std.proofs.Common.{◌≡◌, ℕ, ◌≤◌, true, List, length, refl, Result, Ok, Err, arith}
use Rattle.std.specs.Prelude.{nat_le, ◌&&◌}
use Rattle.std.proofs.lemmas.Bool.Decides.{nat_tests}
use Rattle.nut_words.specs.declared.limits.TheConstants.{CREDENTIAL_MAX}
use Rattle.nut_proto.specs.declared.refusal.Refusal.{Refusal}
use Rattle.nut_proto.specs.declared.request.Request.{Request}
use Rattle.nut_proto.specs.declared.request.Request.TheVariants as requests
use Rattle.nut_proto.specs.Forms.{meaning}
use Rattle.nut_proto.specs.laws.ReadBack.{IsReadable}
use Rattle.nut_proto.proofs.Readable.{read_requests_are_readable}
use Rattle.nut_server_spec.specs.Command.{Asks, asked}
use Rattle.nut_server.specs.inside.Effects.{HasShortNames}

at_most : (n : ℕ) → (nat_le 1 n && nat_le n CREDENTIAL_MAX) ≡ true → n ≤ CREDENTIAL_MAX
at_most n is = grind (arith, nat_tests)

of_readable : (request : Request) → IsReadable request → HasShortNames (Asks request)
of_readable (requests.Username name) is = at_most (length name) is
of_readable (requests.Password password) is = at_most (length password) is
of_readable request is = tt

of_read : (words : List (List ℕ)) (read : Result Request Refusal) → meaning words ≡ read → HasShortNames (asked read)
of_read words (Ok request) is = of_readable request (read_requests_are_readable words request is)
of_read words (Err refusal) is = tt

-- what words ask for
pub short_read : (words : List (List ℕ)) → HasShortNames (asked (meaning words))
short_read words = of_read words (meaning words) refl
