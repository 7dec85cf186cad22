-- The table agrees with the definition at each of the 256 bytes: both are computed.
use Rattle.std.proofs.Common.{not, nat_eq, get_or, refl, arith}
use Rattle.std.proofs.lemmas.Bool.{agree_below_at}
use Rattle.nut_words.specs.declared.quoting.TheConstants.{BARE_BYTES}
use Rattle.nut_words.specs.Spelling.{is_bare}
use Rattle.nut_words.proofs.quoting.is_bare_byte.Goals as goal

pub returns : goal.returns
returns c = agree_below_at (λ k. not (nat_eq (get_or BARE_BYTES k 0) 35)) is_bare 256 c.args.byte refl (omega arith)
