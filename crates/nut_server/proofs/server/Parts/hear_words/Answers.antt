use Rattle.std.proofs.Common.{ap, sym, subst, Ok}
use Rattle.nut_server_spec.specs.Command.{asked, command_in}
use Rattle.nut_server.specs.inside.Effects.{HasShortNames}
use Rattle.nut_server.proofs.Saying.{silent_blank}
use Rattle.nut_server.proofs.ShortNames.{short_read}
use Rattle.nut_server.proofs.server.Parts.hear_words.Goals as goal

pub returns-then-is_empty-clause-ok : goal.returns-then-is_empty-clause-ok
returns-then-is_empty-clause-ok c = λ c' k stands there open_still. silent_blank c' _ c.args.self.now k (ap (λ words. command_in (Ok words)) (c.is_empty.ensures.0 c.if-is_empty.true))

pub hear_request-requires-clause-short : goal.hear_request-requires-clause-short
hear_request-requires-clause-short c = subst (λ request. HasShortNames (asked request)) (sym c.read.ensures) (short_read c.args.words.now)
