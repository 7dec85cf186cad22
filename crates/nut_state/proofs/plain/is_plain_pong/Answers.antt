use Rattle.std.proofs.Common.{sym, ap, ◌∙◌}
use Rattle.std.proofs.lemmas.Slice.Eq.{bytes_eq-Decides}
use Rattle.nut_state.specs.Change.{heard}
use Rattle.nut_state.proofs.PlainLemmas.{pong_heard}
use Rattle.nut_state.proofs.plain.is_plain_pong.Goals as goal

pub returns : goal.returns
returns c same = ap heard ((bytes_eq-Decides c.args.line.now c.as_slice.result.now).0 (sym c.eq.ensures ∙ same) ∙ c.as_slice.ensures) ∙ pong_heard
