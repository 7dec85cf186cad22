use Rattle.std.proofs.Common.{◌≡◌, None, rules, ◌∙◌}
use Rattle.nut_dummy.specs.History.{Bytes, Lost, refusal}
use Rattle.nut_dummy.proofs.HistoryLemmas.{lost, one_more}
use Rattle.nut_dummy.proofs.dummy.Dummy.server_bytes.Goals as goal

pub returns-in-Err-clause-leads : goal.returns-in-Err-clause-leads
returns-in-Err-clause-leads c = λ script start h s.
    let piece = c.args.piece.now in
    let idle : refusal (Bytes piece) c.args.self.now ≡ None = search rules in
    let k = c.in-Err.done in (
      lost script start h c.args.self.now s k piece c.in-Err.ensures.stopped.0,
      one_more script start h c.args.self.now s (Lost k piece) c.cut.new.self idle (c.cut.ensures ∙ c.in-Err.ensures.stopped.1),
    )

pub returns-clause-leads : goal.returns-clause-leads
returns-clause-leads c = λ script start h s.
    let idle : refusal (Bytes c.args.piece.now) c.args.self.now ≡ None = search rules in
    one_more script start h c.args.self.now s (Bytes c.args.piece.now) c.hear.new.self idle c.in_default.ensures.heard
