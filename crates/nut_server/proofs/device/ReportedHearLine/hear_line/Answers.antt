use Rattle.std.proofs.Common.{rules, ◌∙◌, sym}
use Rattle.nut_state.specs.Change.{heard}
use Rattle.nut_server.proofs.Told.{none_ended, of_heard, of_ignored}
use Rattle.nut_server.proofs.device.ReportedHearLine.hear_line.Goals.{in-Text+in_ok-heard-in-Text, in-TooLong}
use Rattle.nut_server.proofs.device.ReportedHearLine.hear_line.Goals as goal

pub returns-in-Heard-clause-heard : goal.returns-in-Heard-clause-heard
returns-in-Heard-clause-heard c = elim c.match-line.branch [
  | in-Text+in_ok-heard-in-Text w ↦
      let told = of_heard (heard w.in-Text.text.now) (sym w.in_ok-heard-in-Text.ensures.answer ∙ sym w.heard-is ∙ c.in-Heard.is) in
      rw (w.in-Text.is, told.0, told.1, none_ended c.args.self.now.tracked) (search rules)
  | in-TooLong w ↦ absurd (let no = sym w.heard-is ∙ c.in-Heard.is in cc)
]

pub returns-in-Ignored-clause-heard : goal.returns-in-Ignored-clause-heard
returns-in-Ignored-clause-heard c = elim c.match-line.branch [
  | in-Text+in_ok-heard-in-Text w ↦
      let told = of_ignored (heard w.in-Text.text.now) (sym w.in_ok-heard-in-Text.ensures.answer ∙ sym w.heard-is ∙ c.in-Ignored.is) in
      rw (w.in-Text.is, told.0, told.1, none_ended c.args.self.now.tracked) (search rules)
  | in-TooLong w ↦ rw (w.in-TooLong.is, none_ended c.args.self.now.tracked) (search rules)
]
