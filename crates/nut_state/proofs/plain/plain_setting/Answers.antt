use Rattle.nut_state.proofs.PlainLemmas.{setting_heard}
use Rattle.nut_state.proofs.plain.plain_setting.Goals as goal

pub returns : goal.returns
returns c =
    setting_heard c.args.line.now c.in_ok-words.words.now c.in_ok-name.name.now c.in_ok-name.behind.now c.in_ok-value.value.now
    c.in_ok-words.ensures.cases c.in_ok-name.ensures c.in_ok-value.ensures
