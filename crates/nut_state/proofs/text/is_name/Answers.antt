use Rattle.nut_state.proofs.text.is_name.Goals as goal

pub returns : goal.returns
returns c = c.is_name.ensures
