use Rattle.nut_poll.specs.inside.TurnLaws.{looks_go_on}
use Rattle.nut_poll.proofs.TurnLemmas.{each_has_its_turn, nobody_is_passed_over, others_come_once}
use Rattle.nut_poll.proofs.turns.nobody_is_passed_over.Goals as goal

pub returns-clause-goes_on : goal.returns-clause-goes_on
returns-clause-goes_on c = looks_go_on

pub returns-clause-between : goal.returns-clause-between
returns-clause-between c = nobody_is_passed_over

pub returns-clause-turn : goal.returns-clause-turn
returns-clause-turn c = each_has_its_turn

pub returns-clause-once : goal.returns-clause-once
returns-clause-once c = others_come_once
