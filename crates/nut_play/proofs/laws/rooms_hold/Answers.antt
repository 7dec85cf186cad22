use Rattle.nut_fleet.specs.Fleet.{IsSetup}
use Rattle.nut_play.proofs.Standing.{monitors-fine}
use Rattle.nut_play.proofs.laws.rooms_hold.Goals as goal

pub returns : goal.returns
returns c = λ setup schedule k is.
    let fine : IsSetup setup = monitors-fine c.configurations_are_spoken.ensures k.seats setup.monitors is.monitors in
    record {
      accepted = c.events_are_accepted.ensures setup schedule fine;
      pipes = c.pipes_carry_beginnings.ensures setup schedule fine;
      statuses = c.statuses_were_shown.ensures setup schedule fine;
      causes = c.shutdowns_have_causes.ensures.causes setup schedule fine;
      supply = c.shutdowns_have_causes.ensures.before setup schedule fine;
      primaries = c.primaries_go_last.ensures setup schedule fine;
    }
