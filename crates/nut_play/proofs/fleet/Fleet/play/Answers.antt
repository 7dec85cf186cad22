use Rattle.std.proofs.Common.{◌++◌, map}
use Rattle.nut_play.specs.Steps.{steps_of, logged_of}
use Rattle.nut_play.specs.Room.{WerePlayed}
use Rattle.nut_play.proofs.Fleets.{if-ok}
use Rattle.nut_play.proofs.Standing.{monitors-fine}
use Rattle.nut_play.proofs.Rooms.{were-played, fault-of, if-err, on-played}
use Rattle.nut_play.proofs.fleet.Fleet.play.Goals as goal

pub returns-clause-played : goal.returns-clause-played
returns-clause-played c = λ setup before is.
    if-ok _ _ c.run.result
    (λ log. were-played setup before c.args.self.now
    (λ schedule. c.fleets_go_on.ensures setup schedule (monitors-fine c.configurations_are_spoken.ensures c.args.self.now.seats setup.monitors is.monitors))
    is c.args.schedule.now (map logged_of log.items) c.run.new.self)
    (c.run.ensures.played is.works)

pub returns-clause-fault : goal.returns-clause-fault
returns-clause-fault c = λ setup before is.
    if-err _ _ c.run.result
    (λ fault. fault-of setup before c.args.self.now
    (λ schedule. c.fleets_go_on.ensures setup schedule (monitors-fine c.configurations_are_spoken.ensures c.args.self.now.seats setup.monitors is.monitors))
    is (λ schedule new stands. (c.rooms_hold.ensures setup schedule new stands).accepted) c.args.schedule.now fault c.run.new.self)
    (c.run.ensures.fault is.works)

pub returns-clause-holds : goal.returns-clause-holds
returns-clause-holds c = λ setup before is.
    on-played (λ log. WerePlayed setup before (steps_of c.args.schedule.now) (map logged_of log.items) c.run.new.self) _ c.run.result
    (λ log were. c.rooms_hold.ensures setup (steps_of c.args.schedule.now ++ before) c.run.new.self were.fleet)
    (if-ok _ _ c.run.result
    (λ log. were-played setup before c.args.self.now
    (λ schedule. c.fleets_go_on.ensures setup schedule (monitors-fine c.configurations_are_spoken.ensures c.args.self.now.seats setup.monitors is.monitors))
    is c.args.schedule.now (map logged_of log.items) c.run.new.self)
    (c.run.ensures.played is.works))
