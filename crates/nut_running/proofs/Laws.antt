-- The laws of rooms hold of a room that runs.
use Rattle.nut_state.specs.laws.Holds.{EveryTableHolds}
use Rattle.nut_fleet.proofs.Lawful.{lawful}
use Rattle.nut_fleet.proofs.Statuses.{statuses-were_shown}
use Rattle.nut_fleet.proofs.Shutdowns.{shutdowns-have_causes, supply-suffices}
use Rattle.nut_fleet.proofs.Primaries.{primaries-go_last}
use Rattle.nut_fleet.proofs.Halting.{nobody-else}
use Rattle.nut_fleet.proofs.Following.{fsds-follow}
use Rattle.nut_fleet.proofs.Standing.{nobody-stops}
use Rattle.nut_running.specs.Rooms.{RunningRoomsAreRooms}
use Rattle.nut_running.proofs.Joining.{plays}
use Rattle.nut_running.proofs.Recorded.{are-ordered, accepted}

pub running-rooms : EveryTableHolds → RunningRoomsAreRooms
running-rooms every setup network run fine is =
    let all = plays setup network is.joined run is.carried (are-ordered setup network run is) (accepted setup network run is) in
    let law = lawful every setup.server in (
      all.schedule,
      record { now = record { server = all.follows.server; monitors = all.follows.monitors }; before = all.fronts },
      statuses-were_shown setup law fine all.schedule,
      shutdowns-have_causes setup law fine all.schedule,
      supply-suffices setup law fine all.schedule,
      primaries-go_last setup law fine all.schedule,
      nobody-else setup law fine all.schedule,
      fsds-follow setup law fine all.schedule,
      nobody-stops setup law fine all.schedule,
    )
