-- Written schedules in which bytes are carried in time.
use Rattle.std.proofs.Common.{◌&&◌, ◌++◌}
use Rattle.std.proofs.lemmas.Bool.{and_parts}
use Rattle.nut_fleet.specs.World.{Setup, is_linked, world}
use Rattle.nut_fleet.specs.Fleet.{IsSetup}
use Rattle.nut_fleet.proofs.Sound.{IsLawful}
use Rattle.nut_in_time.specs.Carried.{CarriedLinksKeepPace}
use Rattle.nut_in_time.specs.Tests.{each_since, is_quiet, is_emptied}
use Rattle.nut_in_time.proofs.Emptied.{emptied-keep_pace}
use Rattle.nut_in_time.proofs.Testing.{each-holds, quiet-holds, emptied-holds}

pub carried-keep_pace : (setup : Setup) → IsLawful setup.server → IsSetup setup → CarriedLinksKeepPace setup
carried-keep_pace setup law fine pace m i start newest there is =
    let up = each_since (λ early. is_linked setup (world setup early) m i) start newest in
    let quiet = is_quiet setup m i (world setup start) in
    let emptied = is_emptied setup m i start newest in
    let parts = and_parts up (quiet && emptied) is in
    let more = and_parts quiet emptied parts.1 in
    emptied-keep_pace setup law fine (newest ++ start) pace m i start there
    (each-holds (λ early. is_linked setup (world setup early) m i) start newest parts.0)
    (quiet-holds setup m i (world setup start) more.0) (emptied-holds setup m i start newest more.1)
