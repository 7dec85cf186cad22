use Rattle.std.proofs.Common.{arith}
use Rattle.nut_play.proofs.Fits.{fits_line, fits_there, fits_watched, fits_within}
use Rattle.nut_play.proofs.fleet.Fleet.step.Goals as goal

pub with_feed-piece-requires : goal.with_feed-piece-requires
with_feed-piece-requires c = grind (arith, fits_line)

pub join-requires-clause-within : goal.join-requires-clause-within
join-requires-clause-within c = grind (arith, fits_within)

pub join-requires-clause-there : goal.join-requires-clause-there
join-requires-clause-there c = grind (arith, fits_there)

pub join-requires-clause-watched : goal.join-requires-clause-watched
join-requires-clause-watched c = grind (arith, fits_watched)

pub send-requires-clause-within : goal.send-requires-clause-within
send-requires-clause-within c = grind (arith, fits_within)

pub send-requires-clause-there : goal.send-requires-clause-there
send-requires-clause-there c = grind (arith, fits_there)

pub reach-requires-clause-within : goal.reach-requires-clause-within
reach-requires-clause-within c = grind (arith, fits_within)

pub reach-requires-clause-there : goal.reach-requires-clause-there
reach-requires-clause-there c = grind (arith, fits_there)

pub back-requires-clause-within : goal.back-requires-clause-within
back-requires-clause-within c = grind (arith, fits_within)

pub back-requires-clause-there : goal.back-requires-clause-there
back-requires-clause-there c = grind (arith, fits_there)

pub land-requires-clause-within : goal.land-requires-clause-within
land-requires-clause-within c = grind (arith, fits_within)

pub land-requires-clause-there : goal.land-requires-clause-there
land-requires-clause-there c = grind (arith, fits_there)

pub connection-connection-requires-clause-within : goal.connection-connection-requires-clause-within
connection-connection-requires-clause-within c = grind (arith, fits_within)

pub connection-connection-requires-clause-there : goal.connection-connection-requires-clause-there
connection-connection-requires-clause-there c = grind (arith, fits_there)
