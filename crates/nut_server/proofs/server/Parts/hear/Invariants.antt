use Rattle.std.proofs.Common.{length}
use Rattle.nut_server.specs.inside.Place.{Stands}
use Rattle.nut_server.proofs.FirstLines.{IsAhead}
use Rattle.nut_server.proofs.server.Parts.hear.Given as goal

abbrev pub invariant-loop-left : goal.invariant-loop-left
invariant-loop-left l = record {
  ahead : IsAhead l.c l.piece l.left l.done l.fn.self l.self;
  stands : Stands l.c l.self.sessions l.at;
}

abbrev pub decreases-loop-left : goal.decreases-loop-left
decreases-loop-left l = length l.left
