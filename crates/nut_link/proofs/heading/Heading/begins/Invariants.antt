use Rattle.std.proofs.Common.{◌≡◌, drop}
use Rattle.nut_link.specs.Matching.{begins}
use Rattle.nut_link.proofs.heading.Heading.begins.Given as goal

abbrev pub invariant-loop-name : goal.invariant-loop-name
invariant-loop-name l = record {
  place : l.place ≡ l.name-index;
  so_far : begins l.self l.words ≡ begins (drop l.name-index l.self) (drop l.name-index l.words);
}
