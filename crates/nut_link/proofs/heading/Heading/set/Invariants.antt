use Rattle.std.proofs.Common.{◌≡◌, take}
use Rattle.nut_words.specs.Quoting.{texts}
use Rattle.nut_link.proofs.heading.Heading.set.Given as goal

abbrev pub invariant-loop-word : goal.invariant-loop-word
invariant-loop-word l = l.self ≡ texts (take l.word-index l.words)
