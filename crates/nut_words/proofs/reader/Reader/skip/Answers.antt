use Rattle.std.proofs.lemmas.List.{take_rest}
use Rattle.nut_words.specs.inside.Reading.{words_read}
use Rattle.nut_words.proofs.ReadLemmas.{skips_bare}
use Rattle.nut_words.proofs.reader.Reader.skip.Goals as goal

pub returns-clause-same : goal.returns-clause-same
returns-clause-same c =
    let self = c.args.self.now in
    skips_bare self.draft self.mode (words_read self) c.args.at c.bare_len.result c.in-Bare.is c.in-None.is c.requires.reading.begun _ (take_rest self.draft.line.now c.args.at) c.bare_len.ensures.bare
