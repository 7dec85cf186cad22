use Rattle.nut_words.proofs.WrittenLine.{line_printable, lines_of_printable, one_written_line, rest_of_printable}
use Rattle.nut_words.proofs.WrittenSpells.{quoted_spells, word_spells, written_spells}
use Rattle.nut_words.proofs.quoting.written_is_read.Goals as goal

pub returns : goal.returns
returns c = record {
  word = word_spells;
  quoted = quoted_spells;
  line = written_spells;
  printable = line_printable;
  one_line = one_written_line;
  next_line = lines_of_printable;
  next_rest = rest_of_printable;
}
