use Rattle.nut_words.proofs.StreamGrowth.{lines-append, rest-append, lines_at_line_feed, rest_at_line_feed, lines_within, rest_within}
use Rattle.nut_words.proofs.cutter.stream_growth.Goals as goal

pub returns : goal.returns
returns c = record {
  lines = lines-append;
  rest = rest-append;
  lines_at_line_feed = lines_at_line_feed;
  rest_at_line_feed = rest_at_line_feed;
  lines_within = lines_within;
  rest_within = rest_within;
}
