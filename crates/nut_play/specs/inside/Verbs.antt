-- For private functions, nothing here has to be believed: the steps of the verbs that have only numbers behind them.
use Rattle.std.specs.Prelude.{ℕ}
use Rattle.nut_play.specs.declared.reading.OneNumber.{OneNumber}
use Rattle.nut_play.specs.declared.reading.OneNumber.TheVariants as singles
use Rattle.nut_play.specs.declared.reading.TwoNumbers.{TwoNumbers}
use Rattle.nut_play.specs.declared.reading.TwoNumbers.TheVariants as pairs
use Rattle.nut_play.specs.declared.reading.ThreeNumbers.{ThreeNumbers}
use Rattle.nut_play.specs.declared.reading.ThreeNumbers.TheVariants as triples
use Rattle.nut_fleet.specs.Schedule.{Step, ServerClock, MonitorClock, Up, Down, Link, Out, Reach, Back, Land, CutServer, CutMonitor}

-- the steps of the verbs with one number, with two and with three
abbrev pub one_form : OneNumber → ℕ → Step
one_form singles.Server = ServerClock
one_form singles.Up = Up
one_form singles.Down = Down

abbrev pub two_form : TwoNumbers → ℕ → ℕ → Step
two_form pairs.Monitor = MonitorClock
two_form pairs.Link = Link
two_form pairs.CutServer = CutServer
two_form pairs.CutMonitor = CutMonitor

abbrev pub three_form : ThreeNumbers → ℕ → ℕ → ℕ → Step
three_form triples.Out = Out
three_form triples.Reach = Reach
three_form triples.Back = Back
three_form triples.Land = Land
