use Rattle.nut_conf.specs.Rows.{directives_of}
use Rattle.nut_conf.specs.Settings.{line_fault}
use Rattle.nut_conf.specs.Ups.{ups_row, ups_rows}
use Rattle.nut_conf.specs.Users.{user_row, user_rows}
use Rattle.nut_conf.proofs.DistinctNames.{distinct_names}
use Rattle.nut_conf.proofs.laws.names_are_distinct.Goals as goal
use Rattle.nut_conf.specs.declared.limits.TheConstants.{UPSES_MAX, USERS_MAX}

pub returns-clause-ups : goal.returns-clause-ups
returns-clause-ups c = λ file lines is. distinct_names (line_fault (directives_of ups_row ups_rows)) UPSES_MAX file lines is

pub returns-clause-users : goal.returns-clause-users
returns-clause-users c = λ file lines is. distinct_names (line_fault (directives_of user_row user_rows)) USERS_MAX file lines is
