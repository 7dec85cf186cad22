use Rattle.std.proofs.Common.{◌≡◌, List, Some, ap, ◌∙◌}
use Rattle.std.specs.Option.{option_map}
use Rattle.nut_conf.specs.Rows.{Row, row_of, directives_of}
use Rattle.nut_conf.specs.Settings.{directive_of}
use Rattle.nut_conf.specs.inside.Found.{ups_found, user_found, upsd_found, upsmon_found, description_found}
use Rattle.nut_conf.specs.Descriptions.{description_row, description_rows}
use Rattle.nut_conf.specs.Ups.{ups_row, ups_rows}
use Rattle.nut_conf.specs.Upsd.{upsd_row, upsd_rows}
use Rattle.nut_conf.specs.Upsmon.{upsmon_row, upsmon_rows}
use Rattle.nut_conf.specs.Users.{user_row, user_rows}
use Rattle.nut_conf.proofs.DraftLemmas.{directive_of_row}
use Rattle.nut_conf.proofs.KeptRules.{each_keeps_rule, keeps_rule}
use Rattle.nut_conf.proofs.laws.rules_are_kept.Goals as goal
use Rattle.nut_conf.specs.declared.limits.TheConstants.{UPSES_MAX, USERS_MAX}

-- A directive that stands in a table under its word is the one with this word.
named : {C D : Type 0} (row : D → Row C) (rows : List D) (d : D) → row_of row rows (row d).directive.word ≡ Some d
    → directive_of (row d).directive.word (directives_of row rows) ≡ Some (row d).directive
named row rows d found = directive_of_row row (row d).directive.word rows ∙ ap (option_map (λ d. (row d).directive)) found

pub returns : goal.returns
returns c = record {
  ups = λ file lines is d. each_keeps_rule (directives_of ups_row ups_rows) (ups_row d).directive (named ups_row ups_rows d (ups_found d)) UPSES_MAX file lines is;
  users = λ file lines is d. each_keeps_rule (directives_of user_row user_rows) (user_row d).directive (named user_row user_rows d (user_found d)) USERS_MAX file lines is;
  upsd = λ file lines is d. keeps_rule (directives_of upsd_row upsd_rows) (upsd_row d).directive (named upsd_row upsd_rows d (upsd_found d)) file lines is;
  upsmon = λ file lines is d. keeps_rule (directives_of upsmon_row upsmon_rows) (upsmon_row d).directive (named upsmon_row upsmon_rows d (upsmon_found d)) file lines is;
  descriptions = λ file lines is d.
      keeps_rule (directives_of description_row description_rows) (description_row d).directive (named description_row description_rows d (description_found d)) file lines is;
}
