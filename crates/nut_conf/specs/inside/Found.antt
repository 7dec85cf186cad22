-- For private functions, nothing here has to be believed: each table has each of its directives under its word.
use Rattle.std.specs.Prelude.{◌≡◌, Some, refl}
use Rattle.nut_conf.specs.Rows.{row_of}
use Rattle.nut_conf.specs.Descriptions.{description_row, description_rows}
use Rattle.nut_conf.specs.Ups.{ups_row, ups_rows}
use Rattle.nut_conf.specs.Upsd.{upsd_row, upsd_rows}
use Rattle.nut_conf.specs.Upsmon.{upsmon_row, upsmon_rows}
use Rattle.nut_conf.specs.Users.{user_row, user_rows}
use Rattle.nut_conf.specs.declared.descriptions.DescriptionDirective.{DescriptionDirective}
use Rattle.nut_conf.specs.declared.descriptions.DescriptionDirective.TheVariants as of_descriptions
use Rattle.nut_conf.specs.declared.ups.UpsDirective.{UpsDirective}
use Rattle.nut_conf.specs.declared.ups.UpsDirective.TheVariants as of_ups
use Rattle.nut_conf.specs.declared.upsd.UpsdDirective.{UpsdDirective}
use Rattle.nut_conf.specs.declared.upsd.UpsdDirective.TheVariants as of_upsd
use Rattle.nut_conf.specs.declared.upsmon.UpsmonDirective.{UpsmonDirective}
use Rattle.nut_conf.specs.declared.upsmon.UpsmonDirective.TheVariants as of_upsmon
use Rattle.nut_conf.specs.declared.users.UserDirective.{UserDirective}
use Rattle.nut_conf.specs.declared.users.UserDirective.TheVariants as of_users

pub ups_found : (d : UpsDirective) → row_of ups_row ups_rows (ups_row d).directive.word ≡ Some d
ups_found of_ups.Driver = refl
ups_found _ = refl

pub user_found : (d : UserDirective) → row_of user_row user_rows (user_row d).directive.word ≡ Some d
user_found of_users.Password = refl
user_found _ = refl

pub upsd_found : (d : UpsdDirective) → row_of upsd_row upsd_rows (upsd_row d).directive.word ≡ Some d
upsd_found of_upsd.Listen = refl
upsd_found _ = refl

pub upsmon_found : (d : UpsmonDirective) → row_of upsmon_row upsmon_rows (upsmon_row d).directive.word ≡ Some d
upsmon_found of_upsmon.Monitor = refl
upsmon_found _ = refl

pub description_found : (d : DescriptionDirective) → row_of description_row description_rows (description_row d).directive.word ≡ Some d
description_found of_descriptions.Variable = refl
description_found _ = refl
