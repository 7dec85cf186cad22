-- The configuration of a server, as the files ups.conf, upsd.users, upsd.conf and cmdvartab set it.
use Rattle.std.specs.Prelude.{ℕ, List, [], map, Option, Some, None}
use Rattle.std.specs.Option.{option_map}
use Rattle.nut_conf.specs.Descriptions.{rows_of}
use Rattle.nut_words.specs.declared.limits.TheConstants.{UPS_NAME_MAX}
use Rattle.nut_conf.specs.Ups.{Shown, shown_in}
use Rattle.nut_conf.specs.declared.descriptions.Descriptions.{Descriptions}
use Rattle.nut_conf.specs.declared.text.Name.{Name}
use Rattle.nut_conf.specs.declared.ups.UpsConf.{UpsConf}
use Rattle.nut_conf.specs.declared.upsd.UpsdConf.{UpsdConf}
use Rattle.nut_conf.specs.declared.users.User as files
use Rattle.nut_conf.specs.declared.users.UsersConf.{UsersConf}
use Rattle.nut_conf.specs.declared.users.Commands.{Commands}
use Rattle.nut_conf.specs.declared.users.Commands.TheVariants as commands
use Rattle.nut_server_spec.specs.Configuration.{Configuration, Ups, User}

-- a UPS of ups.conf, as the server's configuration has it
abbrev pub ups_of : Shown → Ups
ups_of u = record { name = u.name; driver = u.driver; description = u.description }

-- the UPSes of ups.conf, in the order of the file
abbrev pub upses_of : UpsConf → List Ups
upses_of c = map ups_of (shown_in c)

-- the commands that a line of upsd.users allows: all, or one
abbrev pub command_of : Commands → Option (List ℕ)
command_of commands.All = None
command_of (commands.Named n) = Some n.bytes.items

-- a user of upsd.users with this name, as the server's configuration has it
abbrev pub user_of : List ℕ → files.User → User
user_of name u = record {
  name = name;
  password = option_map (λ t. t.bytes.items) u.password;
  actions = u.actions.items;
  commands = map command_of u.instcmds.items;
  role = u.upsmon;
}

-- the user of an entry of upsd.users
abbrev pub user_in : Name UPS_NAME_MAX × files.User → User
user_in e = user_of e.0.bytes.items e.1

-- the users of upsd.users, in the order of the file
abbrev pub users_of : UsersConf → List User
users_of c = map user_in c.users.by_name.entries

-- what variables mean, in the order of cmdvartab, if there is that file
abbrev pub variable_texts_of : Option Descriptions → List (List ℕ × List ℕ)
variable_texts_of (Some d) = rows_of d.variables
variable_texts_of None = []

-- what commands do, in the order of cmdvartab, if there is that file
abbrev pub command_texts_of : Option Descriptions → List (List ℕ × List ℕ)
command_texts_of (Some d) = rows_of d.commands
command_texts_of None = []

-- the configuration that ups.conf, upsd.users and upsd.conf set, with the texts of cmdvartab if there is that file
abbrev pub configuration_of : UpsConf → UsersConf → UpsdConf → Option Descriptions → Configuration
configuration_of ups users upsd descriptions = record {
  upses = upses_of ups;
  users = users_of users;
  max_age = upsd.max_age.value;
  most_connections = upsd.max_conn.value;
  variable_texts = variable_texts_of descriptions;
  command_texts = command_texts_of descriptions;
}
