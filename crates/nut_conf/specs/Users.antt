-- The file upsd.users: which users there are, and what they may do.
use Rattle.std.specs.Prelude.{ℕ, Bool, true, false, List, [], ◌∷◌, map, codes, Option, None, Some, Result, Ok, if◌then◌else◌}
use Rattle.std.specs.List.{list_any}
use Rattle.std.specs.Option.{option_map_or}
use Rattle.std.specs.Str.{bytes_eq}
use Rattle.std.specs.Char.{to_ascii_lowercase}
use Rattle.nut_words.specs.declared.limits.TheConstants.{NAME_MAX}
use Rattle.indexmap.specs.IndexMap.{get_by}
use Rattle.nut_conf.specs.Faults.{◌>>=◌}
use Rattle.nut_conf.specs.Values.{Words, one, name}
use Rattle.nut_conf.specs.Settings.{Setting, Text, AllCommands, line_fault, listed, word_value}
use Rattle.nut_conf.specs.Rows.{Row, once_row, text_row, list_row, directives_of, line_grows, RowsHold}
use Rattle.nut_conf.specs.Files.{LineFault}
use Rattle.nut_conf.specs.Sections.{AllHold, sections, sectioned_fault, sectioned_grows, is_named}
use Rattle.nut_conf.specs.declared.fault.FaultKind.{FaultKind}
use Rattle.nut_conf.specs.declared.values.Form.TheVariants.{Assigned, Plain}
use Rattle.nut_conf.specs.declared.users.UsersConf.{UsersConf}
use Rattle.nut_conf.specs.declared.users.User.{User}
use Rattle.nut_conf.specs.declared.users.Action.{Action}
use Rattle.nut_conf.specs.declared.users.Action.TheVariants as actions
use Rattle.nut_conf.specs.declared.users.Commands.{Commands}
use Rattle.nut_conf.specs.declared.users.Commands.TheVariants as commands
use Rattle.nut_conf.specs.declared.users.Role.{Role}
use Rattle.nut_conf.specs.declared.users.Role.TheVariants as roles
use Rattle.nut_conf.specs.declared.users.UserDirective.{UserDirective}
use Rattle.nut_conf.specs.declared.users.UserDirective.TheVariants.{Password, Actions, Instcmds, Upsmon}
use Rattle.nut_conf.specs.declared.limits.TheConstants.{INSTCMDS_MAX, USERS_MAX}

-- the word of a role
abbrev pub role_word : Role → List ℕ
role_word roles.Primary = codes "primary"
role_word roles.Secondary = codes "secondary"

-- the setting that a role represents
abbrev pub role_setting : Role → Setting
role_setting r = Text (role_word r)

-- what an `upsmon` line sets: its only value, the word of a role
abbrev pub role_value : Words → Result Setting FaultKind
role_value = word_value (codes "primary" ∷ codes "secondary" ∷ [])

-- the word of an action
abbrev pub action_word : Action → List ℕ
action_word actions.Set = codes "SET"
action_word actions.Fsd = codes "FSD"

-- the setting that an action represents
abbrev pub action_setting : Action → Setting
action_setting a = Text (action_word a)

-- what an `actions` line sets: its only value, the word of an action
abbrev pub action_value : Words → Result Setting FaultKind
action_value = word_value (codes "SET" ∷ codes "FSD" ∷ [])

-- the setting that the commands of a user represent
abbrev pub commands_setting : Commands → Setting
commands_setting commands.All = AllCommands
commands_setting (commands.Named n) = Text n.bytes.items

-- what an `instcmds` line sets: its only value, `all` in upper or lower case, or the name of a command
abbrev pub commands_value : Words → Result Setting FaultKind
commands_value vs =
    one vs >>= (λ w. if bytes_eq (map to_ascii_lowercase w) (codes "all") then Ok AllCommands else name NAME_MAX w >>= (λ n. Ok (Text n)))

-- the directives of a section
abbrev pub user_row : UserDirective → Row User
user_row Password = text_row (codes "password") Assigned (λ (u : User). u.password)
user_row Actions = list_row (codes "actions") (listed None Assigned action_value) action_setting (λ (u : User). u.actions.items)
user_row Instcmds =
    list_row (codes "instcmds") (listed (Some INSTCMDS_MAX) Assigned commands_value) commands_setting (λ (u : User). u.instcmds.items)
user_row Upsmon = once_row (codes "upsmon") Plain role_value role_setting (λ (u : User). u.upsmon)

-- the rows of the table
abbrev pub user_rows : List UserDirective
user_rows = Password ∷ Actions ∷ Instcmds ∷ Upsmon ∷ []

-- whether a line allocates memory for what it sets: only these lines and section lines do
abbrev pub users_conf_grows : Words → Bool
users_conf_grows = sectioned_grows (line_grows user_row user_rows)

-- the first fault of a line of upsd.users, which has at most USERS_MAX sections
abbrev pub users_fault : LineFault
users_fault = sectioned_fault (line_fault (directives_of user_row user_rows)) USERS_MAX

-- The configuration holds the sections of the file, in order.
abbrev pub UsersConfHolds : UsersConf → List Words → Type 0
UsersConfHolds c lines = AllHold (RowsHold user_row) c.users.by_name.entries (sections lines)

-- the user with this name
abbrev pub user_named : List ℕ → UsersConf → Option User
user_named name c = get_by (is_named name) c.users.by_name

-- whether this is the user's password; if the user has none, no password is right
abbrev pub has_password : List ℕ → User → Bool
has_password password u = option_map_or (λ t. bytes_eq password t.bytes.items) u.password false

-- whether the user may take the action
abbrev pub may_act : Action → User → Bool
may_act action u = list_any (λ a. bytes_eq (action_word action) (action_word a)) u.actions.items

-- whether the command with this name is among these commands
abbrev pub covers : List ℕ → Commands → Bool
covers name commands.All = true
covers name (commands.Named n) = bytes_eq name n.bytes.items

-- whether the user may give the command with this name
abbrev pub may_command : List ℕ → User → Bool
may_command name u = list_any (covers name) u.instcmds.items
