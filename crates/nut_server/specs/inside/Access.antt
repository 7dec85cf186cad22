-- For private functions, nothing here has to be believed: the rights of users.
use Rattle.std.specs.Prelude.{Bool}
use Rattle.nut_server_spec.specs.Configuration.{User, may_command}
use Rattle.nut_server_spec.specs.Answer.{may_set, may_log_in, may_be_primary, may_force}
use Rattle.nut_server.specs.declared.access.Right.{Right}
use Rattle.nut_server.specs.declared.access.Right.TheVariants as rights

-- whether the user has the right
abbrev pub allows : Right → User → Bool
allows rights.Set user = may_set user
allows (rights.Command name) user = may_command name.now user
allows rights.LogIn user = may_log_in user
allows rights.BePrimary user = may_be_primary user
allows rights.Force user = may_force user
