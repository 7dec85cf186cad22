-- What a server is made with (ups.conf(5), upsd.users(5), upsd.conf(5), cmdvartab).
use Rattle.std.specs.Prelude.{ℕ, Bool, true, false, List, Option, Some, None, find, position}
use Rattle.std.specs.List.{list_any}
use Rattle.std.specs.Option.{option_map_or}
use Rattle.std.specs.Str.{bytes_eq}
use Rattle.nut_conf.specs.declared.users.Action.{Action}
use Rattle.nut_conf.specs.declared.users.Role.{Role}
use Rattle.nut_conf.specs.Users.{action_word}

-- a UPS: its name, the name of its driver's program, and its description for LIST UPS and GET UPSDESC
pub record Ups : Type 0 where
  pub name : List ℕ
  pub driver : List ℕ
  pub description : List ℕ

-- A user: name, password, allowed actions, allowed commands (`None` allows all), and the role of the user's monitor.
pub record User : Type 0 where
  pub name : List ℕ
  pub password : Option (List ℕ)
  pub actions : List Action
  pub commands : List (Option (List ℕ))
  pub role : Option Role

-- The UPSes and the users in the order of their files, after how many seconds without a word from its driver the
-- data of a UPS are stale, how many connections may be open at once, and what variables mean and commands do, by their
-- names.
pub record Configuration : Type 0 where
  pub upses : List Ups
  pub users : List User
  pub max_age : ℕ
  pub most_connections : ℕ
  pub variable_texts : List (List ℕ × List ℕ)
  pub command_texts : List (List ℕ × List ℕ)

-- the first UPS with this name; upper and lower case differ
abbrev pub ups_named : List ℕ → List Ups → Option Ups
ups_named name upses = find (λ u. bytes_eq u.name name) upses

-- the place of the first UPS with this name, counted from 0 in the order of the file
abbrev pub number_of_ups : List ℕ → List Ups → Option ℕ
number_of_ups name upses = position (λ u. bytes_eq u.name name) upses

-- the first user with this name
abbrev pub user_named : List ℕ → List User → Option User
user_named name users = find (λ u. bytes_eq u.name name) users

-- whether this is the user's password; if the user has none, no password is right
abbrev pub has_password : List ℕ → User → Bool
has_password password u = option_map_or (λ own. bytes_eq password own) u.password false

-- whether the user may take the action
abbrev pub may_act : Action → User → Bool
may_act action u = list_any (λ a. bytes_eq (action_word action) (action_word a)) u.actions

-- whether the user may give the command: one of those allowed is `None`, which allows all, or this command
abbrev pub may_command : List ℕ → User → Bool
may_command name u = list_any (λ allowed. option_map_or (bytes_eq name) allowed true) u.commands
