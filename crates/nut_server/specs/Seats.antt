-- Which connection makes way for a new one.
use Rattle.std.specs.Prelude.{ℕ, Bool, true, false, not, ◌&&◌, ◌||◌, nat_lt, nat_le, if◌then◌else◌, List, length, find, Option, Some, None, is_none, option_map}
use Rattle.std.specs.Option.{option_or}
use Rattle.nut_server_spec.specs.declared.limits.TheConstants.{OPENED_MAX}
use Rattle.nut_server_spec.specs.Configuration.{User, user_named}
use Rattle.nut_server_spec.specs.Answer.{has_right}
use Rattle.nut_server_spec.specs.Content.{Content, Session}

-- whether there is a user with this name and this password
abbrev pub are_right : List User → Option (List ℕ) → Option (List ℕ) → Bool
are_right users None password = false
are_right users (Some name) None = false
are_right users (Some name) (Some password) = has_right (λ user. true) password (user_named name users)

-- whether the client isn't logged in
abbrev pub has_no_login : Session → Bool
has_no_login k = is_none k.login

-- whether the client isn't logged in, and has not given the name and the password of a user
abbrev pub is_stranger : List User → Session → Bool
is_stranger users k = has_no_login k && not (are_right users k.user k.password)

-- the session that makes way for a new one, of sessions by rising number: the first of a stranger; if there is none, the
-- first without login
abbrev pub longest_without_login : List User → List Session → Option Session
longest_without_login users sessions = option_or (find (is_stranger users) sessions) (find has_no_login sessions)

-- The number of the connection that is closed so that a new one can be opened. None if one can be opened as it is, if all
-- clients are logged in, or if none is ever opened again.
abbrev pub makes_way : Content → Option ℕ
makes_way s =
    if nat_lt (length s.sessions) s.configuration.most_connections || nat_le OPENED_MAX s.opened then None else
    option_map (λ k. k.number) (longest_without_login s.configuration.users s.sessions)
