-- The command words that this server takes: those of RFC 9271 without its second names, such as PROTVER.
use Rattle.std.specs.Prelude.{ℕ, Bool, List, [], ◌∷◌, Option, codes, find}
use Rattle.std.specs.Str.{str_eq_ignore_ascii_case}
use Rattle.nut_proto.specs.declared.keyword.Command.{Command}
use Rattle.nut_proto.specs.declared.keyword.Command.TheVariants as commands

abbrev pub command_name : Command → List ℕ
command_name commands.Get = codes "GET"
command_name commands.List = codes "LIST"
command_name commands.Set = codes "SET"
command_name commands.InstCmd = codes "INSTCMD"
command_name commands.Username = codes "USERNAME"
command_name commands.Password = codes "PASSWORD"
command_name commands.Login = codes "LOGIN"
command_name commands.Primary = codes "PRIMARY"
command_name commands.Fsd = codes "FSD"
command_name commands.Logout = codes "LOGOUT"
command_name commands.Ver = codes "VER"
command_name commands.NetVer = codes "NETVER"
command_name commands.Help = codes "HELP"
command_name commands.StartTls = codes "STARTTLS"

abbrev pub all_commands : List Command
all_commands =
    commands.Get ∷ commands.List ∷ commands.Set ∷ commands.InstCmd ∷ commands.Username ∷ commands.Password ∷ commands.Login ∷
    commands.Primary ∷ commands.Fsd ∷ commands.Logout ∷ commands.Ver ∷ commands.NetVer ∷ commands.Help ∷ commands.StartTls ∷ []

-- Whether the word is `name`. Command words are compared without regard to ASCII case.
abbrev pub is_named : List ℕ → List ℕ → Bool
is_named word name = str_eq_ignore_ascii_case word name

-- the command that the first word of a line names, if it names one
unfoldable pub command_of : List ℕ → Option Command
command_of word = find (λ command. is_named word (command_name command)) all_commands
