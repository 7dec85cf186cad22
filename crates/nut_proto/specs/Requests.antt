-- The requests of a client: the forms in which they are read, how they are written, and the lines before and after the rows
-- of a list (RFC 9271).
use Rattle.std.specs.Prelude.{ℕ, List, [], ◌∷◌, Option, Some, None, codes, if◌then◌else◌}
use Rattle.std.specs.Option.{option_map}
use Rattle.nut_proto.specs.declared.request.Request.{Request}
use Rattle.nut_proto.specs.declared.request.Request.TheVariants as requests
use Rattle.nut_proto.specs.declared.request.ListQuery.{ListQuery}
use Rattle.nut_proto.specs.declared.request.ListQuery.TheVariants as queries
use Rattle.nut_proto.specs.declared.keyword.Command.{Command}
use Rattle.nut_proto.specs.declared.keyword.Command.TheVariants as commands
use Rattle.nut_proto.specs.declared.part.Part.{Part}
use Rattle.nut_proto.specs.declared.part.Part.TheVariants.{Word, Quoted, Number}
use Rattle.nut_proto.specs.Keywords.{is_named}
use Rattle.nut_proto.specs.Lines.{line}
use Rattle.nut_proto.specs.Rules.{none, one, two, three, credential, numbered, switched, optional_word}
use Rattle.nut_proto.specs.Tracking.{switch_word}

-- ---- how requests are read

-- what the words after a command word make, if they make anything
abbrev pub Rule : Type 0 → Type 0
Rule A = List (List ℕ) → Option A

-- A form has a word and a rule for the words behind it.
abbrev pub Form : Type 0 → Type 0
Form A = List ℕ × Rule A

-- what the rule of the first form whose word this is makes of the words behind it
abbrev pub first_named : {A : Type 0} → List (Form A) → List ℕ → Rule A
first_named [] word words = None
first_named (form ∷ forms) word words = if is_named word form.0 then form.1 words else first_named forms word words

-- what words make the first of which names a form
abbrev pub about : {A : Type 0} → List (Form A) → Rule A
about forms [] = None
about forms (word ∷ words) = first_named forms word words

-- GET TRACKING, with a number or without one
abbrev pub get_tracking : Rule Request
get_tracking [] = Some requests.GetTracking
get_tracking (number ∷ words) = numbered requests.GetTrackingOf (number ∷ words)

-- INSTCMD, with a parameter or without one
abbrev pub inst_cmd : Rule Request
inst_cmd (ups ∷ command ∷ words) = option_map (λ parameter. requests.InstCmd ups command parameter) (optional_word words)
inst_cmd words = None

-- the forms of GET
abbrev pub get_forms : List (Form Request)
get_forms =
    (codes "NUMLOGINS", one requests.GetNumLogins) ∷
    (codes "UPSDESC", one requests.GetUpsDesc) ∷
    (codes "VAR", two requests.GetVar) ∷
    (codes "TYPE", two requests.GetType) ∷
    (codes "DESC", two requests.GetDesc) ∷
    (codes "CMDDESC", two requests.GetCmdDesc) ∷
    (codes "TRACKING", get_tracking) ∷
    []

-- the forms of LIST
abbrev pub list_forms : List (Form ListQuery)
list_forms =
    (codes "UPS", none queries.Ups) ∷
    (codes "VAR", one queries.Var) ∷
    (codes "RW", one queries.Rw) ∷
    (codes "CMD", one queries.Cmd) ∷
    (codes "ENUM", two queries.Enum) ∷
    (codes "RANGE", two queries.Range) ∷
    (codes "CLIENT", one queries.Client) ∷
    []

-- the forms of SET
abbrev pub set_forms : List (Form Request)
set_forms = (codes "VAR", three requests.SetVar) ∷ (codes "TRACKING", switched requests.SetTracking) ∷ []

-- the request that a command and the words behind it make, if they make one
abbrev pub request_by : Command → Rule Request
request_by commands.Get words = about get_forms words
request_by commands.List words = option_map (λ query. requests.List query) (about list_forms words)
request_by commands.Set words = about set_forms words
request_by commands.InstCmd words = inst_cmd words
request_by commands.Username words = credential requests.Username words
request_by commands.Password words = credential requests.Password words
request_by commands.Login words = one requests.Login words
request_by commands.Primary words = one requests.Primary words
request_by commands.Fsd words = one requests.Fsd words
request_by commands.Logout words = none requests.Logout words
request_by commands.Ver words = none requests.Ver words
request_by commands.NetVer words = none requests.NetVer words
request_by commands.Help words = none requests.Help words
request_by commands.StartTls words = none requests.StartTls words

-- ---- how requests are written

-- the words after LIST
abbrev pub query_parts : ListQuery → List Part
query_parts queries.Ups = Word (codes "UPS") ∷ []
query_parts (queries.Var ups) = Word (codes "VAR") ∷ Word ups ∷ []
query_parts (queries.Rw ups) = Word (codes "RW") ∷ Word ups ∷ []
query_parts (queries.Cmd ups) = Word (codes "CMD") ∷ Word ups ∷ []
query_parts (queries.Enum ups variable) = Word (codes "ENUM") ∷ Word ups ∷ Word variable ∷ []
query_parts (queries.Range ups variable) = Word (codes "RANGE") ∷ Word ups ∷ Word variable ∷ []
query_parts (queries.Client ups) = Word (codes "CLIENT") ∷ Word ups ∷ []

-- the part of a parameter, if there is one
abbrev pub parameter_parts : Option (List ℕ) → List Part
parameter_parts None = []
parameter_parts (Some parameter) = Quoted parameter ∷ []

-- the parts of a request: only the value of SET and the parameter of INSTCMD are always quoted
abbrev pub request_parts : Request → List Part
request_parts (requests.GetNumLogins ups) = Word (codes "GET") ∷ Word (codes "NUMLOGINS") ∷ Word ups ∷ []
request_parts (requests.GetUpsDesc ups) = Word (codes "GET") ∷ Word (codes "UPSDESC") ∷ Word ups ∷ []
request_parts (requests.GetVar ups variable) = Word (codes "GET") ∷ Word (codes "VAR") ∷ Word ups ∷ Word variable ∷ []
request_parts (requests.GetType ups variable) = Word (codes "GET") ∷ Word (codes "TYPE") ∷ Word ups ∷ Word variable ∷ []
request_parts (requests.GetDesc ups variable) = Word (codes "GET") ∷ Word (codes "DESC") ∷ Word ups ∷ Word variable ∷ []
request_parts (requests.GetCmdDesc ups command) = Word (codes "GET") ∷ Word (codes "CMDDESC") ∷ Word ups ∷ Word command ∷ []
request_parts requests.GetTracking = Word (codes "GET") ∷ Word (codes "TRACKING") ∷ []
request_parts (requests.GetTrackingOf number) = Word (codes "GET") ∷ Word (codes "TRACKING") ∷ Number number ∷ []
request_parts (requests.List query) = Word (codes "LIST") ∷ query_parts query
request_parts (requests.SetVar ups variable value) = Word (codes "SET") ∷ Word (codes "VAR") ∷ Word ups ∷ Word variable ∷ Quoted value ∷ []
request_parts (requests.SetTracking on) = Word (codes "SET") ∷ Word (codes "TRACKING") ∷ Word (switch_word on) ∷ []
request_parts (requests.InstCmd ups command parameter) = Word (codes "INSTCMD") ∷ Word ups ∷ Word command ∷ parameter_parts parameter
request_parts (requests.Username name) = Word (codes "USERNAME") ∷ Word name ∷ []
request_parts (requests.Password password) = Word (codes "PASSWORD") ∷ Word password ∷ []
request_parts (requests.Login ups) = Word (codes "LOGIN") ∷ Word ups ∷ []
request_parts (requests.Primary ups) = Word (codes "PRIMARY") ∷ Word ups ∷ []
request_parts (requests.Fsd ups) = Word (codes "FSD") ∷ Word ups ∷ []
request_parts requests.Logout = Word (codes "LOGOUT") ∷ []
request_parts requests.Ver = Word (codes "VER") ∷ []
request_parts requests.NetVer = Word (codes "NETVER") ∷ []
request_parts requests.Help = Word (codes "HELP") ∷ []
request_parts requests.StartTls = Word (codes "STARTTLS") ∷ []

-- the line of a request
unfoldable pub request_line : Request → List ℕ
request_line request = line (request_parts request)

-- the line before the rows of a list
abbrev pub begin_parts : ListQuery → List Part
begin_parts query = Word (codes "BEGIN") ∷ Word (codes "LIST") ∷ query_parts query

-- the line after the rows of a list
abbrev pub end_parts : ListQuery → List Part
end_parts query = Word (codes "END") ∷ Word (codes "LIST") ∷ query_parts query

unfoldable pub begin_line : ListQuery → List ℕ
begin_line query = line (begin_parts query)

unfoldable pub end_line : ListQuery → List ℕ
end_line query = line (end_parts query)
