-- Directives: how their lines are read, and what these lines set.
use Rattle.std.specs.Prelude.{◌≡◌, ℕ, Bool, true, false, List, [], ◌∷◌, ◌++◌, length, nat_le, if◌then◌else◌, Option, None, Some, Result, Ok, Err}
use Rattle.std.specs.List.{list_any, filter_map, find}
use Rattle.std.specs.Option.{option_map_or}
use Rattle.std.specs.Result.{result_err, result_ok}
use Rattle.std.specs.Str.{bytes_eq}
use Rattle.nut_conf.specs.Faults.{◌>>=◌, Refuses}
use Rattle.nut_conf.specs.Values.{Words, nth, values_of, one, one_of, name, text, number}
use Rattle.nut_conf.specs.declared.values.Form.{Form}
use Rattle.nut_conf.specs.declared.notice.NoticeFlags.{NoticeFlags}
use Rattle.nut_conf.specs.declared.fault.FaultKind.{FaultKind}
use Rattle.nut_conf.specs.declared.fault.FaultKind.TheVariants.{UnknownDirective, Repeated, PastLimit}

-- what a MONITOR line sets: the target as written; the UPS, host and port that it names; the power value; the user, the
-- password and the role
pub record MonitorLine : Type 0 where
  pub target : List ℕ
  pub ups : List ℕ
  pub host : List ℕ
  pub port : ℕ
  pub power : ℕ
  pub user : List ℕ
  pub password : List ℕ
  pub role : List ℕ

-- what a line sets, whatever its place in memory
pub data Setting : Type 0 where
  Text : List ℕ → Setting
  Number : ℕ → Setting
  AllCommands : Setting
  -- an address and a port
  Listen : List ℕ → ℕ → Setting
  Monitor : MonitorLine → Setting
  -- a type of notice, and its text
  Message : List ℕ → List ℕ → Setting
  -- a type of notice, and its flags
  Flags : List ℕ → NoticeFlags → Setting
  -- a variable or a command, and its text
  Description : List ℕ → List ℕ → Setting

-- how the lines of a directive are read
pub record Rule : Type 0 where
  pub form : Form
  -- the values, from left to right
  pub reads : Words → Result Setting FaultKind
  -- which two settings may not both be set
  pub clashes : Setting → Setting → Bool
  -- the most lines with the directive, if there is a limit
  pub most : Option ℕ

-- a row of the table of directives: its word, and how its lines are read
pub record Directive : Type 0 where
  pub word : List ℕ
  pub rule : Rule

-- any two settings clash: the directive is allowed once
abbrev pub always : Setting → Setting → Bool
always _ _ = true

-- no two settings clash: the directive is allowed more than once
abbrev pub never : Setting → Setting → Bool
never _ _ = false

-- what a line sets, or its first fault
abbrev pub setting : Rule → Words → Result Setting FaultKind
setting r ws = values_of r.form ws >>= r.reads

-- whether n settings leave no room for another
abbrev pub is_full : Option ℕ → ℕ → Bool
is_full None n = false
is_full (Some most) n = nat_le most n

-- the settings of the directive with s added at the end, or the fault that forbids it
abbrev pub added : Rule → List Setting → Setting → Result (List Setting) FaultKind
added r earlier s =
    if list_any (r.clashes s) earlier then Err Repeated
    else if is_full r.most (length earlier) then Err PastLimit
    else Ok (earlier ++ s ∷ [])

-- the settings of the directive after this line, or the first fault of the line
abbrev pub accepts : Rule → List Setting → Words → Result (List Setting) FaultKind
accepts r earlier ws = setting r ws >>= added r earlier

-- whether the first word of the line is the directive's
abbrev pub names : Words → Directive → Bool
names ws d = bytes_eq (nth ws 0) d.word

-- the directive with this word, if there is one
abbrev pub directive_of : List ℕ → List Directive → Option Directive
directive_of word directives = find (λ d. bytes_eq word d.word) directives

-- what a line sets for the directive, if it does
abbrev pub set_by : Directive → Words → Option Setting
set_by d ws = if names ws d then result_ok (setting d.rule ws) else None

-- what these lines set for the directive, in order
abbrev pub settings : Directive → List Words → List Setting
settings d lines = filter_map (set_by d) lines

-- The first fault of a line in a file with these directives, given the lines before it.
abbrev pub line_fault : List Directive → List Words → Words → Option FaultKind
line_fault directives before ws =
    option_map_or (λ d. result_err (accepts d.rule (settings d before) ws)) (directive_of (nth ws 0) directives) (Some UnknownDirective)

-- The call changed the settings from old to new as this line does; or it returned the fault of the line; or the line
-- has no fault and memory could not be allocated.
abbrev pub Puts : Rule → List Setting → Words → Result (Unit {0}) FaultKind → List Setting → Type 0
Puts r old ws (Ok _) new = accepts r old ws ≡ Ok new
Puts r old ws (Err e) new = Refuses e (accepts r old ws)

-- the rule of a directive that is allowed once
abbrev pub once : Form → (Words → Result Setting FaultKind) → Rule
once form reads = record { form = form; reads = reads; clashes = always; most = None }

-- the rule of a directive that is allowed at most `most` times, or any number of times if that is none
abbrev pub listed : Option ℕ → Form → (Words → Result Setting FaultKind) → Rule
listed most form reads = record { form = form; reads = reads; clashes = never; most = most }

-- the rule of a directive no two settings of which may be alike, and which is allowed at most `most` times, or any
-- number of times if that is none
abbrev pub distinct : (Setting → Setting → Bool) → Option ℕ → Form → (Words → Result Setting FaultKind) → Rule
distinct alike most form reads = record { form = form; reads = reads; clashes = alike; most = most }

-- the only value, a name of at most `most` bytes
abbrev pub name_value : ℕ → Words → Result Setting FaultKind
name_value most vs = one vs >>= name most >>= (λ t. Ok (Text t))

-- the only value, a text of `least` to `most` bytes
abbrev pub text_value : ℕ → ℕ → Words → Result Setting FaultKind
text_value least most vs = one vs >>= text least most >>= (λ t. Ok (Text t))

-- the only value, a number from `least` to `most`
abbrev pub number_value : ℕ → ℕ → Words → Result Setting FaultKind
number_value least most vs = one vs >>= number least most >>= (λ n. Ok (Number n))

-- the only value, one of these words
abbrev pub word_value : Words → Words → Result Setting FaultKind
word_value words vs = one vs >>= one_of words >>= (λ t. Ok (Text t))
