-- Worked examples: who has a right, and who hasn't, computed from the definitions.
use Rattle.std.specs.Prelude.{◌≡◌, ℕ, Bool, true, false, List, [], ◌∷◌, ◌++◌, codes, map, Option, Some, None, option_map}
use Rattle.nut_words.specs.Lines.{Text}
use Rattle.nut_proto.specs.declared.refusal.Refusal.TheVariants.{AccessDenied}
use Rattle.nut_proto.specs.declared.reply.Reply.TheVariants.{FsdSet, Version}
use Rattle.nut_proto.specs.declared.request.Request.{Request}
use Rattle.nut_proto.specs.declared.request.Request.TheVariants as requests
use Rattle.nut_server_spec.specs.Answer.{Answer, Silence, Line, may_force, may_log_in, refused}
use Rattle.nut_server_spec.specs.Content.{past}
use Rattle.nut_server_spec.specs.Event.{Open, Bytes, Reload, Said}
use Rattle.nut_server_spec.specs.Numbering.{Kept}
use Rattle.nut_server_spec.specs.Trace.{Entry, answer_to}
use Rattle.nut_server_spec.specs.examples.DriverExamples.{as_admin, as_guard, live, quiet, room}
use Rattle.nut_server_spec.specs.laws.Rights.{AtEach, HasRight, ActsRightly, GrantsRightly, grants, right_for}

-- whether each user of `room` (admin, guard, guest) has the right that a request needs, if it needs one
abbrev pub who_may : Request → Option (List Bool)
who_may request = option_map (λ right. map right room.users) (right_for request)

-- the past after the first connection said this, with a second connection
abbrev pub said : List ℕ → List Entry
said text = past room (Bytes 1 text ∷ Open (codes "::1") ∷ quiet)

-- the same, and then a reload after which there are no users
abbrev pub dismissed : List Entry
dismissed = past room (Reload (record room { users = [] }) ∷ Bytes 1 as_admin ∷ quiet)

-- whether a line of the first connection is granted after this, with the UPS live
abbrev pub is_granted : List ℕ → List ℕ → Bool
is_granted before line = grants (answer_to room (past room (Bytes 1 before ∷ live)) 1 (Text line))

-- a past that no server has: FSD was granted to a connection that had said nothing, and then nothing came of an empty line
abbrev pub entry_of : List ℕ → Answer → Entry
entry_of line reply = record { step = Said 1 (Text line); answer = reply; asks = λ u. None; fate = λ u. Kept; closes = λ c. false }

abbrev pub unlawful : List Entry
unlawful = entry_of [] Silence ∷ entry_of (codes "FSD su700") (Line FsdSet) ∷ []

-- pasts in which a driver was asked by a line of guard, who may give no command, and by one of admin that needs no right
abbrev pub asks : List ℕ → Answer → List Entry → List Entry
asks line reply before = record (entry_of line reply) { asks = λ u. Some (codes "INSTCMD load.off\n") } ∷ before

abbrev pub asked_by_guard : List Entry
asked_by_guard = asks (codes "INSTCMD su700 load.off") (refused AccessDenied) (said as_guard)

abbrev pub asked_by_ver : List Entry
asked_by_ver = asks (codes "VER") (Line Version) (said as_admin)

pub record RightExamples : Type 0 where
  pub to_set : who_may (requests.SetVar (codes "su700") (codes "x") (codes "1")) ≡ Some (true ∷ false ∷ false ∷ [])
  pub to_command : who_may (requests.InstCmd (codes "su700") (codes "load.off") None) ≡ Some (true ∷ false ∷ false ∷ [])
  pub to_log_in : who_may (requests.Login (codes "su700")) ≡ Some (true ∷ true ∷ false ∷ [])
  pub to_be_primary : who_may (requests.Primary (codes "su700")) ≡ Some (true ∷ false ∷ false ∷ [])
  pub to_force : who_may (requests.Fsd (codes "su700")) ≡ Some (true ∷ false ∷ false ∷ [])
  pub needs_none : who_may (requests.GetVar (codes "su700") (codes "ups.status")) ≡ None
  pub set : is_granted as_admin (codes "SET VAR su700 battery.charge.low 90") ≡ true
  pub tracked_set : is_granted (as_admin ++ codes "SET TRACKING ON\n") (codes "SET VAR su700 battery.charge.low 90") ≡ true
  pub log_in : is_granted as_guard (codes "LOGIN su700") ≡ true
  pub force : is_granted as_admin (codes "FSD su700") ≡ true
  pub denied : is_granted as_guard (codes "FSD su700") ≡ false
  pub logged_out : is_granted (as_admin ++ codes "LOGOUT\n") (codes "FSD su700") ≡ false
  -- the name without the password; the password without the name; and both on another connection
  pub name_alone : HasRight room may_log_in 1 (said (codes "USERNAME guard\n")) → ⊥
  pub password_alone : HasRight room may_log_in 1 (said (codes "PASSWORD y\n")) → ⊥
  pub another : HasRight room may_log_in 2 (said as_guard) → ⊥
  -- another's password, a name that was refused, a user who may log in and no more, and one who is no user any more
  pub another_password : HasRight room may_log_in 1 (said (codes "USERNAME admin\nPASSWORD y\n")) → ⊥
  pub second_name : HasRight room may_force 1 (said (codes "USERNAME guard\nUSERNAME admin\nPASSWORD x\n")) → ⊥
  pub secondary : HasRight room may_force 1 (said as_guard) → ⊥
  pub no_user : HasRight room may_force 1 dismissed → ⊥
  pub unlawful_past : AtEach (GrantsRightly room) unlawful → ⊥
  pub unlawful_command : AtEach (ActsRightly room) asked_by_guard → ⊥
  pub unlawful_query : AtEach (ActsRightly room) asked_by_ver → ⊥
