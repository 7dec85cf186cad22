-- Whether a connection has a right, as a test; and the examples of rights.
use Rattle.std.proofs.Common.{◌≡◌, ℕ, zero, suc, ◌⊎◌, Option, Some, None, subst, ◌==◌, ◌&&◌, ◌||◌, inl, inr, Bool, true, false, List, [], ◌∷◌, refl, sym, ◌∙◌, ap, arith, codes}
use Rattle.std.specs.Prelude.{unwrap_or, Contains}
use Rattle.std.specs.Fmt.{digits}
use Rattle.std.specs.List.{list_any}
use Rattle.std.specs.Option.{option_and_then, option_map_or}
use Rattle.std.specs.Str.{bytes_eq}
use Rattle.std.proofs.lemmas.Bool.{and_from, eq-eqb}
use Rattle.std.proofs.lemmas.Slice.Eq.{bytes_eq-Decides}
use Rattle.nut_words.specs.Lines.{LineText, Text}
use Rattle.nut_words.specs.Reader.{read}
use Rattle.nut_state.specs.Change.{asked, heard}
use Rattle.nut_state.specs.Sorted.{named, put}
use Rattle.nut_state.specs.Step.{accepts, changed, after, applied}
use Rattle.nut_state.specs.Verb.{verb_of}
use Rattle.nut_proto.specs.DriverAsks.{ask_line}
use Rattle.nut_proto.specs.Forms.{meaning}
use Rattle.nut_proto.specs.Keywords.{command_of as keyword_of}
use Rattle.nut_proto.specs.Lines.{line}
use Rattle.nut_proto.specs.Refusals.{refusal_name}
use Rattle.nut_proto.specs.Replies.{reply_line}
use Rattle.nut_proto.specs.Requests.{begin_line, end_line}
use Rattle.nut_proto.specs.declared.refusal.Refusal.TheVariants.{AccessDenied}
use Rattle.nut_proto.specs.declared.request.Request.{Request}
use Rattle.nut_proto.specs.declared.request.Request.TheVariants as requests
use Rattle.nut_proto.specs.declared.reply.Reply.TheVariants as replies
use Rattle.nut_server_spec.specs.Answer.{Answer, Line, may_force, may_log_in, refused, text_of}
use Rattle.nut_server_spec.specs.Command.{Command, Asks, command_of}
use Rattle.nut_server_spec.specs.Configuration.{User, Configuration, may_command}
use Rattle.nut_server_spec.specs.Event.{Step, Said}
use Rattle.nut_server_spec.specs.Trace.{Entry, configuration}
use Rattle.nut_server_spec.specs.examples.DriverExamples.{as_admin, as_guard, room}
use Rattle.nut_server_spec.specs.examples.RightExamples.{RightExamples, asked_by_guard, asked_by_ver, asks, dismissed, said}
use Rattle.nut_server_spec.specs.laws.Rights.{ActsRightly, AtEach, Gets, HasRight, HasSaid, right_for}

-- whether a line and its answer give this name, or this password
abbrev names : List ℕ → Command → Answer → Bool
names name (Asks (requests.Username given)) (Line replies.Accepted) = bytes_eq name given
names name command reply = false

abbrev tells : List ℕ → Command → Answer → Bool
tells password (Asks (requests.Password given)) (Line replies.Accepted) = bytes_eq password given
tells password command reply = false

-- whether some line of c passes a test
abbrev says_at : (Command → Answer → Bool) → ℕ → Step → Answer → Bool
says_at test c (Said d line) reply = d == c && test (command_of line) reply
says_at test c step reply = false

abbrev says : (Command → Answer → Bool) → ℕ → List Entry → Bool
says test c [] = false
says test c (e ∷ before) = says_at test c e.step e.answer || says test c before

or-either : (a b : Bool) → (a ≡ true) ⊎ (b ≡ true) → (a || b) ≡ true
or-either a b is = grind arith

gets-says : (test : Command → Answer → Bool) (c : ℕ) (request : _) (reply : Answer) (e : Entry) → test (Asks request) reply ≡ true → Gets c request reply e → says_at test c e.step e.answer ≡ true
gets-says test c request reply e passes gets = grind (arith, and_from, eq-eqb)

said-says : (test : Command → Answer → Bool) (c : ℕ) (request : _) (t : List Entry) → test (Asks request) (Line replies.Accepted) ≡ true → HasSaid c request t → says test c t ≡ true
said-says test c request [] passes h = absurd h
said-says test c request (e ∷ before) passes (inl gets) =
    or-either (says_at test c e.step e.answer) (says test c before) (inl (gets-says test c request (Line replies.Accepted) e passes gets))
said-says test c request (e ∷ before) passes (inr older) =
    or-either (says_at test c e.step e.answer) (says test c before) (inr (said-says test c request before passes older))

-- whether c has the right of this user
abbrev pub acts_as : (User → Bool) → ℕ → List Entry → User → Bool
acts_as right c t u = right u && (says (names u.name) c t && option_map_or (λ password. says (tells password) c t) u.password false)

contains-any : (test : User → Bool) (users : List User) (u : User) → Contains users u → test u ≡ true → list_any test users ≡ true
contains-any test [] u there passes = absurd (let less = there.1 in omega arith)
contains-any test (x ∷ users) u (zero, less, same) passes = or-either (test x) (list_any test users) (inl (ap test same ∙ passes))
contains-any test (x ∷ users) u (suc k, less, same) passes =
    or-either (test x) (list_any test users) (inr (contains-any test users u (k, omega (arith, less), same) passes))

pub decided : (first : Configuration) (right : User → Bool) (c : ℕ) (t : List Entry) → HasRight first right c t → list_any (acts_as right c t) (configuration first t).users ≡ true
decided first right c t h =
    contains-any (acts_as right c t) (configuration first t).users h.user h.configured
    (and_from (right h.user) (says (names h.user.name) c t && option_map_or (λ password. says (tells password) c t) h.user.password false) h.may
    (and_from (says (names h.user.name) c t) (option_map_or (λ password. says (tells password) c t) h.user.password false)
    (said-says (names h.user.name) c (requests.Username h.user.name) t ((bytes_eq-Decides h.user.name h.user.name).1 refl) h.name)
    (ap (λ o. option_map_or (λ password. says (tells password) c t) o false) h.own
    ∙ said-says (tells h.password) c (requests.Password h.password) t ((bytes_eq-Decides h.password h.password).1 refl) h.given)))

pub has-no-right : (first : Configuration) (right : User → Bool) (c : ℕ) (t : List Entry) → list_any (acts_as right c t) (configuration first t).users ≡ false → HasRight first right c t → ⊥
has-no-right first right c t none h = let bad : false ≡ true = sym none ∙ decided first right c t h in cc

-- ---- pasts in which a driver was asked without a right

abbrev text_said : Step → LineText
text_said (Said c text) = text
text_said step = Text []

abbrev request_in : Command → Option Request
request_in (Asks request) = Some request
request_in command = None

unlawful-ask : (line : List ℕ) (reply : Answer) (before : List Entry) →
    ((request : Request) (right : User → Bool) → request_in (command_of (Text line)) ≡ Some request → right_for request ≡ Some right → HasRight room right 1 before → ⊥) →
    AtEach (ActsRightly room) (asks line reply before) → ⊥
unlawful-ask line reply before none each = elim (each.0 1 (Text line) refl) [
  | inl idle ↦ let bad : Some (codes "INSTCMD load.off\n") ≡ None = idle.asks 0 in cc
  | inr acted ↦
      let same : Text line ≡ acted.2.0 = ap text_said acted.2.1 in
      none acted.0 acted.1 (ap (λ x. request_in (command_of x)) same ∙ ap request_in acted.2.2) acted.3 acted.4
]

by-guard : AtEach (ActsRightly room) asked_by_guard → ⊥
unfolding digits read named put asked heard accepts changed after applied verb_of ask_line meaning keyword_of line refusal_name reply_line begin_line end_line text_of
by-guard = unlawful-ask (codes "INSTCMD su700 load.off") (refused AccessDenied) (said as_guard) (λ request right asks needs has.
    let command : Some (requests.InstCmd (codes "su700") (codes "load.off") None) ≡ Some request = asks in
    let is : Some (may_command (codes "load.off")) ≡ Some right = ap (option_and_then right_for) command ∙ needs in
    has-no-right room (may_command (codes "load.off")) 1 (said as_guard) refl
    (subst (λ r. HasRight room r 1 (said as_guard)) (sym (ap (λ o. unwrap_or o (may_command (codes "load.off"))) is)) has))

by-ver : AtEach (ActsRightly room) asked_by_ver → ⊥
unfolding digits read named put asked heard accepts changed after applied verb_of ask_line meaning keyword_of line refusal_name reply_line begin_line end_line text_of
by-ver = unlawful-ask (codes "VER") (Line replies.Version) (said as_admin) (λ request right asks needs has.
    let command : Some requests.Ver ≡ Some request = asks in
    let is : None ≡ Some right = ap (option_and_then right_for) command ∙ needs in cc)

pub right-examples : RightExamples
unfolding digits read named put asked heard accepts changed after applied verb_of ask_line meaning keyword_of line refusal_name reply_line begin_line end_line text_of
right-examples = record {
  to_set = refl;
  to_command = refl;
  to_log_in = refl;
  to_be_primary = refl;
  to_force = refl;
  needs_none = refl;
  set = refl;
  tracked_set = refl;
  log_in = refl;
  force = refl;
  denied = refl;
  logged_out = refl;
  name_alone = has-no-right room may_log_in 1 (said (codes "USERNAME guard\n")) refl;
  password_alone = has-no-right room may_log_in 1 (said (codes "PASSWORD y\n")) refl;
  another = has-no-right room may_log_in 2 (said as_guard) refl;
  another_password = has-no-right room may_log_in 1 (said (codes "USERNAME admin\nPASSWORD y\n")) refl;
  second_name = has-no-right room may_force 1 (said (codes "USERNAME guard\nUSERNAME admin\nPASSWORD x\n")) refl;
  secondary = has-no-right room may_force 1 (said as_guard) refl;
  no_user = has-no-right room may_force 1 dismissed refl;
  unlawful_past = λ each. absurd (has-no-right room may_force 1 [] refl (each.1.0 1 (requests.Fsd (codes "su700")) may_force (Text (codes "FSD su700"), refl, refl, refl) refl refl));
  unlawful_command = by-guard;
  unlawful_query = by-ver;
}
