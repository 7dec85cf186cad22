-- Nobody gets what needs a right without that right.
use Rattle.std.proofs.Common.{◌≡◌, ℕ, zero, suc, ◌⊎◌, ◌==◌, inl, inr, Bool, true, false, List, [], ◌∷◌, refl, sym, ◌∙◌, ap, subst, arith, Option, Some, None}
use Rattle.std.specs.Prelude.{Contains, unwrap_or}
use Rattle.std.proofs.lemmas.Bool.{and_parts, cases_Bool, eqb-true}
use Rattle.std.proofs.lemmas.Slice.Eq.{bytes_eq-Decides}
use Rattle.std.specs.Str.{bytes_eq}
use Rattle.nut_words.specs.Lines.{LineText}
use Rattle.nut_proto.specs.declared.request.Request.{Request}
use Rattle.nut_proto.specs.declared.request.Request.TheVariants as requests
use Rattle.nut_proto.specs.declared.reply.Reply.TheVariants as replies
use Rattle.nut_server_spec.specs.Answer.{Answer, Line, may_force, may_log_in, may_set, Scene, Caller, with_right, has_right, answer, answer_request}
use Rattle.nut_server_spec.specs.Command.{Command, Asks, command_of}
use Rattle.nut_server_spec.specs.Configuration.{User, Configuration, user_named, has_password, may_command}
use Rattle.nut_server_spec.specs.Effect.{at_target, forced_then, login_then, password_then, request_of, user_then}
use Rattle.nut_server_spec.specs.Numbering.{Numbering}
use Rattle.nut_server_spec.specs.Event.{Step, Said}
use Rattle.nut_server_spec.specs.Trace.{Entry, asks_at, closes_at, fate_at, after_line, answer_at, answer_to, caller, configuration, logged_out, password, scene, trace, user}
use Rattle.nut_server_spec.specs.laws.Rights.{AtEach, HasRight, HasSaid, ActsRightly, GrantsRightly, IsIdle, NothingWithoutTheRight, grants, right_for}

some-same : {A : Type 0} {x y : A} → Some x ≡ Some y → x ≡ y
some-same {A} {x} {y} is = ap (λ o. unwrap_or o x) is

-- ---- tests that were passed

-- the user and the password by which a test of a right was passed
abbrev Passed : Scene → Caller → (User → Bool) → Type 0
Passed s k right = (name password : List ℕ) × (k.user ≡ Some name) × (k.password ≡ Some password)
    × (has_right right password (user_named name s.configuration.users) ≡ true)

right-passed : (s : Scene) (k : Caller) (right : User → Bool) (ups : List ℕ) (next : ℕ → Answer) → grants (with_right s k right ups next) ≡ true → Passed s k right
right-passed s k right ups next granted = grind arith

request-passed : (s : Scene) (k : Caller) (request : Request) (right : User → Bool) → right_for request ≡ Some right → grants (answer_request s k request) ≡ true → Passed s k right
request-passed s k (requests.SetVar ups name value) right is granted = subst (Passed s k) (some-same is) (right-passed s k _ ups _ granted)
request-passed s k (requests.InstCmd ups name parameter) right is granted = subst (Passed s k) (some-same is) (right-passed s k _ ups _ granted)
request-passed s k (requests.Login ups) right is granted = subst (Passed s k) (some-same is) (right-passed s k _ ups _ granted)
request-passed s k (requests.Primary ups) right is granted = subst (Passed s k) (some-same is) (right-passed s k _ ups _ granted)
request-passed s k (requests.Fsd ups) right is granted = subst (Passed s k) (some-same is) (right-passed s k _ ups _ granted)
request-passed s k request right is granted = cc

-- ---- what a connection has given

user-from : (command : Command) (reply : Answer) (before : Option (List ℕ)) (name : List ℕ) → user_then command reply before ≡ Some name →
    ((command ≡ Asks (requests.Username name)) × (reply ≡ Line replies.Accepted)) ⊎ (before ≡ Some name)
user-from command reply before name is = grind (arith, some-same)

password-from : (command : Command) (reply : Answer) (before : Option (List ℕ)) (text : List ℕ) → password_then command reply before ≡ Some text →
    ((command ≡ Asks (requests.Password text)) × (reply ≡ Line replies.Accepted)) ⊎ (before ≡ Some text)
password-from command reply before text is = grind (arith, some-same)

user-said : (c : ℕ) (t : List Entry) (name : List ℕ) → user c t ≡ Some name → HasSaid c (requests.Username name) t
user-said c [] name is = cc
user-said c (e ∷ before) name is = by (user-said c before name) e.step refl is
  where
    by : (user c before ≡ Some name → HasSaid c (requests.Username name) before) → (s : Step) → e.step ≡ s → after_line user_then c s e.answer (user c before) ≡ Some name → HasSaid c (requests.Username name) (e ∷ before)
    by older (Said d line) same is = elim (cases_Bool (d == c)) [
      | inl own ↦ elim (user-from (command_of line) e.answer (user c before) name (rw own at is)) [
        | inl now ↦ inl (line, same ∙ ap (λ x. Said x line) (eqb-true d c own), now.0, now.1)
        | inr earlier ↦ inr (older earlier)
      ]
      | inr other ↦ inr (older (rw other at is))
    ]
    by older _ same is = inr (older is)

password-said : (c : ℕ) (t : List Entry) (text : List ℕ) → password c t ≡ Some text → HasSaid c (requests.Password text) t
password-said c [] text is = cc
password-said c (e ∷ before) text is = by (password-said c before text) e.step refl is
  where
    by : (password c before ≡ Some text → HasSaid c (requests.Password text) before) → (s : Step) → e.step ≡ s → after_line password_then c s e.answer (password c before) ≡ Some text → HasSaid c (requests.Password text) (e ∷ before)
    by older (Said d line) same is = elim (cases_Bool (d == c)) [
      | inl own ↦ elim (password-from (command_of line) e.answer (password c before) text (rw own at is)) [
        | inl now ↦ inl (line, same ∙ ap (λ x. Said x line) (eqb-true d c own), now.0, now.1)
        | inr earlier ↦ inr (older earlier)
      ]
      | inr other ↦ inr (older (rw other at is))
    ]
    by older _ same is = inr (older is)

-- ---- the user

-- a user with this name, this password and this right is configured
record IsUser (users : List User) (right : User → Bool) (name password : List ℕ) : Type 0 where
  pub user : User
  pub configured : Contains users user
  pub may : right user ≡ true
  pub named : user.name ≡ name
  pub own : user.password ≡ Some password

password-own : (password : List ℕ) (u : User) → has_password password u ≡ true → u.password ≡ Some password
password-own password u is = grind (arith, bytes_eq-Decides)

user-found : (users : List User) (right : User → Bool) (name password : List ℕ) → has_right right password (user_named name users) ≡ true → IsUser users right name password
user-found [] right name password is = cc
user-found (u ∷ users) right name password is = elim (cases_Bool (bytes_eq u.name name)) [
  | inl same ↦
      let both : has_right right password (Some u) ≡ true = rw same at is in
      let parts = and_parts (has_password password u) (right u) both in
      record { user = u; configured = (zero, omega arith, refl); may = parts.1; named = (bytes_eq-Decides u.name name).0 same; own = password-own password u parts.0 }
  | inr other ↦
      let rest = user-found users right name password (rw other at is) in
      record { user = rest.user; configured = (suc rest.configured.0, omega (arith, rest.configured.1), rest.configured.2); may = rest.may; named = rest.named; own = rest.own }
]

-- ---- the law

pub has-right : (first : Configuration) (t : List Entry) (c : ℕ) (line : LineText) (request : Request) (right : User → Bool) → command_of line ≡ Asks request →
    right_for request ≡ Some right → grants (answer_to first t c line) ≡ true → HasRight first right c t
has-right first t c line request right asks needs granted = elim (cases_Bool (logged_out c t)) [
  | inl gone ↦ let no : false ≡ true = rw gone at granted in cc
  | inr stays ↦
      let reply : grants (answer (scene first t) (caller first t c) (command_of line)) ≡ true = rw stays at granted in
      let passed = request-passed (scene first t) (caller first t c) request right needs (subst (λ x. grants (answer (scene first t) (caller first t c) x) ≡ true) asks reply) in
      let found = user-found (configuration first t).users right passed.0 passed.1 passed.4 in
      record {
        user = found.user;
        configured = found.configured;
        may = found.may;
        name = user-said c t found.user.name (passed.2 ∙ ap (λ x. Some x) (sym found.named));
        password = passed.1;
        own = found.own;
        given = password-said c t passed.1 passed.3;
      }
]

nothing-without : (first : Configuration) (s : List Step) → AtEach (GrantsRightly first) (trace first s)
nothing-without first [] = tt
nothing-without first (step ∷ s) = (
  λ c request right gets granted needs. by step c request right gets.0 gets.1 gets.2 granted needs,
  nothing-without first s,
)
  where
    by : (step : Step) (c : ℕ) (request : Request) (right : User → Bool) (line : LineText) → step ≡ Said c line → command_of line ≡ Asks request →
        grants (answer_at first (trace first s) step) ≡ true → right_for request ≡ Some right → HasRight first right c (trace first s)
    by step c request right line is asks granted needs =
        has-right first (trace first s) c line request right asks needs (subst (λ x. grants (answer_at first (trace first s) x) ≡ true) is granted)

-- ---- what comes of a line

abbrev who_said : Step → ℕ
who_said (Said c line) = c
who_said step = 0

-- nothing comes of this command with this answer
record Idle (command : Command) (reply : Answer) : Type 0 where
  pub request : request_of command reply ≡ None
  pub forces : (before : Bool) → forced_then command reply before ≡ before
  pub logs_in : (now : Numbering) (before : Option ℕ) → (login_then now command reply before ≡ before) ⊎ (login_then now command reply before ≡ None)

-- the command asks for what needs a right, and it is granted
abbrev Granted : Command → Answer → Type 0
Granted command reply = (request : Request) × (right : User → Bool) × (command ≡ Asks request) × (right_for request ≡ Some right) × (grants reply ≡ true)

idle-or-granted : (command : Command) (reply : Answer) → Idle command reply ⊎ Granted command reply
idle-or-granted (Asks (requests.SetVar ups name value)) (Line replies.Accepted) = inr (requests.SetVar ups name value, may_set, refl, refl, refl)
idle-or-granted (Asks (requests.SetVar ups name value)) (Line (replies.AcceptedAs n)) = inr (requests.SetVar ups name value, may_set, refl, refl, refl)
idle-or-granted (Asks (requests.InstCmd ups name parameter)) (Line replies.Accepted) = inr (requests.InstCmd ups name parameter, may_command name, refl, refl, refl)
idle-or-granted (Asks (requests.InstCmd ups name parameter)) (Line (replies.AcceptedAs n)) = inr (requests.InstCmd ups name parameter, may_command name, refl, refl, refl)
idle-or-granted (Asks (requests.Login ups)) (Line replies.Accepted) = inr (requests.Login ups, may_log_in, refl, refl, refl)
idle-or-granted (Asks (requests.Fsd ups)) (Line replies.FsdSet) = inr (requests.Fsd ups, may_force, refl, refl, refl)
idle-or-granted command (Line replies.Goodbye) = inl (record { request = refl; forces = λ before. refl; logs_in = λ now before. inr refl })
idle-or-granted command reply = inl (record { request = refl; forces = λ before. refl; logs_in = λ now before. inl refl })

no-request : (u : ℕ) (o : Option ℕ) → at_target {A = Option (List ℕ)} u o (λ before. None) None ≡ None
no-request u o = grind (arith, cases_Bool)

at_target-same : (u : ℕ) (o : Option ℕ) (change : Bool → Bool) (before : Bool) → change before ≡ before → at_target u o change before ≡ before
at_target-same u o change before same = grind (arith, cases_Bool)

-- a line of c with its answer, after this past
abbrev said_then : Configuration → List Entry → ℕ → LineText → Entry
said_then first t c line = record {
  step = Said c line;
  answer = answer_to first t c line;
  asks = asks_at first t (Said c line);
  fate = fate_at first t (Said c line);
  closes = closes_at first t (Said c line);
}

idle-entry : (first : Configuration) (t : List Entry) (c : ℕ) (line : LineText) → Idle (command_of line) (answer_to first t c line) → IsIdle first (said_then first t c line) t
idle-entry first t c line idle = grind (arith, no-request, at_target-same, cases_Bool)

acts-rightly : (first : Configuration) (s : List Step) → AtEach (ActsRightly first) (trace first s)
acts-rightly first [] = tt
acts-rightly first (step ∷ s) = (by step, acts-rightly first s)
  where
    by : (step : Step) → ActsRightly first (record {
      step = step;
      answer = answer_at first (trace first s) step;
      asks = asks_at first (trace first s) step;
      fate = fate_at first (trace first s) step;
      closes = closes_at first (trace first s) step;
    }) (trace first s)
    by (Said d text) c line is =
        let t = trace first s in
        let same : d ≡ c = ap who_said is in
        elim (idle-or-granted (command_of text) (answer_to first t d text)) [
          | inl idle ↦ inl (idle-entry first t d text idle)
          | inr granted ↦ inr (
            granted.0,
            granted.1,
            (text, ap (λ x. Said x text) same, granted.2, refl),
            granted.3,
            subst (λ x. HasRight first granted.1 x t) same (has-right first t d text granted.0 granted.1 granted.2 granted.3 granted.4),
          )
        ]
    by _ c line is = cc

pub nothing-without-the-right : NothingWithoutTheRight
nothing-without-the-right = grind (arith, nothing-without, acts-rightly)
