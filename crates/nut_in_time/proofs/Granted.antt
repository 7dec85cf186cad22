-- A connection that was granted PRIMARY may force the shutdown of its UPS from then on.
use Rattle.std.proofs.Common.{arith}
use Rattle.std.proofs.Common.{◌≡◌, ◌⊎◌, ℕ, ◌==◌, Bool, true, false, inl, inr, List, [], ◌∷◌, Option, Some, refl, sym, ◌∙◌, ap, subst}
use Rattle.std.proofs.lemmas.Bool.{cases_Bool, and_parts, eqb-true, eq-eqb}
use Rattle.nut_words.specs.Lines.{LineText}
use Rattle.nut_proto.specs.declared.refusal.Refusal.{Refusal}
use Rattle.nut_proto.specs.declared.refusal.Refusal.TheVariants as refusals
use Rattle.nut_proto.specs.declared.reply.Reply.TheVariants as replies
use Rattle.nut_server_spec.specs.Configuration.{Configuration, User, number_of_ups, user_named}
use Rattle.nut_server_spec.specs.Command.{Asks, command_of}
use Rattle.nut_server_spec.specs.Event.{Event, Step, Said, Reported, steps, with_lines, with_reports, Reloaded}
use Rattle.nut_server_spec.specs.Content.{past}
use Rattle.nut_server_spec.specs.Answer.{Answer, Line as OneLine, Scene, Caller, refused, require, check, with_right, has_right, may_be_primary, may_force, ups_number}
use Rattle.nut_server_spec.specs.Numbering.{Numbering, number_of}
use Rattle.nut_server_spec.specs.Effect.{user_then, password_then, forced_then, at_target, target}
use Rattle.nut_server_spec.specs.Trace.{Entry, trace, user, password, logged_out, forced, scene, caller, answer_to, numbering}
use Rattle.nut_server_spec.proofs.Requests.{require-case, check-case}
use Rattle.nut_monitor_spec.specs.declared.Query.{Query}
use Rattle.nut_monitor_spec.specs.declared.Query.TheVariants.{Primary, Fsd}
use Rattle.nut_monitor_spec.specs.Configuration.{Line}
use Rattle.nut_monitor_spec.specs.Query.{request}
use Rattle.nut_fleet.specs.Schedule.{Step as Playing}
use Rattle.nut_fleet.specs.World.{Setup, line_of, world}
use Rattle.nut_fleet.specs.Shown.{query_line}
use Rattle.nut_fleet.specs.Exchange.{Exchange, exchanges}
use Rattle.nut_fleet.specs.Fleet.{IsSpoken, IsAnswered, Exists}
use Rattle.nut_fleet.proofs.Sound.{IsOwn, AreOwn}
use Rattle.nut_fleet.proofs.Reading.{answer-said, reply-same}
use Rattle.nut_fleet.proofs.Replying.{query-command, query-answer, never-out}
use Rattle.nut_fleet.proofs.Rereads.{KeepsRoom, IsAsMade, as-made, number-stays, room-stays}
use Rattle.nut_in_time.specs.Room.{IsGrant}

-- ---- a connection that gave the user and the password of a primary of the line's UPS

pub record IsEntitled (first : Configuration) (line : Line) (now : Numbering) (names secrets : Option (List ℕ)) : Type 0 where
  pub name : List ℕ
  pub secret : List ℕ
  pub u : ℕ
  pub name_is : names ≡ Some name
  pub secret_is : secrets ≡ Some secret
  pub number : number_of line.ups now ≡ Some u
  pub right : has_right may_be_primary secret (user_named name first.users) ≡ true

-- what is known if a request that needs a right is granted
right-known : (P : Answer → Type 0) (s : Scene) (k : Caller) (right : User → Bool) (ups : List ℕ) (next : ℕ → Answer) → ((r : Refusal) → P (refused r)) →
    ((name secret : List ℕ) (u : ℕ) → k.user ≡ Some name → k.password ≡ Some secret → ups_number s ups ≡ Some u →
    has_right right secret (user_named name s.configuration.users) ≡ true → P (next u)) → P (with_right s k right ups next)
right-known P s k right ups next bad good =
    require-case P refusals.UsernameRequired k.user _ (bad refusals.UsernameRequired) (λ name given.
    require-case P refusals.PasswordRequired k.password _ (bad refusals.PasswordRequired) (λ secret given'.
    require-case P refusals.UnknownUps (ups_number s ups) _ (bad refusals.UnknownUps) (λ u found.
    check-case P refusals.AccessDenied (has_right right secret (user_named name s.configuration.users)) (next u) (bad refusals.AccessDenied)
    (λ holds. good name secret u given given' found holds))))

granted-entitled : (first : Configuration) (t : List Entry) (c : ℕ) (line : Line) → IsAsMade first t → IsSpoken line → answer_to first t c (query_line line Primary) ≡ OneLine replies.Accepted →
    IsEntitled first line (numbering first t) (user c t) (password c t)
granted-entitled first t c line made s is =
    right-known P (scene first t) (caller first t c) may_be_primary line.ups (λ u. OneLine replies.Accepted) bad
    (λ name secret u given given' found holds e. record {
      name = name;
      secret = secret;
      u = u;
      name_is = given;
      secret_is = given';
      number = found;
      right = sym (ap (λ users. has_right may_be_primary secret (user_named name users)) made.users) ∙ holds;
    })
    (answer-said first t c line Primary replies.Accepted s is)
  where
    P : Answer → Type 0
    P a = a ≡ OneLine replies.Accepted → IsEntitled first line (numbering first t) (user c t) (password c t)

    bad : (r : Refusal) → P (refused r)
    bad r e = let same : replies.Refused r ≡ replies.Accepted = reply-same (replies.Refused r) replies.Accepted e in cc

-- ---- the connection stays entitled

module _ (first : Configuration) (line : Line) (c : ℕ) (t : List Entry) (spoken : IsSpoken line) (stays : logged_out c t ≡ false) where
  -- a user name isn't taken twice
  name-kept : (query : Query) (name : List ℕ) → user c t ≡ Some name →
      user_then (Asks (request line query)) (answer_to first t c (query_line line query)) (user c t) ≡ Some name
  name-kept query name is = grind (arith, query-answer)

  -- nor is a password
  secret-kept : (query : Query) (secret : List ℕ) → password c t ≡ Some secret →
      password_then (Asks (request line query)) (answer_to first t c (query_line line query)) (password c t) ≡ Some secret
  secret-kept query secret is = grind (arith, query-answer)

  entitled-said : (text : LineText) → ((query : Query) × (text ≡ query_line line query)) → IsEntitled first line (numbering first t) (user c t) (password c t) →
      IsEntitled first line (numbering first t) (user_then (command_of text) (answer_to first t c text) (user c t)) (password_then (command_of text) (answer_to first t c text) (password c t))
  entitled-said text own e =
      subst (λ x. IsEntitled first line (numbering first t) (user_then (command_of x) (answer_to first t c x) (user c t)) (password_then (command_of x) (answer_to first t c x) (password c t))) (sym own.1)
      (let command = query-command line own.0 spoken in
      let said = answer_to first t c (query_line line own.0) in
      record {
        name = e.name;
        secret = e.secret;
        u = e.u;
        name_is = ap (λ k. user_then k said (user c t)) command ∙ name-kept own.0 e.name e.name_is;
        secret_is = ap (λ k. password_then k said (password c t)) command ∙ secret-kept own.0 e.secret e.secret_is;
        number = e.number;
        right = e.right;
      })

-- a connection on which PRIMARY was granted, and that sends nothing but queries
pub entitled : (first : Configuration) (line : Line) (c : ℕ) (s : List Step) → KeepsRoom first s → IsSpoken line → AreOwn line (exchanges c (trace first s)) →
    Exists (IsGrant line Primary) (exchanges c (trace first s)) → IsEntitled first line (numbering first (trace first s)) (user c (trace first s)) (password c (trace first s))
entitled first line c [] none spoken own h = absurd h
entitled first line c (Said d text ∷ s) none spoken own h =
    let t = trace first s in
    elim (cases_Bool (d == c)) [
      | inl is ↦
          let same : d ≡ c = eqb-true d c is in
          let x : Exchange = record { line = text; answer = answer_to first t d text } in
          let own' : IsOwn line x × AreOwn line (exchanges c t) = rw is at own in
          let h' : IsGrant line Primary x ⊎ Exists (IsGrant line Primary) (exchanges c t) = rw is at h in
          let before : IsEntitled first line (numbering first t) (user c t) (password c t) =
          elim h' [
            | inl now ↦ granted-entitled first t c line (as-made first s none) spoken (ap (answer_to first t c) (sym now.0) ∙ sym (ap (λ k. answer_to first t k text) same) ∙ now.1)
            | inr older ↦ entitled first line c s none spoken own'.1 older
          ] in
          rw is (subst (λ k. IsEntitled first line (numbering first t) (user_then (command_of text) (answer_to first t k text) (user c t)) (password_then (command_of text) (answer_to first t k text) (password c t))) (sym same)
          (entitled-said first line c t spoken (never-out line c t own'.1) text own'.0.0 before))
      | inr is ↦
          let own' : AreOwn line (exchanges c t) = rw is at own in
          let h' : Exists (IsGrant line Primary) (exchanges c t) = rw is at h in
          rw is (entitled first line c s none spoken own' h')
    ]
entitled first line c (Reloaded k ∷ s) none spoken own h =
    let e = entitled first line c s none.3 spoken own h in
    record {
      name = e.name;
      secret = e.secret;
      u = e.u;
      name_is = e.name_is;
      secret_is = e.secret_is;
      number = number-stays first s k line.ups e.u none e.number;
      right = e.right;
    }
entitled first line c (_ ∷ s) none spoken own h = entitled first line c s none spoken own h

-- ---- its FSD is accepted

force-right : (secret : List ℕ) (o : Option User) → has_right may_be_primary secret o ≡ true → has_right may_force secret o ≡ true
force-right secret o is = grind (arith, and_parts)

right-goes : (names secrets : Option (List ℕ)) (number : Option ℕ) (test : List ℕ → List ℕ → Bool) (next : ℕ → Answer) (name secret : List ℕ) (u : ℕ) →
    names ≡ Some name → secrets ≡ Some secret → number ≡ Some u → test name secret ≡ true →
    require refusals.UsernameRequired names (λ n. require refusals.PasswordRequired secrets (λ s. require refusals.UnknownUps number (λ k. check refusals.AccessDenied (test n s) (next k)))) ≡ next u
right-goes names secrets number test next name secret u e1 e2 e3 e4 = rw (e1, e2, e3, e4) refl

pub entitled-forces : (first : Configuration) (line : Line) (c : ℕ) (t : List Entry) → IsAsMade first t → IsSpoken line → AreOwn line (exchanges c t) →
    IsEntitled first line (numbering first t) (user c t) (password c t) → answer_to first t c (query_line line Fsd) ≡ OneLine replies.FsdSet
entitled-forces first line c t made spoken own e =
    let sc = scene first t in
    query-answer first t c line Fsd spoken (never-out line c t own)
    ∙ right-goes (user c t) (password c t) (ups_number sc line.ups)
    (λ n s. has_right may_force s (user_named n sc.configuration.users)) (λ u. OneLine replies.FsdSet) e.name e.secret e.u e.name_is e.secret_is
    e.number
    (ap (λ users. has_right may_force e.secret (user_named e.name users)) made.users
    ∙ force-right e.secret (user_named e.name first.users) e.right)

-- ---- an FSD that was accepted has forced the shutdown

own-target : (u : ℕ) (o : Option ℕ) (change : Bool → Bool) (before : Bool) → o ≡ Some u → change before ≡ true → at_target u o change before ≡ true
own-target u o change before is forces = rw (is, eq-eqb u u refl) forces

pub answered-forced : (setup : Setup) (m i u : ℕ) (step : Playing) (early : List Playing) → IsSpoken (line_of setup m i) →
    number_of_ups (line_of setup m i).ups setup.server.upses ≡ Some u → IsAnswered setup m i Fsd replies.FsdSet step early →
    forced setup.server u (past setup.server (world setup (step ∷ early)).server) ≡ true
answered-forced setup m i u step early spoken number a =
    let line = line_of setup m i in
    let c = (world setup early).connection m i in
    let t = past setup.server (world setup early).server in
    let command = query-command line Fsd spoken in
    ap (λ s. forced setup.server u (trace setup.server s)) a.said
    ∙ own-target u (target (numbering setup.server t) (command_of (query_line line Fsd)))
    (forced_then (command_of (query_line line Fsd)) (answer_to setup.server t c (query_line line Fsd))) (forced setup.server u t)
    (ap (target (numbering setup.server t)) command
    ∙ (as-made setup.server (steps (world setup early).server) (room-stays setup early)).named line.ups u number)
    (ap (λ k. forced_then k (answer_to setup.server t c (query_line line Fsd)) (forced setup.server u t)) command
    ∙ ap (λ x. forced_then (Asks (request line Fsd)) x (forced setup.server u t)) a.answered)

-- ---- what was said isn't taken back

module _ (first : Configuration) (c : ℕ) (P : Exchange → Type 0) where
  lines-keep : (d : ℕ) (ls : List LineText) (s : List Step) → Exists P (exchanges c (trace first s)) → Exists P (exchanges c (trace first (with_lines d ls s)))
  lines-keep d [] s h = h
  lines-keep d (l ∷ ls) s h = lines-keep d ls (Said d l ∷ s) (elim (cases_Bool (d == c)) [ inl t ↦ rw t (inr h) | inr f ↦ rw f h ])

  reports-keep : (u : ℕ) (ls : List LineText) (s : List Step) → Exists P (exchanges c (trace first s)) → Exists P (exchanges c (trace first (with_reports u ls s)))
  reports-keep u [] s h = h
  reports-keep u (l ∷ ls) s h = reports-keep u ls (Reported u l ∷ s) h

  pub said-keeps : (e : Event) (h : List Event) → Exists P (exchanges c (past first h)) → Exists P (exchanges c (past first (e ∷ h)))
  said-keeps e h is = grind (arith, lines-keep, reports-keep)
