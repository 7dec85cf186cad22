-- Lines of a connection that has logged out change nothing.
use Rattle.std.proofs.Common.{arith, ◌++◌}
use Rattle.std.proofs.Common.{◌≡◌, ℕ, Bool, true, false, eqb, List, [], ◌∷◌, drop, refl, ◌∙◌, ap, append-nil, Option, None}
use Rattle.std.specs.Prelude.{if◌then◌else◌}
use mathlib.Core.Path.{fun_ext}
use Rattle.nut_words.specs.Lines.{LineText, rest}
use Rattle.nut_state.specs.Step.{table_of}
use Rattle.nut_server_spec.specs.Configuration.{Configuration}
use Rattle.nut_server_spec.specs.Command.{Command, command_of}
use Rattle.nut_server_spec.specs.Device.{Device}
use Rattle.nut_server_spec.specs.Event.{Event, Bytes, Step, Said, input, taken, steps, with_lines, brought}
use Rattle.nut_server_spec.specs.Answer.{Answer, Silence, text_of}
use Rattle.nut_server_spec.specs.Effect.{user_then, password_then, login_then, logged_out_then, tracking_then, number_in, target, forced_then, request_of, at_target}
use Rattle.nut_server_spec.specs.Trace.{Entry, address, user, password, login, logged_out, tracking, tracked, due, connected, reports, heard_at, pinged_at, forced, driver_due, driver_taken, with_request, answer_to, trace, numbering}
use Rattle.nut_server_spec.specs.Tracking.{Tracked, with_tracked}
use Rattle.nut_server_spec.specs.Content.{Session, past}
use Rattle.nut_server_spec.specs.laws.Laws.{LogoutIsFinal}
use Rattle.nut_server_spec.specs.Numbering.{Numbering, Kept}

-- ---- a silent answer changes nothing

user-silent : (command : Command) (before : Option (List ℕ)) → user_then command Silence before ≡ before
user-silent command before = grind arith

password-silent : (command : Command) (before : Option (List ℕ)) → password_then command Silence before ≡ before
password-silent command before = grind arith

login-silent : (c : Numbering) (command : Command) (before : Option ℕ) → login_then c command Silence before ≡ before
login-silent c command before = grind arith

request-silent : (command : Command) → request_of command Silence ≡ None
request-silent command = grind arith

tracking-silent : (command : Command) (before : Bool) → tracking_then command Silence before ≡ before
tracking-silent command before = grind arith

due-silent : (command : Command) (before : List ℕ) → before ++ text_of Silence ≡ before
unfolding text_of
due-silent command before = append-nil before

either : {A : Type 0} (b : Bool) (x y : A) → x ≡ y → (if b then x else y) ≡ y
either b x y is = grind arith

target-silent : (u : ℕ) (o : Option ℕ) (command : Command) (before : Bool) → at_target u o (forced_then command Silence) before ≡ before
target-silent u o command before = grind arith

followed-silent : (u : ℕ) (o : Option ℕ) (before : List Tracked) → at_target u o (with_tracked (number_in Silence)) before ≡ before
followed-silent u o before = grind arith

none-for : (u : ℕ) (o : Option ℕ) → at_target {A = Option (List ℕ)} u o (λ before. None) None ≡ None
none-for u o = grind arith

-- ---- what a past says about connections and drivers

record Known : Type 0 where
  addresses : ℕ → List ℕ
  users : ℕ → Option (List ℕ)
  passwords : ℕ → Option (List ℕ)
  logins : ℕ → Option ℕ
  outs : ℕ → Bool
  tracks : ℕ → Bool
  owed : ℕ → List ℕ
  there : ℕ → Bool
  told : ℕ → List (List ℕ)
  heard : ℕ → ℕ
  pinged : ℕ → Option ℕ
  forces : ℕ → Bool
  asked : ℕ → List ℕ
  drained : ℕ → ℕ
  followed : ℕ → List Tracked

abbrev known : Configuration → List Entry → Known
known first t = record {
  addresses = λ d. address d t;
  users = λ d. user d t;
  passwords = λ d. password d t;
  logins = λ d. login first d t;
  outs = λ d. logged_out d t;
  tracks = λ d. tracking d t;
  owed = λ d. due d t;
  there = λ u. connected u t;
  told = λ u. reports u t;
  heard = λ u. heard_at u t;
  pinged = λ u. pinged_at u t;
  forces = λ u. forced first u t;
  asked = λ u. driver_due u t;
  drained = λ u. driver_taken u t;
  followed = λ u. tracked first u t;
}

module _ (first : Configuration) (c : ℕ) (line : LineText) (t : List Entry) where
  abbrev said : Answer → Entry
  said reply = record {
    step = Said c line;
    answer = reply;
    asks = λ u. at_target u (target (numbering first t) (command_of line)) (λ none. request_of (command_of line) reply) None;
    fate = λ u. Kept;
    closes = λ d. false;
  }

  silent-entry : known first (said Silence ∷ t) ≡ known first t
  silent-entry =
      let command = command_of line in
      let o = target (numbering first t) command in
      let k : Known = known first (said Silence ∷ t) in
      let n : Known = known first t in
      ap (λ f. let r : Known = record k { users = f } in r) (fun_ext (λ d. either (eqb c d) _ _ (user-silent command (user d t))))
      ∙ ap (λ f. let r : Known = record k { users = n.users; passwords = f } in r) (fun_ext (λ d. either (eqb c d) _ _ (password-silent command (password d t))))
      ∙ ap (λ f. let r : Known = record k { users = n.users; passwords = n.passwords; logins = f } in r)
      (fun_ext (λ d. either (eqb c d) _ _ (login-silent (numbering first t) command (login first d t))))
      ∙ ap (λ f. let r : Known = record k { users = n.users; passwords = n.passwords; logins = n.logins; outs = f } in r)
      (fun_ext (λ d. either (eqb c d) (logged_out_then command Silence (logged_out d t)) (logged_out d t) refl))
      ∙ ap (λ f. let r : Known = record n { tracks = f; owed = k.owed; forces = k.forces; asked = k.asked; followed = k.followed } in r)
      (fun_ext (λ d. either (eqb c d) _ _ (tracking-silent command (tracking d t))))
      ∙ ap (λ f. let r : Known = record n { owed = f; forces = k.forces; asked = k.asked; followed = k.followed } in r) (fun_ext (λ d. either (eqb c d) _ _ (due-silent command (due d t))))
      ∙ ap (λ f. let r : Known = record n { forces = f; asked = k.asked; followed = k.followed } in r) (fun_ext (λ u. target-silent u o command (forced first u t)))
      ∙ ap (λ f. let r : Known = record n { asked = f; followed = k.followed } in r)
      (fun_ext (λ u. ap (λ q. with_request (at_target u o (λ none. q) None) (driver_due u t)) (request-silent command) ∙ ap (λ q. with_request q (driver_due u t)) (none-for u o)))
      ∙ ap (λ f. let r : Known = record n { followed = f } in r) (fun_ext (λ u. followed-silent u o (tracked first u t)))

  quiet-entry : logged_out c t ≡ true → known first (said (answer_to first t c line) ∷ t) ≡ known first t
  quiet-entry out = grind (arith, silent-entry)

quiet-lines : (first : Configuration) (c : ℕ) (ls : List LineText) (s : List Step) → logged_out c (trace first s) ≡ true → known first (trace first (with_lines c ls s)) ≡ known first (trace first s)
quiet-lines first c [] s out = refl
quiet-lines first c (l ∷ ls) s out =
    let quiet = quiet-entry first c l (trace first s) out in
    quiet-lines first c ls (Said c l ∷ s) (ap (λ (k : Known). k.outs c) quiet ∙ out) ∙ quiet

quiet-piece : (first : Configuration) (h : List Event) (c : ℕ) (piece : List ℕ) → logged_out c (past first h) ≡ true → known first (past first (Bytes c piece ∷ h)) ≡ known first (past first h)
quiet-piece first h c piece out = quiet-lines first c (brought (input c h) piece) (steps h) out

-- a connection and a UPS, from what the past says about them
abbrev session_known : List Event → LineText → Known → ℕ → Session
session_known h line k d = record {
  number = d;
  address = k.addresses d;
  user = k.users d;
  password = k.passwords d;
  login = k.logins d;
  logged_out = k.outs d;
  tracking = k.tracks d;
  rest = line;
  waits = drop (taken d h) (k.owed d);
}

abbrev device_known : Known → ℕ → Device
device_known k u = record {
  connected = k.there u;
  table = table_of (k.told u);
  heard_at = k.heard u;
  pinged_at = k.pinged u;
  forced = k.forces u;
  waits = if k.there u then drop (k.drained u) (k.asked u) else [];
  tracked = k.followed u;
}

pub logout-final : LogoutIsFinal
logout-final = record {
  no_answers = λ first h c piece out d. ap (λ (k : Known). k.owed d) (quiet-piece first h c piece out);
  no_requests = λ first h c piece out u. ap (λ (k : Known). k.asked u) (quiet-piece first h c piece out);
  same_sessions = λ first h c piece out d. ap (λ k. session_known h (rest (input d (Bytes c piece ∷ h))) k d) (quiet-piece first h c piece out);
  same_devices = λ first h c piece out u. ap (λ k. device_known k u) (quiet-piece first h c piece out);
}
