-- The content after a command was answered.
use Rattle.std.proofs.Common.{◌≡◌, ℕ, List, [], ◌∷◌, ◌++◌, true, eqb, refl, sym, ap, ◌∙◌, inl, inr}
use Rattle.std.proofs.lemmas.Bool.{cases_Bool}
use Rattle.std.proofs.lemmas.List.{append-nil}
use Rattle.nut_proto.specs.declared.request.Request.TheVariants as requests
use Rattle.nut_server_spec.specs.Command.{Command, Blank, Asks}
use Rattle.nut_server_spec.specs.Numbering.{Numbering}
use Rattle.nut_server_spec.specs.Answer.{Answer, Silence, text_of}
use Rattle.nut_server_spec.specs.Content.{Session, Supply, Content, numbering_of}
use Rattle.nut_server_spec.specs.Effect.{target}
use Rattle.nut_server_spec.specs.machine.Machine.{act_on, update, acted, answer_in, answered, scene_of}
use Rattle.nut_server.specs.declared.effect.Effect.{Effect}
use Rattle.nut_server.specs.inside.Effects.{affected, acting, said, number_of, given_with, Does, answered_by}
use Rattle.nut_server.proofs.Acting.{act_idle}
use Rattle.nut_server.proofs.Deciding.{at_rest}

update_same : (c : ℕ) (f g : Session → Session) (ks : List Session) → ((k : Session) → f k ≡ g k) → update c f ks ≡ update c g ks
update_same c f g [] same = refl
update_same c f g (k ∷ ks) same =
    elim (cases_Bool (eqb k.number c)) [ inl e ↦ rw e (ap (λ x. x ∷ ks) (same k)) | inr e ↦ rw e (ap (λ xs. k ∷ xs) (update_same c f g ks same)) ]

update_idle : (c : ℕ) (f : Session → Session) (ks : List Session) → ((k : Session) → f k ≡ k) → update c f ks ≡ ks
update_idle c f [] same = refl
update_idle c f (k ∷ ks) same =
    elim (cases_Bool (eqb k.number c)) [ inl e ↦ rw e (ap (λ x. x ∷ ks) (same k)) | inr e ↦ rw e (ap (λ xs. k ∷ xs) (update_idle c f ks same)) ]

-- If the answer to a command is silence, the command changes nothing.
abbrev pub StandsStill : Numbering → Command → Type 0
StandsStill now command =
    ((k : Session) → record (answered now command Silence k) { waits = k.waits } ≡ k) × ((d : Supply) → acted command Silence d ≡ d)

stands_still : (now : Numbering) (command : Command) → StandsStill now command
stands_still now (Asks (requests.Username name)) = (λ k. refl, at_rest)
stands_still now command = (λ k. refl, at_rest)

pub silent : (c : ℕ) (command : Command) (v : Content) → v ≡ answered_by c command Silence v
unfolding text_of
silent c command v =
    let still = stands_still (numbering_of v) command in
    let each : (k : Session) → answered (numbering_of v) command Silence k ≡ k = λ k. ap (λ w. record (answered (numbering_of v) command Silence k) { waits = w }) (append-nil k.waits) ∙ still.0 k in
    ap (λ ks. record v { sessions = ks }) (sym (update_idle c (λ k. answered (numbering_of v) command Silence k) v.sessions each))
    ∙ ap (λ ds. record v { sessions = update c (λ k. answered (numbering_of v) command Silence k) v.sessions; supplies = ds }) (sym (act_idle (target (numbering_of v) command) (acted command Silence) v.supplies still.1))

-- Queueing the answer and applying the effect does what the answer does.
pub answered_all : (v : Content) (ks : List Session) (ds : List Supply) (given : ℕ) (c : ℕ) (command : Command) (reply : Answer) (effect : Effect) (line text : List ℕ)
    → text ≡ text_of reply → Does (scene_of v) command reply effect line
    → ks ≡ update c (λ k. affected effect (said text k)) v.sessions → ds ≡ acting effect line v.supplies → given ≡ given_with (number_of effect) v.given
    → record v { sessions = ks; supplies = ds; given = given } ≡ answered_by c command reply v
answered_all v ks ds given c command reply effect line text is does changed acted_on counted =
    let each : (k : Session) → affected effect (said text k) ≡ answered (numbering_of v) command reply k = λ k.
    does.0 (said text k) ∙ ap (λ t. record (answered (numbering_of v) command reply k) { waits = k.waits ++ t }) is in
    let sessions = update c (λ k. answered (numbering_of v) command reply k) v.sessions in
    ap (λ ks. record v { sessions = ks; supplies = ds; given = given }) (changed ∙ update_same c (λ k. affected effect (said text k)) (λ k. answered (numbering_of v) command reply k) v.sessions each)
    ∙ ap (λ ds. record v { sessions = sessions; supplies = ds; given = given }) (acted_on ∙ does.1 v.supplies)
    ∙ ap (λ n. record v { sessions = sessions; supplies = act_on (target (numbering_of v) command) (acted command reply) v.supplies; given = n }) (counted ∙ does.2)

pub silent_out : (c : ℕ) (command : Command) (v : Content) (k : Session) → k.logged_out ≡ true → v ≡ answered_by c command (answer_in v command k) v
silent_out c command v k out = let is : answer_in v command k ≡ Silence = rw out refl in silent c command v ∙ ap (λ r. answered_by c command r v) (sym is)

pub silent_blank : (c : ℕ) (command : Command) (v : Content) (k : Session) → command ≡ Blank → v ≡ answered_by c command (answer_in v command k) v
silent_blank c command v k blank = silent c command v ∙ ap (λ r. answered_by c command r v) (sym (ap (λ command. answer_in v command k) blank ∙ none)) where
  none : answer_in v Blank k ≡ Silence
  none = elim (cases_Bool k.logged_out) [ inl e ↦ rw e refl | inr e ↦ rw e refl ]
