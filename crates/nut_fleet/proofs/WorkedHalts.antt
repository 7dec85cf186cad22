-- Who stops a machine and who doesn't, in worked examples.
use Rattle.std.proofs.Common.{◌≡◌, ◌⊎◌, ℕ, ◌+◌, ◌<◌, ◌≤◌, ◌&&◌, ◌||◌, inl, inr, List, [], ◌∷◌, Bool, true, false, Some, refl, sym, ◌∙◌, ap, subst, arith, codes}
use Rattle.std.specs.Prelude.{reverse, unwrap_or}
use Rattle.std.specs.Fmt.{digits}
use Rattle.std.specs.List.{list_any}
use Rattle.std.specs.Option.{option_map_or}
use Rattle.std.specs.Str.{bytes_eq}
use Rattle.std.proofs.lemmas.Bool.{and_from, cases_Bool}
use Rattle.std.proofs.lemmas.Slice.Eq.{bytes_eq-Decides}
use Rattle.nut_words.specs.Lines.{Text}
use Rattle.nut_words.specs.Reader.{read}
use Rattle.nut_state.specs.Sorted.{named, put}
use Rattle.nut_state.specs.Attribute.{no_flags}
use Rattle.nut_state.specs.Change.{asked, heard}
use Rattle.nut_state.specs.Step.{accepts, changed, after, applied, table_of}
use Rattle.nut_state.specs.Table.{Entry as Variable, variable}
use Rattle.nut_state.specs.Verb.{verb_of}
use Rattle.nut_conf.specs.declared.users.Role.TheVariants as roles
use Rattle.nut_proto.specs.Answers.{answer_of}
use Rattle.nut_proto.specs.DriverAsks.{ask_line}
use Rattle.nut_proto.specs.Forms.{meaning}
use Rattle.nut_proto.specs.Keywords.{command_of as keyword_of}
use Rattle.nut_proto.specs.Lines.{line}
use Rattle.nut_proto.specs.Refusals.{refusal_name}
use Rattle.nut_proto.specs.Replies.{reply_line}
use Rattle.nut_proto.specs.Requests.{request_line}
use Rattle.nut_proto.specs.declared.reply.Reply.TheVariants.{FsdSet}
use Rattle.nut_proto.specs.declared.request.Request.TheVariants as requests
use Rattle.nut_server_spec.specs.Answer.{Answer, Line as OneLine, may_force, text_of}
use Rattle.nut_server_spec.specs.Command.{Command, Asks, command_of}
use Rattle.nut_server_spec.specs.Configuration.{Configuration as ServerConfiguration}
use Rattle.nut_server_spec.specs.Event as arrivals
use Rattle.nut_server_spec.specs.Event.{Said}
use Rattle.nut_server_spec.specs.Numbering.{number_of}
use Rattle.nut_server_spec.specs.Trace as server
use Rattle.nut_server_spec.specs.Trace.{clock, configuration, connected, heard_at, reports}
use Rattle.nut_server_spec.proofs.RightsDecided.{acts_as, decided}
use Rattle.nut_monitor_spec.specs.Query.{has, parted}
use Rattle.nut_monitor_spec.specs.Trace.{Entry, begun, entry_of}
use Rattle.nut_monitor_spec.specs.declared.Query.TheVariants.{Status}
use Rattle.nut_fleet.specs.Schedule.{ServerClock, Down, Link}
use Rattle.nut_fleet.specs.World.{monitor_of}
use Rattle.nut_fleet.specs.Fleet.{IsReasonAt}
use Rattle.nut_fleet.specs.Halting.{CalledFor, DriverSays, IsCalledFor, UserForced}
use Rattle.nut_fleet.specs.examples.Examples.{alone, live, says, world_of}
use Rattle.nut_fleet.specs.examples.PastExamples.{brings}
use Rattle.nut_fleet.specs.examples.HaltingExamples.{HaltingExamples, client_says, forces_as, got, guarded, low_then, past_of, with_password, without_password}
use Rattle.nut_fleet.proofs.Forces.{user-forced}
use Rattle.nut_fleet.proofs.Rereads.{room-stays}
use Rattle.nut_fleet.proofs.WorkedPasts.{each-front, hides, never-shown, shows}

-- ---- whether a user has forced a shutdown, as a test

abbrev is_force : List ℕ → Command → Answer → Bool
is_force ups (Asks (requests.Fsd other)) (OneLine FsdSet) = bytes_eq ups other
is_force ups command reply = false

abbrev forces_at : ServerConfiguration → List ℕ → arrivals.Step → Answer → List server.Entry → Bool
forces_at first ups (Said c line) reply before = is_force ups (command_of line) reply && list_any (acts_as may_force c before) (configuration first before).users
forces_at first ups step reply before = false

abbrev forces : ServerConfiguration → List ℕ → List server.Entry → Bool
forces first ups [] = false
forces first ups (e ∷ before) = forces_at first ups e.step e.answer before || forces first ups before

or-either : (a b : Bool) → (a ≡ true) ⊎ (b ≡ true) → (a || b) ≡ true
or-either true b is = refl
or-either false b (inl is) = cc
or-either false b (inr is) = is

forces-true : (first : ServerConfiguration) (ups : List ℕ) (c : ℕ) (t : List server.Entry) → UserForced first ups c t → forces first ups t ≡ true
forces-true first ups c [] h = absurd h
forces-true first ups c (e ∷ before) (inr older) =
    or-either (forces_at first ups e.step e.answer before) (forces first ups before) (inr (forces-true first ups c before older))
forces-true first ups c (e ∷ before) (inl h) =
    or-either (forces_at first ups e.step e.answer before) (forces first ups before)
    (inl (rw (h.0.1, h.0.3) (and_from (is_force ups (command_of h.0.0) (OneLine FsdSet)) (list_any (acts_as may_force c before) (configuration first before).users)
    (ap (λ x. is_force ups x (OneLine FsdSet)) h.0.2 ∙ (bytes_eq-Decides ups ups).1 refl)
    (decided first may_force c before h.1))))

nobody-forces : (first : ServerConfiguration) (ups : List ℕ) (t : List server.Entry) → forces first ups t ≡ false → (c : ℕ) → UserForced first ups c t → ⊥
nobody-forces first ups t none c h = let bad : false ≡ true = sym none ∙ forces-true first ups c t h in cc

-- ---- the driver's words

ups-is : (t : List server.Entry) → number_of (codes "su700") (server.numbering alone.server t) ≡ Some 0 → (d : DriverSays alone 0 0 [] t) → d.ups ≡ 0
ups-is t is d = ap (λ o. unwrap_or o 0) (sym d.number ∙ is)

silent : DriverSays alone 0 0 [] (low_then (ServerClock 16 ∷ [])) → ⊥
unfolding digits read named put asked heard accepts changed after applied verb_of ask_line meaning keyword_of line refusal_name reply_line request_line text_of answer_of entry_of
silent d =
    let t = low_then (ServerClock 16 ∷ []) in
    let late : 16 ≤ 15 = subst (λ u. clock t ≤ heard_at u t + 15) (ups-is t refl d) d.heard in absurd (omega (arith, late))

gone : DriverSays alone 0 0 [] (low_then (Down 0 ∷ [])) → ⊥
unfolding digits read named put asked heard accepts changed after applied verb_of ask_line meaning keyword_of line refusal_name reply_line request_line text_of answer_of entry_of
gone d =
    let t = low_then (Down 0 ∷ []) in
    let bad : false ≡ true = subst (λ u. connected u t ≡ true) (ups-is t refl d) d.connected in cc

no-reason : (words : List (List ℕ)) → has (codes "FSD") words ≡ false → has (codes "OB") words ≡ false → IsReasonAt alone 0 0 [] words → ⊥
no-reason words fsd ob (inl is) = let bad : false ≡ true = sym fsd ∙ is in cc
no-reason words fsd ob (inr (inl low)) = let bad : false ≡ true = sym ob ∙ low.0 in cc
no-reason words fsd ob (inr (inr dead)) = let bad : false ≡ true = sym ob ∙ dead.0 in cc

charged : DriverSays alone 0 0 [] (low_then (says (codes "OL") ∷ [])) → ⊥
unfolding digits read named put asked heard accepts changed after applied verb_of ask_line meaning keyword_of line refusal_name reply_line request_line text_of answer_of entry_of
charged d =
    let t = low_then (says (codes "OL") ∷ []) in
    let text : codes "OL" ≡ d.status.value =
    ap (λ o. option_map_or (λ (v : Variable). v.value) o [])
    (subst (λ u. variable (table_of (reports u t)) (codes "ups.status") ≡ Some d.status) (ups-is t refl d) d.last) in
    no-reason (parted (codes "OL")) refl refl (subst (λ x. IsReasonAt alone 0 0 [] (parted x)) (sym text) d.reason)

-- ---- a made-up shutdown

abbrev says_forced : List Entry
says_forced = brings 1 Status 0 (codes "FSD OL") ∷ []

on-line-hides : each-front (hides (codes "FSD") 0 1) (reverse (live (codes "OL"))) ≡ true
unfolding digits read named put asked heard accepts changed after applied verb_of ask_line meaning keyword_of line refusal_name reply_line request_line text_of answer_of entry_of
on-line-hides = refl

not-called : CalledFor alone (reverse (live (codes "OL"))) 0 0 (begun (monitor_of alone 0) says_forced) → ⊥
not-called c =
    never-shown (codes "FSD") (reverse (live (codes "OL"))) says_forced c.cause.words on-line-hides (sym (ap (shows (codes "FSD")) c.cause.status_is)) c.cause.shown

made-up : IsCalledFor alone (reverse (live (codes "OL"))) 0 says_forced → ⊥
made-up h =
    let called = h refl in
    elim (cases_Bool (called.0 0)) [
      | inl calls ↦ not-called (called.1 0 calls)
      | inr calm ↦ let short : 1 < 1 = rw calm at called.2 in absurd (omega (arith, short))
    ]

abbrev no_variable : Variable
no_variable = record { name = []; value = []; flags = no_flags; aux = 0; enums = []; ranges = [] }

pub halting-examples : HaltingExamples
unfolding digits read named put asked heard accepts changed after applied verb_of ask_line meaning keyword_of line refusal_name reply_line request_line text_of answer_of entry_of
halting-examples = record {
  a_user_may = refl;
  nobody_else_may = refl;
  user_forced =
      user-forced alone.server (arrivals.steps (world_of alone (client_says with_password)).server) (codes "su700") 0 (room-stays alone (reverse (client_says with_password))) refl refl;
  nobody_forced = nobody-forces alone.server (codes "su700") (past_of (client_says without_password)) refl;
  not_this_ups = nobody-forces alone.server (codes "other") (past_of (client_says with_password)) refl;
  mon_may = inl (
    (Text (codes "FSD su700"), refl, refl, refl),
    record {
      user = record { name = codes "mon"; password = Some (codes "m1"); actions = []; commands = []; role = Some roles.Primary };
      configured = (1, omega arith, refl);
      may = refl;
      name = inr (inl (Text (codes "USERNAME mon"), refl, refl, refl));
      password = codes "m1";
      own = refl;
      given = inl (Text (codes "PASSWORD m1"), refl, refl, refl);
    },
  );
  guard_may_not = nobody-forces guarded (codes "su700") (forces_as (codes "guard") (codes "g1")) refl;
  stranger_may_not = nobody-forces guarded (codes "su700") (got (codes "FSD su700") (OneLine FsdSet) ∷ []) refl;
  heard = record {
    ups = 0;
    number = refl;
    connected = refl;
    heard = let just : 15 ≤ 15 = omega arith in just;
    status = unwrap_or (variable (table_of (reports 0 (low_then (ServerClock 15 ∷ [])))) (codes "ups.status")) no_variable;
    last = refl;
    reason = inr (inl (refl, refl, refl, inl refl));
  };
  silent = silent;
  gone = gone;
  charged = charged;
  monitor_forces = inl (Text (codes "FSD su700"), refl, refl, refl);
  made_up = made-up;
  supplies_too_little = refl;
  link_is_inside = λ outside. outside 0 0 (Link 0 0 ∷ []) refl (inl refl) refl;
  never_known = λ known. let bad : brings 1 Status 0 (codes "FSD OL") ∷ [] ≡ [] = known in cc;
}
