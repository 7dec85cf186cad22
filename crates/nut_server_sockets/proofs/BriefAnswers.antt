-- How long the answer to a line is that asks for no list, if what the server knows is within its limits.
use Rattle.std.proofs.Common.{◌≡◌, ℕ, zero, suc, ◌+◌, ◌*◌, ◌<◌, ◌≤◌, Bool, true, false, List, [], ◌∷◌, ◌++◌, length, refl, subst, arith, inl, inr, Option, Some, None, codes, decimal}
use Rattle.std.specs.Prelude.{◌&&◌, if◌then◌else◌, slice_index_or, is_none, nat_lt}
use Rattle.std.specs.List.{AllByRecursion, position_or_len}
use Rattle.std.specs.Str.{bytes_eq}
use Rattle.std.proofs.lemmas.Bool.{cases_Bool, ltb-true}
use Rattle.std.proofs.lemmas.Fmt.{length-decimal-le}
use Rattle.std.proofs.lemmas.Option.{option_and_then_some}
use Rattle.std.proofs.lemmas.Slice.Eq.{bytes_eq-Decides}
use Rattle.nut_conf.specs.declared.limits.TheConstants.{CONNECTIONS_MAX}
use Rattle.nut_words.specs.Name.{is_name}
use Rattle.nut_words.specs.Quoting.{quoted}
use Rattle.nut_words.specs.declared.limits.TheConstants.{NAME_MAX, UPS_NAME_MAX, VALUE_MAX}
use Rattle.nut_state.specs.Table.{Entry, variable, has_command, empty}
use Rattle.nut_state.specs.laws.Holds.{IsWithinLimits}
use Rattle.nut_proto.specs.declared.refusal.Refusal.{Refusal}
use Rattle.nut_proto.specs.declared.refusal.Refusal.TheVariants as refusals
use Rattle.nut_proto.specs.declared.request.Request.{Request}
use Rattle.nut_proto.specs.declared.request.Request.TheVariants as requests
use Rattle.nut_proto.specs.declared.reply.Reply.{Reply}
use Rattle.nut_proto.specs.declared.reply.Reply.TheVariants as replies
use Rattle.nut_proto.specs.declared.reply.VariableKind.TheVariants as kinds
use Rattle.nut_proto.specs.declared.driver_ask.DriverAsk.TheVariants as asks
use Rattle.nut_proto.specs.Descriptions.{variable_description, command_description}
use Rattle.nut_proto.specs.Replies.{reply_line}
use Rattle.nut_proto.specs.laws.ReadBack.{IsReadable}
use Rattle.nut_proto.proofs.Lengths.{length-quoted}
use Rattle.nut_server_spec.specs.Configuration.{Ups, ups_named, number_of_ups, may_command}
use Rattle.nut_server_spec.specs.Command.{Command, Blank, Malformed, Asks}
use Rattle.nut_server_spec.specs.Device.{Device, absent}
use Rattle.nut_server_spec.specs.Answer.{Answer, Silence, Line, text_of, Guest, Scene, Caller, refused, device_at, on_ups, on_data, on_device, on_variable, on_command, may_set, may_log_in, may_be_primary, may_force, shown, kind_of, guests_of, is_logged_in, var_row, misfit, parameter_misfit, accepted, status_of, set_answer, command_answer, answer_request, answer, require, check}
use Rattle.nut_server_spec.specs.laws.Limits.{IsUpsWithin}
use Rattle.nut_server_spec.proofs.AnswerLengths.{IsReadableCommand, IsShortScene, answer_fit, fewer}
use Rattle.nut_server_spec.proofs.Lengths.{length-word, name_within}
use Rattle.nut_server_spec.proofs.ReplyLengths as L
use Rattle.nut_server_spec.proofs.Requests.{IsNext, require-case, check-case, unless-case, with_credentials-case, with_right-case, handed_on-case}
use Rattle.nut_server_spec.proofs.Tables.{IsShortTable, variable_within, variable_named, command_named}
use Rattle.nut_server_sockets.specs.Waits.{asks_for_list}

-- how long the answer to a request that asks for no list may be: as long as GET VAR of a status with `FSD ` before its value, or
-- a line that holds no text of a driver or of a file
abbrev pub most : Request → ℕ
most (requests.GetNumLogins ups) = 1133
most (requests.GetUpsDesc ups) = 1133
most (requests.GetVar ups name) = 1133
most (requests.GetType ups name) = 1133
most (requests.GetDesc ups name) = 1133
most (requests.GetCmdDesc ups name) = 1133
most request = 200

abbrev IsBrief : ℕ → Answer → Type 0
IsBrief m a = length (text_of a) ≤ m

brief_silence : IsBrief 200 Silence
unfolding text_of
brief_silence = omega arith

brief_line : (m : ℕ) (r : Reply) → length (reply_line r) ≤ m → IsBrief m (Line r)
unfolding text_of
brief_line m r short = omega arith

brief_refused : (m : ℕ) → 200 ≤ m → (r : Refusal) → IsBrief m (refused r)
brief_refused m big r = brief_line m (replies.Refused r) (omega (arith, L.length-refused r))

brief_accepted : IsBrief 200 (Line replies.Accepted)
brief_accepted = brief_line 200 replies.Accepted (omega (arith, L.length-accepted))

brief_accepted_as : (s : Scene) (number : Option ℕ) → IsNext s number → IsBrief 200 (accepted number)
brief_accepted_as s number next = grind (arith, brief_accepted, brief_line, L.length-accepted_as)

-- ---- what comes after a test

device_short : (ds : List Device) (u : ℕ) → IsShortTable empty → AllByRecursion (λ d. IsShortTable d.table) ds → IsShortTable (slice_index_or ds u absent).table
device_short [] u nothing all = nothing
device_short (d ∷ ds) zero nothing all = all.0
device_short (d ∷ ds) (suc u) nothing all = device_short ds u nothing all.1

same_bytes : (x y : List ℕ) → bytes_eq x y ≡ true → x ≡ y
same_bytes x y e = grind (arith, bytes_eq-Decides x y)

-- a name that a UPS has
number_within : (name : List ℕ) (upses : List Ups) (u : ℕ) → AllByRecursion IsUpsWithin upses → number_of_ups name upses ≡ Some u → is_name UPS_NAME_MAX name ≡ true
number_within name upses u all found = by_place upses all (inside (nat_lt (position_or_len (λ (u : Ups). bytes_eq u.name name) upses) (length upses)) refl found) where
  inside : (b : Bool) → nat_lt (position_or_len (λ (u : Ups). bytes_eq u.name name) upses) (length upses) ≡ b → (if b then Some (position_or_len (λ (u : Ups). bytes_eq u.name name) upses) else None) ≡ Some u
      → position_or_len (λ (u : Ups). bytes_eq u.name name) upses < length upses
  inside true e is = ltb-true (position_or_len (λ (u : Ups). bytes_eq u.name name) upses) (length upses) e
  inside false e is = absurd (cc)

  by_place : (upses : List Ups) → AllByRecursion IsUpsWithin upses → position_or_len (λ (u : Ups). bytes_eq u.name name) upses < length upses → is_name UPS_NAME_MAX name ≡ true
  by_place [] all lt = absurd (omega arith)
  by_place (x ∷ xs) all lt =
      elim (cases_Bool (bytes_eq x.name name)) [
        | inl e ↦ subst (λ n. is_name UPS_NAME_MAX n ≡ true) (same_bytes x.name name e) all.0.name
        | inr e ↦ by_place xs all.1 (let less = rw e at lt in omega (arith, less))
      ]

module _ (m : ℕ) (big : 200 ≤ m) where
  brief_ups : (s : Scene) → IsShortScene s → (name : List ℕ) (next : ℕ → Answer) → ((u : ℕ) → is_name UPS_NAME_MAX name ≡ true → IsBrief m (next u)) → IsBrief m (on_ups s name next)
  brief_ups s short name next brief = grind (arith, require-case, brief_refused, option_and_then_some, number_within)

  brief_data : (s : Scene) → IsShortScene s → (u : ℕ) (next : Device → Answer) → (IsShortTable (device_at s u).table → IsBrief m (next (device_at s u))) → IsBrief m (on_data s u next)
  brief_data s short u next brief = grind (arith, unless-case, brief_refused, device_short)

  brief_device : (s : Scene) → IsShortScene s → (name : List ℕ) (next : Device → Answer) → ((d : Device) → is_name UPS_NAME_MAX name ≡ true → IsShortTable d.table → IsBrief m (next d)) → IsBrief m (on_device s name next)
  brief_device s short name next brief = brief_ups s short name _ (λ u named. brief_data s short u next (λ table. brief (device_at s u) named table))

  brief_variable : (name : List ℕ) (d : Device) (next : Entry → Answer) → ((v : Entry) → variable d.table name ≡ Some v → IsBrief m (next v)) → IsBrief m (on_variable name d next)
  brief_variable name d next brief = require-case (IsBrief m) refusals.VarNotSupported (variable d.table name) next (brief_refused m big refusals.VarNotSupported) brief

  brief_command : (name : List ℕ) (d : Device) (next : Answer) → (has_command d.table name ≡ true → IsBrief m next) → IsBrief m (on_command name d next)
  brief_command name d next brief = check-case (IsBrief m) refusals.CmdNotSupported (has_command d.table name) next (brief_refused m big refusals.CmdNotSupported) brief

ups_short : (name : List ℕ) → is_name UPS_NAME_MAX name ≡ true → length name ≤ UPS_NAME_MAX
ups_short name named = (name_within UPS_NAME_MAX name named).1

-- ---- what the answers tell

length-marked : (b : Bool) (value : List ℕ) → length value ≤ VALUE_MAX → length (quoted (if b then codes "FSD " ++ value else value)) ≤ 1030
length-marked b value few = grind (arith, length-quoted)

length-shown : (d : Device) (v : Entry) → IsWithinLimits v → length (quoted (shown d v)) ≤ 1030
length-shown d v within = length-marked (d.forced && bytes_eq v.name (codes "ups.status")) v.value within.value

kind_few : (v : Entry) (m : ℕ) → v.aux ≤ VALUE_MAX → kind_of v ≡ kinds.String m → m ≤ VALUE_MAX
kind_few v m few is = grind arith

described_brief : (name : List ℕ) (upses : List Ups) → AllByRecursion IsUpsWithin upses → IsBrief 1133 (require refusals.UnknownUps (ups_named name upses) (λ ups. Line (replies.UpsDesc name ups.description)))
described_brief name [] all = brief_refused 1133 (omega arith) refusals.UnknownUps
described_brief name (x ∷ xs) all =
    elim (cases_Bool (bytes_eq x.name name)) [
      | inl e ↦
          let own : is_name UPS_NAME_MAX name ≡ true = subst (λ n. is_name UPS_NAME_MAX n ≡ true) (same_bytes x.name name e) all.0.name in
          rw e (brief_line 1133 (replies.UpsDesc name x.description)
          (omega (arith, L.length-reply (replies.UpsDesc name x.description) _ _ refl, length-word name, length-quoted x.description, ups_short name own, all.0.description)))
      | inr e ↦ rw e (described_brief name xs all.1)
    ]

once_brief : (r : Refusal) (o : Option (List ℕ)) → IsBrief 200 (check r (is_none o) (Line replies.Accepted))
once_brief r o = grind (arith, brief_accepted, brief_refused)

-- ---- the answers

abbrev pub most_of : Command → ℕ
most_of (Asks request) = most request
most_of command = 200

module _ (s : Scene) (short : IsShortScene s) where
  request_brief : (k : Caller) (request : Request) → IsReadable request → asks_for_list (Asks request) ≡ false → IsBrief (most request) (answer_request s k request)
  request_brief k (requests.List query) readable other = absurd (cc)
  request_brief k (requests.GetNumLogins ups) readable other = brief_ups 1133 (omega arith) s short ups _ (λ u named. brief_data 1133 (omega arith) s short u (λ d. Line (replies.NumLogins ups (length (guests_of u s.guests)))) (λ table.
      brief_line 1133 (replies.NumLogins ups (length (guests_of u s.guests)))
      (let n : ℕ = length (guests_of u s.guests) in
      let few : n ≤ CONNECTIONS_MAX = omega (arith, fewer (λ (g : Guest). is_logged_in u g.login) s.guests, short.few) in
      omega (arith, L.length-reply (replies.NumLogins ups n) _ _ refl, length-word ups, ups_short ups named, length-word (decimal n), length-decimal-le 3 n (omega arith) (omega arith) (omega arith)))))
  request_brief k (requests.GetUpsDesc ups) readable other = described_brief ups s.configuration.upses short.configured.each_ups
  request_brief k (requests.GetVar ups name) readable other = brief_device 1133 (omega arith) s short ups _ (λ d named table. brief_variable 1133 (omega arith) name d _ (λ v there.
      let within = variable_within d.table name v table there in
      brief_line 1133 (var_row ups d v) (omega (arith, L.length-var ups v.name (shown d v) (name_within UPS_NAME_MAX ups named) (name_within NAME_MAX v.name within.name), length-shown d v within))))
  request_brief k (requests.GetType ups name) readable other = brief_device 1133 (omega arith) s short ups _ (λ d named table. brief_variable 1133 (omega arith) name d _ (λ v there.
      let within = variable_within d.table name v table there in
      let fits = L.length-type ups v.name v.flags.writable (kind_of v) (ups_short ups named) (name_within NAME_MAX v.name within.name).1 (λ m is. kind_few v m within.aux is) in
      brief_line 1133 (replies.Type ups v.name v.flags.writable (kind_of v)) (omega (arith, fits))))
  request_brief k (requests.GetDesc ups name) readable other = brief_device 1133 (omega arith) s short ups _ (λ d named table. brief_variable 1133 (omega arith) name d _ (λ v there.
      let text = variable_description s.configuration.variable_texts name in
      let few = L.length-variable_text s.configuration.variable_texts name short.configured.variable_texts in
      brief_line 1133 (replies.Desc ups name text) (omega (arith, L.length-reply (replies.Desc ups name text) _ _ refl, length-word ups, length-word name, length-quoted text, ups_short ups named, (variable_named d.table name v table there).1, few))))
  request_brief k (requests.GetCmdDesc ups name) readable other = brief_device 1133 (omega arith) s short ups _ (λ d named table. brief_command 1133 (omega arith) name d _ (λ there.
      let text = command_description s.configuration.command_texts name in
      let few = L.length-command_text s.configuration.command_texts name short.configured.command_texts in
      brief_line 1133 (replies.CmdDesc ups name text) (omega (arith, L.length-reply (replies.CmdDesc ups name text) _ _ refl, length-word ups, length-word name, length-quoted text, ups_short ups named, (command_named d.table name table there).1, few))))
  request_brief k requests.GetTracking readable other = brief_line 200 (replies.TrackingIs k.tracking) (omega (arith, L.length-tracking_is k.tracking))
  request_brief k (requests.GetTrackingOf number) readable other =
      brief_line 200 (replies.Tracking number (status_of number s.devices)) (omega (arith, L.length-tracking number (status_of number s.devices) readable.1))
  request_brief k (requests.SetVar ups name value) readable other = with_right-case (IsBrief 200) s k may_set ups _ (brief_refused 200 (omega arith)) (λ u found. brief_data 200 (omega arith) s short u (λ d. set_answer s k d name value) (λ table.
      let d = device_at s u in
      brief_variable 200 (omega arith) name d _ (λ v there. unless-case (IsBrief 200) (misfit v value) _ (brief_refused 200 (omega arith))
      (handed_on-case (IsBrief 200) refusals.SetFailed s k (λ number. asks.Set name value number) d (brief_refused 200 (omega arith) refusals.SetFailed) (λ number next holds. brief_accepted_as s number next)))))
  request_brief k (requests.SetTracking on) readable other = with_credentials-case (IsBrief 200) k _ (brief_refused 200 (omega arith)) (λ user password. brief_accepted)
  request_brief k (requests.InstCmd ups name parameter) readable other = with_right-case (IsBrief 200) s k (may_command name) ups _ (brief_refused 200 (omega arith)) (λ u found. brief_data 200 (omega arith) s short u (λ d. command_answer s k d name parameter) (λ table.
      let d = device_at s u in
      brief_command 200 (omega arith) name d _ (λ there. unless-case (IsBrief 200) (parameter_misfit parameter) _ (brief_refused 200 (omega arith))
      (handed_on-case (IsBrief 200) refusals.InstCmdFailed s k (λ number. asks.InstCmd name parameter number) d (brief_refused 200 (omega arith) refusals.InstCmdFailed) (λ number next holds. brief_accepted_as s number next)))))
  request_brief k (requests.Username name) readable other = once_brief refusals.AlreadySetUsername k.user
  request_brief k (requests.Password password) readable other = once_brief refusals.AlreadySetPassword k.password
  request_brief k (requests.Login ups) readable other = with_right-case (IsBrief 200) s k may_log_in ups _ (brief_refused 200 (omega arith)) (λ u found.
      check-case (IsBrief 200) refusals.AlreadyLoggedIn (is_none k.login) (Line replies.Accepted) (brief_refused 200 (omega arith) refusals.AlreadyLoggedIn) (λ holds. brief_accepted))
  request_brief k (requests.Primary ups) readable other = with_right-case (IsBrief 200) s k may_be_primary ups _ (brief_refused 200 (omega arith)) (λ u found. brief_accepted)
  request_brief k (requests.Fsd ups) readable other = with_right-case (IsBrief 200) s k may_force ups _ (brief_refused 200 (omega arith)) (λ u found. brief_line 200 replies.FsdSet (omega (arith, L.length-fsd_set)))
  request_brief k requests.Logout readable other = brief_line 200 replies.Goodbye (omega (arith, L.length-goodbye))
  request_brief k requests.Ver readable other = brief_line 200 replies.Version (omega (arith, L.length-version))
  request_brief k requests.NetVer readable other = brief_line 200 replies.NetworkVersion (omega (arith, L.length-network_version))
  request_brief k requests.Help readable other = brief_line 200 replies.Commands (omega (arith, L.length-commands))
  request_brief k requests.StartTls readable other = brief_refused 200 (omega arith) refusals.FeatureNotConfigured

  answer_brief : (k : Caller) (command : Command) → IsReadableCommand command → asks_for_list command ≡ false → IsBrief (most_of command) (answer s k command)
  answer_brief k Blank readable other = brief_silence
  answer_brief k (Malformed refusal) readable other = brief_refused 200 (omega arith) refusal
  answer_brief k (Asks request) readable other = request_brief k request readable other

  -- how many bytes an answer has at most
  pub answer_cost : (k : Caller) (command : Command) → IsReadableCommand command → length (text_of (answer s k command)) ≤ most_of command + 578146 * (if asks_for_list command then 1 else 0)
  answer_cost k command readable =
      elim (cases_Bool (asks_for_list command)) [
        | inl e ↦ rw e (omega (arith, answer_fit s short k command readable))
        | inr e ↦ rw e (omega (arith, answer_brief k command readable e))
      ]
