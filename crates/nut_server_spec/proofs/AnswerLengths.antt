-- How long answers are, if what the server knows is within its limits.
use Rattle.std.proofs.Common.{◌≡◌, ℕ, zero, suc, ◌+◌, ◌*◌, ◌<◌, ◌≤◌, Bool, true, false, List, [], ◌∷◌, ◌++◌, length, map, refl, sym, subst, ◌∙◌, arith, inl, inr, Option, Some, None, Result, Ok, Err, codes, decimal, length-append}
use Rattle.std.specs.Prelude.{◌&&◌, if◌then◌else◌, filter, slice_index_or, is_none, nat_lt}
use Rattle.std.specs.List.{AllByRecursion, flat_map, position_or_len}
use Rattle.std.specs.Str.{bytes_eq}
use Rattle.std.proofs.lemmas.Bool.{cases_Bool, ltb-true}
use Rattle.std.proofs.lemmas.Fmt.{length-decimal-le}
use Rattle.std.proofs.lemmas.List.Sums.{count_by-le-length, length-filter}
use Rattle.std.proofs.lemmas.Map.Text.{is_eq-slice_cmp}
use Rattle.std.proofs.lemmas.Slice.Eq.{bytes_eq-Decides}
use Rattle.nut_conf.specs.declared.limits.TheConstants.{CONNECTIONS_MAX}
use Rattle.nut_words.specs.Name.{is_name}
use Rattle.nut_words.specs.Quoting.{quoted}
use Rattle.nut_words.specs.declared.limits.TheConstants.{NAME_MAX, UPS_NAME_MAX, VALUE_MAX}
use Rattle.nut_state.specs.laws.Holds.{IsWithinLimits}
use Rattle.nut_state.specs.declared.number.Range.{Range}
use Rattle.nut_state.specs.Table.{Entry, variable, has_command, empty}
use Rattle.nut_state.proofs.SortedLemmas.{equal, one_at_most}
use Rattle.nut_state.specs.declared.limits.TheConstants.{VARIABLES_MAX}
use Rattle.nut_proto.specs.declared.refusal.Refusal.{Refusal}
use Rattle.nut_proto.specs.declared.refusal.Refusal.TheVariants as refusals
use Rattle.nut_proto.specs.declared.request.Request.{Request}
use Rattle.nut_proto.specs.declared.request.Request.TheVariants as requests
use Rattle.nut_proto.specs.declared.request.ListQuery.{ListQuery}
use Rattle.nut_proto.specs.declared.request.ListQuery.TheVariants as queries
use Rattle.nut_proto.specs.declared.reply.Reply.{Reply}
use Rattle.nut_proto.specs.declared.reply.Reply.TheVariants as replies
use Rattle.nut_proto.specs.declared.reply.VariableKind.TheVariants as kinds
use Rattle.nut_proto.specs.declared.driver_ask.DriverAsk.TheVariants as asks
use Rattle.nut_proto.specs.Descriptions.{variable_description, command_description}
use Rattle.nut_proto.specs.Replies.{reply_line}
use Rattle.nut_proto.specs.Requests.{begin_line, end_line}
use Rattle.nut_proto.proofs.Lengths.{length-name, length-quoted}
use Rattle.nut_server_spec.specs.Configuration.{Ups, ups_named, number_of_ups, may_command}
use Rattle.nut_proto.specs.Forms.{meaning}
use Rattle.nut_proto.specs.laws.ReadBack.{IsReadable}
use Rattle.nut_proto.proofs.Readable.{read_requests_are_readable}
use Rattle.nut_words.specs.Lines.{LineText}
use Rattle.nut_words.specs.declared.words.WordFault.{WordFault}
use Rattle.nut_server_spec.specs.Command.{Command, Asks, asked, command_in, command_of}
use Rattle.nut_server_spec.specs.Device.{Device, absent}
use Rattle.nut_server_spec.specs.Answer.{Answer, Silence, Line, Listing, text_of, Guest, Scene, Caller, refused, device_at, on_ups, on_data, on_device, on_variable, on_command, may_set, may_log_in, may_be_primary, may_force, shown, kind_of, guests_of, is_logged_in, var_row, list_answer, misfit, parameter_misfit, accepted, status_of, set_answer, command_answer, answer_request, answer, require, check}
use Rattle.nut_server_spec.specs.laws.Limits.{IsUpsWithin, IsWithin, longest_answer}
use Rattle.nut_server_spec.proofs.Alls.{all_weaker, all_filter, all_places}
use Rattle.nut_server_spec.proofs.Lengths.{length-word, name_within}
use Rattle.nut_server_spec.proofs.ReplyLengths as L
use Rattle.nut_server_spec.proofs.Requests.{IsNext, require-case, check-case, unless-case, with_credentials-case, with_right-case, handed_on-case}
use Rattle.nut_server_spec.proofs.Tables.{IsShortRange, IsShortTable, variable_within, variable_named, command_named}
use Rattle.nut_server_spec.specs.declared.limits.TheConstants.{ADDRESS_MAX}
use Rattle.std.proofs.lemmas.Option.{option_and_then_some}

-- The answer is no longer than the longest.
abbrev pub IsFit : Answer → Type 0
IsFit a = length (text_of a) ≤ longest_answer

pub fit_silence : IsFit Silence
unfolding text_of
fit_silence = omega arith

fit_line : (r : Reply) → length (reply_line r) ≤ 1000 → IsFit (Line r)
unfolding text_of
fit_line r short = omega arith

fit_long : (r : Reply) → length (reply_line r) ≤ 2000 → IsFit (Line r)
unfolding text_of
fit_long r short = omega arith

fit_refused : (r : Refusal) → IsFit (refused r)
fit_refused r = fit_line (replies.Refused r) (omega (arith, L.length-refused r))

fit_accepted : IsFit (Line replies.Accepted)
fit_accepted = fit_line replies.Accepted (omega (arith, L.length-accepted))

fit_accepted_as : (s : Scene) (number : Option ℕ) → IsNext s number → IsFit (accepted number)
fit_accepted_as s number next = grind (arith, fit_accepted, fit_line, L.length-accepted_as)

-- what a client asks for is within its own bounds
abbrev pub IsReadableCommand : Command → Type 0
IsReadableCommand (Asks request) = IsReadable request
IsReadableCommand other = Unit {0}

readable-asked : (words : List (List ℕ)) (r : Result Request Refusal) → meaning words ≡ r → IsReadableCommand (asked r)
readable-asked words r is = grind (arith, Ok, read_requests_are_readable, Err)

readable-in : (r : Result (List (List ℕ)) WordFault) → IsReadableCommand (command_in r)
readable-in other = grind (arith, Ok, readable-asked)

pub readable-command : (line : LineText) → IsReadableCommand (command_of line)
readable-command line = grind (arith, readable-in)

fit_list : (query : ListQuery) (rows : List Reply) (m n : ℕ) → length (begin_line query) + length (end_line query) ≤ m → length (flat_map reply_line rows) ≤ n → m + n ≤ longest_answer
    → IsFit (Listing query rows)
unfolding text_of
fit_list query rows m n marks few most = grind (arith, length-append)

rows_short : {X : Type 0} (row : X → Reply) (xs : List X) → AllByRecursion (λ x. length (reply_line (row x)) ≤ 1300) xs → length (flat_map reply_line (map row xs)) ≤ 1300 * length xs
rows_short row [] all = omega arith
rows_short row (x ∷ xs) all = omega (arith, length-append (reply_line (row x)) (flat_map reply_line (map row xs)), rows_short row xs all.1, all.0)

pub fewer : {X : Type 0} (p : X → Bool) (xs : List X) → length (filter p xs) ≤ length xs
fewer p xs = omega (arith, length-filter p xs, count_by-le-length p xs)

fewer_both : {X : Type 0} (p q : X → Bool) (xs : List X) → length (filter p (filter q xs)) ≤ length (filter p xs)
fewer_both p q [] = omega arith
fewer_both p q (x ∷ xs) =
    elim (cases_Bool (q x)) [
      | inl e ↦ elim (cases_Bool (p x)) [ inl f ↦ rw (e, f) (omega (arith, fewer_both p q xs)) | inr f ↦ rw (e, f) (omega (arith, fewer_both p q xs)) ]
      | inr e ↦ elim (cases_Bool (p x)) [ inl f ↦ rw (e, f) (omega (arith, fewer_both p q xs)) | inr f ↦ rw (e, f) (omega (arith, fewer_both p q xs)) ]
    ]

-- ---- what the server knows is within its limits

pub record IsShortScene (s : Scene) : Type 0 where
  pub configured : IsWithin s.configuration
  pub devices : AllByRecursion (λ d. IsShortTable d.table) s.devices
  pub nothing : IsShortTable empty
  pub guests : AllByRecursion (λ g. length g.address ≤ ADDRESS_MAX) s.guests
  pub few : length s.guests ≤ CONNECTIONS_MAX

device_short : (ds : List Device) (u : ℕ) → IsShortTable empty → AllByRecursion (λ d. IsShortTable d.table) ds → IsShortTable (slice_index_or ds u absent).table
device_short [] u nothing all = nothing
device_short (d ∷ ds) zero nothing all = all.0
device_short (d ∷ ds) (suc u) nothing all = device_short ds u nothing all.1

same_bytes : (x y : List ℕ) → bytes_eq x y ≡ true → x ≡ y
same_bytes x y e = grind (arith, bytes_eq-Decides x y)

-- a name that a UPS has
number_within : (name : List ℕ) (upses : List Ups) (u : ℕ) → AllByRecursion IsUpsWithin upses → number_of_ups name upses ≡ Some u → is_name UPS_NAME_MAX name ≡ true
number_within name upses u all found = by_place upses all (inside (nat_lt (position_or_len (λ (u : Ups). bytes_eq u.name name) upses) (length upses)) refl found) where
  inside : (b : Bool) → nat_lt (position_or_len (λ (u : Ups). bytes_eq u.name name) upses) (length upses) ≡ b → (if b then Some (position_or_len (λ (u : Ups). bytes_eq u.name name) upses) else None) ≡ Some u
      → position_or_len (λ (u : Ups). bytes_eq u.name name) upses < length upses
  inside true e is = ltb-true (position_or_len (λ (u : Ups). bytes_eq u.name name) upses) (length upses) e
  inside false e is = absurd (cc)

  by_place : (upses : List Ups) → AllByRecursion IsUpsWithin upses → position_or_len (λ (u : Ups). bytes_eq u.name name) upses < length upses → is_name UPS_NAME_MAX name ≡ true
  by_place [] all lt = absurd (omega arith)
  by_place (x ∷ xs) all lt =
      elim (cases_Bool (bytes_eq x.name name)) [
        | inl e ↦ subst (λ n. is_name UPS_NAME_MAX n ≡ true) (same_bytes x.name name e) all.0.name
        | inr e ↦ by_place xs all.1 (let less = rw e at lt in omega (arith, less))
      ]

-- ---- what comes after a test

module _ (s : Scene) (short : IsShortScene s) where
  fit_ups : (name : List ℕ) (next : ℕ → Answer) → ((u : ℕ) → is_name UPS_NAME_MAX name ≡ true → IsFit (next u)) → IsFit (on_ups s name next)
  fit_ups name next fit = grind (arith, require-case, fit_refused, option_and_then_some, number_within)

  fit_data : (u : ℕ) (next : Device → Answer) → (IsShortTable (device_at s u).table → IsFit (next (device_at s u))) → IsFit (on_data s u next)
  fit_data u next fit = grind (arith, unless-case, fit_refused, device_short)

  fit_device : (name : List ℕ) (next : Device → Answer) → ((d : Device) → is_name UPS_NAME_MAX name ≡ true → IsShortTable d.table → IsFit (next d)) → IsFit (on_device s name next)
  fit_device name next fit = fit_ups name _ (λ u named. fit_data u next (λ table. fit (device_at s u) named table))

fit_variable : (name : List ℕ) (d : Device) (next : Entry → Answer) → ((v : Entry) → variable d.table name ≡ Some v → IsFit (next v)) → IsFit (on_variable name d next)
fit_variable name d next fit = require-case IsFit refusals.VarNotSupported (variable d.table name) next (fit_refused refusals.VarNotSupported) fit

fit_command : (name : List ℕ) (d : Device) (next : Answer) → (has_command d.table name ≡ true → IsFit next) → IsFit (on_command name d next)
fit_command name d next fit = check-case IsFit refusals.CmdNotSupported (has_command d.table name) next (fit_refused refusals.CmdNotSupported) fit

-- a UPS's name has at most UPS_NAME_MAX bytes, and stands bare
ups_short : (name : List ℕ) → is_name UPS_NAME_MAX name ≡ true → length name ≤ UPS_NAME_MAX
ups_short name named = (name_within UPS_NAME_MAX name named).1

-- ---- the values that clients see

length-marked : (b : Bool) (value : List ℕ) → length value ≤ VALUE_MAX → length (quoted (if b then codes "FSD " ++ value else value)) ≤ 1030
length-marked b value few = grind (arith, length-quoted)

length-shown : (d : Device) (v : Entry) → IsWithinLimits v → length (quoted (shown d v)) ≤ 1030
length-shown d v within = length-marked (d.forced && bytes_eq v.name (codes "ups.status")) v.value within.value

length-plain : (d : Device) (v : Entry) → IsWithinLimits v → bytes_eq v.name (codes "ups.status") ≡ false → length (quoted (shown d v)) ≤ 1026
length-plain d v within other = grind (arith, length-quoted)

-- the rows of a list of values: only that of the status may be four bytes longer
rows_shown : (d : Device) (row : Entry → Reply) (vs : List Entry) → ((v : Entry) → IsWithinLimits v → length (reply_line (row v)) ≤ 103 + length (quoted (shown d v)))
    → AllByRecursion IsWithinLimits vs → length (flat_map reply_line (map row vs)) ≤ 1129 * length vs + 4 * length (filter (equal (λ (v : Entry). v.name) (codes "ups.status")) vs)
rows_shown d row [] each all = omega arith
rows_shown d row (v ∷ vs) each all =
    let rest = rows_shown d row vs each all.1 in
    let joined = length-append (reply_line (row v)) (flat_map reply_line (map row vs)) in
    let own = each v all.0 in
    elim (cases_Bool (equal (λ (v : Entry). v.name) (codes "ups.status") v)) [
      | inl e ↦ rw e (omega (arith, rest, joined, own, length-shown d v all.0))
      | inr e ↦
          let other : bytes_eq v.name (codes "ups.status") ≡ false = sym (is_eq-slice_cmp v.name (codes "ups.status")) ∙ e in
          rw e (omega (arith, rest, joined, own, length-plain d v all.0 other))
    ]

variables_fit : (d : Device) (row : Entry → Reply) (vs : List Entry) → ((v : Entry) → IsWithinLimits v → length (reply_line (row v)) ≤ 103 + length (quoted (shown d v)))
    → AllByRecursion IsWithinLimits vs → length vs ≤ VARIABLES_MAX → length (filter (equal (λ (v : Entry). v.name) (codes "ups.status")) vs) ≤ 1
    → length (flat_map reply_line (map row vs)) ≤ 578052
variables_fit d row vs each all few one = omega (arith, rows_shown d row vs each all)

one_status : (d : Device) → IsShortTable d.table → length (filter (equal (λ (v : Entry). v.name) (codes "ups.status")) d.table.variables) ≤ 1
one_status d table = one_at_most (λ (v : Entry). v.name) (codes "ups.status") d.table.variables table.in_order.variables_ascend

all_within : (d : Device) → IsShortTable d.table → AllByRecursion IsWithinLimits d.table.variables
all_within d table = all_places IsWithinLimits d.table.variables table.in_order.each_within

-- ---- the answers

kind_few : (v : Entry) (m : ℕ) → v.aux ≤ VALUE_MAX → kind_of v ≡ kinds.String m → m ≤ VALUE_MAX
kind_few v m few is = grind arith

described_fit : (name : List ℕ) (upses : List Ups) → AllByRecursion IsUpsWithin upses → IsFit (require refusals.UnknownUps (ups_named name upses) (λ ups. Line (replies.UpsDesc name ups.description)))
described_fit name [] all = fit_refused refusals.UnknownUps
described_fit name (x ∷ xs) all =
    elim (cases_Bool (bytes_eq x.name name)) [
      | inl e ↦
          let own : is_name UPS_NAME_MAX name ≡ true = subst (λ n. is_name UPS_NAME_MAX n ≡ true) (same_bytes x.name name e) all.0.name in
          rw e (fit_line (replies.UpsDesc name x.description)
          (omega (arith, L.length-reply (replies.UpsDesc name x.description) _ _ refl, length-word name, length-quoted x.description, ups_short name own, all.0.description)))
      | inr e ↦ rw e (described_fit name xs all.1)
    ]

once_fit : (r : Refusal) (o : Option (List ℕ)) → IsFit (check r (is_none o) (Line replies.Accepted))
once_fit r o = grind (arith, fit_accepted, fit_refused)

module _ (s : Scene) (short : IsShortScene s) where
  list_fit : (query : ListQuery) → IsFit (list_answer s query)
  list_fit queries.Ups =
      let upses = s.configuration.upses in
      let row : Ups → Reply = λ ups. replies.Ups ups.name ups.description in
      fit_list queries.Ups (map row upses) 1000 41600 (omega (arith, L.length-marks queries.Ups 4 (omega arith)))
      (omega (arith, short.configured.upses, rows_short row upses (all_weaker IsUpsWithin _ upses (λ ups within. L.length-ups ups.name ups.description (ups_short ups.name within.name) within.description) short.configured.each_ups)))
      (omega arith)
  list_fit (queries.Var ups) = fit_device s short ups _ (λ d named table.
      let name = name_within UPS_NAME_MAX ups named in
      fit_list (queries.Var ups) (map (var_row ups d) d.table.variables) 94 578052 (L.length-marks (queries.Var ups) 37 (omega (arith, length-name UPS_NAME_MAX ups name)))
      (variables_fit d (var_row ups d) d.table.variables (λ v within. L.length-var ups v.name (shown d v) name (name_within NAME_MAX v.name within.name)) (all_within d table) table.in_order.variables_within (one_status d table))
      (omega arith))
  list_fit (queries.Rw ups) = fit_device s short ups _ (λ d named table.
      let name = name_within UPS_NAME_MAX ups named in
      let p : Entry → Bool = λ v. v.flags.writable in
      let row : Entry → Reply = λ v. replies.Rw ups v.name (shown d v) in
      let vs = d.table.variables in
      fit_list (queries.Rw ups) (map row (filter p vs)) 94 578052 (omega (arith, L.length-marks (queries.Rw ups) 36 (omega (arith, length-name UPS_NAME_MAX ups name))))
      (variables_fit d row (filter p vs) (λ v within. L.length-rw ups v.name (shown d v) name (name_within NAME_MAX v.name within.name)) (all_filter IsWithinLimits p vs (all_within d table))
      (omega (arith, fewer p vs, table.in_order.variables_within)) (omega (arith, fewer_both (equal (λ (v : Entry). v.name) (codes "ups.status")) p vs, one_status d table)))
      (omega arith))
  list_fit (queries.Cmd ups) = fit_device s short ups _ (λ d named table.
      let commands = d.table.commands in
      let row : List ℕ → Reply = λ k. replies.Cmd ups k in
      fit_list (queries.Cmd ups) (map row commands) 1000 166400 (omega (arith, L.length-marks (queries.Cmd ups) 490 (omega (arith, length-word ups, ups_short ups named))))
      (omega (arith, table.in_order.commands_within, rows_short row commands (all_weaker (λ k. is_name NAME_MAX k ≡ true) _ commands (λ k own. L.length-cmd ups k (ups_short ups named) (name_within NAME_MAX k own).1) (all_places _ commands table.in_order.each_command))))
      (omega arith))
  list_fit (queries.Enum ups name) = fit_device s short ups _ (λ d named table. fit_variable name d _ (λ v there.
      let within = variable_within d.table name v table there in
      let own = (variable_named d.table name v table there).1 in
      let row : List ℕ → Reply = λ x. replies.Enum ups name x in
      fit_list (queries.Enum ups name) (map row v.enums) 1000 83200 (omega (arith, L.length-marks (queries.Enum ups name) 490 (omega (arith, length-word ups, length-word name, ups_short ups named, own))))
      (omega (arith, within.enums, rows_short row v.enums (all_weaker (λ x. length x ≤ VALUE_MAX) _ v.enums (λ x few. L.length-enum ups name x (ups_short ups named) own few) (all_places _ v.enums within.each_enum))))
      (omega arith)))
  list_fit (queries.Range ups name) = fit_device s short ups _ (λ d named table. fit_variable name d _ (λ v there.
      let within = variable_within d.table name v table there in
      let own = (variable_named d.table name v table there).1 in
      let row : Range → Reply = λ r. replies.Range ups name r.minimum r.maximum in
      fit_list (queries.Range ups name) (map row v.ranges) 1000 20800 (omega (arith, L.length-marks (queries.Range ups name) 490 (omega (arith, length-word ups, length-word name, ups_short ups named, own))))
      (omega (arith, within.ranges, rows_short row v.ranges (all_weaker IsShortRange _ v.ranges (λ r few. L.length-range ups name r.minimum r.maximum (ups_short ups named) own few.minimum few.maximum) (table.ranges name v there))))
      (omega arith)))
  list_fit (queries.Client ups) = fit_ups s short ups _ (λ u named. fit_data s short u (λ d. Listing (queries.Client ups) (map (λ (g : Guest). replies.Client ups g.address) (guests_of u s.guests))) (λ table.
      let p : Guest → Bool = λ g. is_logged_in u g.login in
      let row : Guest → Reply = λ g. replies.Client ups g.address in
      fit_list (queries.Client ups) (map row (filter p s.guests)) 1000 332800 (omega (arith, L.length-marks (queries.Client ups) 490 (omega (arith, length-word ups, ups_short ups named))))
      (omega (arith, fewer p s.guests, short.few, rows_short row (filter p s.guests) (all_weaker (λ (g : Guest). length g.address ≤ ADDRESS_MAX) _ (filter p s.guests) (λ g few. L.length-client ups g.address (ups_short ups named) few) (all_filter _ p s.guests short.guests))))
      (omega arith)))

  request_fit : (k : Caller) (request : Request) → IsReadable request → IsFit (answer_request s k request)
  request_fit k (requests.GetNumLogins ups) readable = fit_ups s short ups _ (λ u named. fit_data s short u (λ d. Line (replies.NumLogins ups (length (guests_of u s.guests)))) (λ table.
      fit_line (replies.NumLogins ups (length (guests_of u s.guests)))
      (let n : ℕ = length (guests_of u s.guests) in
      let few : n ≤ CONNECTIONS_MAX = omega (arith, fewer (λ (g : Guest). is_logged_in u g.login) s.guests, short.few) in
      omega (arith, L.length-reply (replies.NumLogins ups n) _ _ refl, length-word ups, ups_short ups named, length-word (decimal n), length-decimal-le 3 n (omega arith) (omega arith) (omega arith)))))
  request_fit k (requests.GetUpsDesc ups) readable = described_fit ups s.configuration.upses short.configured.each_ups
  request_fit k (requests.GetVar ups name) readable = fit_device s short ups _ (λ d named table. fit_variable name d _ (λ v there.
      let within = variable_within d.table name v table there in
      fit_long (var_row ups d v) (omega (arith, L.length-var ups v.name (shown d v) (name_within UPS_NAME_MAX ups named) (name_within NAME_MAX v.name within.name), length-shown d v within))))
  request_fit k (requests.GetType ups name) readable = fit_device s short ups _ (λ d named table. fit_variable name d _ (λ v there.
      let within = variable_within d.table name v table there in
      fit_line (replies.Type ups v.name v.flags.writable (kind_of v)) (L.length-type ups v.name v.flags.writable (kind_of v) (ups_short ups named) (name_within NAME_MAX v.name within.name).1 (λ m is. kind_few v m within.aux is))))
  request_fit k (requests.GetDesc ups name) readable = fit_device s short ups _ (λ d named table. fit_variable name d _ (λ v there.
      let text = variable_description s.configuration.variable_texts name in
      let few = L.length-variable_text s.configuration.variable_texts name short.configured.variable_texts in
      fit_line (replies.Desc ups name text) (omega (arith, L.length-reply (replies.Desc ups name text) _ _ refl, length-word ups, length-word name, length-quoted text, ups_short ups named, (variable_named d.table name v table there).1, few))))
  request_fit k (requests.GetCmdDesc ups name) readable = fit_device s short ups _ (λ d named table. fit_command name d _ (λ there.
      let text = command_description s.configuration.command_texts name in
      let few = L.length-command_text s.configuration.command_texts name short.configured.command_texts in
      fit_line (replies.CmdDesc ups name text) (omega (arith, L.length-reply (replies.CmdDesc ups name text) _ _ refl, length-word ups, length-word name, length-quoted text, ups_short ups named, (command_named d.table name table there).1, few))))
  request_fit k requests.GetTracking readable = fit_line (replies.TrackingIs k.tracking) (omega (arith, L.length-tracking_is k.tracking))
  request_fit k (requests.GetTrackingOf number) readable =
      fit_line (replies.Tracking number (status_of number s.devices)) (omega (arith, L.length-tracking number (status_of number s.devices) readable.1))
  request_fit k (requests.List query) readable = list_fit query
  request_fit k (requests.SetVar ups name value) readable = with_right-case IsFit s k may_set ups _ fit_refused (λ u found. fit_data s short u (λ d. set_answer s k d name value) (λ table.
      let d = device_at s u in
      fit_variable name d _ (λ v there. unless-case IsFit (misfit v value) _ fit_refused
      (handed_on-case IsFit refusals.SetFailed s k (λ number. asks.Set name value number) d (fit_refused refusals.SetFailed) (λ number next holds. fit_accepted_as s number next)))))
  request_fit k (requests.SetTracking on) readable = with_credentials-case IsFit k _ fit_refused (λ user password. fit_accepted)
  request_fit k (requests.InstCmd ups name parameter) readable = with_right-case IsFit s k (may_command name) ups _ fit_refused (λ u found. fit_data s short u (λ d. command_answer s k d name parameter) (λ table.
      let d = device_at s u in
      fit_command name d _ (λ there. unless-case IsFit (parameter_misfit parameter) _ fit_refused
      (handed_on-case IsFit refusals.InstCmdFailed s k (λ number. asks.InstCmd name parameter number) d (fit_refused refusals.InstCmdFailed) (λ number next holds. fit_accepted_as s number next)))))
  request_fit k (requests.Username name) readable = once_fit refusals.AlreadySetUsername k.user
  request_fit k (requests.Password password) readable = once_fit refusals.AlreadySetPassword k.password
  request_fit k (requests.Login ups) readable = with_right-case IsFit s k may_log_in ups _ fit_refused (λ u found.
      check-case IsFit refusals.AlreadyLoggedIn (is_none k.login) (Line replies.Accepted) (fit_refused refusals.AlreadyLoggedIn) (λ holds. fit_accepted))
  request_fit k (requests.Primary ups) readable = with_right-case IsFit s k may_be_primary ups _ fit_refused (λ u found. fit_accepted)
  request_fit k (requests.Fsd ups) readable = with_right-case IsFit s k may_force ups _ fit_refused (λ u found. fit_line replies.FsdSet (omega (arith, L.length-fsd_set)))
  request_fit k requests.Logout readable = fit_line replies.Goodbye (omega (arith, L.length-goodbye))
  request_fit k requests.Ver readable = fit_line replies.Version (omega (arith, L.length-version))
  request_fit k requests.NetVer readable = fit_line replies.NetworkVersion (omega (arith, L.length-network_version))
  request_fit k requests.Help readable = fit_line replies.Commands (omega (arith, L.length-commands))
  request_fit k requests.StartTls readable = fit_refused refusals.FeatureNotConfigured

  pub answer_fit : (k : Caller) (command : Command) → IsReadableCommand command → IsFit (answer s k command)
  answer_fit k command readable = grind (arith, fit_silence, fit_refused, request_fit)
