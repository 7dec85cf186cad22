-- Only the answer to LOGOUT logs a client out.
use Rattle.std.proofs.Common.{◌≡◌, ℕ, Bool, true, false, List, refl, Option, Some, None, length, map}
use Rattle.std.specs.Prelude.{filter}
use Rattle.nut_proto.specs.Descriptions.{command_description, variable_description}
use Rattle.nut_proto.specs.declared.refusal.Refusal.{Refusal}
use Rattle.nut_proto.specs.declared.reply.Reply.TheVariants as replies
use Rattle.nut_proto.specs.declared.request.ListQuery.TheVariants as queries
use Rattle.nut_proto.specs.declared.request.Request.{Request}
use Rattle.nut_proto.specs.declared.request.Request.TheVariants as requests
use Rattle.nut_state.specs.Table.{Entry, has_command, variable}
use Rattle.nut_server_spec.specs.Answer.{Answer, Scene, check, require, unless, on_command, on_device, Line, Listing, on_ups, on_data, on_variable, ups_number, device_at, guests_of, var_row, kind_of, shown}
use Rattle.nut_server_spec.specs.Command.{Blank}
use Rattle.nut_server_spec.specs.Configuration.{Ups, ups_named}
use Rattle.nut_server_spec.specs.Device.{Device, trouble}
use Rattle.nut_server_spec.specs.Effect.{login_then, logged_out_then, number_in}
use Rattle.nut_server_spec.specs.Numbering.{Numbering}
use Rattle.nut_server.specs.inside.Decisions.{is_question, told}

-- The answer changes neither the login of its client nor whether the client has logged out, and gives no number.
abbrev pub IsQuiet : Answer → Type 0
IsQuiet reply =
    ((b : Bool) → logged_out_then Blank reply b ≡ b) × ((now : Numbering) (b : Option ℕ) → login_then now Blank reply b ≡ b)
    × (number_in reply ≡ None)

of_require : {A : Type 0} (refusal : Refusal) (o : Option A) (next : A → Answer) → ((x : A) → IsQuiet (next x)) → IsQuiet (require refusal o next)
of_require refusal None next quiet = (λ b. refl, λ now b. refl, refl)
of_require refusal (Some x) next quiet = quiet x

of_unless : (trouble : Option Refusal) (next : Answer) → IsQuiet next → IsQuiet (unless trouble next)
of_unless None next quiet = quiet
of_unless (Some refusal) next quiet = (λ b. refl, λ now b. refl, refl)

of_check : (refusal : Refusal) (holds : Bool) (next : Answer) → IsQuiet next → IsQuiet (check refusal holds next)
of_check refusal true next quiet = quiet
of_check refusal false next quiet = (λ b. refl, λ now b. refl, refl)

of_ups : (s : Scene) (name : List ℕ) (next : ℕ → Device → Answer) → ((u : ℕ) (d : Device) → IsQuiet (next u d)) → IsQuiet (on_ups s name (λ u. on_data s u (next u)))
of_ups s name next quiet =
    of_require _ (ups_number s name) (λ u. on_data s u (next u)) (λ u. of_unless (trouble s.configuration.max_age s.clock (device_at s u)) (next u (device_at s u)) (quiet u (device_at s u)))

of_device : (s : Scene) (name : List ℕ) (next : Device → Answer) → ((d : Device) → IsQuiet (next d)) → IsQuiet (on_device s name next)
of_device s name next quiet = of_ups s name (λ u. next) (λ u. quiet)

of_variable : (s : Scene) (ups name : List ℕ) (next : Device → Entry → Answer) → ((d : Device) (v : Entry) → IsQuiet (next d v)) → IsQuiet (on_device s ups (λ d. on_variable name d (next d)))
of_variable s ups name next quiet =
    of_device s ups (λ d. on_variable name d (next d)) (λ d. of_require _ (variable d.table name) (next d) (quiet d))

-- The answer to a request that only asks.
pub quiet_question : (s : Scene) (request : Request) → is_question request ≡ true → IsQuiet (told s request)
quiet_question s (requests.GetNumLogins ups) asks-only =
    of_ups s ups (λ u d. Line (replies.NumLogins ups (length (guests_of u s.guests)))) (λ u d. (λ b. refl, λ now b. refl, refl))
quiet_question s (requests.GetUpsDesc ups) asks-only =
    of_require _ (ups_named ups s.configuration.upses) (λ found. Line (replies.UpsDesc ups found.description)) (λ found. (λ b. refl, λ now b. refl, refl))
quiet_question s (requests.GetVar ups name) asks-only = of_variable s ups name (λ d v. Line (var_row ups d v)) (λ d v. (λ b. refl, λ now b. refl, refl))
quiet_question s (requests.GetType ups name) asks-only = of_variable s ups name (λ d v. Line (replies.Type ups v.name v.flags.writable (kind_of v))) (λ d v. (λ b. refl, λ now b. refl, refl))
quiet_question s (requests.GetDesc ups name) asks-only =
    of_variable s ups name (λ d v. Line (replies.Desc ups name (variable_description s.configuration.variable_texts name))) (λ d v. (λ b. refl, λ now b. refl, refl))
quiet_question s (requests.GetCmdDesc ups name) asks-only =
    let reply = Line (replies.CmdDesc ups name (command_description s.configuration.command_texts name)) in
    of_device s ups (λ d. on_command name d reply) (λ d. of_check _ (has_command d.table name) reply (λ b. refl, λ now b. refl, refl))
quiet_question s (requests.List queries.Ups) asks-only = (λ b. refl, λ now b. refl, refl)
quiet_question s (requests.List (queries.Var ups)) asks-only =
    of_device s ups (λ d. Listing (queries.Var ups) (map (var_row ups d) d.table.variables)) (λ d. (λ b. refl, λ now b. refl, refl))
quiet_question s (requests.List (queries.Rw ups)) asks-only =
    of_device s ups (λ d. Listing (queries.Rw ups) (map (λ v. replies.Rw ups v.name (shown d v)) (filter (λ v. v.flags.writable) d.table.variables))) (λ d. (λ b. refl, λ now b. refl, refl))
quiet_question s (requests.List (queries.Cmd ups)) asks-only =
    of_device s ups (λ d. Listing (queries.Cmd ups) (map (λ k. replies.Cmd ups k) d.table.commands)) (λ d. (λ b. refl, λ now b. refl, refl))
quiet_question s (requests.List (queries.Enum ups name)) asks-only =
    of_variable s ups name (λ d v. Listing (queries.Enum ups name) (map (λ x. replies.Enum ups name x) v.enums)) (λ d v. (λ b. refl, λ now b. refl, refl))
quiet_question s (requests.List (queries.Range ups name)) asks-only =
    of_variable s ups name (λ d v. Listing (queries.Range ups name) (map (λ r. replies.Range ups name r.minimum r.maximum) v.ranges)) (λ d v. (λ b. refl, λ now b. refl, refl))
quiet_question s (requests.List (queries.Client ups)) asks-only =
    of_ups s ups (λ u d. Listing (queries.Client ups) (map (λ g. replies.Client ups g.address) (guests_of u s.guests))) (λ u d. (λ b. refl, λ now b. refl, refl))
quiet_question s requests.GetTracking asks-only = absurd (cc)
quiet_question s (requests.SetVar ups variable value) asks-only = absurd (cc)
quiet_question s (requests.SetTracking on) asks-only = absurd (cc)
quiet_question s (requests.InstCmd ups command parameter) asks-only = absurd (cc)
quiet_question s (requests.Username name) asks-only = absurd (cc)
quiet_question s (requests.Password password) asks-only = absurd (cc)
quiet_question s (requests.Login ups) asks-only = absurd (cc)
quiet_question s (requests.Primary ups) asks-only = absurd (cc)
quiet_question s (requests.Fsd ups) asks-only = absurd (cc)
quiet_question s requests.Logout asks-only = absurd (cc)
quiet_question s request asks-only = (λ b. refl, λ now b. refl, refl)
