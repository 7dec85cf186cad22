-- A shutdown that is forced was forced by a user who may.
use Rattle.std.proofs.Common.{arith}
use Rattle.std.proofs.Common.{◌≡◌, ◌⊎◌, ℕ, inl, inr, List, [], ◌∷◌, Bool, true, false, Option, Some, refl, sym, ◌∙◌, ap}
use Rattle.std.proofs.lemmas.Bool.{cases_Bool, eqb-true}
use Rattle.nut_proto.specs.declared.reply.Reply.TheVariants.{FsdSet}
use Rattle.nut_proto.specs.declared.request.Request.TheVariants as requests
use Rattle.nut_server_spec.specs.Answer.{Answer, Line as OneLine, may_force}
use Rattle.nut_server_spec.specs.Command.{Command, Asks, command_of}
use Rattle.nut_server_spec.specs.Configuration.{Configuration as ServerConfiguration}
use Rattle.nut_server_spec.specs.Effect.{at_target, forced_then, target}
use Rattle.nut_server_spec.specs.Event as arrivals
use Rattle.nut_server_spec.specs.Event.{Said, Reloaded}
use Rattle.nut_server_spec.specs.Numbering.{Fate, by_fate, number_of}
use Rattle.nut_server_spec.specs.Trace.{Entry, answer_at, fate_at, forced, forced_after, numbering, trace}
use Rattle.nut_server_spec.specs.laws.Rights.{grants}
use Rattle.nut_server_spec.proofs.Rights.{has-right}
use Rattle.nut_fleet.specs.Halting.{UserForced}
use Rattle.nut_fleet.proofs.Rereads.{KeepsRoom, number-was, only-name}

-- ---- a forced shutdown

by_fate-before : (fate : Fate) (before : Bool) → by_fate fate false (λ b. b) before ≡ true → before ≡ true
by_fate-before fate before is = grind arith

at_target-from : (u : ℕ) (o : Option ℕ) (change : Bool → Bool) (before : Bool) → at_target u o change before ≡ true →
    ((o ≡ Some u) × (change before ≡ true)) ⊎ (before ≡ true)
at_target-from u o change before is = grind (arith, cases_Bool, eqb-true)

forced-by : (command : Command) (reply : Answer) (before : Bool) → forced_then command reply before ≡ true →
    ((ups : List ℕ) × (command ≡ Asks (requests.Fsd ups)) × (reply ≡ OneLine FsdSet)) ⊎ (before ≡ true)
forced-by command reply before is = grind arith

-- on some connection a user forced it
abbrev IsForced : ServerConfiguration → List ℕ → List Entry → Type 0
IsForced first ups past = (c : ℕ) × UserForced first ups c past

keeps-older : (first : ServerConfiguration) (step : arrivals.Step) (s : List arrivals.Step) → KeepsRoom first (step ∷ s) → KeepsRoom first s
keeps-older first step s kept = grind arith

-- a UPS that was forced before a step, or is by it, had its number before
had-number : (first : ServerConfiguration) (step : arrivals.Step) (s : List arrivals.Step) (ups : List ℕ) (u : ℕ) (b : Bool) → KeepsRoom first (step ∷ s) →
    by_fate (fate_at first (trace first s) step u) false (λ x. x) b ≡ true → number_of ups (numbering first (trace first (step ∷ s))) ≡ Some u →
    number_of ups (numbering first (trace first s)) ≡ Some u
had-number first (Reloaded k) s ups u b kept left is = number-was first s k ups u kept b left is
had-number first step s ups u b kept left is = is

pub user-forced : (first : ServerConfiguration) (s : List arrivals.Step) (ups : List ℕ) (u : ℕ) → KeepsRoom first s → number_of ups (numbering first (trace first s)) ≡ Some u →
    forced first u (trace first s) ≡ true → IsForced first ups (trace first s)
user-forced first [] ups u kept number is = cc
user-forced first (step ∷ s) ups u kept number is =
    by step refl (user-forced first s ups u (keeps-older first step s kept) named) (by_fate-before (fate_at first (trace first s) step u) _ is)
  where
    named : number_of ups (numbering first (trace first s)) ≡ Some u
    named = had-number first step s ups u _ kept is number

    go-on : IsForced first ups (trace first s) → IsForced first ups (trace first (step ∷ s))
    go-on before = (before.0, inr before.1)

    by : (now : arrivals.Step) → step ≡ now → (forced first u (trace first s) ≡ true → IsForced first ups (trace first s)) →
        forced_after (numbering first (trace first s)) u now (answer_at first (trace first s) step) (forced first u (trace first s)) ≡ true →
        IsForced first ups (trace first (step ∷ s))
    by (Said c line) same older is =
        let t = trace first s in
        let reply = answer_at first t step in
        elim (at_target-from u (target (numbering first t) (command_of line)) (forced_then (command_of line) reply) (forced first u t) is) [
          | inr before ↦ go-on (older before)
          | inl here ↦ elim (forced-by (command_of line) reply (forced first u t) here.1) [
            | inr before ↦ go-on (older before)
            | inl fsd ↦
                let number' : number_of fsd.0 (numbering first t) ≡ Some u = sym (ap (target (numbering first t)) fsd.1) ∙ here.0 in
                let same_name : fsd.0 ≡ ups = only-name first s (keeps-older first step s kept) fsd.0 ups u number' named in
                let asks : command_of line ≡ Asks (requests.Fsd ups) = fsd.1 ∙ ap (λ x. Asks (requests.Fsd x)) same_name in
                let own = has-right first t c line (requests.Fsd ups) may_force asks refl (ap (λ x. grants (answer_at first t x)) (sym same) ∙ ap grants fsd.2) in
                (c, inl ((line, same, asks, fsd.2), own))
          ]
        ]
    by now same older is = go-on (older is)
