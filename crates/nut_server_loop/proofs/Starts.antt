-- When the next arrival may be asked for: at the start, and once all was settled.
use Rattle.std.proofs.Common.{◌≡◌, ℕ, Bool, false, inl, inr, List, [], length, Option, Some, None, IfSome, refl, sym, ◌∙◌, ap, arith}
use Rattle.std.proofs.lemmas.Bool.{cases_lt, true≢false}
use Rattle.nut_server_spec.specs.Configuration.{Configuration}
use Rattle.nut_server_spec.specs.Content.{Supply, Content, content}
use Rattle.nut_server_spec.specs.Acceptance.{supply_of}
use Rattle.nut_server_spec.proofs.Kept.{supply_is}
use Rattle.nut_server_spec.proofs.DriverSent.{asks_in}
use Rattle.nut_server_loop.specs.Record.{Entry, NothingIsWithheld, NobodyLeaves, waits_of, leaves_at, late_in}
use Rattle.nut_server_loop.specs.Served.{taken, sent_to}
use Rattle.nut_server_loop.specs.inside.Going.{Serving, Offered}
use Rattle.nut_server_loop.specs.declared.types.Peer.{Peer}
use Rattle.nut_server_loop.specs.declared.types.Peer.TheVariants.{Connection, Driver}
use Rattle.nut_server_loop.proofs.Peers.{up_here}

-- Nothing waits for anybody yet.
no_requests : (first : Configuration) (u : ℕ) (o : Option Supply) → supply_of u (content first []).supplies ≡ o → length (asks_in o) ≡ 0
no_requests first u None found = refl
no_requests first u (Some d) found =
    elim (cases_lt 0 (length d.device.waits)) [
      | inl some ↦ absurd (true≢false (sym (up_here first [] u d found some) ∙ ap (λ d. d.device.connected) (supply_is first [] u d found)))
      | inr none ↦ omega (arith, none)
    ]

nothing_waits : (first : Configuration) (p : Peer) → length (waits_of p (content first [])) ≡ 0
nothing_waits first (Connection c) = refl
nothing_waits first (Driver u) = no_requests first u (supply_of u (content first []).supplies) refl

pub none_withheld : (first : Configuration) (late : Peer → Bool) (s : Content) → s ≡ content first [] → NothingIsWithheld late s
none_withheld first late s fresh p some = absurd (omega (arith, some, ap (λ t. length (waits_of p t)) fresh, nothing_waits first p))

pub nobody_leaves_yet : (first : Configuration) (s : Content) → s ≡ content first [] → NobodyLeaves s
nobody_leaves_yet first s fresh p = ap (leaves_at p) fresh ∙ at_start p where
  at_start : (p : Peer) → leaves_at p (content first []) ≡ false
  at_start (Connection c) = refl
  at_start (Driver u) = refl

pub offered_at_start : (first : Configuration) (o : Option (List Entry)) (s : Content) → s ≡ content first [] → IfSome o (λ r. r ≡ []) → Offered first o s
offered_at_start first o s fresh blank =
    record {
      served = record { steps = []; tells = blank; told = refl; holds = (tt, fresh); sent_is = none_sent };
      offered = none_withheld first (late_in []) s fresh;
    }
  where
    none_sent : (p : Peer) → taken first p [] ≡ sent_to first p []
    none_sent (Connection c) = refl
    none_sent (Driver u) = refl

pub offered_after : (first : Configuration) (o : Option (List Entry)) (late : Peer → Bool) (s : Content) → Serving first o late s [] → NothingIsWithheld late s → Offered first o s
offered_after first o late s serving withheld = record { served = serving.served; offered = λ p some. serving.late_is p (withheld p some) }
