-- What a monitor sent on a link, each time that it made it.
use Rattle.std.proofs.Common.{◌≡◌, ℕ, suc, ◌<◌, ◌≤◌, ◌==◌, true, false, inl, inr, List, [], ◌∷◌, ◌++◌, length, refl, sym, ◌∙◌, ap, subst, arith}
use Rattle.std.specs.Prelude.{take, if◌then◌else◌}
use Rattle.std.proofs.lemmas.Bool.{cases_Bool, eqb-true, eq-eqb, ne_eqb}
use Rattle.nut_words.specs.Quoting.{Begins}
use Rattle.nut_monitor_spec.specs.Configuration.{Configuration}
use Rattle.nut_monitor_spec.specs.Event.{Event}
use Rattle.nut_monitor_spec.specs.Acceptance.{IsAccepted}
use Rattle.nut_monitor_spec.specs.Trace.{sent, waits, trace}
use Rattle.nut_fleet.specs.Schedule.{IsFront}
use Rattle.nut_fleet.specs.World.{Setup, monitor_of}
use Rattle.nut_fleet.specs.Moves.{makes, put_in}
use Rattle.nut_running.specs.Running.{calls}
use Rattle.nut_fleet.proofs.Fronts.{begins-self, begins-nothing, begins-then}
use Rattle.nut_fleet.proofs.Moves.{sent-more}

pub calls-made : (i : ℕ) (event : Event) (h : List Event) → makes i event ≡ true → calls i (event ∷ h) ≡ suc (calls i h)
calls-made i event h is = grind arith

pub calls-same : (i : ℕ) (event : Event) (h : List Event) → makes i event ≡ false → calls i (event ∷ h) ≡ calls i h
calls-same i event h is = grind arith

pub calls-grow : (i : ℕ) (event : Event) (h : List Event) → calls i h ≤ calls i (event ∷ h)
calls-grow i event h = elim (cases_Bool (makes i event)) [
  | inl is ↦ omega (arith, calls-made i event h is)
  | inr is ↦ omega (arith, calls-same i event h is)
]

-- what a monitor has sent on link i from its k-th call on, until its next one
abbrev pub sent_on : Configuration → ℕ → ℕ → List Event → List ℕ
sent_on configuration i k [] = []
sent_on configuration i k (event ∷ h) =
    if calls i (event ∷ h) == k then sent configuration i (trace configuration (event ∷ h)) else sent_on configuration i k h

module _ (setup : Setup) (m i k : ℕ) where
  -- nothing before the call
  pub sent_on-later : (h : List Event) → calls i h < k → sent_on (monitor_of setup m) i k h ≡ []
  sent_on-later [] later = refl
  sent_on-later (event ∷ h) later =
      rw (ne_eqb (calls i (event ∷ h)) k (λ e. omega arith)) (sent_on-later h (omega (arith, calls-grow i event h)))

  pub sent_on-now : (h : List Event) → calls i h ≡ k → sent_on (monitor_of setup m) i k h ≡ sent (monitor_of setup m) i (trace (monitor_of setup m) h)
  sent_on-now [] is = refl
  sent_on-now (event ∷ h) is = rw (eq-eqb (calls i (event ∷ h)) k is) refl

  -- another time
  pub sent_on-other : (event : Event) (h : List Event) → (calls i (event ∷ h) ≡ k → ⊥) → sent_on (monitor_of setup m) i k (event ∷ h) ≡ sent_on (monitor_of setup m) i k h
  sent_on-other event h ne = rw (ne_eqb (calls i (event ∷ h)) k ne) refl

  -- nothing once the link is made again
  pub sent_on-past : (event : Event) (h : List Event) → k < calls i h → sent_on (monitor_of setup m) i k (event ∷ h) ≡ sent_on (monitor_of setup m) i k h
  sent_on-past event h past = let more = calls-grow i event h in rw (ne_eqb (calls i (event ∷ h)) k (λ e. omega arith)) refl

  pub sent_on-grows : (event : Event) (h : List Event) → IsAccepted (monitor_of setup m) (event ∷ h) → i < length (monitor_of setup m).lines →
      Begins (sent_on (monitor_of setup m) i k h) (sent_on (monitor_of setup m) i k (event ∷ h))
  sent_on-grows event h accepted within = elim (cases_Bool (calls i (event ∷ h) == k)) [
    | inr other ↦ rw other (begins-self (sent_on (monitor_of setup m) i k h))
    | inl here ↦ elim (cases_Bool (makes i event)) [
      | inl fresh ↦
          let one = calls-made i event h fresh in
          let now : calls i (event ∷ h) ≡ k = eqb-true (calls i (event ∷ h)) k here in
          subst (λ x. Begins x (sent_on (monitor_of setup m) i k (event ∷ h))) (sym (sent_on-later h (omega arith)))
          (begins-nothing (sent_on (monitor_of setup m) i k (event ∷ h)))
      | inr same ↦
          let now : calls i (event ∷ h) ≡ k = eqb-true (calls i (event ∷ h)) k here in
          let before : calls i h ≡ k = sym (calls-same i event h same) ∙ now in (
            take (put_in i event) (waits (monitor_of setup m) i (trace (monitor_of setup m) h)),
            sent_on-now (event ∷ h) now
                ∙ sent-more setup m i h event accepted.0 within accepted.1 same
                ∙ ap (λ x. x ++ take (put_in i event) (waits (monitor_of setup m) i (trace (monitor_of setup m) h))) (sym (sent_on-now h before)),
          )
    ]
  ]

  -- what it had sent at some time of that call
  pub sent_on-front : (early h : List Event) → IsAccepted (monitor_of setup m) h → i < length (monitor_of setup m).lines → IsFront early h → calls i early ≡ k →
      Begins (sent (monitor_of setup m) i (trace (monitor_of setup m) early)) (sent_on (monitor_of setup m) i k h)
  sent_on-front early [] accepted within front is =
      subst (λ x. Begins (sent (monitor_of setup m) i (trace (monitor_of setup m) x)) []) (sym front) (begins-self [])
  sent_on-front early (event ∷ h) accepted within (inl now) is =
      subst (λ x. Begins x (sent_on (monitor_of setup m) i k (event ∷ h)))
      (sent_on-now (event ∷ h) (ap (calls i) (sym now) ∙ is) ∙ ap (λ x. sent (monitor_of setup m) i (trace (monitor_of setup m) x)) (sym now))
      (begins-self (sent_on (monitor_of setup m) i k (event ∷ h)))
  sent_on-front early (event ∷ h) accepted within (inr older) is =
      begins-then _ _ _ (sent_on-front early h accepted.0 within older is) (sent_on-grows event h accepted within)
