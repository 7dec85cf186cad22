-- Which links are up and what waits on them, for every number: no link of a number that no MONITOR line has is up.
use Rattle.std.proofs.Common.{◌≡◌, ℕ, ◌≤◌, true, false, eqb, List, [], ◌∷◌, length, refl, sym, ◌∙◌, ap, arith, Some, None, if◌then◌else◌, inl, inr}
use Rattle.std.proofs.lemmas.Bool.{cases_Bool, eqb-true, ltb-true, ltb-false}
use Rattle.nut_monitor_spec.specs.declared.MonitorFault.TheVariants.{NoSuchLink}
use Rattle.nut_monitor_spec.specs.Configuration.{Configuration}
use Rattle.nut_monitor_spec.specs.Event.{Event, Linked}
use Rattle.nut_monitor_spec.specs.Trace.{Entry, since_linked, linked, entry_of, trace, waits}
use Rattle.nut_monitor_spec.specs.Content.{content}
use Rattle.nut_monitor_spec.specs.Acceptance.{IsAccepted, linked_refusal, watch_at, is_linked, waiting_on}
use Rattle.nut_monitor_spec.specs.laws.Laws.{LinksAreTold}
use Rattle.nut_monitor_spec.proofs.Lists.{found_within}
use Rattle.nut_monitor_spec.proofs.Settled.{entry_is}
use Rattle.nut_monitor_spec.proofs.Answering.{linked-made, waiting-left}

-- a number that no line has finds no watch
none-there : (configuration : Configuration) (events : List Event) (i : ℕ) → length configuration.lines ≤ i → watch_at i (content configuration events).watches ≡ None
none-there configuration events i past_end = grind (arith, found_within)

-- link i stays down if an event doesn't make it
linked-after : (configuration : Configuration) (past : List Entry) (event : Event) (i : ℕ) → since_linked true i event (linked i past) ≡ false
    → linked i (entry_of configuration past event ∷ past) ≡ false
linked-after configuration past event i is = grind (arith, entry_is)

never-linked : (configuration : Configuration) (events : List Event) (i : ℕ) → IsAccepted configuration events → length configuration.lines ≤ i → linked i (trace configuration events) ≡ false
never-linked configuration [] i accepted past_end = refl
never-linked configuration (Linked j ∷ events) i accepted past_end =
    let past = trace configuration events in
    linked-after configuration past (Linked j) i (elim (cases_Bool (eqb j i)) [
      | inl e ↦
          let none = none-there configuration events i past_end in
          let refused : linked_refusal (watch_at i (content configuration events).watches) ≡ None =
          ap (λ n. linked_refusal (watch_at n (content configuration events).watches)) (sym (eqb-true j i e)) ∙ accepted.1.0 in
          absurd (let bad : Some NoSuchLink ≡ None = sym (ap linked_refusal none) ∙ refused in cc)
      | inr e ↦ ap (λ b. if b then true else linked i past) e ∙ never-linked configuration events i accepted.0 past_end
    ])
never-linked configuration (event ∷ events) i accepted past_end = linked-after configuration (trace configuration events) event i (never-linked configuration events i accepted.0 past_end)

linked-told : (configuration : Configuration) (events : List Event) (i : ℕ) → IsAccepted configuration events
    → is_linked (watch_at i (content configuration events).watches) ≡ linked i (trace configuration events)
linked-told = grind (arith, cases_Bool, linked-made, ltb-true, ltb-false, none-there, never-linked)

left-told : (configuration : Configuration) (events : List Event) (i : ℕ) → IsAccepted configuration events
    → waiting_on (watch_at i (content configuration events).watches) ≡ waits configuration i (trace configuration events)
left-told = grind (arith, cases_Bool, ltb-true, ltb-false, none-there, never-linked, waiting-left)

pub links-told : LinksAreTold
links-told = record {
  there = λ configuration events i known. elim known [
    | inl within ↦ linked-made configuration events i within
    | inr accepted ↦ linked-told configuration events i accepted
  ];
  left = left-told;
}
