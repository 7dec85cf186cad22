-- Laws of answers, of links and what waits on them, and of the shutdown.
use Rattle.std.proofs.Common.{◌≡◌, ℕ, Bool, List, [], ◌∷◌, length, drop, refl, ◌∙◌, ap, arith, Option, Some, None, if◌then◌else◌, ◌<◌}
use Rattle.std.specs.Prelude.{Ok, Err}
use Rattle.std.proofs.lemmas.List.{take-append-drop}
use Rattle.std.proofs.Math.ListN.{drop_of_length-le}
use Rattle.nut_words.specs.Lines.{rest}
use Rattle.nut_monitor_spec.specs.declared.MonitorFault.TheVariants.{Memory}
use Rattle.nut_monitor_spec.specs.Configuration.{Configuration, line_in}
use Rattle.nut_monitor_spec.specs.Event.{Event, LinkBytes, OutOfMemory}
use Rattle.nut_monitor_spec.specs.Trace.{Asked, Entry, earliest, moment_of, linked, input, taken, outstanding, due, waits, trace}
use Rattle.nut_monitor_spec.specs.Content.{Content, stage_in, watch, content}
use Rattle.nut_monitor_spec.specs.Acceptance.{Accepts, Tells, answer_on, waiting_on, waits_on, IsAccepted, is_linked, watch_at}
use Rattle.nut_monitor_spec.specs.machine.Machine.{advance}
use Rattle.nut_monitor_spec.specs.Outcome.{IsRefusal, after}
use Rattle.nut_monitor_spec.specs.machine.MachineOutcome.{AnswersKeepContent, content_after}
use Rattle.nut_monitor_spec.specs.laws.Laws.{AnswersAreTold, SentAndWaitingIsDue, ShutdownStays}
use Rattle.nut_monitor_spec.proofs.Lists.{get_at, earliest-moment, number-none, number-head}
use Rattle.nut_monitor_spec.proofs.Settled.{IsTidy}
use Rattle.nut_monitor_spec.proofs.Kept.{all-hold, keeps-content}

-- ---- answers

one-more : (configuration : Configuration) (events : List Event) (s : Content) (event : Event) → Tells configuration events s → Accepts s event → Tells configuration (event ∷ events) (advance s event)
one-more configuration events s event told accepted = grind (arith, keeps-content)

lacking : (configuration : Configuration) (events : List Event) (s : Content) (event : Event) (link : Option ℕ) (k : ℕ) → Tells configuration events s →
    IsRefusal s event (Memory link k) → Tells configuration (after {U = Unit {0}} (Err (Memory link k)) event events) (content_after {U = Unit {0}} (Err (Memory link k)) s event)
lacking configuration events s (LinkBytes i piece) (Some j) k told is = one-more configuration events s (OutOfMemory i piece k) told (is.0, tt)
lacking configuration events s _ (Some j) k told is = absurd is.1
lacking configuration events s _ None k told is = absurd is.1

pub answers-keep : AnswersKeepContent
answers-keep configuration events s event (Ok u) told is = one-more configuration events s event told is
answers-keep configuration events s event (Err (Memory link k)) told is = lacking configuration events s event link k told is
answers-keep configuration events s event (Err _) told is = told

-- ---- links

pub linked-made : (configuration : Configuration) (events : List Event) (i : ℕ) → i < length configuration.lines
    → is_linked (watch_at i (content configuration events).watches) ≡ linked i (trace configuration events)
linked-made configuration events i less = grind (arith, get_at)

pub answers-told : AnswersAreTold
answers-told configuration events i less = ap answer_on (get_at i (watch configuration (trace configuration events)) configuration.lines less)

nothing-left : (xs : List ℕ) (n : ℕ) → n ≡ length xs → drop n xs ≡ []
nothing-left xs n all = drop_of_length-le xs (omega (arith, all))

module _ (configuration : Configuration) (past : List Entry) (i : ℕ) where
  abbrev waiting_by : Bool → Option Asked → List ℕ
  waiting_by b asked = waits_on (if b then Some (record {
    rest = rest (input i past);
    exchange = record {
      stage = stage_in (line_in configuration.lines i) asked (waits configuration i past);
      fault = None;
    };
  }) else None)

  waits-if : (b : Bool) → linked i past ≡ b → (IsTidy configuration i past) → waiting_by b (outstanding i past) ≡ (if b then drop (taken i past) (due configuration i past) else [])
  waits-if b is tidy = grind (arith, number-none, nothing-left, number-head)

pub waiting-left : (configuration : Configuration) (events : List Event) (i : ℕ) → IsAccepted configuration events → i < length configuration.lines
    → waiting_on (watch_at i (content configuration events).watches) ≡ waits configuration i (trace configuration events)
waiting-left configuration events i accepted less =
    let past = trace configuration events in
    ap waiting_on (get_at i (watch configuration past) configuration.lines less)
    ∙ waits-if configuration past i (linked i past) refl ((all-hold configuration events accepted).tidy i)

pub sent-and-waiting : SentAndWaitingIsDue
sent-and-waiting configuration events i there = grind (arith, take-append-drop)

-- ---- the shutdown

stays : (test : List Entry → Bool) (past : List Entry) (entry : Entry) (m : ℕ) → moment_of (earliest test past) ≡ Some m → moment_of (earliest test (entry ∷ past)) ≡ Some m
stays test past entry m is = grind (arith, earliest-moment)

pub shutdown-stays : ShutdownStays
shutdown-stays = grind (arith, stays)
