-- A primary whose UPSes may be at several servers, and the machines that need these, by what each reads.
use Rattle.std.specs.Prelude.{ℕ, ◌≡◌, ◌+◌, ◌-◌, ◌*◌, ◌<◌, ◌≤◌, Bool, true, false, List, [], ◌∷◌, ◌++◌, length, Some}
use Rattle.nut_monitor_spec.specs.declared.Query.TheVariants.{Fsd}
use Rattle.nut_monitor_spec.specs.Acceptance.{IsAccepted}
use Rattle.nut_monitor_spec.specs.Configuration.{Configuration, line_in}
use Rattle.nut_monitor_spec.specs.Decision.{is_halted}
use Rattle.nut_monitor_spec.specs.Event.{Event}
use Rattle.nut_monitor_spec.specs.Query.{is_forced}
use Rattle.nut_monitor_spec.specs.Trace.{Answer, Entry, alone, begun, clock, ended, forced, has_begun, has_ended, linked, phase, trace}
use Rattle.nut_in_time.specs.AnyServers.{Always, IsEven, IsTold}
use Rattle.nut_in_time.specs.InTime.{has_fsd, reads_in, to_halted}
use Rattle.nut_in_time.specs.Pace.{Pace, IsPolled, IsPrompt}

-- Each answer to an FSD of link i that was put after the n-th event is OK.
abbrev pub EachTaken : ℕ → ℕ → List Entry → Type 0
EachTaken i n [] = Unit {0}
EachTaken i n (entry ∷ past) =
    ((a : Answer) → entry.answer ≡ Some a → a.link ≡ i → a.asked.query ≡ Fsd → n < a.asked.event → is_forced a.asked.query a.outcome ≡ true)
    × EachTaken i n past

-- Since `first`, when no shutdown had begun, the links of the primary lines, which had been opened, are up and keep pace, and
-- no server refuses FSD.
pub record IsHeeded (configuration : Configuration) (pace : Pace) (first newest : List Event) : Type 0 where
  pub accepted : IsAccepted configuration (newest ++ first)
  pub not_begun : has_begun configuration (trace configuration first) ≡ false
  pub lines : (i : ℕ) → i < length configuration.lines → (line_in configuration.lines i).primary ≡ true →
      IsPolled i (trace configuration first)
      × Always configuration (λ past. (linked i past ≡ true) × IsPrompt pace i past) first newest
      × EachTaken i (length first) (trace configuration (newest ++ first))

-- Then FSD was accepted for each of its UPSes once two answers' time has passed since the shutdown began.
abbrev pub PrimariesForceAsTold : Configuration → Pace → Type 0
PrimariesForceAsTold configuration pace = (first newest : List Event) (i : ℕ) →
    let past : List Entry = trace configuration (newest ++ first) in
    IsHeeded configuration pace first newest → pace.delay ≤ configuration.host_sync →
    i < length configuration.lines → (line_in configuration.lines i).primary ≡ true → has_begun configuration past ≡ true →
    clock (begun configuration past) + 2 * pace.delay < clock past → forced i past ≡ true

-- Since `first` a machine reads that the UPSes of its lines `low` are forced, at least until its shutdown begins. At that
-- time, which for their primary is `first_p`, the primary's shutdown had begun, at most `before` seconds ago. From then on its
-- clock goes by at most `drift` seconds more than the machine's. If its HOSTSYNC suffices, and it has left Forcing though its
-- counts of logins don't say that it is alone, then the machine is in Halted.
abbrev pub HostsyncSufficesAsTold : Configuration → Configuration → Pace → (ℕ → Bool) → Type 0
HostsyncSufficesAsTold primary configuration pace low = (first_p newest_p first newest later : List Event) (before drift : ℕ) →
    let then_p : List Entry = trace primary first_p in
    let now_p : List Entry = trace primary (newest_p ++ first_p) in
    let now : List Entry = trace configuration (later ++ (newest ++ first)) in
    IsTold configuration pace has_fsd low first newest → IsEven configuration pace (newest ++ first) later →
    (has_begun configuration (trace configuration (newest ++ first)) ≡ false → later ≡ []) →
    has_begun primary then_p ≡ true → clock then_p ≤ clock (begun primary then_p) + before →
    clock now_p + clock (trace configuration first) ≤ clock now + clock then_p + drift →
    before + drift + reads_in configuration pace + (to_halted configuration pace - 1) ≤ primary.host_sync →
    has_ended primary now_p ≡ true → alone primary (ended primary now_p) ≡ false → is_halted (phase configuration now) ≡ true
