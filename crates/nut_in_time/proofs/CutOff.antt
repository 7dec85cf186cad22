-- A machine that hears nothing more of its UPSes, or nothing but that these are low or forced.
use Rattle.std.proofs.Common.{◌≡◌, ◌⊎◌, ℕ, suc, ◌+◌, ◌<◌, ◌≤◌, ◌&&◌, ◌||◌, ◌==◌, inl, inr, List, [], ◌∷◌, ◌++◌, length, Bool, true, false, not, take, Option, Some, None, is_some, refl, sym, ◌∙◌, ap, subst, arith}
use Rattle.std.specs.Prelude.{if◌then◌else◌}
use Rattle.std.proofs.lemmas.Bool.{cases_Bool, and_parts, eqb-true, ltb-true, not-true}
use Rattle.nut_words.specs.Lines.{LineText}
use Rattle.nut_monitor_spec.specs.Acceptance.{IsAccepted, Accepts, bytes_refusal, watch_at}
use Rattle.nut_monitor_spec.specs.Acceptance as tests
use Rattle.nut_monitor_spec.specs.Configuration.{Configuration, line_in}
use Rattle.nut_monitor_spec.specs.Content.{Content, Watch, content}
use Rattle.nut_monitor_spec.specs.Decision.{power_where}
use Rattle.nut_monitor_spec.specs.Event.{Event, LinkBytes, OutOfMemory}
use Rattle.nut_monitor_spec.specs.Query.{status_in}
use Rattle.nut_monitor_spec.specs.Trace.{Answer, Entry, all_taken, answer_of, are_calm, calm, is_any, newest_answer, status_of_answer, answer_to, brought, first_answer, outstanding, at_status, begun, clock, critical, entry_of, gives_status, has_begun, is_short, linked, polled, status, supply, trace}
use Rattle.nut_monitor_spec.proofs.Answering.{linked-made}
use Rattle.nut_monitor_spec.proofs.Newest.{calm-step}
use Rattle.nut_in_time.specs.Pace.{Pace, Says}
use Rattle.nut_in_time.specs.InTime.{has_fsd, is_low}
use Rattle.nut_in_time.specs.AnyServers.{Always, IsEven}
use Rattle.nut_in_time.specs.CutOff.{CutOffStop, HearsOnly, NoneBeginsOnLine, NothingIsHeard, begins_in, calls, is_on_battery, is_on_line}
use Rattle.nut_in_time.proofs.AnyServers.{always-now, stops-by}
use Rattle.nut_in_time.proofs.Asking.{to-is}
use Rattle.nut_in_time.proofs.Beginning.{low-begun, critical-for, fsd-critical, low-critical}
use Rattle.nut_in_time.proofs.Calming.{latest-sooner, low-tense, status-any}
use Rattle.nut_in_time.proofs.Ending.{earliest-now, earliest-sooner, false-if, at-most, begun-by}
use Rattle.nut_in_time.proofs.Lasting.{Chosen}
use Rattle.nut_in_time.proofs.Polling.{status-read, status-unread}
use Rattle.nut_in_time.proofs.RoomSteps.{latest-shorter}
use Rattle.nut_fleet.proofs.Entries.{entry-answer}
use Rattle.nut_fleet.proofs.Shutdowns.{power-more}

-- ---- an event that brings no status

pub same-unread : (configuration : Configuration) (i : ℕ) (past : List Entry) (event : Event) → gives_status i (answer_of configuration past event) ≡ false →
    at_status i (entry_of configuration past event ∷ past) ≡ at_status i past
same-unread configuration i past event unread = grind (arith, status-unread)

-- ---- on line power

on-line : (configuration : Configuration) (i : ℕ) (first newest : List Event) → HearsOnly configuration is_on_line first newest i →
    ((words : List (List ℕ)) → status i (trace configuration first) ≡ Some words → is_on_line words ≡ true) →
    (words : List (List ℕ)) → status i (trace configuration (newest ++ first)) ≡ Some words → is_on_line words ≡ true
on-line configuration i first newest hears known words there =
    elim (always-now configuration (λ past. (at_status i past ≡ at_status i (trace configuration first)) ⊎ Says is_on_line (status i past)) first newest hears) [
      | inl old ↦ known words (sym (ap (λ p. status_of_answer (newest_answer p)) old) ∙ there)
      | inr says ↦
          let same : Some says.0 ≡ Some words = sym says.1 ∙ there in
          let same' : says.0 ≡ words = cc in
          subst (λ w. is_on_line w ≡ true) same' says.2
    ]

tame-line : (configuration : Configuration) (i : ℕ) (past : List Entry) → ((words : List (List ℕ)) → status i past ≡ Some words → is_on_line words ≡ true) → critical configuration i past ≡ false
tame-line configuration i past known = grind (arith, and_parts, not-true)

pub none-begins_on_line : (configuration : Configuration) → NoneBeginsOnLine configuration
none-begins_on_line configuration cut first [] lines enough not_begun = not_begun
none-begins_on_line configuration cut first (event ∷ newest) lines enough not_begun = false-if (has_begun configuration (trace configuration (event ∷ (newest ++ first)))) (λ any.
    let past = trace configuration (newest ++ first) in
    let entry = entry_of configuration past event in
    let before = none-begins_on_line configuration cut first newest (λ i less is. ((lines i less is).0.1, (lines i less is).1)) enough not_begun in
    let short : is_short configuration (entry ∷ past) ≡ true = (earliest-now (is_short configuration) entry past before any).1 in
    let less = ltb-true (supply configuration (entry ∷ past)) configuration.min_supplies short in
    let more = power-more cut (λ i. not (critical configuration i (entry ∷ past))) configuration.lines
    (λ i within is. let l = lines i within is in ap not (tame-line configuration i (entry ∷ past) (on-line configuration i first (event ∷ newest) l.0 l.1))) in
    absurd (omega (arith, less, enough, more)))

-- ---- on battery

-- a UPS on battery is critical once DEADTIME is over
dead-critical : (configuration : Configuration) (i : ℕ) (past : List Entry) → Says is_on_battery (status i past) →
    polled i past + configuration.dead_time < clock past → critical configuration i past ≡ true
dead-critical configuration i past says late = critical-for configuration i past says.0 says.1 (inr (inr (says.2, late)))

or-parts : (a b : Bool) → (a || b) ≡ true → (a ≡ true) ⊎ (b ≡ true)
or-parts true b is = inl refl
or-parts false b is = inr is

-- the longest that it may take
dead-first : (configuration : Configuration) (waits : Bool) → configuration.dead_time ≤ begins_in configuration waits
dead-first configuration true = omega arith
dead-first configuration false = omega arith

-- a UPS that calls for a shutdown is critical, or will be once HOSTSYNC is over
calls-critical : (configuration : Configuration) (i last : ℕ) (waits : Bool) (past : List Entry) → Says (calls waits (line_in configuration.lines i)) (status i past) →
    (waits ≡ true → calm i past ≤ last) → last + begins_in configuration waits < clock past → critical configuration i past ≡ true
calls-critical configuration i last true past says calm late =
    let le = calm refl in
    low-critical configuration i past says (inr (omega (arith, le, late)))
calls-critical configuration i last false past says calm late = elim (or-parts (has_fsd says.0) ((line_in configuration.lines i).primary && is_low says.0) says.2) [
  | inl forced ↦ fsd-critical configuration i past (says.0, says.1, forced)
  | inr low ↦
      let parts = and_parts (line_in configuration.lines i).primary (is_low says.0) low in
      low-critical configuration i past (says.0, says.1, parts.1) (inl parts.0)
]

-- ---- the last status that isn't low

calm-polled : (i : ℕ) (past : List Entry) → calm i past ≤ polled i past
calm-polled i [] = omega arith
calm-polled i (entry ∷ past) =
    let before = calm-polled i past in
    elim (cases_Bool (gives_status i entry.answer)) [
      | inr unread ↦ rw unread (omega (arith, before))
      | inl read ↦
          let sooner = latest-sooner (λ e p. gives_status i e.answer && (if is_any (at_status i p) then are_calm (status_of_answer e.answer) else true)) (entry ∷ past) in
          let now : polled i (entry ∷ past) ≡ clock (entry ∷ past) = rw read refl in
          omega (arith, sooner, now)
    ]

-- It stays if there was a status and the event brings none, or one that is low.
calm-stays : (i : ℕ) (entry : Entry) (past : List Entry) → is_any (at_status i past) ≡ true →
    (gives_status i entry.answer ≡ false) ⊎ (are_calm (status_of_answer entry.answer) ≡ false) → calm i (entry ∷ past) ≡ calm i past
calm-stays i entry past any either = grind (arith, calm-step, cases_Bool)

-- ---- event by event

low-not_calm : (o : Option (List (List ℕ))) → Says is_low o → are_calm o ≡ false
low-not_calm o says = ap are_calm says.1 ∙ low-tense says.0 says.2

late-any : (n : ℕ) (past : List Entry) → n < clock past → is_any past ≡ true
late-any n [] late = absurd (omega (arith, late))
late-any n (entry ∷ past) late = refl

some-any : (i : ℕ) (past : List Entry) (words : List (List ℕ)) → status i past ≡ Some words → is_any (at_status i past) ≡ true
some-any i past words is = status-any i past (ap is_some is)

module _ (configuration : Configuration) (waits : Bool) (cut : ℕ → Bool) (last : ℕ) (first : List Event)
    (known : Chosen configuration cut (λ i. Says is_on_battery (status i (trace configuration first)))) where
  -- the last status of each of these lines is that of `first`, or calls for a shutdown
  abbrev Called : List Event → Type 0
  Called told = Chosen configuration cut
      (λ i. (at_status i (trace configuration told) ≡ at_status i (trace configuration first)) ⊎ Says (calls waits (line_in configuration.lines i)) (status i (trace configuration told)))

  abbrev Hears : List Event → Type 0
  Hears newest = Chosen configuration cut (λ i. HearsOnly configuration (calls waits (line_in configuration.lines i)) first newest i)

  called : (newest : List Event) → Hears newest → Called (newest ++ first)
  called newest hears i less is =
      always-now configuration (λ past. (at_status i past ≡ at_status i (trace configuration first)) ⊎ Says (calls waits (line_in configuration.lines i)) (status i past)) first newest (hears i less is)

  abbrev by : ℕ
  by = last + begins_in configuration waits

  known-any : (told : List Event) → Called told → Chosen configuration cut (λ i. is_any (at_status i (trace configuration told)) ≡ true)
  known-any told q i within is = elim (q i within is) [
    | inl old ↦ ap is_any old ∙ (let says = known i within is in some-any i (trace configuration first) says.0 says.1)
    | inr says ↦ some-any i (trace configuration told) says.0 says.1
  ]

  calm-next : (told : List Event) (event : Event) → Called told → Called (event ∷ told) → length (trace configuration first) ≤ length (trace configuration told) →
      Chosen configuration cut (λ i. waits ≡ true → calm i (trace configuration (event ∷ told)) ≡ calm i (trace configuration told))
  calm-next told event before now long i within is slow =
      let past = trace configuration told in
      let entry = entry_of configuration past event in
      let answer = answer_of configuration past event in
      let any = known-any told before i within is in
      elim (cases_Bool (gives_status i answer)) [
        | inr unread ↦ calm-stays i entry past any (inl (ap (gives_status i) (entry-answer configuration past event) ∙ unread))
        | inl read ↦
            let front : at_status i (entry ∷ past) ≡ entry ∷ past = status-read configuration i 0 0 0 (record { delay = 0; skip = 0 }) (λ words. true) past event read in
            elim (now i within is) [
              | inl old ↦
                  let same = ap length (sym front ∙ old) in
                  let short = latest-shorter (λ e p. gives_status i e.answer) (trace configuration first) in
                  absurd (omega (arith, same, short, long))
              | inr says ↦
                  let low : Says is_low (status_of_answer entry.answer) =
                  (says.0, sym (ap (λ p. status_of_answer (newest_answer p)) front) ∙ says.1, sym (ap (λ b. if b then is_low says.0 else has_fsd says.0 || ((line_in configuration.lines i).primary && is_low says.0)) slow) ∙ says.2) in
                  calm-stays i entry past any (inr (low-not_calm (status_of_answer entry.answer) low))
            ]
      ]

  module _ (pace : Pace) (short : power_where (λ i. not (cut i)) configuration.lines < configuration.min_supplies)
      (read : Chosen configuration cut (λ i. polled i (trace configuration first) ≤ last)) (young : clock (trace configuration first) ≤ by) where
    -- no other status came since `last`, and the shutdown began in time
    record Stays (told : List Event) : Type 0 where
      pub long : length (trace configuration first) ≤ length (trace configuration told)
      pub calms : Chosen configuration cut (λ i. waits ≡ true → calm i (trace configuration told) ≤ last)
      pub began : has_begun configuration (trace configuration told) ≡ true → clock (begun configuration (trace configuration told)) ≤ by + suc pace.skip

    gone-begun : (told : List Event) → Called told → Stays told → by < clock (trace configuration told) → has_begun configuration (trace configuration told) ≡ true
    gone-begun told q s late =
        let past = trace configuration told in
        low-begun configuration cut past (late-any by past late) short (λ i within is. elim (q i within is) [
          | inl old ↦
              let at = ap clock old in
              let was = read i within is in
              let sooner = dead-first configuration waits in
              dead-critical configuration i past (subst (λ p. Says is_on_battery (status_of_answer (newest_answer p))) (sym old) (known i within is)) (omega (arith, at, was, sooner, late))
          | inr says ↦ calls-critical configuration i last waits past says (s.calms i within is) late
        ])

    stays : (newest : List Event) → Hears newest → IsEven configuration pace first newest → Stays (newest ++ first)
    stays [] hears even =
        let sooner = earliest-sooner (is_short configuration) (trace configuration first) in
        record {
          long = omega arith;
          calms = λ i less is slow. let le = calm-polled i (trace configuration first) in let was = read i less is in omega (arith, le, was);
          began = λ any. omega (arith, sooner, young);
        }
    stays (event ∷ newest) hears even =
        let told = newest ++ first in
        let past = trace configuration told in
        let hears' : Hears newest = λ i less is. (hears i less is).1 in
        let before = called newest hears' in
        let s = stays newest hears' even.1 in
        let long = s.long in
        let little = even.0 in
        record {
          long = omega (arith, long);
          calms = λ i less is slow.
              let le = s.calms i less is slow in
              let same = calm-next told event before (called (event ∷ newest) hears) long i less is slow in
              omega (arith, le, same);
          began = begun-by configuration (entry_of configuration past event) past (λ front. clock front ≤ by + suc pace.skip) s.began (λ was_not.
              let le = at-most (clock past) by (λ late. let bad : false ≡ true = sym was_not ∙ gone-begun told before s late in cc) in
              omega (arith, le, little));
        }

pub cut_off-stop : (configuration : Configuration) → CutOffStop configuration
cut_off-stop configuration pace waits cut last first newest later c even =
    let known : Chosen configuration cut (λ i. Says is_on_battery (status i (trace configuration first))) = λ i less is. (c.lines i less is).1 in
    let read : Chosen configuration cut (λ i. polled i (trace configuration first) ≤ last) = λ i less is. (c.lines i less is).2 in
    let hears : Hears configuration waits cut last first known newest = λ i less is. (c.lines i less is).0 in
    let end = stays configuration waits cut last first known pace c.needs.short read c.young newest hears even in
    stops-by configuration pace (last + begins_in configuration waits) (suc pace.skip) first newest later even c.young (record {
      begins = gone-begun configuration waits cut last first known pace c.needs.short read c.young (newest ++ first) (called configuration waits cut last first known newest hears) end;
      began = end.began;
    })

-- ---- a link that is down

refused-down : (s : Content) (piece : List ℕ) (o : Option Watch) → tests.is_linked o ≡ false → bytes_refusal s piece o ≡ None → ⊥
refused-down s piece o down none = grind (arith, none)

-- an answer on another link
other-link : (configuration : Configuration) (past : List Entry) (i j : ℕ) (texts : List LineText) → (j == i) ≡ false →
    gives_status i (first_answer configuration past j texts) ≡ false
other-link configuration past i j [] other = refl
other-link configuration past i j (text ∷ texts) other =
    by (answer_to (line_in configuration.lines j) j (outstanding j past) (all_taken configuration j past) text) refl
  where
    by : (o : Option Answer) → answer_to (line_in configuration.lines j) j (outstanding j past) (all_taken configuration j past) text ≡ o → gives_status i o ≡ false
    by None is = refl
    by (Some a) is =
        let link = (to-is (line_in configuration.lines j) j (outstanding j past) (all_taken configuration j past) text a is).0 in
        ap (λ k. (k == i) && is_some (status_in a.asked.query a.outcome)) link ∙ rw other refl

unheard : (configuration : Configuration) (told : List Event) (i : ℕ) (event : Event) → i < length configuration.lines → Accepts (content configuration told) event →
    linked i (trace configuration told) ≡ false → gives_status i (answer_of configuration (trace configuration told) event) ≡ false
unheard configuration told i (LinkBytes j piece) within accepted down = elim (cases_Bool (j == i)) [
  | inl t ↦
      let none : bytes_refusal (content configuration told) piece (watch_at i (content configuration told).watches) ≡ None =
      subst (λ k. bytes_refusal (content configuration told) piece (watch_at k (content configuration told).watches) ≡ None) (eqb-true j i t) accepted.0 in
      absurd (refused-down (content configuration told) piece (watch_at i (content configuration told).watches) (linked-made configuration told i within ∙ down) none)
  | inr f ↦ other-link configuration (trace configuration told) i j (brought j (trace configuration told) piece) f
]
unheard configuration told i (OutOfMemory j piece k) within accepted down = elim (cases_Bool (j == i)) [
  | inl t ↦
      let none : bytes_refusal (content configuration told) piece (watch_at i (content configuration told).watches) ≡ None =
      subst (λ k. bytes_refusal (content configuration told) piece (watch_at k (content configuration told).watches) ≡ None) (eqb-true j i t) accepted.0 in
      absurd (refused-down (content configuration told) piece (watch_at i (content configuration told).watches) (linked-made configuration told i within ∙ down) none)
  | inr f ↦ other-link configuration (trace configuration told) i j (take k (brought j (trace configuration told) piece)) f
]
unheard configuration told i event within accepted down = refl

pub nothing-heard : (configuration : Configuration) → NothingIsHeard configuration
nothing-heard configuration i Words first [] less accepted down = inl refl
nothing-heard configuration i Words first (event ∷ newest) less accepted down =
    (inl (unread (event ∷ newest) accepted down), nothing-heard configuration i Words first newest less accepted.0 down.1)
  where
    unread : (newest : List Event) → IsAccepted configuration (newest ++ first) → Always configuration (λ past. linked i past ≡ false) first newest →
        at_status i (trace configuration (newest ++ first)) ≡ at_status i (trace configuration first)
    unread [] accepted down = refl
    unread (event ∷ newest) accepted down =
        let told = newest ++ first in
        let was = always-now configuration (λ past. linked i past ≡ false) first newest down.1 in
        same-unread configuration i (trace configuration told) event (unheard configuration told i event less accepted.1 was) ∙ unread newest accepted.0 down.1
