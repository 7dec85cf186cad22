-- No answer is longer than the longest.
use Rattle.std.proofs.Common.{ℕ, ◌≤◌, List, [], ◌∷◌, length, map, arith}
use Rattle.std.specs.List.{AllByRecursion}
use Rattle.std.proofs.lemmas.List.{length-map}
use Rattle.nut_conf.specs.declared.limits.TheConstants.{CONNECTIONS_MAX}
use Rattle.nut_words.specs.Lines.{LineText}
use Rattle.nut_state.specs.laws.Holds.{EveryTableHolds}
use Rattle.nut_server_spec.specs.Configuration.{Configuration}
use Rattle.nut_server_spec.specs.Event.{Event, Bytes, Took, DriverBytes, Step, Said, Reported, input, driver_input, steps, with_lines, with_reports, brought, Reload}
use Rattle.nut_server_spec.specs.Answer.{Guest, text_of}
use Rattle.nut_server_spec.specs.Device.{Device}
use Rattle.nut_server_spec.specs.Trace.{Entry, address, open_numbers, device, scene, reports, ups_numbers, answer_to, trace, configuration, login}
use Rattle.nut_server_spec.specs.Content.{Session, past, session}
use Rattle.nut_server_spec.specs.Acceptance.{IsAccepted}
use Rattle.nut_server_spec.specs.laws.Limits.{IsWithin, AreWithin, AnswersAreBounded, longest_answer}
use Rattle.nut_server_spec.proofs.Alls.{all_map}
use Rattle.nut_server_spec.proofs.AnswerLengths.{IsFit, IsShortScene, answer_fit, fit_silence, readable-command}
use Rattle.nut_server_spec.proofs.Tables.{IsShortTable, table_short}
use Rattle.nut_server_spec.proofs.Waiting.{allowed, few_history}
use Rattle.nut_server_spec.specs.declared.limits.TheConstants.{ADDRESS_MAX}

-- the configuration is within its limits, so many connections are open at most, and the address of each has at most ADDRESS_MAX bytes
record IsShortPast (first : Configuration) (t : List Entry) : Type 0 where
  configured : IsWithin (configuration first t)
  few : length (open_numbers t) ≤ CONNECTIONS_MAX
  addresses : AllByRecursion (λ c. length (address c t) ≤ ADDRESS_MAX) (open_numbers t)

module _ {X Y : Type 0} (P : Y → Type 0) (f : X → Y) where
  of_mapped : (xs : List X) → AllByRecursion P (map f xs) → AllByRecursion (λ x. P (f x)) xs
  of_mapped [] all = tt
  of_mapped (x ∷ xs) all = (all.0, of_mapped xs all.1)

  as_mapped : (xs : List X) → AllByRecursion (λ x. P (f x)) xs → AllByRecursion P (map f xs)
  as_mapped [] all = tt
  as_mapped (x ∷ xs) all = (all.0, as_mapped xs all.1)

-- what the server knows of the connection c when a line is answered
abbrev pub guest : Configuration → List Entry → ℕ → Guest
guest first past c = record { address = address c past; login = login first c past }

abbrev AreFit : List Entry → Type 0
AreFit t = AllByRecursion (λ e. length (text_of e.answer) ≤ longest_answer) t

module _ (every : EveryTableHolds) (first : Configuration) where
  scene_short : (t : List Entry) → IsShortPast first t → IsShortScene (scene first t)
  scene_short t short = record {
    configured = short.configured;
    devices = all_map (λ (d : Device). IsShortTable d.table) (device first t) (ups_numbers first t) (λ u. table_short every (reports u t));
    nothing = table_short every [];
    guests = as_mapped (λ (g : Guest). length g.address ≤ ADDRESS_MAX) (guest first t) (open_numbers t) short.addresses;
    few = omega (arith, length-map (open_numbers t) (guest first t), short.few);
  }

  answer_short : (t : List Entry) (c : ℕ) (line : LineText) → IsShortPast first t → IsFit (answer_to first t c line)
  answer_short t c line short = grind (arith, IsFit, fit_silence, answer_fit, scene_short, readable-command)

  lines_fit : (c : ℕ) (ls : List LineText) (s : List Step) → IsShortPast first (trace first s) → AreFit (trace first s) → AreFit (trace first (with_lines c ls s))
  lines_fit c [] s short fit = fit
  lines_fit c (l ∷ ls) s short fit =
      lines_fit c ls (Said c l ∷ s) (record { configured = short.configured; few = short.few; addresses = short.addresses }) (answer_short (trace first s) c l short, fit)

  reports_fit : (u : ℕ) (ls : List LineText) (s : List Step) → AreFit (trace first s) → AreFit (trace first (with_reports u ls s))
  reports_fit u [] s fit = fit
  reports_fit u (l ∷ ls) s fit = reports_fit u ls (Reported u l ∷ s) (fit_silence, fit)

  past_short : (h : List Event) → AreWithin first h → IsAccepted first h → IsShortPast first (past first h)
  past_short h within accepted =
      let are = few_history first h accepted in
      let t = past first h in
      record {
        configured = (allowed first h).1 within;
        few = omega (arith, length-map (open_numbers t) (session first h), are.few, (allowed first h).2 within);
        addresses = of_mapped (λ (k : Session). length k.address ≤ ADDRESS_MAX) (session first h) (open_numbers t) are.addresses;
      }

  answers_fit : (h : List Event) → AreWithin first h → IsAccepted first h → AreFit (past first h)
  answers_fit [] within accepted = tt
  answers_fit (Bytes c piece ∷ h) within accepted = lines_fit c (brought (input c h) piece) (steps h) (past_short h within accepted.0) (answers_fit h within accepted.0)
  answers_fit (Took c n ∷ h) within accepted = answers_fit h within accepted.0
  answers_fit (DriverBytes u piece ∷ h) within accepted = reports_fit u (brought (driver_input u h) piece) (steps h) (answers_fit h within accepted.0)
  answers_fit (Reload k ∷ h) within accepted = (fit_silence, answers_fit h within.1 accepted.0)
  answers_fit (e ∷ h) within accepted = (fit_silence, answers_fit h within accepted.0)

pub answers-bounded : EveryTableHolds → AnswersAreBounded
answers-bounded every = grind (arith, answers_fit, answer_short, past_short)
