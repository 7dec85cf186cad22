-- What always holds of a MONITOR line, and definitions that the clauses share.
use Rattle.std.specs.Prelude.{◌≡◌, ℕ, Bool, true, false, not, Result, Ok, Err, ◌||◌, ◌&&◌, if◌then◌else◌, List, ◌∷◌, Option, Some, None, is_none, codes}
use Rattle.std.specs.Str.{bytes_eq}
use Rattle.nut_words.specs.Number.{is_natural}
use Rattle.nut_link.specs.Asking.{Asked}
use Rattle.nut_link.specs.Link.{LinkValue}
use Rattle.nut_link.specs.Exchange.{Stage}
use Rattle.nut_link.specs.Exchange as stages
use Rattle.nut_link.specs.declared.fault.LinkFault.{LinkFault}
use Rattle.nut_link.specs.declared.fault.LinkFault.TheVariants as faults
use Rattle.nut_link.specs.declared.expected.AnswerKind.TheVariants as kinds
use Rattle.nut_link.specs.declared.expected.More.TheVariants as mores
use Rattle.nut_link.specs.declared.outcome.Outcome.{Outcome}
use Rattle.nut_link.specs.declared.outcome.Outcome.TheVariants as outcomes
use Rattle.nut_monitor_spec.specs.Configuration.{Configuration}
use Rattle.nut_monitor_spec.specs.Decision.{tells_replace}
use Rattle.nut_monitor_spec.specs.declared.Communication.TheVariants as communications
use Rattle.nut_monitor_spec.specs.declared.Known.{Known}
use Rattle.nut_monitor_spec.specs.declared.LastQuery.{LastQuery}
use Rattle.nut_monitor_spec.specs.declared.Query.{Query}
use Rattle.nut_monitor_spec.specs.declared.Query.TheVariants as queries
use Rattle.nut_monitor_spec.specs.declared.StatusFlags.{StatusFlags}

-- the flags with the one that a further word sets
abbrev pub with_word : List ℕ → StatusFlags → StatusFlags
with_word w f = record {
  on_line = f.on_line || bytes_eq (codes "OL") w;
  on_battery = f.on_battery || bytes_eq (codes "OB") w;
  low_battery = f.low_battery || bytes_eq (codes "LB") w;
  forced_shutdown = f.forced_shutdown || bytes_eq (codes "FSD") w;
  replace_battery = f.replace_battery || bytes_eq (codes "RB") w;
  calibrating = f.calibrating || bytes_eq (codes "CAL") w;
}

-- what is known after a status with these flags
abbrev pub with_flags : Configuration → ℕ → Bool → StatusFlags → Known → Known
with_flags configuration clock watching flags known = record {
  flags = Some flags;
  polled = clock;
  calm = if is_none known.flags || not (flags.on_battery && flags.low_battery) then clock else known.calm;
  communication = communications.Good;
  replace_told =
      if watching && tells_replace configuration clock known.replace_told known.flags flags then Some clock else known.replace_told;
  silence_told = known.silence_told;
  forced = known.forced;
  logins = known.logins;
}

-- the number of logins that an answer gives is a number of one to nine digits
abbrev pub IsCount : Query → Outcome → Type 0
IsCount queries.NumLogins (outcomes.Said (digits ∷ more)) = is_natural digits ≡ true
IsCount query outcome = Unit {0}

abbrev pub IsCountAfter : Option LastQuery → Option Outcome → Type 0
IsCountAfter (Some last) (Some outcome) = IsCount last.query outcome
IsCountAfter last outcome = Unit {0}

-- a query for the number of logins expects a number
abbrev pub ExpectsCount : Query → Asked → Type 0
ExpectsCount queries.NumLogins asked =
    (asked.expected.kind ≡ kinds.Line mores.Number) × (asked.rows ≡ None)
ExpectsCount query asked = Unit {0}

abbrev pub ExpectsAfter : Option LastQuery → Asked → Type 0
ExpectsAfter (Some last) asked = ExpectsCount last.query asked
ExpectsAfter None asked = Unit {0}

-- the exchange on a link is idle, or waits for the answer to the last query
abbrev pub IsSoundStage : Option LastQuery → Stage → Type 0
IsSoundStage last stages.Idle = Unit {0}
IsSoundStage last (stages.Asked asked) = ExpectsAfter last asked
IsSoundStage last (stages.Answered outcome) = ⊥

-- the link hasn't failed, and its stage fits the last query
pub record IsSoundLink (last : Option LastQuery) (v : LinkValue) : Type 0 where
  pub going : v.exchange.fault ≡ None
  pub stage : IsSoundStage last v.exchange.stage

abbrev pub IsSound : Option LastQuery → Option LinkValue → Type 0
IsSound last None = Unit {0}
IsSound last (Some v) = IsSoundLink last v

-- a link failed because memory could not be allocated
abbrev pub is_memory : LinkFault → Bool
is_memory faults.Memory = true
is_memory _ = false

abbrev pub lacks_memory : Result (Unit {0}) LinkFault → Bool
lacks_memory (Ok u) = false
lacks_memory (Err fault) = is_memory fault
