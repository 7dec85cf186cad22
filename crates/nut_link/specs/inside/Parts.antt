-- How the parts of a link take in a line: as `Link` defines, unless memory runs out.
use Rattle.std.specs.Prelude.{◌≡◌, ℕ, Bool, IsTrue, List, Option, Some, None, Result, Ok, Err, ◌⊎◌}
use Rattle.nut_proto.specs.declared.answer.Answer.{Answer}
use Rattle.nut_link.specs.declared.exchange.QueryState.{QueryState}
use Rattle.nut_link.specs.declared.exchange.QueryState.TheVariants as states
use Rattle.nut_link.specs.Exchange.{Stage}
use Rattle.nut_link.specs.Exchange as stages
use Rattle.nut_link.specs.declared.fault.LinkFault.{LinkFault}
use Rattle.nut_link.specs.declared.fault.LinkFault.TheVariants.{Memory}
use Rattle.nut_link.specs.declared.outcome.Outcome.{Outcome}
use Rattle.nut_link.specs.Asking.{Asked}
use Rattle.nut_link.specs.Hearing.{keeps_words}
use Rattle.nut_link.specs.Link.{left_of, progress_of}
use Rattle.nut_link.specs.Matching.{Progress, Listing, Complete}

-- the stage of an exchange in this state; its query counts while it has no complete answer
abbrev pub stage_of : QueryState → Asked → Stage
stage_of states.Idle query = stages.Idle
stage_of states.Asked query = stages.Asked query
stage_of (states.Answered outcome) query = stages.Answered outcome

-- A call ends in this fault: the one that is defined, or a lack of memory, if it may allocate.
abbrev pub EndsIn : {A : Type 0} → LinkFault → Result A LinkFault → Bool → Type 0
EndsIn fault comes may = (comes ≡ Err fault) ⊎ ((fault ≡ Memory) × IsTrue may)

-- A call returns what the progress says, and leaves these rows.
abbrev pub Gives : Result Progress LinkFault → Answer → Result (Option Outcome) LinkFault → List (List (List ℕ)) → Type 0
Gives comes answer (Ok None) rows = comes ≡ Ok (Listing rows)
Gives comes answer (Ok (Some outcome)) rows = comes ≡ Ok (Complete outcome)
Gives comes answer (Err fault) rows = EndsIn fault comes (keeps_words answer)

-- A query returns what its progress says, and continues if its list does.
abbrev pub Advances : Asked → Answer → Result (Option Outcome) LinkFault → Asked → Type 0
Advances before answer (Ok None) after =
    (rows : List (List (List ℕ))) × (progress_of before answer ≡ Ok (Listing rows)) × (after ≡ record before { rows = Some rows })
Advances before answer (Ok (Some outcome)) after = progress_of before answer ≡ Ok (Complete outcome)
Advances before answer (Err fault) after = EndsIn fault (progress_of before answer) (keeps_words answer)

-- A stage becomes the one that is defined; or the call fails, and what the fault leaves of the stage is unchanged.
abbrev pub Moves : Result Stage LinkFault → Bool → Stage → Result (Unit {0}) LinkFault → Stage → Type 0
Moves comes may before (Ok done) after = comes ≡ Ok after
Moves comes may before (Err fault) after = EndsIn fault comes may × (left_of after ≡ left_of before)
