-- What a call of play leads to.
use Rattle.std.specs.Prelude.{ℕ, zero, suc, ◌≡◌, ◌<◌, ◌+◌, ◌++◌, ◌⊎◌, Bool, true, false, not, List, [], ◌∷◌, length, slice_get, Option, Some, None}
use Rattle.nut_fleet.specs.Schedule.{Step}
use Rattle.nut_fleet.specs.Log as L
use Rattle.nut_fleet.specs.Log.{News, Skipped, logged}
use Rattle.nut_fleet.specs.Seen.{deed_by}
use Rattle.nut_play.specs.declared.types.FleetFault.{FleetFault}
use Rattle.nut_play.specs.declared.types.FleetFault.TheVariants.{BadStep, Memory, Failed}
use Rattle.nut_play.specs.Kept.{Kept, fleet_of}
use Rattle.nut_play.specs.machine.Next.{is_played, next, said, fits}
use Rattle.nut_play.specs.machine.Lacking.{StepLacks}

-- the news of a step: this if it was played, else that it was skipped
abbrev pub told_if : Bool → List News → List News
told_if true news = news
told_if false news = Skipped ∷ []

abbrev pub told_at : Kept → Step → List News
told_at k step = told_if (is_played (deed_by (fleet_of k) step)) (said k step)

-- the first n steps of a call, the newest first
abbrev pub before_all : Option Step → List Step → List Step
before_all None steps = steps
before_all (Some step) steps = step ∷ steps

abbrev pub firsts : ℕ → List Step → List Step
firsts zero steps = []
firsts (suc n) steps = before_all (slice_get steps n) (firsts n steps)

-- what is kept after these steps, here with the newest first; their news; and whether each of them fits
abbrev pub run : Kept → List Step → Kept
run k [] = k
run k (step ∷ earlier) = next (run k earlier) step

abbrev pub run_log : Kept → List Step → List L.Logged
run_log k [] = []
run_log k (step ∷ earlier) = run_log k earlier ++ logged (suc (length earlier)) (told_at (run k earlier) step)

abbrev pub AreFit : Kept → List Step → Type 0
AreFit k [] = Unit {0}
AreFit k (step ∷ earlier) = AreFit k earlier × (fits (run k earlier) step ≡ true)

abbrev pub is_bad : Kept → Option Step → Bool
is_bad k None = false
is_bad k (Some step) = not (fits k step)

-- Memory may be lacking at a step, or where the log keeps its news.
abbrev pub LacksAt : Kept → Step → Type 0
LacksAt k step = StepLacks k step ⊎ (0 < length (told_at k step))

-- This is a step that fits and at which memory may be lacking.
abbrev pub MayRunOut : Kept → Option Step → Type 0
MayRunOut k None = ⊥
MayRunOut k (Some step) = (fits k step ≡ true) × LacksAt k step

-- The first n steps were played.
pub record IsPlayed (k : Kept) (steps : List Step) (n : ℕ) (new : Kept) : Type 0 where
  pub fit : AreFit k (firsts n steps)
  pub fleet : new ≡ run k (firsts n steps)

-- The first n steps were played, and step n + 1 doesn't fit.
pub record IsStopped (k : Kept) (steps : List Step) (n : ℕ) (at : ℕ) (new : Kept) : Type 0 where
  pub number : at ≡ n + 1
  pub within : n < length steps
  pub played : IsPlayed k steps n new
  pub bad : is_bad new (slice_get steps n) ≡ true

-- Memory was lacking at step n + 1, after the first n steps led to `before`.
pub record IsLacking (k : Kept) (steps : List Step) (n : ℕ) (at : ℕ) (before : Kept) : Type 0 where
  pub number : at ≡ n + 1
  pub within : n < length steps
  pub played : IsPlayed k steps n before
  pub lacks : MayRunOut before (slice_get steps n)

-- Why a call stopped. If memory was lacking, nothing is claimed of what is kept but that the fleet has failed.
abbrev pub IsFault : Kept → List Step → FleetFault → Kept → Type 0
IsFault k steps (BadStep at) new = (n : ℕ) × IsStopped k steps n at new
IsFault k steps (Memory at) new = (new.failed ≡ true) × (n : ℕ) × (before : Kept) × IsLacking k steps n at before
IsFault k steps Failed new = ⊥

-- Why a call stopped at the step with this number: it doesn't fit, or memory was lacking there.
abbrev pub IsFaultAt : Kept → Step → ℕ → FleetFault → Kept → Type 0
IsFaultAt k step at (BadStep n) new = (n ≡ at) × (fits k step ≡ false) × (new ≡ k)
IsFaultAt k step at (Memory n) new = (n ≡ at) × (fits k step ≡ true) × LacksAt k step × (new.failed ≡ true)
IsFaultAt k step at Failed new = ⊥

pub record IsLog (k : Kept) (steps : List Step) (told : List L.Logged) (new : Kept) : Type 0 where
  pub played : IsPlayed k steps (length steps) new
  pub log : told ≡ run_log k (firsts (length steps) steps)
