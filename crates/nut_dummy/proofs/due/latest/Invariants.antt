use Rattle.std.proofs.Common.{◌≡◌, ℕ, ◌<◌, ◌≤◌, take, None}
use Rattle.std.specs.Prelude.{option_map}
use Rattle.nut_dummy.specs.Due.{is_due, newest}
use Rattle.nut_dummy.proofs.due.latest.Given as goal

-- the best so far is the newest of its round, and no later round has one
abbrev pub invariant-loop-step : goal.invariant-loop-step
invariant-loop-step l = record {
  best : newest (is_due l.round l.after l.until l.best_round) (take l.step-index l.steps) ≡ option_map (λ t. t.now) l.best;
  later : (k : ℕ) → l.best_round < k → newest (is_due l.round l.after l.until k) (take l.step-index l.steps) ≡ None;
  reached : l.best_round ≤ l.until;
  only : option_map (λ t. t.now) l.best ≡ None → l.best_round ≡ 0;
}
