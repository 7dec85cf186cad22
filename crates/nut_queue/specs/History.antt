-- What a queue holds, in terms of all calls that changed it. Lists of calls have the newest first.
use Rattle.std.specs.Prelude.{◌≡◌, ℕ, ◌+◌, ◌≤◌, List, [], ◌∷◌, ◌++◌, drop, length}

-- A call that changed the queue: bytes were pushed, the first `n` bytes were taken, or all were removed.
pub data Call : Type 0 where
  Pushed : (bytes : List ℕ) → Call
  Taken : (n : ℕ) → Call
  Cleared : Call

-- the bytes pushed since the queue was made or last cleared, oldest first
abbrev pub pushed : List Call → List ℕ
pushed [] = []
pushed (Pushed bytes ∷ past) = pushed past ++ bytes
pushed (Taken n ∷ past) = pushed past
pushed (Cleared ∷ past) = []

-- how many bytes were taken since the queue was made or last cleared
abbrev pub taken : List Call → ℕ
taken [] = 0
taken (Pushed bytes ∷ past) = taken past
taken (Taken n ∷ past) = taken past + n
taken (Cleared ∷ past) = 0

-- The queue holds the bytes pushed since it was made or last cleared, without those taken since then, and no more were
-- taken than pushed.
pub record Holds (queue : List ℕ) (past : List Call) : Type 0 where
  pub within : taken past ≤ length (pushed past)
  pub left : queue ≡ drop (taken past) (pushed past)
