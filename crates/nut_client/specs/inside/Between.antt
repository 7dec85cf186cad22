-- Where a tool stands between two queries, and what a part of its work leads to.
use Rattle.std.specs.Prelude.{◌≡◌, ℕ, false, List, [], ◌++◌, Option, Result, Ok, Err, IfErr, ◌⊎◌}
use Rattle.std.specs.Io.KnownBytes.{append_known, prepend_known}
use Rattle.nut_words.specs.Lines.{Text, rest}
use Rattle.nut_link.specs.declared.outcome.Outcome.{Outcome}
use Rattle.nut_client.specs.Script.{Script, Fails}
use Rattle.nut_client.specs.Tool.{Ends, IsReadInTime, begin, breaks_off, run_of}
use Rattle.nut_client.specs.declared.failure.ToolFailure.{ToolFailure}
use Rattle.nut_client.specs.declared.failure.ToolFailure.TheVariants.{ConnectionLost, Memory}

-- The bytes that were read and not yet heard; those that the server will still send and those that it took, if they are
-- known; and whether the connection has ended.
pub record Point : Type 1 where
  pub unread : List ℕ
  pub remaining : Option (List ℕ)
  pub taken : Option (List ℕ)
  pub has_ended : Type 0

abbrev pub point : {S : Type 0} → (S → Option (List ℕ)) → (S → Option (List ℕ)) → (S → Type 0) → List ℕ → S → Point
point remaining taken has_ended unread stream =
    record { unread = unread; remaining = remaining stream; taken = taken stream; has_ended = has_ended stream }

-- This is left of a script whose tool began where the server would send `input` and had taken `before`.
pub record IsAt (script left : Script) (input before : Option (List ℕ)) (p : Point) : Type 0 where
  pub heard : List ℕ
  pub written : List ℕ
  pub ended : rest heard ≡ Text []
  pub runs : run_of script heard ≡ begin written left
  pub read : input ≡ prepend_known (heard ++ p.unread) p.remaining
  pub in_time : IsReadInTime (run_of script) (heard ++ p.unread)
  pub wrote : p.taken ≡ append_known before written

-- What is left of the script after a part of the work, or how the tool ends.
abbrev pub Leads : {A : Type 0} → Script → (A → Script) → Result A ToolFailure → Option (List ℕ) → Option (List ℕ) → Point → Type 0
Leads script next (Ok value) input before p = IsAt script (next value) input before p
Leads script next (Err failure) input before p = Ends script (Err failure) input p.remaining before p.taken

-- A part of the work, by its result: where `left` was left of a script, it leaves what comes next, or ends the tool. A
-- connection that was lost has ended or failed.
pub record Goes {A : Type 0} (left : Script) (next : A → Script) (result : Result A ToolFailure) (p p' : Point) : Type 0 where
  pub leads : (script : Script) (input before : Option (List ℕ)) → IsAt script left input before p → Leads script next result input before p'
  pub lost : IfErr result (λ failure. failure ≡ ConnectionLost → p'.has_ended)

-- What an outcome gives: whatever continues with that continues with the result, or fails, and not for the connection.
abbrev pub Gives : {A : Type 0} → ((A → Script) → Outcome → Script) → Outcome → Result A ToolFailure → Type 0
Gives {A} on outcome (Ok value) = (next : A → Script) → on next outcome ≡ next value
Gives {A} on outcome (Err failure) = (breaks_off failure ≡ false) × ((next : A → Script) → on next outcome ≡ Fails failure)

-- A script fails so, and not for the connection; or memory could not be allocated.
abbrev pub FailsBy : Script → ToolFailure → Type 0
FailsBy script failure = (failure ≡ Memory) ⊎ (script ≡ Fails failure) × (breaks_off failure ≡ false)

-- A text was put together, unless memory could not be allocated.
abbrev pub IsMade : List ℕ → Result (List ℕ) ToolFailure → Type 0
IsMade text (Ok made) = made ≡ text
IsMade text (Err failure) = failure ≡ Memory
