-- What holds of every run of a tool. Each of these is the contract of a function of the crate.
use Rattle.std.specs.Prelude.{◌≡◌, ◌⊎◌, ◌<◌, ℕ, true, List, length, [], ◌++◌, Option, Some, Result, Err}
use Rattle.nut_client.specs.Script.{Script}
use Rattle.nut_client.specs.Tool.{Ends, ending, is_over, run_of}
use Rattle.nut_client.specs.declared.failure.ToolFailure.{ToolFailure}
use Rattle.nut_client.specs.declared.failure.ToolFailure.TheVariants as failures

-- Bytes after the last answer change nothing.
abbrev pub MoreBytesAreIgnored : Type 0
MoreBytesAreIgnored =
    (script : Script) (bytes more : List ℕ) → is_over (run_of script bytes).standing ≡ true
    → run_of script (bytes ++ more) ≡ run_of script bytes

-- However much was read of a stream, and in whatever pieces, a tool ends as all bytes of the stream say, unless memory
-- could not be allocated, or its connection was lost before they were all read or in the middle of a query.
abbrev pub AllBytesDecide : Type 0
AllBytesDecide =
    (script : Script) (result : Result (List ℕ) ToolFailure) (bytes : List ℕ) (left before after : Option (List ℕ))
    → (e : Ends script result (Some bytes) left before after)
    → (result ≡ Err failures.Memory)
    ⊎ ((result ≡ Err failures.ConnectionLost) × (left ≡ Some [] → length e.written < length (run_of script e.heard).queries)
    ⊎ (result ≡ ending (run_of script bytes).standing))
