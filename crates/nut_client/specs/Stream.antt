-- What reads and writes do to the bytes of a connection, if they are known.
use Rattle.std.specs.Prelude.{◌≡◌, ◌==◌, ℕ, ◌<◌, ◌≤◌, min, List, length, take, ⊤, Option, Result, Ok, Err, if◌then◌else◌}
use Rattle.std.specs.IoError.{error_kind}
use Rattle.std.specs.declared.io.Error.{Error as IoError}
use Rattle.std.specs.declared.io.ErrorKind.{ErrorKind as IoErrorKind}
use Rattle.std.specs.declared.io.ErrorKind.TheVariants as io_kinds
use Rattle.std.specs.Io.KnownBytes.{append_known, prepend_known}
use Rattle.nut_client.specs.declared.stream.Moved.{Moved}
use Rattle.nut_client.specs.declared.stream.Moved.TheVariants.{Bytes, Again, Lost}

-- A read put the next bytes of the server into a place, at least one; or it moved none.
abbrev pub Gave : Moved → List ℕ → Option (List ℕ) → Option (List ℕ) → Type 0
Gave (Bytes n) place before after = (n ≤ length place) × (before ≡ prepend_known (take n place) after) × (0 < n)
Gave Again place before after = after ≡ before
Gave Lost place before after = after ≡ before

-- A write sent the first of these bytes, at least one if there are any; or it moved none.
abbrev pub Took : Moved → List ℕ → Option (List ℕ) → Option (List ℕ) → Type 0
Took (Bytes n) bytes before after = (n ≤ length bytes) × (after ≡ append_known before (take n bytes)) × (0 < length bytes → 0 < n)
Took Again bytes before after = after ≡ before
Took Lost bytes before after = after ≡ before

-- the result of a read or a write that failed with an error of this kind
abbrev pub moved_by : IoErrorKind → Moved
moved_by io_kinds.Interrupted = Again
moved_by kind = Lost

-- The result of a read or a write of at most `most` bytes.
abbrev pub moved_of : Result ℕ IoError → ℕ → Moved
moved_of (Ok count) most = if count == 0 then Lost else Bytes (min count most)
moved_of (Err error) most = moved_by (error_kind error)

-- At most `most` bytes were moved, and at least one if `most` isn't 0.
abbrev pub IsWithin : Moved → ℕ → Type 0
IsWithin (Bytes n) most = (n ≤ most) × (0 < most → 0 < n)
IsWithin Again most = ⊤
IsWithin Lost most = ⊤

-- A read lowers a count, unless the connection is lost.
abbrev pub LowersByRead : Moved → ℕ → ℕ → Type 0
LowersByRead (Bytes n) before after = after < before
LowersByRead Again before after = after < before
LowersByRead Lost before after = ⊤

-- A write lowers a count if it can be tried again, and doesn't raise it if it moved bytes.
abbrev pub LowersByWrite : Moved → ℕ → ℕ → Type 0
LowersByWrite (Bytes n) before after = after ≤ before
LowersByWrite Again before after = after < before
LowersByWrite Lost before after = ⊤
