-- What an output took of the bytes that were written to it, if that is known.
use Rattle.std.specs.Prelude.{◌≡◌, ℕ, ◌<◌, ◌≤◌, ⊤, ◌⊎◌, Bool, true, false, List, length, take, ◌++◌, Option}
use Rattle.std.specs.Io.KnownBytes.{Appends, Keeps}
use Rattle.nut_client.specs.declared.stream.Moved.{Moved}
use Rattle.nut_client.specs.declared.stream.Moved.TheVariants.{Bytes, Again, Lost}

-- A write took the first of these bytes, or none.
abbrev pub Wrote : Moved → List ℕ → Option (List ℕ) → Option (List ℕ) → Type 0
Wrote (Bytes n) bytes before after = (n ≤ length bytes) × Appends before after (take n bytes)
Wrote Again bytes before after = Keeps before after
Wrote Lost bytes before after = Keeps before after

-- A write moved bytes, or it lowers a count if it can be tried again.
abbrev pub Advances : Moved → ℕ → ℕ → Type 0
Advances (Bytes n) before after = (0 < n) × (after ≤ before)
Advances Again before after = after < before
Advances Lost before after = ⊤

abbrev pub MovedNone : Moved → Type 0
MovedNone (Bytes n) = ⊥
MovedNone Again = ⊤
MovedNone Lost = ⊤

-- What happened to an output in a call: the bytes that it had taken before the call, and at the return, if they are
-- known; and whether it has failed.
pub record Written : Type 1 where
  pub before : Option (List ℕ)
  pub after : Option (List ℕ)
  pub has_failed : Type 0

abbrev pub written : {O : Type 0} → (O → Option (List ℕ)) → (O → Type 0) → O → O → Written
written contents has_failed old new = record { before = contents old; after = contents new; has_failed = has_failed new }

-- The output took nothing in the call.
abbrev pub IsUntouched : Written → Type 0
IsUntouched w = Keeps w.before w.after

-- The output hasn't failed, and took all of these bytes.
abbrev pub HasAll : List ℕ → Written → Type 0
HasAll bytes w = ¬ w.has_failed × Appends w.before w.after bytes

-- The output has failed, and took a beginning of these bytes.
abbrev pub IsCutShort : List ℕ → Written → Type 0
IsCutShort bytes w = w.has_failed × ((front : List ℕ) × (back : List ℕ) × (bytes ≡ front ++ back) × Appends w.before w.after front)

-- The output took all of these bytes and hasn't failed, or a beginning of them and has.
abbrev pub HasText : List ℕ → Written → Type 0
HasText bytes w = HasAll bytes w ⊎ IsCutShort bytes w

-- `HasText`, by whether the output took all bytes.
abbrev pub Puts : Bool → List ℕ → Written → Type 0
Puts true bytes w = HasAll bytes w
Puts false bytes w = IsCutShort bytes w
