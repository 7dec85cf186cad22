-- Reading that stops at the first fault, and what the result of a call must be.
use Rattle.std.specs.Prelude.{◌≡◌, IsOk, Result, Ok, Err}
use Rattle.nut_conf.specs.declared.fault.FaultKind.{FaultKind}
use Rattle.nut_conf.specs.declared.fault.FaultKind.TheVariants as kinds

-- Applies the function to what was read, or passes the fault on.
infixl 10 ◌>>=◌
abbrev pub ◌>>=◌ : {A B E : Type 0} → Result A E → (A → Result B E) → Result B E
(Ok x) >>= f = f x
(Err e) >>= f = Err e

-- The result of the call, seen through `view`, is what reading gives.
abbrev pub Reads : {X Y E : Type 0} → (X → Y) → Result X E → Result Y E → Type 0
Reads view (Ok x) reading = reading ≡ Ok (view x)
Reads view (Err e) reading = reading ≡ Err e

-- Reading gives this fault, or the fault is `Memory`.
abbrev pub Fails : {Y : Type 0} → FaultKind → Result Y FaultKind → Type 0
Fails kinds.Memory reading = Unit {0}
Fails e reading = reading ≡ Err e

-- Reading gives this fault; or the fault is `Memory` and reading gives none.
abbrev pub Refuses : {Y : Type 0} → FaultKind → Result Y FaultKind → Type 0
Refuses kinds.Memory reading = IsOk reading
Refuses e reading = reading ≡ Err e

-- The result of the call, seen through `view`, is what reading gives, or the fault `Memory`.
abbrev pub Gives : {X Y : Type 0} → (X → Y) → Result X FaultKind → Result Y FaultKind → Type 0
Gives view (Ok x) reading = reading ≡ Ok (view x)
Gives view (Err e) reading = Fails e reading

-- The fault isn't `Memory`.
abbrev pub IsNoMemory : FaultKind → Type 0
IsNoMemory kinds.Memory = ⊥
IsNoMemory _ = Unit {0}

-- The result isn't the fault `Memory`.
abbrev pub Spares : {X : Type 0} → Result X FaultKind → Type 0
Spares (Ok x) = Unit {0}
Spares (Err e) = IsNoMemory e
