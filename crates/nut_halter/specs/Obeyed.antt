-- What the process that halts the machine did.
use Rattle.std.specs.Prelude.{◌≡◌, List, [], ◌∷◌, ◌++◌, Option, option_map, IfSome}
use Rattle.std.specs.List.{AllByRecursion}
use Rattle.nut_halter.specs.declared.order.Order.{Order}
use Rattle.nut_halter.specs.declared.order.Order.TheVariants.{Second, Changed, Halt, HaltFlagged}

pub data Deed : Type 0 where
  -- it looked after the shell that waits to run SHUTDOWNCMD
  LookedAfter : Deed
  -- it tried to prepare the halt of a changed upsmon.conf
  TookUp : Deed
  -- it tried to set POWERDOWNFLAG
  TriedFlag : Deed
  -- it ran SHUTDOWNCMD, or tried to
  RanShutdown : Deed

-- a history, the newest deed first, after one more; one that isn't recorded stays so
abbrev pub does : Deed → Option (List Deed) → Option (List Deed)
does deed deeds = option_map (λ before. deed ∷ before) deeds

-- a deed that isn't part of a halt
abbrev pub IsQuiet : Deed → Type 0
IsQuiet TriedFlag = ⊥
IsQuiet RanShutdown = ⊥
IsQuiet deed = Unit {0}

-- an order to halt, and any other
abbrev pub IsHalt : Order → Type 0
IsHalt Halt = Unit {0}
IsHalt HaltFlagged = Unit {0}
IsHalt order = ⊥

abbrev pub IsNoHalt : Order → Type 0
IsNoHalt Halt = ⊥
IsNoHalt HaltFlagged = ⊥
IsNoHalt order = Unit {0}

-- the deeds that an order calls for, the newest first
abbrev pub deeds_of : Order → List Deed
deeds_of Second = LookedAfter ∷ []
deeds_of Changed = TookUp ∷ []
deeds_of Halt = RanShutdown ∷ []
deeds_of HaltFlagged = RanShutdown ∷ TriedFlag ∷ []

-- the deeds that these orders call for; of both, the newest first
unfoldable pub obeyed : List Order → List Deed
obeyed [] = []
obeyed (order ∷ earlier) = deeds_of order ++ obeyed earlier

-- Each order was obeyed, in turn, and nothing else was done. Where one of the two is not recorded, this says nothing.
abbrev pub Obeys : Option (List Order) → Option (List Deed) → Type 0
Obeys orders deeds = IfSome orders (λ all. IfSome deeds (λ done. done ≡ obeyed all))

-- The last order, the newest first, is to halt. The last deeds are those of that order, and no earlier one is part of a halt.
pub record IsObeyed (orders : Option (List Order)) (deeds : Option (List Deed)) : Type 0 where
  pub order : Order
  pub halts : IsHalt order
  pub ordered : IfSome orders (λ all. (earlier : List Order) × (all ≡ order ∷ earlier))
  pub done : IfSome deeds (λ all. (before : List Deed) × (all ≡ deeds_of order ++ before) × AllByRecursion IsQuiet before)
