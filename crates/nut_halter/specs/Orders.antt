-- The orders to the process that halts the machine, and their texts.
use Rattle.std.specs.Prelude.{ℕ, List, [], ◌∷◌, Option, codes, find}
use Rattle.std.specs.Str.{bytes_eq}
use Rattle.nut_halter.specs.declared.order.Order.{Order}
use Rattle.nut_halter.specs.declared.order.Order.TheVariants.{Second, Changed, Halt, HaltFlagged}

-- a line without its end
abbrev pub order_text : Order → List ℕ
order_text Second = codes "second"
order_text Changed = codes "changed"
order_text Halt = codes "halt"
order_text HaltFlagged = codes "halt flag"

-- the order with a text; no other text is an order
unfoldable pub order_of : List ℕ → Option Order
order_of text = find (λ order. bytes_eq (order_text order) text) (Second ∷ Changed ∷ Halt ∷ HaltFlagged ∷ [])
