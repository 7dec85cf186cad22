-- One order more, and its deeds.
use Rattle.std.proofs.Common.{◌≡◌, List, [], ◌∷◌, ◌++◌, Option, Some, None, option_map, IfSome, sym, ap, subst}
use Rattle.std.specs.List.{AllByRecursion}
use Rattle.nut_halter.specs.declared.order.Order.{Order}
use Rattle.nut_halter.specs.declared.order.Order.TheVariants.{Second, Changed, Halt, HaltFlagged}
use Rattle.nut_halter.specs.Obeyed.{Deed, IsQuiet, IsNoHalt, Obeys, deeds_of, obeyed}

-- nothing was ordered or done
pub obeys_none : (given : Option (List Order)) (deeds : Option (List Deed)) → IfSome given (λ all. all ≡ []) → IfSome deeds (λ done. done ≡ [])
    → IfSome deeds (AllByRecursion IsQuiet) × Obeys given deeds
unfolding obeyed
obeys_none None None given deeds = (tt, tt)
obeys_none None (Some done) given deeds = (subst (λ l. AllByRecursion IsQuiet l) (sym deeds) tt, tt)
obeys_none (Some all) None given deeds = (tt, tt)
obeys_none (Some all) (Some done) given deeds = (subst (λ l. AllByRecursion IsQuiet l) (sym deeds) tt, subst (λ l. done ≡ obeyed l) (sym given) deeds)

-- one order more
pub obeys_more : (order : Order) (given given' : Option (List Order)) (deeds deeds' : Option (List Deed))
    → given' ≡ option_map (λ earlier. order ∷ earlier) given → deeds' ≡ option_map (λ before. deeds_of order ++ before) deeds → Obeys given deeds → Obeys given' deeds'
unfolding obeyed
obeys_more order None given' deeds deeds' more done obeys = subst (λ o. Obeys o deeds') (sym more) tt
obeys_more order (Some all) given' None deeds' more done obeys =
    subst (λ o. Obeys o deeds') (sym more) (subst (λ o. Obeys (Some (order ∷ all)) o) (sym done) tt)
obeys_more order (Some all) given' (Some before) deeds' more done obeys =
    subst (λ o. Obeys o deeds') (sym more) (subst (λ o. Obeys (Some (order ∷ all)) o) (sym done) (ap (λ l. deeds_of order ++ l) obeys))

-- an order that isn't to halt
pub quiet_more : (order : Order) (deeds deeds' : Option (List Deed)) → IsNoHalt order → deeds' ≡ option_map (λ before. deeds_of order ++ before) deeds
    → IfSome deeds (AllByRecursion IsQuiet) → IfSome deeds' (AllByRecursion IsQuiet)
quiet_more Halt deeds deeds' goes done all = elim goes [ ]
quiet_more HaltFlagged deeds deeds' goes done all = elim goes [ ]
quiet_more Second None deeds' goes done all = subst (λ o. IfSome o (AllByRecursion IsQuiet)) (sym done) tt
quiet_more Second (Some before) deeds' goes done all = subst (λ o. IfSome o (AllByRecursion IsQuiet)) (sym done) (tt, all)
quiet_more Changed None deeds' goes done all = subst (λ o. IfSome o (AllByRecursion IsQuiet)) (sym done) tt
quiet_more Changed (Some before) deeds' goes done all = subst (λ o. IfSome o (AllByRecursion IsQuiet)) (sym done) (tt, all)
