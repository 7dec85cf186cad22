-- The lists of a table that is in order agree with its look-ups.
use Rattle.std.proofs.Common.{◌≡◌, ℕ, zero, suc, List, [], ◌∷◌, Bool, true, Some, None, get_or, map, sym, ap, subst, ◌∙◌, arith, ◌⊎◌, inl, inr}
use Rattle.std.specs.Prelude.{is_some}
use Rattle.std.specs.List.{find, All, Contains}
use Rattle.std.proofs.lemmas.Bool.{cases_Bool}
use Rattle.std.proofs.lemmas.List.{get_or_default}
use Rattle.std.specs.declared.cmp.Ordering.TheVariants.{Equal}
use Rattle.nut_state.specs.Sorted.{name_cmp, named, IsAscending}
use Rattle.nut_state.specs.Table.{Table, has_command}
use Rattle.nut_state.specs.laws.Holds.{IsTable, ListsAgree}
use Rattle.nut_state.proofs.SortedLemmas.{found, name_itself, equal}
use Rattle.nut_state.proofs.PutLemmas.{name-named}
use Rattle.nut_state.proofs.TableLemmas.{either}

module _ {X : Type 0} (name_of : X → List ℕ) where
  -- Each element is found by its name.
  each_found : (xs : List X) → IsAscending (map name_of xs) → All (λ x. named name_of (name_of x) xs ≡ Some x) xs
  each_found xs up k d within =
      let here : (e : X) → name_cmp (name_of (get_or xs k e)) (name_of (get_or xs k d)) ≡ Equal =
      λ e. subst (λ y. name_cmp (name_of y) (name_of (get_or xs k d)) ≡ Equal) (get_or_default xs k d e within) (name_itself (name_of (get_or xs k d))) in
      (found name_of (name_of (get_or xs k d)) xs k up within here).is d

  in_tail : (x y : X) (xs : List X) → Contains xs y → Contains (x ∷ xs) y
  in_tail x y xs h = (suc h.0, omega arith, h.2)

  find_listed : (p : X → Bool) (xs : List X) (x : X) → find p xs ≡ Some x → Contains xs x
  find_listed p [] x h = cc
  find_listed p (y ∷ ys) x h = elim (cases_Bool (p y)) [
    | inl e ↦ let same : y ≡ x = grind arith in (zero, omega arith, same)
    | inr e ↦ in_tail y x ys (find_listed p ys x (grind arith))
  ]

  found_listed : (name : List ℕ) (xs : List X) (x : X) → named name_of name xs ≡ Some x → Contains xs x
  unfolding named
  found_listed name xs x h = find_listed (equal name_of name) xs x h

command_listed : (t : Table) (name : List ℕ) → has_command t name ≡ true → Contains t.commands name
command_listed t name h = by (either (named (λ c. c) name t.commands))
  where
    by : (named (λ c. c) name t.commands ≡ None) ⊎ ((c : List ℕ) × (named (λ c. c) name t.commands ≡ Some c)) → Contains t.commands name
    by (inl e) = cc (sym h ∙ ap is_some e)
    by (inr (c, e)) = subst (λ n. Contains t.commands n) (name-named (λ c. c) name t.commands c e) (found_listed (λ c. c) name t.commands c e)

pub lists_agree : (t : Table) → IsTable t → ListsAgree t
lists_agree t h = record {
  found = each_found (λ v. v.name) t.variables h.variables_ascend;
  listed = λ name v e. (found_listed (λ x. x.name) name t.variables v e, name-named (λ x. x.name) name t.variables v e);
  command_found = λ k d within. ap is_some (each_found (λ c. c) t.commands h.commands_ascend k d within);
  command_listed = command_listed t;
}
