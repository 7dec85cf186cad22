-- A search for a number among rising keys.
use Rattle.std.proofs.Common.{◌≡◌, ◌≢◌, ℕ, zero, suc, ◌<◌, ◌≤◌, false, true, eqb, ltb, List, [], ◌∷◌, length, refl, sym, subst, ◌∙◌, ap, arith, Option, Some, None, Result, Ok, Err, IfNone, IfSome, get_or, slice_get}
use Rattle.std.specs.Result.{result_ok}
use Rattle.std.specs.List.Sorted.{IsSearchInRange, IsBinarySearchResult, IsNonDecreasingBy}
use Rattle.std.specs.Ordering.{nat_cmp, ordering_index}
use Rattle.std.proofs.lemmas.Bool.{eq-eqb, ne_eqb, ltb-true}
use Rattle.std.proofs.lemmas.Bool.Decides.{nat_tests}
use Rattle.std.proofs.lemmas.Cmp.{ranked}
use Rattle.std.proofs.lemmas.Option.{slice_get-get_or}
use Rattle.slab.specs.Slab.{Slab}
use Rattle.nut_server_spec.specs.Content.{Session}
use Rattle.nut_server_spec.specs.Acceptance.{session_of}
use Rattle.nut_server_spec.specs.laws.Laws.{IsBelow, IsRising}
use Rattle.nut_server.specs.inside.Inside.{numbers_of}
use Rattle.nut_server.specs.inside.Place.{IsPlace, Stands}
use Rattle.nut_server.specs.inside.Entries.{AreEntries, AreNamed, key_numbers, sessions_of}
use Rattle.nut_server.specs.declared.connections.Key.{Key}
use Rattle.nut_server.specs.declared.connections.Connections.TheInside.{Inside}
use Rattle.nut_server.proofs.Places.{place_within, place_session}
use Rattle.nut_server.proofs.Entries.{IsRead, named_at, session_at, sessions_rise}

below_at : (n : ℕ) (order : List Key) (i : ℕ) (d : Key) → IsBelow n (key_numbers order) → i < length order → n < (get_or order i d).number
below_at n [] i d below lt = absurd (omega arith)
below_at n (x ∷ order) zero d below lt = below.0
below_at n (x ∷ order) (suc i) d below lt = below_at n order i d below.1 (omega arith)

rising_at : (order : List Key) (i j : ℕ) (d : Key) → IsRising (key_numbers order) → i ≤ j → j < length order → (get_or order i d).number ≤ (get_or order j d).number
rising_at [] i j d rising le lt = absurd (omega arith)
rising_at (x ∷ order) zero zero d rising le lt = omega arith
rising_at (x ∷ order) zero (suc j) d rising le lt = omega (arith, below_at x.number order j d rising.0 (omega arith))
rising_at (x ∷ order) (suc i) zero d rising le lt = absurd (omega arith)
rising_at (x ∷ order) (suc i) (suc j) d rising le lt = rising_at order i j d rising.1 (omega arith) (omega arith)

-- The results of comparing the keys with c rise along the keys.
comparisons_rise : (order : List Key) (c : ℕ) → IsRising (key_numbers order) → IsNonDecreasingBy (λ (key : Key). ordering_index (nat_cmp key.number c)) order
comparisons_rise order c rising i j d le lt = let keys = rising_at order i j d rising le lt in grind (arith, nat_tests)

-- If no key has the number, no connection has it.
none_there : (slots : Slab Session) (order : List Key) (c : ℕ) → AreNamed slots order → ((i : ℕ) (d : Key) → i < length order → (get_or order i d).number ≢ c)
    → session_of c (sessions_of slots order) ≡ None
none_there slots [] c named differs = refl
none_there slots (x ∷ order) c named differs =
    let other : eqb named.0.0.number c ≡ false = ne_eqb named.0.0.number c (λ e. differs 0 x (omega arith) (sym named.0.2 ∙ e)) in
    rw (named.0.1, other) (none_there slots order c named.1 (λ i d lt. differs (suc i) d (omega arith)))

session_below : (n : ℕ) (ks : List Session) (j : ℕ) (m : Session) → IsBelow n (numbers_of ks) → slice_get ks j ≡ Some m → n < m.number
session_below n [] j m below is = absurd (cc)
session_below n (k ∷ ks) zero m below is = let same : k ≡ m = cc in omega (arith, below.0, ap (λ k. k.number) same)
session_below n (k ∷ ks) (suc j) m below is = session_below n ks j m below.1 is

-- A session that is found has the place where it was found.
found_at : (c : ℕ) (ks : List Session) (at : ℕ) (k : Session) → IsRising (numbers_of ks) → slice_get ks at ≡ Some k → k.number ≡ c → Stands c ks at
found_at c ks at k rising is number = let place = placed ks at rising is in record { place = place; within = place_within c ks at place; session = place_session c ks at place } where
  placed : (ks : List Session) (at : ℕ) → IsRising (numbers_of ks) → slice_get ks at ≡ Some k → IsPlace c ks at
  placed [] at rising is = absurd (cc)
  placed (x ∷ ks) zero rising is = let same : x ≡ k = cc in eq-eqb x.number c (ap (λ k. k.number) same ∙ number)
  placed (x ∷ ks) (suc at) rising is = (ne_eqb x.number c (λ e. omega (arith, e, number, session_below x.number ks at k rising.0 is)), placed ks at rising.1 is)

-- The key with the number c gives its place.
keyed_at : (slots : Slab Session) (order : List Key) (c at : ℕ) (key : Key) → AreNamed slots order → IsRising (key_numbers order) → slice_get order at ≡ Some key → key.number ≡ c
    → Stands c (sessions_of slots order) at
keyed_at slots order c at key named rising there number =
    let k = named_at slots order at key named there in
    found_at c (sessions_of slots order) at k.0 (sessions_rise slots order named rising) (session_at slots order at key named there ∙ k.1) (k.2 ∙ number)

pub stands_by_key : (e : Inside) (ks : List Session) (c at : ℕ) (order : List Key) (key : Key) → AreEntries e → sessions_of e.slots e.order.items ≡ ks → order ≡ e.order.items
    → true ≡ ltb at (length order) → key ≡ get_or order at key → key.number ≡ c → Stands c ks at
stands_by_key e ks c at order key are view is within read number =
    let there : slice_get order at ≡ Some key = slice_get-get_or order at key (ltb-true at (length order) (sym within)) ∙ ap Some (sym read) in
    subst (λ ks. Stands c ks at) view (keyed_at e.slots e.order.items c at key are.named are.rising (ap (λ order. slice_get order at) (sym is) ∙ there) number)

-- The connection of the key that was read at a place has that place.
pub stands_by_read : (e : Inside) (ks : List Session) (at : ℕ) (key : Key) → AreEntries e → sessions_of e.slots e.order.items ≡ ks → IsRead e at key → Stands key.number ks at
stands_by_read e ks at key are view read = subst (λ ks. Stands key.number ks at) view (keyed_at e.slots e.order.items key.number at key are.named are.rising read.there refl)

-- The result of a search for the number c.
pub record IsFound (c : ℕ) (ks : List Session) (o : Option ℕ) : Type 0 where
  pub none : IfNone o (session_of c ks ≡ None)
  pub some : IfSome o (Stands c ks)

neither : (i at n c : ℕ) → (i < at → n < c) → (at ≤ i → c < n) → n ≢ c
neither i at n c less greater same = grind (arith, less, greater, same)

by_result : (slots : Slab Session) (order : List Key) (c : ℕ) (r : Result ℕ ℕ) → AreNamed slots order → IsRising (key_numbers order) → IsSearchInRange r (length order)
    → IsBinarySearchResult (λ (key : Key). nat_cmp key.number c) order r → IsFound c (sessions_of slots order) (result_ok r)
by_result slots order c (Ok at) named rising within equal =
    let d : Key = record { number = 0; slot = 0; unsettled = false } in
    let key = get_or order at d in
    let there : slice_get order at ≡ Some key = slice_get-get_or order at d within in
    record { none = tt; some = keyed_at slots order c at key named rising there (ranked key.number c _ (sym (equal d))) }
by_result slots order c (Err at) named rising within parted =
    record { none = none_there slots order c named differs; some = tt } where
      differs : (i : ℕ) (d : Key) → i < length order → (get_or order i d).number ≢ c
      differs i d lt same =
          let parts = parted (comparisons_rise order c rising) in
          let key = get_or order i d in
          let less : i < at → key.number < c = λ before. ranked key.number c _ (sym (parts.0 i d (omega arith) before)) in
          let greater : at ≤ i → c < key.number = λ from. ranked key.number c _ (sym (parts.1 i d from lt)) in
          neither i at key.number c less greater same

pub searched : (e : Inside) (ks : List Session) (c : ℕ) (order : List Key) (r : Result ℕ ℕ) (o : Option ℕ) → AreEntries e → sessions_of e.slots e.order.items ≡ ks → order ≡ e.order.items
    → IsSearchInRange r (length order) → IsBinarySearchResult (λ (key : Key). nat_cmp key.number c) order r → o ≡ result_ok r → IsFound c ks o
searched e ks c order r o are view is bound position answer =
    let P : List Key → Type 0 = λ order. IsSearchInRange r (length order) in
    let Q : List Key → Type 0 = λ order. IsBinarySearchResult (λ (key : Key). nat_cmp key.number c) order r in
    let found = by_result e.slots e.order.items c r are.named are.rising (subst P is bound) (subst Q is position) in
    subst (λ ks. IsFound c ks o) view (subst (λ o. IsFound c (sessions_of e.slots e.order.items) o) (sym answer) found)
