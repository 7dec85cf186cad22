-- The open connections, through the keys of their slots.
use Rattle.std.proofs.Common.{◌≡◌, ◌≢◌, ℕ, zero, suc, ◌+◌, ◌<◌, ◌≤◌, Bool, ◌&&◌, List, [], ◌∷◌, ◌++◌, length, refl, sym, subst, ◌∙◌, ap, Option, Some, None, slice_get, slice_set, slice_index_or, get_or, eqb, inl, inr, arith, true, false, is_some, IsSome, cond, vec_capacity, length-append}
use Rattle.std.proofs.lemmas.Bool.{cases_Bool, eq-eqb, ne_eqb, eqb-true}
use Rattle.std.specs.Prelude.{nat_le, find}
use Rattle.std.specs.List.{count_by, remove}
use Rattle.std.proofs.lemmas.List.Edits.{length-remove}
use Rattle.std.proofs.lemmas.Option.{slice_get_read, slice_get_within, get_or_from_slice_get}
use Rattle.std.proofs.lemmas.List.{length-set, set-get_or}
use Rattle.std.proofs.lemmas.List.Sums.{get_or-le-sum_by, sum_by-cons, sum_by_push, sum_by-remove, sum_by-set}
use Rattle.nut_conf.specs.declared.limits.TheConstants.{CONNECTIONS_MAX}
use Rattle.slab.specs.Slab.{Slab, get, ContainsKey, slab_len, with_value, Updates}
use Rattle.slab.proofs.SlabLemmas.{Updates-with_value, ContainsKey-within}
use Rattle.nut_server_spec.specs.Content.{Session}
use Rattle.nut_server_spec.specs.Acceptance.{session_of}
use Rattle.nut_server_spec.specs.laws.Laws.{IsBelow, IsRising, IsUpTo}
use Rattle.nut_server_spec.specs.machine.Machine.{without}
use Rattle.nut_server.specs.declared.connections.Key.{Key}
use Rattle.nut_server.specs.declared.connections.Connections.TheInside.{Inside}
use Rattle.nut_server.specs.inside.Inside.{numbers_of}
use Rattle.nut_server.specs.inside.Place.{IsPlace, Stands}
use Rattle.nut_server.specs.inside.Entries.{sessions_of, key_numbers, AreNamed, AreMarked, AreEntries}
use Rattle.nut_server.specs.Settling.{is_unsettled, settles}
use Rattle.nut_server.proofs.Orderly.{IsRising-filter, IsRising-push, none_below}

-- The slot of this key holds the connection k.
abbrev pub IsNamed : Slab Session → Key → Type 0
IsNamed slots key = (k : Session) × (get slots key.slot ≡ Some k) × (k.number ≡ key.number)

pub numbers-sessions : (slots : Slab Session) (order : List Key) → AreNamed slots order → numbers_of (sessions_of slots order) ≡ key_numbers order
numbers-sessions slots [] named = refl
numbers-sessions slots (key ∷ order) named =
    let rest = numbers-sessions slots order named.1 in
    let same : named.0.0.number ≡ key.number = named.0.2 in
    rw (named.0.1, same, rest) refl

pub length-sessions : (slots : Slab Session) (order : List Key) → AreNamed slots order → length (sessions_of slots order) ≡ length order
length-sessions slots [] named = refl
length-sessions slots (key ∷ order) named = rw named.0.1 (ap suc (length-sessions slots order named.1))

-- the key at a place, and the connection in its slot
pub named_at : (slots : Slab Session) (order : List Key) (at : ℕ) (key : Key) → AreNamed slots order → slice_get order at ≡ Some key → IsNamed slots key
named_at slots [] at key named there = absurd (cc)
named_at slots (x ∷ order) zero key named there = let same : x ≡ key = cc in subst (IsNamed slots) same named.0
named_at slots (x ∷ order) (suc at) key named there = named_at slots order at key named.1 there

pub session_at : (slots : Slab Session) (order : List Key) (at : ℕ) (key : Key) → AreNamed slots order → slice_get order at ≡ Some key → slice_get (sessions_of slots order) at ≡ get slots key.slot
session_at slots [] at key named there = absurd (cc)
session_at slots (x ∷ order) zero key named there =
    let same : x ≡ key = cc in
    rw named.0.1 (sym named.0.1 ∙ ap (λ (key : Key). get slots key.slot) same)
session_at slots (x ∷ order) (suc at) key named there = rw named.0.1 (session_at slots order at key named.1 there)

pub mark_at : (slots : Slab Session) (order : List Key) (at : ℕ) (key : Key) → AreMarked slots order → slice_get order at ≡ Some key → key.unsettled ≡ is_unsettled (get slots key.slot)
mark_at slots [] at key marked there = absurd (cc)
mark_at slots (x ∷ order) zero key marked there =
    let same : x ≡ key = cc in
    let P : Key → Type 0 = λ key. key.unsettled ≡ is_unsettled (get slots key.slot) in
    subst P same marked.0
mark_at slots (x ∷ order) (suc at) key marked there = mark_at slots order at key marked.1 there

below_at : (n : ℕ) (order : List Key) (at : ℕ) (key : Key) → IsBelow n (key_numbers order) → slice_get order at ≡ Some key → n < key.number
below_at n [] at key below there = absurd (cc)
below_at n (x ∷ order) zero key below there = let same : x.number ≡ key.number = ap (λ o. number_or n o) there in omega (arith, below.0, same) where
  number_or : ℕ → Option Key → ℕ
  number_or n None = n
  number_or n (Some key) = key.number
below_at n (x ∷ order) (suc at) key below there = below_at n order at key below.1 there

-- None of these keys has this slot.
abbrev pub LeaveOut : ℕ → List Key → Type 0
LeaveOut slot [] = Unit {0}
LeaveOut slot (key ∷ order) = (key.slot ≢ slot) × LeaveOut slot order

-- Connections with different numbers are in different slots.
apart : (slots : Slab Session) (key : Key) (slot : ℕ) (k : Session) → IsNamed slots key → get slots slot ≡ Some k → k.number ≢ key.number → key.slot ≢ slot
apart slots key slot k named there differs same =
    let one : Some named.0 ≡ Some k = sym named.1 ∙ ap (get slots) same ∙ there in
    let is : named.0 ≡ k = cc in
    differs (ap (λ k. k.number) (sym is) ∙ named.2)

above : (slots : Slab Session) (order : List Key) (slot : ℕ) (k : Session) → AreNamed slots order → get slots slot ≡ Some k → IsBelow k.number (key_numbers order) → LeaveOut slot order
above slots [] slot k named there below = tt
above slots (x ∷ order) slot k named there below = (apart slots x slot k named.0 there (λ same. omega (arith, below.0, same)), above slots order slot k named.1 there below.1)

free : (slots : Slab Session) (order : List Key) (slot : ℕ) → AreNamed slots order → get slots slot ≡ None → LeaveOut slot order
free slots [] slot named none = tt
free slots (x ∷ order) slot named none =
    (λ same. let bad : Some named.0.0 ≡ None = sym named.0.1 ∙ ap (get slots) same ∙ none in cc, free slots order slot named.1 none)

-- A change of another slot leaves them as they are.
module _ (old now' : Slab Session) (slot : ℕ) (o : Option Session) (updates : Updates old now' slot o) where
  sessions_stay : (order : List Key) → LeaveOut slot order → sessions_of now' order ≡ sessions_of old order
  sessions_stay [] out = refl
  sessions_stay (x ∷ order) out = rw (updates.others x.slot out.0, sessions_stay order out.1) refl

  named_stay : (order : List Key) → LeaveOut slot order → AreNamed old order → AreNamed now' order
  named_stay [] out named = tt
  named_stay (x ∷ order) out named = ((named.0.0, updates.others x.slot out.0 ∙ named.0.1, named.0.2), named_stay order out.1 named.1)

  marked_stay : (order : List Key) → LeaveOut slot order → AreMarked old order → AreMarked now' order
  marked_stay [] out marked = tt
  marked_stay (x ∷ order) out marked = (marked.0 ∙ ap is_unsettled (sym (updates.others x.slot out.0)), marked_stay order out.1 marked.1)

-- this key, marked as the connection is
abbrev pub marked_for : Session → Key → Key
marked_for k key = record key { unsettled = is_unsettled (Some k) }

-- one of them is changed and keeps its number
pub changed : (old now' : Slab Session) (order : List Key) (at : ℕ) (key : Key) (k k' : Session) → IsRising (key_numbers order) → AreNamed old order → AreMarked old order
    → slice_get order at ≡ Some key → get old key.slot ≡ Some k → k'.number ≡ k.number → Updates old now' key.slot (Some k')
    → (sessions_of now' order ≡ slice_set (sessions_of old order) at k') × AreNamed now' order × AreMarked now' (slice_set order at (marked_for k' key))
changed old now' [] at key k k' rising named marked there is same updates = absurd (cc)
changed old now' (x ∷ order) zero key k k' rising named marked there is same updates =
    let here : x ≡ key = cc in
    let slot : x.slot ≡ key.slot = ap (λ (key : Key). key.slot) here in
    let one : Some named.0.0 ≡ Some k = sym named.0.1 ∙ ap (get old) slot ∙ is in
    let is_k : named.0.0 ≡ k = cc in
    let number : k.number ≡ x.number = ap (λ k. k.number) (sym is_k) ∙ named.0.2 in
    let out : LeaveOut key.slot order = above old order key.slot k named.1 is (subst (λ n. IsBelow n (key_numbers order)) (sym number) rising.0) in
    let head : get now' x.slot ≡ Some k' = ap (get now') slot ∙ updates.changed in (
      rw (named.0.1, head, sessions_stay old now' key.slot (Some k') updates order out) refl,
      ((k', head, same ∙ number), named_stay old now' key.slot (Some k') updates order out named.1),
      (ap is_unsettled (sym updates.changed), marked_stay old now' key.slot (Some k') updates order out marked.1),
    )
changed old now' (x ∷ order) (suc at) key k k' rising named marked there is same updates =
    let at_key = named_at old order at key named.1 there in
    let one : Some at_key.0 ≡ Some k = sym at_key.1 ∙ is in
    let is_k : at_key.0 ≡ k = cc in
    let number : k.number ≡ key.number = ap (λ k. k.number) (sym is_k) ∙ at_key.2 in
    let less : x.number < key.number = below_at x.number order at key rising.0 there in
    let head : get now' x.slot ≡ get old x.slot = updates.others x.slot (apart old x key.slot k named.0 is (λ e. omega (arith, less, number, e))) in
    let rest = changed old now' order at key k k' rising.1 named.1 marked.1 there is same updates in (
      rw (head, named.0.1, rest.0) refl,
      ((named.0.0, head ∙ named.0.1, named.0.2), rest.1),
      (marked.0 ∙ ap is_unsettled (sym head), rest.2),
    )

-- the key at a place is marked anew
remarked : (slots : Slab Session) (order : List Key) (at : ℕ) (key : Key) (k : Session) → AreNamed slots order → slice_get order at ≡ Some key
    → (sessions_of slots (slice_set order at (marked_for k key)) ≡ sessions_of slots order) × (key_numbers (slice_set order at (marked_for k key)) ≡ key_numbers order)
    × AreNamed slots (slice_set order at (marked_for k key))
remarked slots [] at key k named there = absurd (cc)
remarked slots (x ∷ order) zero key k named there =
    let same : x ≡ key = cc in
    let P : Key → Type 0 = λ key. (sessions_of slots (marked_for k key ∷ order) ≡ sessions_of slots (x ∷ order)) × (key_numbers (marked_for k key ∷ order) ≡ key_numbers (x ∷ order)) × AreNamed slots (marked_for k key ∷ order) in
    subst P same (refl, refl, named)
remarked slots (x ∷ order) (suc at) key k named there =
    let rest = remarked slots order at key k named.1 there in
    (rw (named.0.1, rest.0) refl, ap (λ ns. x.number ∷ ns) rest.1, (named.0, rest.2))

-- Without a number that none of them has, they are the same.
pub without_none : (c : ℕ) (ks : List Session) → session_of c ks ≡ None → without c ks ≡ ks
without_none c [] none = refl
without_none c (k ∷ ks) none = elim (cases_Bool (eqb k.number c)) [
  | inl e ↦ absurd (let bad : Some k ≡ None = rw e at none in cc)
  | inr e ↦ rw e (ap (λ ks. k ∷ ks) (without_none c ks (rw e at none)))
]

-- one of them is removed
pub removed : (old now' : Slab Session) (order : List Key) (at : ℕ) (key : Key) → IsRising (key_numbers order) → AreNamed old order → AreMarked old order
    → slice_get order at ≡ Some key → Updates old now' key.slot None
    → (sessions_of now' (remove order at) ≡ without key.number (sessions_of old order)) × AreNamed now' (remove order at) × AreMarked now' (remove order at)
removed old now' [] at key rising named marked there updates = absurd (cc)
removed old now' (x ∷ order) zero key rising named marked there updates =
    let here : x ≡ key = cc in
    let slot : x.slot ≡ key.slot = ap (λ (key : Key). key.slot) here in
    let number : named.0.0.number ≡ key.number = named.0.2 ∙ ap (λ (key : Key). key.number) here in
    let below : IsBelow key.number (key_numbers order) = subst (λ (key : Key). IsBelow key.number (key_numbers order)) here rising.0 in
    let out : LeaveOut key.slot order = above old order key.slot named.0.0 named.1 (ap (get old) (sym slot) ∙ named.0.1) (subst (λ n. IsBelow n (key_numbers order)) (sym number) below) in
    let test : eqb named.0.0.number key.number ≡ true = eq-eqb named.0.0.number key.number number in
    let below' : IsBelow key.number (numbers_of (sessions_of old order)) = subst (IsBelow key.number) (sym (numbers-sessions old order named.1)) below in
    let others : without key.number (sessions_of old order) ≡ sessions_of old order = without_none key.number (sessions_of old order) (none_below key.number key.number (sessions_of old order) below' (omega arith)) in (
      rw (named.0.1, test, others) (sessions_stay old now' key.slot None updates order out),
      named_stay old now' key.slot None updates order out named.1,
      marked_stay old now' key.slot None updates order out marked.1,
    )
removed old now' (x ∷ order) (suc at) key rising named marked there updates =
    let at_key = named_at old order at key named.1 there in
    let less : x.number < key.number = below_at x.number order at key rising.0 there in
    let head : get now' x.slot ≡ get old x.slot = updates.others x.slot (apart old x key.slot at_key.0 named.0 at_key.1 (λ e. omega (arith, less, at_key.2, e))) in
    let test : eqb named.0.0.number key.number ≡ false = ne_eqb named.0.0.number key.number (λ e. omega (arith, less, named.0.2, e)) in
    let rest = removed old now' order at key rising.1 named.1 marked.1 there updates in (
      rw (head, named.0.1, test, rest.0) refl,
      ((named.0.0, head ∙ named.0.1, named.0.2), rest.1),
      (marked.0 ∙ ap is_unsettled (sym head), rest.2),
    )

-- one more is added at the end
pub added : (old now' : Slab Session) (order : List Key) (key : Key) (k : Session) → AreNamed old order → AreMarked old order → get old key.slot ≡ None → k.number ≡ key.number
    → key.unsettled ≡ is_unsettled (Some k) → Updates old now' key.slot (Some k)
    → (sessions_of now' (order ++ key ∷ []) ≡ sessions_of old order ++ k ∷ []) × AreNamed now' (order ++ key ∷ []) × AreMarked now' (order ++ key ∷ [])
added old now' order key k named marked none number mark updates = behind order named marked (free old order key.slot named none) where
  behind : (order : List Key) → AreNamed old order → AreMarked old order → LeaveOut key.slot order
      → (sessions_of now' (order ++ key ∷ []) ≡ sessions_of old order ++ k ∷ []) × AreNamed now' (order ++ key ∷ []) × AreMarked now' (order ++ key ∷ [])
  behind [] named marked out = (rw updates.changed refl, ((k, updates.changed, number), tt), (mark ∙ ap is_unsettled (sym updates.changed), tt))
  behind (x ∷ order) named marked out =
      let head : get now' x.slot ≡ get old x.slot = updates.others x.slot out.0 in
      let rest = behind order named.1 marked.1 out.1 in (
        rw (head, named.0.1, rest.0) refl,
        ((named.0.0, head ∙ named.0.1, named.0.2), rest.1),
        (marked.0 ∙ ap is_unsettled (sym head), rest.2),
      )

-- The numbers rise after each of these.
pub rising_of : (slots : Slab Session) (order : List Key) (ks : List Session) → AreNamed slots order → sessions_of slots order ≡ ks → IsRising (numbers_of ks) → IsRising (key_numbers order)
rising_of slots order ks named is rising = subst IsRising (ap numbers_of (sym is) ∙ numbers-sessions slots order named) rising

pub sessions_rise : (slots : Slab Session) (order : List Key) → AreNamed slots order → IsRising (key_numbers order) → IsRising (numbers_of (sessions_of slots order))
sessions_rise slots order named rising = subst IsRising (sym (numbers-sessions slots order named)) rising

-- There are as many keys as connections.
pub as_many : (slots : Slab Session) (order : List Key) (ks : List Session) → AreNamed slots order → sessions_of slots order ≡ ks → length order ≡ length ks
as_many slots order ks named is = sym (length-sessions slots order named) ∙ ap length is

-- the number of values of a slab after one was replaced
len_written : (slots : Slab Session) (slot : ℕ) (k k' : Session) → get slots slot ≡ Some k → ContainsKey slots slot → slab_len (with_value slots slot k') ≡ slab_len slots
len_written slots slot k k' is contains =
    let filled : Option Session → ℕ = λ o. cond (is_some o) 1 0 in
    omega (arith, sum_by-set filled slots.slots slot (Some k') None (ContainsKey-within slots slot contains), ap filled is)

-- The key at a place, and the connection in its slot.
pub record IsRead (e : Inside) (at : ℕ) (key : Key) : Type 0 where
  pub there : slice_get e.order.items at ≡ Some key
  pub named : IsNamed e.slots key
  pub found : ContainsKey e.slots key.slot

pub entry_read : (e : Inside) (ks : List Session) (at : ℕ) (key : Key) → AreEntries e → sessions_of e.slots e.order.items ≡ ks → at < length ks → key ≡ slice_index_or e.order.items at key → IsRead e at key
entry_read e ks at key are view within read =
    let there : slice_get e.order.items at ≡ Some key = slice_get_read e.order.items (length ks) at key (sym (as_many e.slots e.order.items ks are.named view)) within read in
    let named = named_at e.slots e.order.items at key are.named there in
    record { there = there; named = named; found = let P : Option Session → Type 0 = λ o. IsSome o in subst P (sym named.1) refl }

-- The connection k at a place is changed to k'.
pub record IsChanged (e e' : Inside) (at : ℕ) (k k' : Session) : Type 0 where
  pub entries : AreEntries e'
  pub written : sessions_of e'.slots e'.order.items ≡ slice_set (sessions_of e.slots e.order.items) at k'
  pub read : k ≡ slice_index_or (sessions_of e.slots e.order.items) at k

-- The slab and the keys after the connection of the key at a place is changed to k'.
pub record IsWritten (e e' : Inside) (at : ℕ) (key : Key) (k' : Session) : Type 0 where
  pub slots : e'.slots ≡ with_value e.slots key.slot k'
  pub keys : e'.order.items ≡ slice_set e.order.items at (marked_for k' key)
  pub unsettled : e'.unsettled ≡ count_by (λ key. key.unsettled) e'.order.items
  pub room : vec_capacity e'.order ≡ vec_capacity e.order

pub entry_changed : (e e' : Inside) (at : ℕ) (key : Key) (k k' : Session) → AreEntries e → IsRead e at key → get e.slots key.slot ≡ Some k → k'.number ≡ k.number
    → IsWritten e e' at key k' → IsChanged e e' at k k'
entry_changed e e' at key k k' are read is same done =
    let slots = with_value e.slots key.slot k' in
    let change = changed e.slots slots e.order.items at key k k' are.rising are.named are.marked read.there is same (Updates-with_value e.slots key.slot k' read.found) in
    let marks = remarked slots e.order.items at key k' change.1 read.there in
    let many : length e'.order.items ≡ length e.order.items = ap length done.keys ∙ length-set e.order.items at (marked_for k' key) in
    record {
      entries = record {
        rising = rw (done.keys, marks.1) are.rising;
        named = rw (done.slots, done.keys) marks.2;
        marked = rw (done.slots, done.keys) change.2;
        unsettled = done.unsettled;
        counted = rw (done.slots, many) (len_written e.slots key.slot k k' is read.found ∙ are.counted);
        few = rw many are.few;
        room = rw done.slots are.room;
        room_for_keys = rw done.room are.room_for_keys;
      };
      written = rw (done.slots, done.keys) (marks.0 ∙ change.0);
      read = sym (get_or_from_slice_get (sessions_of e.slots e.order.items) at k k (session_at e.slots e.order.items at key are.named read.there ∙ is));
    }

-- The change of a connection is complete when the key at its place is marked anew.
pub marked_so : (e e' : Inside) (at : ℕ) (key : Key) (k' : Session) (mark : Bool) → IsRead e at key → e'.slots ≡ with_value e.slots key.slot k' → mark ≡ is_unsettled (Some k')
    → ((key : Key) → slice_get e.order.items at ≡ Some key → e'.order.items ≡ slice_set e.order.items at (record key { unsettled = mark }))
    → e'.unsettled ≡ count_by (λ key. key.unsettled) e'.order.items → vec_capacity e'.order ≡ vec_capacity e.order → IsWritten e e' at key k'
marked_so e e' at key k' mark read slots is keys unsettled room =
    record { slots = slots; keys = keys key read.there ∙ ap (λ m. slice_set e.order.items at (record key { unsettled = m })) is; unsettled = unsettled; room = room }

-- No key needs to be marked if the connection is unsettled after the change just if it was before.
pub entry_kept : (e : Inside) (at : ℕ) (key : Key) (k k' : Session) → AreEntries e → IsRead e at key → get e.slots key.slot ≡ Some k → k'.number ≡ k.number
    → is_unsettled (Some k) ≡ is_unsettled (Some k') → IsChanged e (record { slots = with_value e.slots key.slot k'; order = e.order; unsettled = e.unsettled }) at k k'
entry_kept e at key k k' are read is same stays =
    let mark : key.unsettled ≡ is_unsettled (Some k') = mark_at e.slots e.order.items at key are.marked read.there ∙ ap is_unsettled is ∙ stays in
    let is_key : key ≡ marked_for k' key = ap (λ m. Key_with m) mark in
    let there : get_or e.order.items at key ≡ key = get_or_from_slice_get e.order.items at key key read.there in
    entry_changed e (record { slots = with_value e.slots key.slot k'; order = e.order; unsettled = e.unsettled }) at key k k' are read is same (record {
      slots = refl;
      keys = sym (set-get_or e.order.items at key) ∙ ap (slice_set e.order.items at) (there ∙ is_key);
      unsettled = are.unsettled;
      room = refl;
    }) where
      Key_with : Bool → Key
      Key_with m = record key { unsettled = m }

-- The connection in the slot of the key at a place has that place.
pub session_there : (e : Inside) (ks : List Session) (at : ℕ) (key : Key) (k : Session) → AreEntries e → sessions_of e.slots e.order.items ≡ ks → IsRead e at key
    → get e.slots key.slot ≡ Some k → slice_get ks at ≡ Some k
session_there e ks at key k are view read is =
    let P : List Session → Type 0 = λ ks. slice_get ks at ≡ Some k in
    subst P view (session_at e.slots e.order.items at key are.named read.there ∙ is)

pub numbers-set : (ks : List Session) (at : ℕ) (k k' : Session) → k ≡ slice_index_or ks at k → k'.number ≡ k.number → numbers_of (slice_set ks at k') ≡ numbers_of ks
numbers-set [] at k k' is same = refl
numbers-set (x ∷ ks) zero k k' is same = ap (λ n. n ∷ numbers_of ks) (same ∙ ap (λ k. k.number) is)
numbers-set (x ∷ ks) (suc at) k k' is same = ap (λ ns. x.number ∷ ns) (numbers-set ks at k k' is same)

-- The slab and the keys after the connection k is added with a key.
pub record IsAdded (e e' : Inside) (key : Key) (k : Session) : Type 0 where
  pub vacant : get e.slots key.slot ≡ None
  pub updates : Updates e.slots e'.slots key.slot (Some k)
  pub len : slab_len e'.slots ≡ slab_len e.slots + 1
  pub capacity : e'.slots.capacity ≡ e.slots.capacity
  pub keys : e'.order.items ≡ e.order.items ++ key ∷ []
  pub mark : key.unsettled ≡ is_unsettled (Some k)
  pub unsettled : e'.unsettled ≡ count_by (λ key. key.unsettled) e'.order.items
  pub room : vec_capacity e'.order ≡ vec_capacity e.order

-- the count after one was added
pub one_more : (e e' : Inside) (key : Key) → AreEntries e → e'.order.items ≡ e.order.items ++ key ∷ [] → e'.unsettled ≡ e.unsettled + cond key.unsettled 1 0
    → e'.unsettled ≡ count_by (λ key. key.unsettled) e'.order.items
one_more e e' key are keys more =
    let pushed : count_by (λ (key : Key). key.unsettled) (e.order.items ++ key ∷ []) ≡ count_by (λ (key : Key). key.unsettled) e.order.items + cond key.unsettled 1 0 = sum_by_push (λ (key : Key). cond key.unsettled 1 0) e.order.items key in
    rw keys (omega (arith, more, are.unsettled, pushed))

-- A key is counted if it is marked.
pub counted_in : (e : Inside) (at : ℕ) (key : Key) → AreEntries e → IsRead e at key → cond key.unsettled 1 0 ≤ e.unsettled
counted_in e at key are read =
    let marked : Key → ℕ = λ key. cond key.unsettled 1 0 in
    let within : marked (get_or e.order.items at key) ≤ count_by (λ (key : Key). key.unsettled) e.order.items = get_or-le-sum_by marked e.order.items at key (slice_get_within e.order.items at key read.there) in
    omega (arith, are.unsettled, within, ap marked (get_or_from_slice_get e.order.items at key key read.there))

-- the count after one was removed
pub one_less : (e e' : Inside) (at : ℕ) (key : Key) → AreEntries e → IsRead e at key → e'.order.items ≡ remove e.order.items at → e'.unsettled + cond key.unsettled 1 0 ≡ e.unsettled
    → e'.unsettled ≡ count_by (λ key. key.unsettled) e'.order.items
one_less e e' at key are read keys less =
    let marked : Key → ℕ = λ key. cond key.unsettled 1 0 in
    let gone : count_by (λ (key : Key). key.unsettled) (remove e.order.items at) + cond (get_or e.order.items at key).unsettled 1 0 ≡ count_by (λ (key : Key). key.unsettled) e.order.items = sum_by-remove marked e.order.items at key (slice_get_within e.order.items at key read.there) in
    rw keys (omega (arith, less, are.unsettled, gone, ap marked (get_or_from_slice_get e.order.items at key key read.there)))

-- They are in order, and hold these connections.
pub record Are (e : Inside) (ks : List Session) : Type 0 where
  pub entries : AreEntries e
  pub sessions : sessions_of e.slots e.order.items ≡ ks

pub entry_added : (e e' : Inside) (ks : List Session) (key : Key) (k : Session) → AreEntries e → sessions_of e.slots e.order.items ≡ ks → length ks < CONNECTIONS_MAX
    → (n : ℕ) × IsUpTo n (numbers_of ks) × (n < k.number) → k.number ≡ key.number → IsAdded e e' key k → Are e' (ks ++ k ∷ [])
entry_added e e' ks key k are view few above number done =
    let both = added e.slots e'.slots e.order.items key k are.named are.marked done.vacant number done.mark done.updates in
    let named : AreNamed e'.slots e'.order.items = subst (AreNamed e'.slots) (sym done.keys) both.1 in
    let sessions : sessions_of e'.slots e'.order.items ≡ ks ++ k ∷ [] = ap (sessions_of e'.slots) done.keys ∙ both.0 ∙ ap (λ ks. ks ++ k ∷ []) view in
    let rising : IsRising (numbers_of ks) = subst (λ ks. IsRising (numbers_of ks)) view (sessions_rise e.slots e.order.items are.named are.rising) in
    let many = as_many e.slots e.order.items ks are.named view in
    let more = as_many e'.slots e'.order.items (ks ++ k ∷ []) named sessions in
    let one_more : length (ks ++ k ∷ []) ≡ length ks + 1 = length-append ks (k ∷ []) in
    record {
      entries = record {
        rising = rising_of e'.slots e'.order.items (ks ++ k ∷ []) named sessions (IsRising-push above.0 k ks rising above.1 above.2);
        named = named;
        marked = subst (AreMarked e'.slots) (sym done.keys) both.2;
        unsettled = done.unsettled;
        counted = omega (arith, done.len, are.counted, many, more, one_more);
        few = omega (arith, many, more, one_more, few);
        room = omega (arith, done.capacity, are.room);
        room_for_keys = omega (arith, done.room, are.room_for_keys);
      };
      sessions = sessions;
    }

-- The slab and the keys after the connection of the key at a place is removed.
pub record IsRemoved (e e' : Inside) (at : ℕ) (key : Key) : Type 0 where
  pub updates : Updates e.slots e'.slots key.slot None
  pub len : slab_len e'.slots + 1 ≡ slab_len e.slots
  pub capacity : e'.slots.capacity ≡ e.slots.capacity
  pub keys : e'.order.items ≡ remove e.order.items at
  pub unsettled : e'.unsettled ≡ count_by (λ key. key.unsettled) e'.order.items
  pub room : vec_capacity e'.order ≡ vec_capacity e.order

number_at : (c : ℕ) (ks : List Session) (at : ℕ) (k : Session) → IsPlace c ks at → slice_get ks at ≡ Some k → k.number ≡ c
number_at c [] at k place there = absurd place
number_at c (x ∷ ks) zero k place there = let same : x ≡ k = cc in ap (λ k. k.number) (sym same) ∙ eqb-true x.number c place
number_at c (x ∷ ks) (suc at) k place there = number_at c ks at k place.1 there

pub entry_removed : (e e' : Inside) (ks : List Session) (at : ℕ) (key : Key) (c : ℕ) → AreEntries e → sessions_of e.slots e.order.items ≡ ks → Stands c ks at → IsRead e at key
    → IsRemoved e e' at key → Are e' (without c ks)
entry_removed e e' ks at key c are view stands read done =
    let both = removed e.slots e'.slots e.order.items at key are.rising are.named are.marked read.there done.updates in
    let named : AreNamed e'.slots e'.order.items = subst (AreNamed e'.slots) (sym done.keys) both.1 in
    let number : key.number ≡ c = sym read.named.2 ∙ number_at c ks at read.named.0 stands.place (session_there e ks at key read.named.0 are view read read.named.1) in
    let sessions : sessions_of e'.slots e'.order.items ≡ without c ks = ap (sessions_of e'.slots) done.keys ∙ both.0 ∙ ap (λ n. without n (sessions_of e.slots e.order.items)) number ∙ ap (without c) view in
    let rising : IsRising (numbers_of ks) = subst (λ ks. IsRising (numbers_of ks)) view (sessions_rise e.slots e.order.items are.named are.rising) in
    let within : at < length e.order.items = slice_get_within e.order.items at key read.there in
    let fewer : length e'.order.items + 1 ≡ length e.order.items = omega (arith, ap length done.keys, length-remove e.order.items at within) in
    record {
      entries = record {
        rising = rising_of e'.slots e'.order.items (without c ks) named sessions (IsRising-filter _ ks rising);
        named = named;
        marked = subst (AreMarked e'.slots) (sym done.keys) both.2;
        unsettled = done.unsettled;
        counted = omega (arith, done.len, are.counted, fewer);
        few = omega (arith, fewer, are.few);
        room = omega (arith, done.capacity, are.room);
        room_for_keys = omega (arith, done.room, are.room_for_keys);
      };
      sessions = sessions;
    }

-- The key at a place says whether its connection is unsettled, with a number of at least `least`.
pub record Tells (ks : List Session) (least at : ℕ) (key : Key) : Type 0 where
  pub k : Session
  pub there : slice_get ks at ≡ Some k
  pub number : k.number ≡ key.number
  pub settles : settles least k ≡ (nat_le least key.number && key.unsettled)

pub key_tells : (e : Inside) (ks : List Session) (least at : ℕ) (key : Key) → AreEntries e → sessions_of e.slots e.order.items ≡ ks → at < length ks → key ≡ slice_index_or e.order.items at key
    → Tells ks least at key
key_tells e ks least at key are view within is =
    let read = entry_read e ks at key are view within is in
    let k = read.named.0 in
    let mark : is_unsettled (Some k) ≡ key.unsettled = sym (mark_at e.slots e.order.items at key are.marked read.there ∙ ap is_unsettled read.named.1) in
    record {
      k = k;
      there = session_there e ks at key k are view read read.named.1;
      number = read.named.2;
      settles = ap (λ n. nat_le least n && is_unsettled (Some k)) read.named.2 ∙ ap (λ m. nat_le least key.number && m) mark;
    }

-- If no key is marked, nothing is found.
none_marked : (slots : Slab Session) (order : List Key) (least : ℕ) → AreNamed slots order → AreMarked slots order → count_by (λ key. key.unsettled) order ≡ 0
    → find (settles least) (sessions_of slots order) ≡ None
none_marked slots [] least named marked none = refl
none_marked slots (x ∷ order) least named marked none =
    let k = named.0.0 in
    let parts = sum_by-cons (λ (key : Key). cond key.unsettled 1 0) x order in
    let mark : x.unsettled ≡ is_unsettled (Some k) = marked.0 ∙ ap is_unsettled named.0.1 in
    let rest = none_marked slots order least named.1 marked.1 (omega (arith, parts, none)) in
    elim (cases_Bool x.unsettled) [
      | inl e ↦ let count : Bool → ℕ = λ b. cond b 1 0 in absurd (omega (arith, parts, none, ap count e))
      | inr e ↦
          let fails : settles least k ≡ false = ap (λ m. nat_le least k.number && m) (sym mark ∙ e) ∙ and_false (nat_le least k.number) in
          rw (named.0.1, fails) rest
    ] where
      and_false : (b : Bool) → (b && false) ≡ false
      and_false true = refl
      and_false false = refl

pub nothing_found : (e : Inside) (ks : List Session) (least : ℕ) → AreEntries e → sessions_of e.slots e.order.items ≡ ks → e.unsettled ≡ 0 → find (settles least) ks ≡ None
nothing_found e ks least are view none = subst (λ ks. find (settles least) ks ≡ None) view (none_marked e.slots e.order.items least are.named are.marked (sym are.unsettled ∙ none))
