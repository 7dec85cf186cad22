-- What is written back into a fleet.
use Rattle.std.proofs.Common.{◌≡◌, ◌<◌, ℕ, length, slice_get, slice_set, slice_index_or, List, Some, Result, Ok, Err, IfOk, OnOk, ◌++◌, sym, ◌∙◌, ap, subst}
use Rattle.nut_server_spec.specs.Content.{Content}
use Rattle.nut_fleet.specs.Log.{News, Logged, logged}
use Rattle.nut_monitor_spec.specs.Content as knowledge
use Rattle.nut_play.specs.Kept.{Seat, Kept, ends_at, links_in, known_in}
use Rattle.nut_play.specs.machine.Next.{known_of, link_of, changed_at}
use Rattle.nut_play.proofs.Places.{changed-written, get-at}

pub if-ok : {T E : Type 0} (P Q : T → Type 0) (r : Result T E) → ((x : T) → P x → Q x) → IfOk r P → IfOk r Q
if-ok P Q (Ok x) f p = f x p
if-ok P Q (Err e) f p = p

module _ (k : Kept) (m : ℕ) (x : Seat) (lt : m < length k.seats) (is : x ≡ slice_index_or k.seats m x) where
  pub seat-there : slice_get k.seats m ≡ Some x
  seat-there = get-at m k.seats x lt is

  pub known-there : x.monitor.content ≡ known_of k m
  known-there = sym (ap known_in seat-there)

  pub link-there : (i : ℕ) → ends_at x.links i ≡ link_of k m i
  link-there i = sym (ap (λ o. ends_at (links_in o) i) seat-there)

  pub within-there : (i : ℕ) → i < length (links_in (slice_get k.seats m)) → i < length x.links
  within-there i lt' = subst (λ o. i < length (links_in o)) seat-there lt'

  pub watch-there : (i : ℕ) → i < length (known_of k m).watches → i < length x.monitor.content.watches
  watch-there i lt' = subst (λ (s : knowledge.Content). i < length s.watches) (sym known-there) lt'

  pub fleet-written : (y : Seat) (s s' : Content) (change : Seat → Seat) → y ≡ change x → s ≡ s' →
      (let after : Kept = record { server = s; seats = slice_set k.seats m y; failed = k.failed } in after)
      ≡ record { server = s'; seats = changed_at m change k.seats; failed = k.failed }
  fleet-written y s s' change new same =
      ap (λ t. let after : Kept = record { server = t; seats = slice_set k.seats m y; failed = k.failed } in after) same
      ∙ ap (λ xs. let after : Kept = record { server = s'; seats = xs; failed = k.failed } in after) (changed-written m change k.seats x y lt is new)

-- the same log
pub log-same : {T E : Type 0} (r : Result T E) (before later : List Logged) (k : ℕ) (xs ys : List News) → xs ≡ ys →
    OnOk r (later ≡ before ++ logged k xs) → OnOk r (later ≡ before ++ logged k ys)
log-same (Ok x) before later k xs ys same is = is ∙ ap (λ zs. before ++ logged k zs) same
log-same (Err e) before later k xs ys same is = is
