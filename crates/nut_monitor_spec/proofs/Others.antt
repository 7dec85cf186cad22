-- An event of a link changes nothing that is known of another line's UPS.
use Rattle.std.proofs.Common.{arith}
use Rattle.std.proofs.Common.{◌≡◌, ℕ, true, false, eqb, List, [], ◌∷◌, refl, ◌∙◌, ap, Some}
use Rattle.nut_monitor_spec.specs.Configuration.{Configuration}
use Rattle.nut_monitor_spec.specs.Event.{Event, Linked, LinkBytes, LinkLost, LinkTook, OutOfMemory}
use Rattle.nut_monitor_spec.specs.Trace.{Entry, entry_of, known, trace}
use Rattle.nut_monitor_spec.specs.Content.{content_of}
use Rattle.nut_monitor_spec.specs.laws.Laws.{OthersStay}
use Rattle.nut_monitor_spec.proofs.Newest.{known-same}
use Rattle.nut_monitor_spec.proofs.Apart.{IsApart, other-known}
use Rattle.nut_monitor_spec.proofs.Settled.{told_entry, entry_is}
use Rattle.nut_monitor_spec.proofs.Links.{made-apart, lost-apart, piece-apart, out-apart}
use Rattle.nut_monitor_spec.proofs.Quiet.{took-entry}
use Rattle.nut_monitor_spec.proofs.Kept.{Holds, IsThere, found, all-hold, bytes-there, took-there}

-- if the event leaves line j apart, nothing changes in what is known of it
by-apart : (configuration : Configuration) (past : List Entry) (event : Event) (i j : ℕ) → IsApart i j (told_entry configuration past event) past →
    known j (entry_of configuration past event ∷ past) ≡ known j past
by-apart configuration past event i j apart = grind (arith, entry_is, known-same, other-known, told_entry)

took-stay : (configuration : Configuration) (past : List Entry) (i n j : ℕ) → Holds configuration past → IsThere configuration past i →
    known j (entry_of configuration past (LinkTook i n) ∷ past) ≡ known j past
took-stay configuration [] i n j holds there = let e : false ≡ true = there.1 in cc
took-stay configuration (newest ∷ older) i n j holds there =
    ap (λ e. known j (e ∷ newest ∷ older)) (took-entry configuration newest older i n holds.still)

same-link : (k i j : ℕ) → Some k ≡ Some i → eqb i j ≡ false → eqb k j ≡ false
same-link k i j is differ = let e : k ≡ i = cc in ap (λ m. eqb m j) e ∙ differ

pub others-stay : OthersStay
others-stay configuration events (Linked k) i j accepted of differ =
    by-apart configuration (trace configuration events) (Linked k) k j (made-apart configuration (trace configuration events) k j (same-link k i j of differ))
others-stay configuration events (LinkLost k) i j accepted of differ =
    by-apart configuration (trace configuration events) (LinkLost k) k j (lost-apart configuration (trace configuration events) k j (same-link k i j of differ))
others-stay configuration events (LinkBytes k piece) i j accepted of differ =
    let past = trace configuration events in
    let there = bytes-there configuration past k (content_of configuration past) piece (found configuration past k) refl accepted.1.0 in
    by-apart configuration past (LinkBytes k piece) k j
    (piece-apart configuration past k piece there.1 ((all-hold configuration events accepted.0).tidy k there.1) j (same-link k i j of differ))
others-stay configuration events (OutOfMemory k piece n) i j accepted of differ =
    let past = trace configuration events in
    let there = bytes-there configuration past k (content_of configuration past) piece (found configuration past k) refl accepted.1.0 in
    by-apart configuration past (OutOfMemory k piece n) k j
    (out-apart configuration past k piece n ((all-hold configuration events accepted.0).tidy k there.1) j (same-link k i j of differ))
others-stay configuration events (LinkTook k n) i j accepted of differ =
    let past = trace configuration events in
    took-stay configuration past k n j (all-hold configuration events accepted.0) (took-there configuration past k n (found configuration past k) refl accepted.1.0)
others-stay configuration events event i j accepted of differ = cc
