-- Laws of the place of a connection.
use Rattle.std.proofs.Common.{◌≡◌, ℕ, zero, suc, ◌<◌, List, [], ◌∷◌, length, refl, sym, ◌∙◌, ap, arith, Some, slice_get, slice_set, slice_index_or}
use Rattle.std.proofs.lemmas.Option.{slice_get_read}
use Rattle.nut_server_spec.specs.Content.{Session}
use Rattle.nut_server_spec.specs.Acceptance.{session_of}
use Rattle.nut_server_spec.specs.machine.Machine.{update}
use Rattle.nut_server.specs.inside.Place.{IsPlace, Stands}
use Rattle.nut_server.proofs.Elements.{some_there}

pub place_within : (c : ℕ) (ks : List Session) (at : ℕ) → IsPlace c ks at → at < length ks
place_within c [] at place = absurd place
place_within c (k ∷ ks) zero place = omega arith
place_within c (k ∷ ks) (suc at) place = omega (arith, place_within c ks at place.1)

pub place_session : (c : ℕ) (ks : List Session) (at : ℕ) → IsPlace c ks at → session_of c ks ≡ slice_get ks at
place_session c [] at place = absurd place
place_session c (k ∷ ks) zero place = rw place refl
place_session c (k ∷ ks) (suc at) place = rw place.0 (place_session c ks at place.1)

place_update : (c : ℕ) (change : Session → Session) (ks : List Session) (at : ℕ) (k : Session) → IsPlace c ks at → slice_get ks at ≡ Some k → update c change ks ≡ slice_set ks at (change k)
place_update c change [] at k place there = absurd place
place_update c change (k' ∷ ks) zero k place there = let same : k' ≡ k = cc in rw (place, same) refl
place_update c change (k' ∷ ks) (suc at) k place there = rw place.0 (ap (λ rest. k' ∷ rest) (place_update c change ks at k place.1 there))

-- Writing a changed session to its place is the update.
pub written : (c : ℕ) (change : Session → Session) (ks : List Session) (at : ℕ) (k k' : Session) → Stands c ks at → k ≡ slice_index_or ks at k → k' ≡ change k → slice_set ks at k' ≡ update c change ks
written c change ks at k k' stands is now' = ap (slice_set ks at) now' ∙ sym (place_update c change ks at k stands.place (slice_get_read ks (length ks) at k refl stands.within is))

-- There is a session at this place.
pub found_session : (c : ℕ) (ks : List Session) (at : ℕ) → Stands c ks at → (k : Session) × (session_of c ks ≡ Some k)
found_session c ks at stands = let there = some_there ks at stands.within in (there.0, stands.session ∙ there.1)
