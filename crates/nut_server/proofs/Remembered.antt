-- How a tracked request ended, found UPS by UPS.
use Rattle.std.proofs.Common.{◌≡◌, ℕ, ◌+◌, ◌<◌, ◌≤◌, Bool, List, length, drop, flat_map, map, refl, sym, ◌∙◌, ap, Option, Some, None, slice_get, slice_index_or}
use Rattle.std.specs.Prelude.{find, option_map, ◌==◌}
use Rattle.std.specs.Option.{option_map_or}
use Rattle.std.proofs.lemmas.List.{drop_all}
use Rattle.std.proofs.lemmas.List.Folds.{find-append, flat_map-map}
use Rattle.std.proofs.lemmas.Option.{slice_get_read}
use Rattle.nut_proto.specs.declared.tracking.TrackingStatus.{TrackingStatus}
use Rattle.nut_proto.specs.declared.tracking.TrackingStatus.TheVariants.{Unknown}
use Rattle.nut_server_spec.specs.Answer.{status_of}
use Rattle.nut_server_spec.specs.Content.{Supply}
use Rattle.nut_server_spec.specs.Device.{Device}
use Rattle.nut_server_spec.specs.Tracking.{Tracked}
use Rattle.nut_server.proofs.Elements.{drop_here}

-- ---- the first element that passes a test, in lists one behind the other

module _ {X Y : Type 0} (p : Y → Bool) (f : X → List Y) where
  -- in the list of this element
  found_in : (xs : List X) (i : ℕ) (x : X) (y : Y) → slice_get xs i ≡ Some x → find p (f x) ≡ Some y → find p (flat_map f (drop i xs)) ≡ Some y
  found_in xs i x y there is =
      ap (λ ys. find p (flat_map f ys)) (drop_here xs i x there) ∙ find-append p (f x) (flat_map f (drop (i + 1) xs)) ∙ rw is refl

  -- not in the list of this element
  found_behind : (xs : List X) (i : ℕ) (x : X) → slice_get xs i ≡ Some x → find p (f x) ≡ None → find p (flat_map f (drop (i + 1) xs)) ≡ find p (flat_map f (drop i xs))
  found_behind xs i x there is =
      sym (ap (λ ys. find p (flat_map f ys)) (drop_here xs i x there) ∙ find-append p (f x) (flat_map f (drop (i + 1) xs)) ∙ rw is refl)

-- ---- the tracked requests of the UPSes

-- the request with this number in a list
abbrev with_number : ℕ → List Tracked → Option Tracked
with_number number requests = find (λ t. t.number == number) requests

-- the request with this number, if a UPS from the place i on remembers it
abbrev pub found_from : ℕ → ℕ → List Supply → Option Tracked
found_from number i ds = with_number number (flat_map (λ d. d.device.tracked) (drop i ds))

-- the request with this number, if one of the UPSes remembers it
abbrev pub found : ℕ → List Device → Option Tracked
found number ds = with_number number (flat_map (λ d. d.tracked) ds)

pub found_all : (number : ℕ) (ds : List Supply) (devices : List Device) → map (λ d. d.device) ds ≡ devices → found_from number 0 ds ≡ found number devices
found_all number ds devices is = ap (with_number number) (sym (flat_map-map (λ d. d.tracked) (λ (d : Supply). d.device) ds)) ∙ ap (found number) is

module _ (number i : ℕ) (ds : List Supply) (d : Supply) (lt : i < length ds) (is : d ≡ slice_index_or ds i d) where
  pub status_here : (devices : List Device) (status : TrackingStatus) → found_from number i ds ≡ found number devices
      → Some status ≡ option_map (λ t. t.status) (with_number number d.device.tracked) → status ≡ status_of number devices
  status_here devices status so_far told = by_found (with_number number d.device.tracked) refl told where
    by_found : (o : Option Tracked) → with_number number d.device.tracked ≡ o → Some status ≡ option_map (λ t. t.status) o → status ≡ status_of number devices
    by_found None e told = absurd (cc)
    by_found (Some t) e told =
        let same : status ≡ t.status = cc in
        same ∙ ap (λ o. option_map_or (λ t. t.status) o Unknown) (sym (found_in (λ t. t.number == number) (λ d. d.device.tracked) ds i d t (slice_get_read ds (length ds) i d refl lt is) e) ∙ so_far)

  pub not_here : None ≡ option_map (λ t. t.status) (with_number number d.device.tracked) → found_from number (i + 1) ds ≡ found_from number i ds
  not_here told = by_found (with_number number d.device.tracked) refl told where
    by_found : (o : Option Tracked) → with_number number d.device.tracked ≡ o → None ≡ option_map (λ (t : Tracked). t.status) o → found_from number (i + 1) ds ≡ found_from number i ds
    by_found None e told = found_behind (λ t. t.number == number) (λ d. d.device.tracked) ds i d (slice_get_read ds (length ds) i d refl lt is) e
    by_found (Some t) e told = absurd (cc)

pub nowhere : (number i : ℕ) (ds : List Supply) (devices : List Device) → length ds ≤ i → found_from number i ds ≡ found number devices → Unknown ≡ status_of number devices
nowhere number i ds devices past so_far =
    ap (λ o. option_map_or (λ t. t.status) o Unknown) (sym (ap (λ ys. with_number number (flat_map (λ (d : Supply). d.device.tracked) ys)) (drop_all i ds past)) ∙ so_far)
