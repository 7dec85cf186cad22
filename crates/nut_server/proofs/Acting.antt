-- How a command changes a UPS.
use Rattle.std.proofs.Common.{◌≡◌, ℕ, zero, suc, ◌<◌, true, List, [], ◌∷◌, ◌++◌, length, refl, sym, ◌∙◌, ap, arith, inl, inr, Option, Some, None, slice_set, slice_index_or}
use Rattle.std.specs.Prelude.{map}
use Rattle.std.proofs.lemmas.Bool.{cases_Bool}
use Rattle.std.proofs.lemmas.List.{get_or-map}
use Rattle.nut_server_spec.specs.Content.{Supply}
use Rattle.nut_server_spec.specs.Device.{Device, absent}
use Rattle.nut_server_spec.specs.machine.Machine.{act_on, requested, update_at}
use Rattle.nut_server_spec.specs.Tracking.{with_tracked}
use Rattle.nut_server_spec.proofs.Places.{update_at-none}
use Rattle.nut_server.specs.inside.Effects.{requesting}

pub requested_none : (d : Device) → requested None d ≡ d.waits
requested_none d = elim (cases_Bool d.connected) [ inl e ↦ rw e refl | inr e ↦ rw e refl ]

pub update_at_same : (u : ℕ) (f g : Supply → Supply) (ds : List Supply) → ((d : Supply) → f d ≡ g d) → update_at u f ds ≡ update_at u g ds
update_at_same u f g [] same = refl
update_at_same zero f g (d ∷ ds) same = ap (λ x. x ∷ ds) (same d)
update_at_same (suc u) f g (d ∷ ds) same = ap (λ x. d ∷ x) (update_at_same u f g ds same)

-- A change that does nothing leaves the UPSes as they are.
pub act_idle : (o : Option ℕ) (f : Supply → Supply) (ds : List Supply) → ((d : Supply) → f d ≡ d) → act_on o f ds ≡ ds
act_idle None f ds same = refl
act_idle (Some u) f ds same = update_at-none u f ds same

-- Writing a changed UPS back to its place is the update.
pub update_at_written : (u : ℕ) (change : Supply → Supply) (ds : List Supply) (d d' : Supply) → u < length ds → d ≡ slice_index_or ds u d → d' ≡ change d → slice_set ds u d' ≡ update_at u change ds
update_at_written u change [] d d' lt is new' = absurd (omega arith)
update_at_written zero change (x ∷ ds) d d' lt is new' = ap (λ y. y ∷ ds) (new' ∙ ap change is)
update_at_written (suc u) change (x ∷ ds) d d' lt is new' = ap (λ ys. x ∷ ys) (update_at_written u change ds d d' (omega arith) is new')

-- Writing the changed UPS back to its place is what the command does.
pub act_written : (o : Option ℕ) (u : ℕ) (change : Supply → Supply) (ds : List Supply) (d d' : Supply) → Some u ≡ o → u < length ds → d ≡ slice_index_or ds u d → d' ≡ change d → slice_set ds u d' ≡ act_on o change ds
act_written o u change ds d d' at lt is new' = update_at_written u change ds d d' lt is new' ∙ ap (λ o. act_on o change ds) at

-- What the scene knows of a UPS.
pub device_there : (ds : List Supply) (u : ℕ) (d : Supply) → u < length ds → d ≡ slice_index_or ds u d → slice_index_or (map (λ d. d.device) ds) u absent ≡ d.device
device_there ds u d lt is = get_or-map (λ (d : Supply). d.device) ds u d absent lt ∙ ap (λ (d : Supply). d.device) (sym is)

pub requesting_connected : (line : List ℕ) (number : Option ℕ) (d : Supply) → d.device.connected ≡ true
    → requesting line number d ≡ record d { device = record d.device { waits = d.device.waits ++ line; tracked = with_tracked number d.device.tracked } }
requesting_connected line number d is = rw is refl
