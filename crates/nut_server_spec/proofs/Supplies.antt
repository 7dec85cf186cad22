-- The UPS found under a number after one UPS is changed.
use Rattle.std.proofs.Common.{arith}
use Rattle.std.proofs.Common.{◌≡◌, ℕ, zero, suc, false, eqb, List, [], ◌∷◌, drop, refl, ◌∙◌, ap, inl, inr}
use Rattle.std.specs.Prelude.{option_map}
use Rattle.std.proofs.Math.Seq.{drop-nil}
use Rattle.std.proofs.lemmas.Bool.{cases_Bool, eqb-false, ne_eqb}
use Rattle.nut_server_spec.specs.Content.{Supply}
use Rattle.nut_server_spec.specs.Acceptance.{supply_of, asks_of}
use Rattle.nut_server_spec.specs.machine.Machine.{update_at, drained, byte_reported, bytes_reported}

pub supply_of-update : (u : ℕ) (change : Supply → Supply) (supplies : List Supply) → supply_of u (update_at u change supplies) ≡ option_map change (supply_of u supplies)
supply_of-update u change [] = refl
supply_of-update zero change (d ∷ supplies) = refl
supply_of-update (suc u) change (d ∷ supplies) = supply_of-update u change supplies

pub supply_of-update_other : (u v : ℕ) (change : Supply → Supply) (supplies : List Supply) → eqb v u ≡ false → supply_of v (update_at u change supplies) ≡ supply_of v supplies
supply_of-update_other u v change [] differ = refl
supply_of-update_other zero zero change (d ∷ supplies) differ = cc
supply_of-update_other zero (suc v) change (d ∷ supplies) differ = refl
supply_of-update_other (suc u) zero change (d ∷ supplies) differ = refl
supply_of-update_other (suc u) (suc v) change (d ∷ supplies) differ = supply_of-update_other u v change supplies (ne_eqb v u (λ e. eqb-false (suc v) (suc u) differ (ap suc e)))

-- A driver's lines leave it connected or disconnected, as it was.
pub byte_reported-connected : (time b : ℕ) (d : Supply) → (byte_reported time b d).device.connected ≡ d.device.connected
byte_reported-connected time b d = elim (cases_Bool (eqb b 10)) [ inl e ↦ rw e refl | inr e ↦ rw e refl ]

pub bytes_reported-connected : (time : ℕ) (piece : List ℕ) (d : Supply) → (bytes_reported time piece d).device.connected ≡ d.device.connected
bytes_reported-connected time [] d = refl
bytes_reported-connected time (b ∷ piece) d = bytes_reported-connected time piece (byte_reported time b d) ∙ byte_reported-connected time b d

-- what waits for a driver after n bytes were taken
pub asks_of-drained : (u n : ℕ) (supplies : List Supply) → asks_of u (update_at u (drained n) supplies) ≡ drop n (asks_of u supplies)
asks_of-drained u n supplies = grind (arith, supply_of-update, drop-nil)
