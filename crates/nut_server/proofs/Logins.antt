-- The number of connections that are logged in, counted one by one.
use Rattle.std.proofs.Common.{◌≡◌, ℕ, ◌+◌, ◌≤◌, Bool, filter, ◌∙◌, length-append, List, [], ◌∷◌, map, length, take, refl, ap, arith, inl, inr, slice_get, Some}
use Rattle.std.specs.Prelude.{if◌then◌else◌}
use Rattle.std.proofs.lemmas.Bool.{cases_Bool}
use Rattle.std.proofs.lemmas.List.{length-map, length-take, map-append}
use Rattle.std.proofs.lemmas.List.Elements.{filter-append}
use Rattle.std.proofs.lemmas.List.Sums.{count_by-le-length, length-filter}
use Rattle.nut_server_spec.specs.Content.{Session}
use Rattle.nut_server_spec.specs.Answer.{Guest, guests_of, is_logged_in}
use Rattle.nut_server_spec.specs.machine.Machine.{guest_of}
use Rattle.nut_server.proofs.Elements.{take_next}

abbrev pub logins : ℕ → List Session → ℕ
logins u ks = length (guests_of u (map guest_of ks))

pub logins_more : (u i : ℕ) (ks : List Session) (k : Session) → slice_get ks i ≡ Some k
    → logins u (take (i + 1) ks) ≡ logins u (take i ks) + (if is_logged_in u k.login then 1 else 0)
logins_more u i ks k there =
    let p : Guest → Bool = λ g. is_logged_in u g.login in
    let guests = map guest_of (take i ks) in
    ap (logins u) (take_next ks i k there)
    ∙ ap (λ gs. length (filter p gs)) (map-append guest_of (take i ks) (k ∷ []))
    ∙ ap length (filter-append p guests (guest_of k ∷ []))
    ∙ length-append (filter p guests) (filter p (guest_of k ∷ []))
    ∙ elim (cases_Bool (is_logged_in u k.login)) [ inl e ↦ rw e refl | inr e ↦ rw e refl ]

pub logins_below : (u i : ℕ) (ks : List Session) → logins u (take i ks) ≤ i
logins_below u i ks =
    let p : Guest → Bool = λ g. is_logged_in u g.login in
    let guests = map guest_of (take i ks) in
    omega (arith, length-filter p guests, count_by-le-length p guests, length-map (take i ks) guest_of, length-take i ks)
