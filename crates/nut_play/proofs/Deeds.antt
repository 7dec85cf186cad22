-- What a step does where the code has tested what decides it.
use Rattle.std.proofs.Common.{◌≡◌, ◌<◌, ℕ, zero, suc, Bool, true, false, not, ◌&&◌, List, [], ◌∷◌, ◌++◌, length, take, min, None, is_none, slice_get, Result, Ok, Err, OnOk, refl, sym, ◌∙◌, ap, arith, append-nil}
use Rattle.std.proofs.lemmas.List.{take_min}
use Rattle.std.specs.Prelude.{if◌then◌else◌}
use Rattle.nut_words.specs.declared.limits.TheConstants.{PIECE_MAX}
use Rattle.nut_server_spec.specs.Event as arrivals
use Rattle.nut_server_spec.specs.Content as server
use Rattle.nut_server_spec.specs.Acceptance as server_tests
use Rattle.nut_monitor_spec.specs.Event as events
use Rattle.nut_monitor_spec.specs.Content as knowledge
use Rattle.nut_monitor_spec.specs.Acceptance as monitor_tests
use Rattle.nut_fleet.specs.World.{Deed, Skip, Rest, Tell, Inform, Join, carried, address_of}
use Rattle.nut_fleet.specs.Seen.{Ends}
use Rattle.nut_fleet.specs.Log.{Logged, logged}
use Rattle.nut_play.specs.machine.Next.{is_played, tell_by, inform_by, open_by, linked_by, link_by, land_by, reach_by, told_news}

-- ---- what the server and a monitor are told

pub told-is_played : (s : server.Content) (event : arrivals.Event) → is_none (server_tests.refusal s event) ≡ is_played (tell_by s event)
told-is_played s event = by (is_none (server_tests.refusal s event))
  where
    by : (b : Bool) → b ≡ is_played (if b then Tell event else Skip)
    by true = refl
    by false = refl

pub on-any-ok : {T E : Type 0} (P : Type 0) (r : Result T E) → P → OnOk r P
on-any-ok P (Ok x) p = p
on-any-ok P (Err e) p = tt

pub log-same : (log : List Logged) (k : ℕ) (d : Deed) (t : knowledge.Content) → told_news d t ≡ [] → log ≡ log ++ logged k (told_news d t)
log-same log k d t none = sym (append-nil log) ∙ sym (ap (λ news. log ++ logged k news) none)

-- ---- a link that is made

module _ (m : ℕ) (s : server.Content) (t : knowledge.Content) (i : ℕ) (ends : Ends) where
  link-is : (up there accepts : Bool) → open_by s ends ≡ up → linked_by t i ≡ there → is_none (server_tests.refusal s (arrivals.Open (address_of m))) ≡ accepts →
      link_by m s t i ends ≡ (if not up && not there && accepts then Join m i else Skip)
  link-is up there accepts a b c =
      ap (λ x. if not x && not (linked_by t i) && is_none (server_tests.refusal s (arrivals.Open (address_of m))) then Join m i else Skip) a
      ∙ ap (λ x. if not up && not x && is_none (server_tests.refusal s (arrivals.Open (address_of m))) then Join m i else Skip) b
      ∙ ap (λ x. if not up && not there && x then Join m i else Skip) c

  pub link-open : open_by s ends ≡ true → link_by m s t i ends ≡ Skip
  link-open up = link-is true _ _ up refl refl

  pub link-linked : open_by s ends ≡ false → linked_by t i ≡ true → link_by m s t i ends ≡ Skip
  link-linked down up = link-is false true _ down up refl

  pub link-refused : open_by s ends ≡ false → linked_by t i ≡ false → is_none (server_tests.refusal s (arrivals.Open (address_of m))) ≡ false → link_by m s t i ends ≡ Skip
  link-refused down lost full = link-is false false false down lost full

  pub link-made : open_by s ends ≡ false → linked_by t i ≡ false → is_none (server_tests.refusal s (arrivals.Open (address_of m))) ≡ true → link_by m s t i ends ≡ Join m i
  link-made down lost free = link-is false false true down lost free

pub linked-accepted : (m : ℕ) (t : knowledge.Content) (i : ℕ) → i < length t.watches → linked_by t i ≡ false → inform_by m t (events.Linked i) ≡ Inform m (events.Linked i)
linked-accepted m t i lt lost = ap (λ o. if is_none o then Inform m (events.Linked i) else Skip) (by t.watches i lt lost)
  where
    by : (ws : List knowledge.Watch) (j : ℕ) → j < length ws → monitor_tests.is_linked (slice_get ws j) ≡ false → monitor_tests.linked_refusal (slice_get ws j) ≡ None
    by [] j lt lost = absurd (omega arith)
    by (w ∷ ws) zero lt lost = rw lost refl
    by (w ∷ ws) (suc j) lt lost = by ws j (omega arith) lost

-- ---- bytes that are moved

nothing : (n : ℕ) (xs : List ℕ) → min n (length xs) ≡ 0 → take n xs ≡ []
nothing n xs none = sym (take_min n xs) ∙ ap (λ k. take k xs) none

module _ (m : ℕ) (t : knowledge.Content) (i : ℕ) (ends : Ends) (n : ℕ) where
  pub land-is : (there : Bool) (piece : List ℕ) → linked_by t i ≡ there → take (min n PIECE_MAX) ends.to_monitor ≡ piece →
      land_by m t i ends n ≡ (if there then carried piece (λ bytes. inform_by m t (events.LinkBytes i bytes)) else Skip)
  land-is there piece a b =
      ap (λ x. if x then carried (take (min n PIECE_MAX) ends.to_monitor) (λ bytes. inform_by m t (events.LinkBytes i bytes)) else Skip) a
      ∙ ap (λ xs. if there then carried xs (λ bytes. inform_by m t (events.LinkBytes i bytes)) else Skip) b

  pub land-skips : linked_by t i ≡ false → land_by m t i ends n ≡ Skip
  land-skips lost = land-is false _ lost refl

  pub land-rests : linked_by t i ≡ true → min (min n PIECE_MAX) (length ends.to_monitor) ≡ 0 → land_by m t i ends n ≡ Rest
  land-rests there none = land-is true [] there (nothing (min n PIECE_MAX) ends.to_monitor none)

module _ (s : server.Content) (ends : Ends) (n : ℕ) where
  pub reach-is : (up : Bool) (piece : List ℕ) → open_by s ends ≡ up → take (min n PIECE_MAX) ends.to_server ≡ piece →
      reach_by s ends n ≡ (if up then carried piece (λ bytes. tell_by s (arrivals.Bytes ends.connection bytes)) else Skip)
  reach-is up piece a b =
      ap (λ x. if x then carried (take (min n PIECE_MAX) ends.to_server) (λ bytes. tell_by s (arrivals.Bytes ends.connection bytes)) else Skip) a
      ∙ ap (λ xs. if up then carried xs (λ bytes. tell_by s (arrivals.Bytes ends.connection bytes)) else Skip) b

  pub reach-skips : open_by s ends ≡ false → reach_by s ends n ≡ Skip
  reach-skips down = reach-is false _ down refl

  pub reach-rests : open_by s ends ≡ true → min (min n PIECE_MAX) (length ends.to_server) ≡ 0 → reach_by s ends n ≡ Rest
  reach-rests up none = reach-is true [] up (nothing (min n PIECE_MAX) ends.to_server none)
