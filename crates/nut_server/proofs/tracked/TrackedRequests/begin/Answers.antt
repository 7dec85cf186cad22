use Rattle.std.proofs.Common.{◌≡◌, ◌-◌, ◌≤◌, ◌∙◌, ap, sym, arith, ◌∷◌, take, length}
use Rattle.std.proofs.lemmas.Bool.Decides.{nat_tests}
use Rattle.std.proofs.lemmas.List.{take_all}
use Rattle.nut_proto.specs.declared.tracking.TrackingStatus.TheVariants.{Pending}
use Rattle.nut_server_spec.specs.Tracking.{Tracked as TrackedValue}
use Rattle.nut_server.proofs.tracked.TrackedRequests.begin.Goals.{then-is_full, else-is_full}
use Rattle.nut_server.proofs.tracked.TrackedRequests.begin.Goals as goal

pub returns : goal.returns
returns c =
    let request : TrackedValue = record { number = c.args.number; status = Pending } in
    let before = c.self.inside.requests.items in
    let kept : c.if-is_full.self-inside.requests.items ≡ take 63 before = elim c.if-is_full.branch [
      | then-is_full w ↦
          let full : length before ≡ 64 = grind (arith, nat_tests, w.if-is_full.true, c.is_full.ensures.value) in
          ap (λ i. i.requests.items) w.self-inside-is ∙ w.pop.ensures.rest ∙ ap (λ n. take (n - 1) before) full
      | else-is_full w ↦
          let few : length before ≤ 63 = grind (arith, nat_tests, w.if-is_full.false, c.is_full.ensures.value, c.is_full.ensures.fits) in
          ap (λ i. i.requests.items) w.self-inside-is ∙ sym (take_all 63 before few)
    ] in
    c.insert.ensures.items ∙ ap (λ requests. request ∷ requests) (kept ∙ ap (take 63) c.self.view_is)
