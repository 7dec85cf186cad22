use Rattle.std.proofs.Common.{◌+◌, ◌<◌, ◌∙◌, ap, ap₂, ◌++◌, ◌∷◌, [], arith, sym, drop, append-nil, length, length-append}
use Rattle.std.proofs.lemmas.List.{drop_all}
use Rattle.nut_server_spec.specs.Numbering.{given_numbers, least_free}
use Rattle.nut_server.proofs.Renumbered.{given_more, given_new, kept_after, none_kept, one_kept}
use Rattle.nut_server.proofs.numbering.Numbering.renumbered.Goals.{in-Some, in-None}
use Rattle.nut_server.proofs.numbering.Numbering.renumbered.Goals as goal

pub loop-place-init : goal.loop-place-init
loop-place-init c = (
  omega (arith, ap length c.kept_by-taken.ensures.items),
  ap length c.new-numbers.ensures,
  ap₂ (λ ns taken. ns ++ given_numbers c.args.self.now taken c.args.after.now.upses) c.new-numbers.ensures c.kept_by-taken.ensures.items,
)

pub push-requires : goal.push-requires
push-requires c =
    let before = c.args.self.now in
    let upses = c.args.after.now.upses in
    let place = c.loop-place.place in
    let lt : place < length upses = omega (arith, c.loop-place-test.true, c.number_of_upses-place-end.ensures.len) in
    let rest = none_kept before upses place lt (sym c.in-None.is ∙ c.kept_at.ensures) in
    omega (arith, c.loop-place.invariant.0, rest, kept_after before upses (place + 1), lt, c.number_of_upses-place-end.ensures.few, c.number_of_upses-place-end.ensures.len)

pub loop-place-preserved : goal.loop-place-preserved
loop-place-preserved c =
    let before = c.args.self.now in
    let upses = c.args.after.now.upses in
    let place = c.loop-place.place in
    let numbers = c.loop-place.numbers.items in
    let taken = c.loop-place.taken.items in
    let later = drop (place + 1) upses in
    let lt : place < length upses = omega (arith, c.loop-place-test.true, c.number_of_upses-place-end.ensures.len) in
    elim c.match-kept_at.branch [
      | in-Some w ↦
          let is = sym w.in-Some.is ∙ c.kept_at.ensures in
          let all = ap (λ t. t.items) w.taken-is in
          let pushed = c.push-in-loop-place.ensures.items ∙ ap (λ n. numbers ++ n ∷ []) w.number-is in (
            omega (arith, ap length all, c.loop-place.invariant.0, one_kept before upses place lt w.in-Some.number is),
            omega (arith, ap length pushed, length-append numbers (w.in-Some.number ∷ []), c.loop-place.invariant.1),
            ap₂ (λ ns t. ns ++ given_numbers before t later) pushed all ∙ given_more before upses place lt w.in-Some.number taken numbers is ∙ c.loop-place.invariant.2,
          )
      | in-None w ↦
          let is = sym w.in-None.is ∙ c.kept_at.ensures in
          let least = w.least_free-number.ensures ∙ ap least_free w.as_slice.ensures.value in
          let all = ap (λ t. t.items) w.taken-is ∙ w.push.ensures.items ∙ ap (λ n. taken ++ n ∷ []) least in
          let pushed = c.push-in-loop-place.ensures.items ∙ ap (λ n. numbers ++ n ∷ []) (w.number-is ∙ least) in (
            omega (arith, ap length all, length-append taken (least_free taken ∷ []), c.loop-place.invariant.0, none_kept before upses place lt is),
            omega (arith, ap length pushed, length-append numbers (least_free taken ∷ []), c.loop-place.invariant.1),
            ap₂ (λ ns t. ns ++ given_numbers before t later) pushed all ∙ given_new before upses place lt taken numbers is ∙ c.loop-place.invariant.2,
          )
    ]

pub returns : goal.returns
returns c =
    let end = drop_all c.loop-place.place c.args.after.now.upses (omega (arith, c.loop-place-test.false, c.number_of_upses-place-end.ensures.len)) in
    sym (ap (λ us. c.loop-place.numbers.items ++ given_numbers c.args.self.now c.loop-place.taken.items us) end ∙ append-nil c.loop-place.numbers.items) ∙ c.loop-place.invariant.2
