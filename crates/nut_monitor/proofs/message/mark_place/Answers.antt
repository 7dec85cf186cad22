use Rattle.std.proofs.Common.{◌≡◌, ◌-◌, ◌<◌, false, drop, take, length, length-drop, sym, take_all, ap, ◌∙◌, arith}
use Rattle.nut_monitor.specs.Texts.{is_mark}
use Rattle.nut_monitor.proofs.Marks.{place_next}
use Rattle.nut_monitor.proofs.message.mark_place.Goals as goal

pub loop-at-preserved : goal.loop-at-preserved
loop-at-preserved c =
    let text = c.args.text.now in
    let at = c.loop-at.at in
    let lt : at < length text = omega (arith, c.loop-at-test.true, c.loop-at.auto.at-end) in
    let whole : take (length text - at) (drop at text) ≡ drop at text = take_all (length text - at) (drop at text) (omega (arith, length-drop at text)) in
    let no_mark : is_mark (drop at text) ≡ false = sym (ap is_mark whole) ∙ sym c.begins_with_mark.ensures ∙ c.if-begins_with_mark.false in
    place_next at text lt no_mark c.loop-at.invariant
