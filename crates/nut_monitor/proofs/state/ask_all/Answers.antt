use Rattle.std.proofs.Common.{◌≡◌, ◌+◌, ◌<◌, length, map, slice_set, slice_index_or, ap, ◌∙◌, arith}
use Rattle.nut_monitor_spec.specs.Configuration.{configuration_of, line_of}
use Rattle.nut_monitor_spec.specs.machine.Machine.{all_asked, asked_next}
use Rattle.nut_monitor.proofs.Loops.{asked_more, asked_whole, front_asked, length-asked, suc_is}
use Rattle.nut_monitor.proofs.Steps.{lines_length}
use Rattle.nut_monitor.proofs.state.ask_all.Goals as goal

pub loop-i-preserved : goal.loop-i-preserved
loop-i-preserved c =
    let configuration = configuration_of c.args.config.now in
    let f = asked_next configuration c.args.clock c.args.phase in
    let ms = c.as_slice-lines.result.now in
    let ws = c.args.watches.now.items in
    let i = c.loop-i.i in
    let before = c.loop-i.invariant.0 in
    let w = c.index_mut.result.now in
    let read : w ≡ slice_index_or (front_asked f i ms ws) i w = c.index_mut.ensures.value ∙ ap (λ xs. slice_index_or xs i w) before in
    let long = ap length c.as_slice-lines.ensures.value in
    let ltw : i < length ws = omega (arith, c.loop-i-test.true, c.loop-i.auto.i-end, c.len-i-end.ensures) in
    let ltm : i < length ms = omega (arith, ltw, long, lines_length c.args.config.now.monitors.lines.items, c.requires) in
    let done = ap (λ xs. slice_set xs i c.ask.new.self) before ∙ ap (slice_set (front_asked f i ms ws) i) c.ask.ensures
    ∙ asked_more f i ms ws c.index-lines-i.result w ltm ltw c.index-lines-i.is read ∙ ap (λ n. front_asked f n ms ws) (suc_is i) in (
      done,
      ap length done ∙ length-asked f (i + 1) ms ws,
    )

pub returns : goal.returns
returns c =
    let configuration = configuration_of c.args.config.now in
    let ms = c.as_slice-lines.result.now in
    let ws = c.args.watches.now.items in
    let long = ap length c.as_slice-lines.ensures.value in
    c.loop-i.invariant.0
    ∙ asked_whole configuration c.args.clock c.args.phase c.loop-i.i ms ws (omega (arith, c.loop-i-test.false, c.loop-i.auto.i-end, c.len-i-end.ensures))
    (omega (arith, long, lines_length c.args.config.now.monitors.lines.items, c.requires))
    ∙ ap (λ ms. all_asked configuration c.args.clock c.args.phase (map line_of ms) ws) c.as_slice-lines.ensures.value
