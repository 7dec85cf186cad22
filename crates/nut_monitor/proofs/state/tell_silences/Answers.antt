use Rattle.std.proofs.Common.{◌≡◌, suc, ◌+◌, ◌++◌, ◌<◌, ◌≤◌, drop, length, slice_set, slice_index_or, ap, sym, ◌∙◌, append_assoc, arith}
use Rattle.nut_conf.specs.declared.notice.Notice.TheVariants as kinds
use Rattle.nut_monitor_spec.specs.Configuration.{configuration_of}
use Rattle.nut_monitor_spec.specs.Decision.{told, when}
use Rattle.nut_monitor_spec.specs.machine.Machine.{is_silent, silences_told, silent}
use Rattle.nut_monitor.proofs.Loops.{front_silent, length-silent, silent_more, silent_whole, suc_is, told_step}
use Rattle.nut_monitor.proofs.state.tell_silences.Goals as goal

pub loop-i-preserved : goal.loop-i-preserved
loop-i-preserved c =
    let configuration = configuration_of c.args.config.now in
    let k = c.args.clock in
    let f = silent configuration k in
    let ws = c.args.watches.now.items in
    let i = c.loop-i.i in
    let before = c.loop-i.invariant.0 in
    let w = c.index_mut.result.now in
    let read : w ≡ slice_index_or (front_silent f i ws) i w = c.index_mut.ensures.value ∙ ap (λ xs. slice_index_or xs i w) before in
    let lt : i < length ws = omega (arith, c.loop-i-test.true, c.loop-i.auto.i-end, c.len-i-end.ensures) in
    let done = ap (λ xs. slice_set xs i c.tell_silence.new.self) before ∙ ap (slice_set (front_silent f i ws) i) c.tell_silence.ensures.line
    ∙ silent_more f i ws w lt read ∙ ap (λ n. front_silent f n ws) (suc_is i) in
    let few : length c.tell_silence.new.notices ≤ length c.args.notices.now + (i + 1) = omega (arith, c.tell_silence.ensures.few, c.loop-i.invariant.2) in
    let news = when (is_silent configuration k w) (told kinds.Nocomm i) in (
      done,
      ap length done ∙ length-silent f (i + 1) ws,
      few,
      ap (λ n. c.tell_silence.new.notices ++ silences_told configuration k n (drop n ws)) (sym (suc_is i))
          ∙ ap (λ ns. ns ++ silences_told configuration k (suc i) (drop (suc i) ws)) c.tell_silence.ensures.told
          ∙ append_assoc c.loop-i.notices news (silences_told configuration k (suc i) (drop (suc i) ws))
          ∙ ap (λ ns. c.loop-i.notices ++ ns) (sym (told_step configuration k i i f ws w lt read))
          ∙ c.loop-i.invariant.3,
    )

pub returns-clause-watches : goal.returns-clause-watches
returns-clause-watches c =
    c.loop-i.invariant.0
    ∙ silent_whole (configuration_of c.args.config.now) c.args.clock c.loop-i.i c.args.watches.now.items (omega (arith, c.loop-i-test.false, c.loop-i.auto.i-end, c.len-i-end.ensures))
