use Rattle.std.proofs.Common.{◌≡◌, ◌≤◌, length, true, false, sym, ◌∙◌, arith, length-set}
use Rattle.nut_words.specs.declared.limits.TheConstants.{PIECE_MAX}
use Rattle.nut_monitor_spec.specs.Configuration.{configuration_of}
use Rattle.nut_monitor.specs.inside.Sound.{lacks_memory}
use Rattle.nut_monitor.specs.inside.Steps.{content_in}
use Rattle.nut_monitor.proofs.Steps.{anew_orderly}
use Rattle.nut_monitor.proofs.Bounded.{set_bounded}
use Rattle.nut_monitor.proofs.Bytes.{piece_bounded, bytes_done, bytes_free, bytes_lack, bytes_out}
use Rattle.nut_monitor.proofs.state.State.link_bytes.Goals as goal

pub settle-requires : goal.settle-requires
settle-requires c =
    let s = content_in (configuration_of c.args.config.now) c.args.self.now in
    let free : length c.args.self.now.notices ≤ 0 = grind (arith, c.is_empty.ensures, c.if-not-is_empty.false) in
    anew_orderly s s.clock c.hear-done.new.notices _ (length-set s.watches c.args.i c.hear-done.new.self) (omega (arith, c.hear-done.ensures.few, free))
    (set_bounded s.watches c.args.i c.hear-done.new.self c.requires.links (piece_bounded s c.args.i c.args.piece.now c.index_mut.result.now c.hear-done.new.self c.scene-scene.result c.hear-done.result c.hear-done.new.notices
    (c.in_ok-check.ensures {u = tt}).0 c.index_mut.ensures.value (c.in_ok-check.ensures {u = tt}).1 c.hear-done.ensures.hears c.requires.links)) c.requires

pub returns-then-ran_out : goal.returns-then-ran_out
returns-then-ran_out c =
    let s = content_in (configuration_of c.args.config.now) c.args.self.now in
    let checked = c.in_ok-check.ensures {u = tt} in
    let free : length c.args.self.now.notices ≤ 0 = grind (arith, c.is_empty.ensures, c.if-not-is_empty.false) in
    let short : length c.args.piece.now ≤ PIECE_MAX = omega (arith, c.if-piece-gt-PIECE_MAX.false) in
    let lacks : lacks_memory c.hear-done.result.1 ≡ true = sym c.ran_out.ensures ∙ c.if-ran_out.true in
    record {
      step = record {
        answered = bytes_lack s c.args.i c.args.piece.now c.index_mut.result.now c.hear-done.new.self c.scene-scene.result c.hear-done.result c.hear-done.new.notices checked.0 c.index_mut.ensures.value checked.1 short free c.scene-scene.ensures c.hear-done.ensures.hears lacks;
        content = c.settle.ensures.content
            ∙ bytes_out s c.args.i c.args.piece.now c.index_mut.result.now c.hear-done.new.self c.scene-scene.result c.hear-done.result c.hear-done.new.notices checked.0 c.index_mut.ensures.value checked.1 short free c.scene-scene.ensures c.hear-done.ensures.hears lacks;
        orderly = c.settle.ensures.orderly;
      };
    }

pub returns : goal.returns
returns c =
    let s = content_in (configuration_of c.args.config.now) c.args.self.now in
    let checked = c.in_ok-check.ensures {u = tt} in
    let free : length c.args.self.now.notices ≤ 0 = grind (arith, c.is_empty.ensures, c.if-not-is_empty.false) in
    let short : length c.args.piece.now ≤ PIECE_MAX = omega (arith, c.if-piece-gt-PIECE_MAX.false) in
    let kept : lacks_memory c.hear-done.result.1 ≡ false = sym c.ran_out.ensures ∙ c.if-ran_out.false in
    record {
      step = record {
        answered = (bytes_free s c.args.i c.args.piece.now c.index_mut.result.now c.hear-done.new.self c.scene-scene.result c.hear-done.result c.hear-done.new.notices checked.0 c.index_mut.ensures.value checked.1 short free c.scene-scene.ensures c.hear-done.ensures.hears, tt);
        content = c.settle.ensures.content
            ∙ bytes_done s c.args.i c.args.piece.now c.index_mut.result.now c.hear-done.new.self c.scene-scene.result c.hear-done.result c.hear-done.new.notices checked.0 c.index_mut.ensures.value checked.1 short free c.scene-scene.ensures c.hear-done.ensures.hears kept;
        orderly = c.settle.ensures.orderly;
      };
    }
