use Rattle.std.proofs.Common.{refl, ap, sym, ◌∙◌}
use Rattle.std.specs.Int.{from_be_bytes, w64}
use Rattle.std.proofs.lemmas.List.{take_rest}
use Rattle.nut_state.proofs.CompareLemmas.{bytes_behind, words_equal, words_unequal}
use Rattle.nut_state.proofs.sorted.compare.Goals as goal

pub loop-front-init : goal.loop-front-init
loop-front-init c = record { same = refl; bytes = λ k. (c.type_inv.a k).fits; others = λ k. (c.type_inv.b k).fits }

pub returns-then-word-other_word : goal.returns-then-word-other_word
returns-then-word-other_word c =
    let at = c.loop-front.invariant in
    let front = c.in-Some.ensures.cases in
    let other = c.in-Some-first_chunk.ensures.cases in
    c.cmp.ensures
    ∙ sym (at.same
    ∙ words_unequal c.loop-front.left.now c.loop-front.right.now _ _ front.enough other.enough at.bytes at.others
    (c.from_be_bytes-word.ensures ∙ ap (from_be_bytes w64) front.same) (c.from_be_bytes-other_word.ensures ∙ ap (from_be_bytes w64) other.same) c.if-word-other_word.true)

pub loop-front-preserved : goal.loop-front-preserved
loop-front-preserved c =
    let at = c.loop-front.invariant in
    let front = c.in-Some.ensures.cases in
    let other = c.in-Some-first_chunk.ensures.cases in
    rw (take_rest c.loop-front.left.now 8, take_rest c.loop-front.right.now 8)
    (record {
      same = at.same
          ∙ words_equal c.loop-front.left.now c.loop-front.right.now _ _ front.enough other.enough at.bytes at.others
          (c.from_be_bytes-word.ensures ∙ ap (from_be_bytes w64) front.same) (c.from_be_bytes-other_word.ensures ∙ ap (from_be_bytes w64) other.same) c.if-word-other_word.false;
      bytes = bytes_behind 8 c.loop-front.left.now at.bytes;
      others = bytes_behind 8 c.loop-front.right.now at.others;
    })
