use Rattle.std.proofs.Common.{◌≡◌, ◌∙◌, ap, arith}
use Rattle.std.specs.Prelude.{◌+◌, take, length, List, ℕ}
use Rattle.nut_state.specs.Row.{Named}
use Rattle.nut_state.proofs.RowLemmas.{kept, replaced}
use Rattle.nut_state.specs.inside.RowInside.{named_in, row_text}
use Rattle.nut_state.proofs.row_end.RowEnd.set_value.Goals as goal

pub invariant_of-self : goal.invariant_of-self
invariant_of-self c =
    let named : Named = record (named_in c.self.inside) { value = c.args.value.now } in
    let cut : c.truncate.new.self.items ≡ take (length (named_in c.self.inside).name + 2) (row_text (named_in c.self.inside)) =
    c.truncate.ensures.items ∙ (ap (λ (items : List ℕ). take (c.self.inside.name_len + 2) items) c.self.invariant.text ∙ ap (λ n. take (n + 2) (row_text (named_in c.self.inside))) c.self.invariant.name_len) in
    let text : c.try_extend_from_slice-2.new.self.items ≡ row_text named =
    grind (arith, cut, replaced (named_in c.self.inside) c.args.value.now, c.unwrap.ensures, c.unwrap-2.ensures, c.try_extend_from_slice.ensures.ok, c.try_extend_from_slice-2.ensures.ok) in
    kept _ named (record { text = text; name_len = c.self.invariant.name_len; is_name = c.self.invariant.is_name; within = c.requires; unescaped = c.is_unescaped-unescaped.ensures })
