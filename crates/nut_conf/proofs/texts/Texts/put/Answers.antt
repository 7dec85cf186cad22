use Rattle.std.proofs.Common.{Ok, refl, sym, ap, ◌∙◌, arith}
use Rattle.std.specs.Prelude.{length}
use Rattle.std.proofs.lemmas.Bool.{lt-leb}
use Rattle.std.proofs.lemmas.Result.{err_from_is_err_and}
use Rattle.nut_conf.specs.declared.limits.TheConstants.{DESCRIPTIONS_MAX}
use Rattle.nut_conf.specs.Settings.{Description}
use Rattle.nut_conf.specs.Descriptions.{description_rule}
use Rattle.nut_conf.proofs.DescriptionLemmas.{any-is, length-set, set_in, set-insert}
use Rattle.nut_conf.proofs.SlotLemmas.{accepts-forbidden, accepts-more, is_read}
use Rattle.nut_conf.proofs.SectionLemmas.{insert-few}
use Rattle.nut_conf.proofs.texts.Texts.put.Goals as goal

pub invariant_of-self : goal.invariant_of-self
invariant_of-self c = record {
  few = insert-few c.insert.result c.args.self.now.by_name.entries c.insert.new.self.entries DESCRIPTIONS_MAX c.insert.ensures.len c.insert.ensures.err (c.in_ok-check_new.ensures {u = tt}).1;
}

pub returns-in_err-check_new : goal.returns-in_err-check_new
returns-in_err-check_new c =
    let map = c.args.self.now.by_name in
    let name = c.in_ok-described.described.name in
    let text = c.in_ok-described.described.text in
    let p = err_from_is_err_and c.from_residual-in_err-check_new.result c.from_residual-in_err-check_new.ensures.1 in
    rw (p.1, p.2) (accepts-forbidden description_rule (set_in map.entries) c.args.line.now.words (Description name.bytes.items text.bytes.items) c.in_ok-described.ensures.reads _ _ DESCRIPTIONS_MAX
    (any-is map name text.bytes.items) (sym (length-set map.entries)) refl _ (c.in_err-check_new.ensures {u = tt}))

pub returns-in_err-insert : goal.returns-in_err-insert
returns-in_err-insert c =
    let map = c.args.self.now.by_name in
    let name = c.in_ok-described.described.name in
    let text = c.in_ok-described.described.text in
    let same = length-set map.entries in
    let admits = c.in_ok-check_new.ensures {u = tt} in
    let p = err_from_is_err_and c.from_residual-in_err-insert.result c.from_residual-in_err-insert.ensures.1 in
    rw (p.1, p.2) (is_read _ _ (accepts-more description_rule (set_in map.entries) c.args.line.now.words (Description name.bytes.items text.bytes.items) c.in_ok-described.ensures.reads
    (sym (any-is map name text.bytes.items) ∙ admits.0) (lt-leb DESCRIPTIONS_MAX (length (set_in map.entries)) (omega (arith, same, admits.1)))))

pub returns : goal.returns
returns c =
    let map = c.args.self.now.by_name in
    let name = c.in_ok-described.described.name in
    let text = c.in_ok-described.described.text in
    let same = length-set map.entries in
    let admits = c.in_ok-check_new.ensures {u = tt} in
    accepts-more description_rule (set_in map.entries) c.args.line.now.words (Description name.bytes.items text.bytes.items) c.in_ok-described.ensures.reads
    (sym (any-is map name text.bytes.items) ∙ admits.0) (lt-leb DESCRIPTIONS_MAX (length (set_in map.entries)) (omega (arith, same, admits.1)))
    ∙ ap (λ ss. Ok ss) (sym (set-insert map name text admits.0 _ c.in_ok-insert.ensures.entries))
