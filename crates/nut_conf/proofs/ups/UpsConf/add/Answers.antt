use Rattle.std.proofs.Common.{Ok, sym, ap, ◌∙◌}
use Rattle.std.proofs.lemmas.Result.{err_from_is_err_and}
use Rattle.nut_words.specs.declared.limits.TheConstants.{UPS_NAME_MAX}
use Rattle.nut_conf.specs.Ups.{shown_in, with_ups}
use Rattle.nut_conf.specs.declared.limits.TheConstants.{UPSES_MAX}
use Rattle.nut_conf.proofs.AddedUps.{any-is, shown-insert, fails-with}
use Rattle.nut_conf.proofs.SectionLemmas.{name-same, insert-few}
use Rattle.nut_conf.proofs.SlotLemmas.{is_read}
use Rattle.nut_conf.proofs.ups.UpsConf.add.Goals as goal

pub invariant_of-self : goal.invariant_of-self
invariant_of-self c = record {
  few = insert-few c.insert.result c.args.self.now.ups.by_name.entries c.insert.new.self.entries UPSES_MAX c.insert.ensures.len c.insert.ensures.err c.in_ok-desc.ensures.room;
}

pub returns-in_err-desc-clause-added : goal.returns-in_err-desc-clause-added
returns-in_err-desc-clause-added c =
    let is = name-same UPS_NAME_MAX c.args.name.now c.in_ok-name.name.bytes.items (c.in_ok-name.ensures.reads) in
    let p = err_from_is_err_and c.from_residual-in_err-desc.result c.from_residual-in_err-desc.ensures.1 in
    rw (p.1, p.2) (fails-with _ _ (ap (λ n. with_ups (shown_in c.args.self.now) n c.args.desc.now) (sym is) ∙ c.in_err-desc.ensures.reads))

pub returns-in_err-insert-clause-memory : goal.returns-in_err-insert-clause-memory
returns-in_err-insert-clause-memory c = λ _.
    let is = name-same UPS_NAME_MAX c.args.name.now c.in_ok-name.name.bytes.items (c.in_ok-name.ensures.reads) in
    is_read _ _ (ap (λ n. with_ups (shown_in c.args.self.now) n c.args.desc.now) (sym is) ∙ c.in_ok-desc.ensures.reads)

pub returns-clause-added : goal.returns-clause-added
returns-clause-added c =
    let map = c.args.self.now.ups.by_name in
    let name = c.in_ok-name.name in
    let is = name-same UPS_NAME_MAX c.args.name.now name.bytes.items (c.in_ok-name.ensures.reads) in
    ap (λ n. with_ups (shown_in c.args.self.now) n c.args.desc.now) (sym is) ∙ c.in_ok-desc.ensures.reads
    ∙ ap Ok (sym (shown-insert map name (any-is map name ∙ c.in_ok-desc.ensures.unnamed) _ _ c.in_ok-insert.ensures.entries))
