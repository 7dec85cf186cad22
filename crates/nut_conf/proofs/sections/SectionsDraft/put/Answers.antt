use Rattle.std.proofs.Common.{◌≡◌, suc, length, None, arith, sym}
use Rattle.nut_conf.specs.Sections.{AllHold, section_name, sections}
use Rattle.nut_conf.proofs.SectionLemmas.{takes_opening, takes_inside, last-AllHold}
use Rattle.indexmap.proofs.CallerLemmas.{index_map_len-with_value_at}
use Rattle.nut_conf.specs.inside.Misreads.{bare}
use Rattle.nut_conf.proofs.sections.SectionsDraft.put.Goals as goal

pub returns-in-Some-clause-takes : goal.returns-in-Some-clause-takes
returns-in-Some-clause-takes g c = λ before all.
    takes_opening g.S.Draft.fault g.row.MOST before c.args.line.now.words (bare c.open.result) (AllHold g.S.Draft.Holds c.open.new.self.by_name.entries) c.in-Some.name.now
    (sym (c.in-Some.ensures {u = tt})) (c.open.ensures (sections before) all)

pub returns-in-Some-get_index_mut-clause-takes : goal.returns-in-Some-get_index_mut-clause-takes
returns-in-Some-get_index_mut-clause-takes g c = λ before all.
    let es = c.args.self.now.by_name.entries in
    let at = c.in-Some-checked_sub.last in
    let section = c.in-Some-get_index_mut.section.now in
    let none : section_name c.args.line.now.words ≡ None = sym (c.in_default.ensures {u = tt}) in
    let end : suc at ≡ length es = omega (arith, c.len.ensures.len, c.in-Some-checked_sub.ensures {u = tt}) in
    let l = last-AllHold g.S.Draft.Holds es (sections before) at section end (sym (c.in-Some-get_index_mut.ensures {u = tt}).value) all in
    takes_inside g.S.Draft.fault g.row.MOST before c.args.line.now.words (bare c.put.result) g.S.Draft.Holds es at section c.put.new.self none l (c.put.ensures.takes l.section.1 l.has)

pub invariant_of-self : goal.invariant_of-self
invariant_of-self g c = record {
  few = omega (arith, index_map_len-with_value_at c.args.self.now.by_name c.in-Some-checked_sub.last c.put.new.self, c.args.self.now.few);
}
