use Rattle.std.proofs.Common.{map, sym, ap, ◌∙◌}
use Rattle.std.specs.List.{list_any}
use Rattle.nut_conf.specs.Settings.{distinct}
use Rattle.nut_conf.proofs.SlotLemmas.{accepts-clash, list_any-map, puts-pushed}
use Rattle.nut_conf.specs.inside.Misreads.{bare}
use Rattle.nut_conf.proofs.slot.listed_apart.Goals as goal

pub returns-then-clashes_with_any-clause-puts : goal.returns-then-clashes_with_any-clause-puts
returns-then-clashes_with_any-clause-puts g c =
    let view = g.T.FromValues.setting in
    let items = c.args.slot.now.items in
    rw c.of_word.ensures (accepts-clash (distinct g.T.Clashes.clashes c.args.most c.args.form g.T.FromValues.reads) (map view items) c.args.line.now.words (view c.in_ok-value.value) c.in_ok-value.ensures.reads
    (list_any-map (g.T.Clashes.clashes (view c.in_ok-value.value)) view items ∙ ap (list_any (λ x. g.T.Clashes.clashes (view c.in_ok-value.value) (view x))) (sym c.as_slice.ensures.value) ∙ sym (c.if-clashes_with_any.ensures {u = tt})))

pub returns-clause-puts : goal.returns-clause-puts
returns-clause-puts g c =
    let view = g.T.FromValues.setting in
    let items = c.args.slot.now.items in
    puts-pushed view (distinct g.T.Clashes.clashes c.args.most c.args.form g.T.FromValues.reads) items c.in_ok-value.value c.args.line.now.words c.in_ok-value.ensures.reads
    (list_any-map (g.T.Clashes.clashes (view c.in_ok-value.value)) view items ∙ ap (list_any (λ x. g.T.Clashes.clashes (view c.in_ok-value.value) (view x))) (sym c.as_slice.ensures.value) ∙ sym (c.if-clashes_with_any.ensures {u = tt}))
    c.push_within.new.list.items (bare c.push_within.result) c.push_within.ensures.pushed
