use Rattle.std.proofs.Common.{map}
use Rattle.nut_conf.specs.Settings.{listed}
use Rattle.nut_conf.proofs.SlotLemmas.{list_any-never, puts-pushed}
use Rattle.nut_conf.specs.inside.Misreads.{bare}
use Rattle.nut_conf.proofs.slot.listed.Goals as goal

pub returns-clause-puts : goal.returns-clause-puts
returns-clause-puts g c =
    let view = g.T.FromValues.setting in
    let items = c.args.slot.now.items in
    puts-pushed view (listed c.args.most c.args.form g.T.FromValues.reads) items c.in_ok-value.value c.args.line.now.words c.in_ok-value.ensures.reads
    (list_any-never (view c.in_ok-value.value) (map view items)) c.push_within.new.list.items (bare c.push_within.result) c.push_within.ensures.pushed
