use Rattle.std.proofs.Common.{Ok, Err, sym, ap, ◌∙◌}
use Rattle.std.specs.Option.{option_map}
use Rattle.nut_conf.specs.Rows.{row_of}
use Rattle.nut_conf.proofs.DraftLemmas.{takes_line, unknown_line}
use Rattle.nut_conf.proofs.directives.put_line.Goals as goal

pub returns-in-Ok-clause-takes : goal.returns-in-Ok-clause-takes
returns-in-Ok-clause-takes g c = λ before holds.
    let is = ap (row_of g.T.Directives.table g.T.Directives.all) (sym c.directive.ensures) ∙ sym c.named.ensures ∙ ap (option_map (λ r. r.0)) c.in-Some.is in
    takes_line g.T.Directives.table g.T.Directives.all g.met.T.Directives.found c.args.conf.now c.set.new.self c.args.line.now.words c.in-Some.named.0 is before holds
    (Ok tt) c.in-Ok.ensures.puts c.set.ensures.apart

pub returns-in-Err-clause-takes : goal.returns-in-Err-clause-takes
returns-in-Err-clause-takes g c = λ before holds.
    let is = ap (row_of g.T.Directives.table g.T.Directives.all) (sym c.directive.ensures) ∙ sym c.named.ensures ∙ ap (option_map (λ r. r.0)) c.in-Some.is in
    takes_line g.T.Directives.table g.T.Directives.all g.met.T.Directives.found c.args.conf.now c.set.new.self c.args.line.now.words c.in-Some.named.0 is before holds
    (Err c.in-Err.fault.kind) c.in-Err.ensures.puts c.set.ensures.apart

pub returns-in_default-clause-takes : goal.returns-in_default-clause-takes
returns-in_default-clause-takes g c = λ before holds.
    let none = ap (row_of g.T.Directives.table g.T.Directives.all) (sym c.directive.ensures) ∙ sym c.named.ensures ∙ ap (option_map (λ r. r.0)) c.in_default.is in
    rw c.of_word.ensures (unknown_line g.T.Directives.table g.T.Directives.all c.args.line.now.words before none)
