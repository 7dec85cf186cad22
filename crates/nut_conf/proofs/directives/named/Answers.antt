use Rattle.std.proofs.Common.{ap, ◌∙◌}
use Rattle.std.specs.Option.{option_map}
use Rattle.nut_conf.proofs.Rows.{first_with}
use Rattle.nut_conf.proofs.directives.named.Goals as goal

pub returns-in-Some : goal.returns-in-Some
returns-in-Some g c =
    ap (option_map (λ r. r.1)) c.in-Some.ensures
    ∙ first_with c.rows.result.now g.T.Directives.all (λ r. r.0.now) (λ r. r.1) (λ d. (g.T.Directives.table d).directive.word) c.args.word.now c.rows.ensures

pub returns-in-None : goal.returns-in-None
returns-in-None g c =
    ap (option_map (λ r. r.1)) c.in-None.ensures
    ∙ first_with c.rows.result.now g.T.Directives.all (λ r. r.0.now) (λ r. r.1) (λ d. (g.T.Directives.table d).directive.word) c.args.word.now c.rows.ensures
