use Rattle.std.proofs.Common.{◌≤◌, sym, subst, arith}
use Rattle.nut_words.specs.Lines.{LineText, last_of, parts}
use Rattle.nut_words.specs.Cutter.{kept_of}
use Rattle.nut_words.specs.declared.limits.TheConstants.{LINE_MAX}
use Rattle.nut_server_spec.proofs.Bounds.{line-bound}
use Rattle.nut_server.proofs.connection.Connection.kept.Goals as goal

pub returns-clause-within : goal.returns-clause-within
returns-clause-within c =
    let few : kept_of c.self.inside.cutter ≤ LINE_MAX = subst (λ (l : LineText). kept_of l ≤ LINE_MAX) (sym c.self.invariant.1) (line-bound (last_of (parts c.self.invariant.0))) in
    omega (arith, few, c.kept.ensures)
