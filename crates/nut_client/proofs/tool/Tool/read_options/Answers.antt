use Rattle.std.proofs.Common.{Err, Ok, map}
use Rattle.std.proofs.lemmas.Result.{err_from_is_err_and}
use Rattle.nut_client.proofs.Commands.{parsed, read_by, read_ill}
use Rattle.nut_client.proofs.tool.Tool.read_options.Goals as goal

pub returns-in_err-matches : goal.returns-in_err-matches
returns-in_err-matches g c =
    let p = err_from_is_err_and c.from_residual-in_err-matches.result c.from_residual-in_err-matches.ensures.1 in
    let words = map g.W.AsStr.text c.args.words.now in
    rw (p.1, p.2) (read_ill c.args.self words _ (parsed c.args.self _ words (Err _) c.in_ok-command.ensures c.in_err-matches.ensures))

pub returns : goal.returns
returns g c =
    let words = map g.W.AsStr.text c.args.words.now in
    read_by c.args.self words c.in_ok-matches.matches _ _ c.options_of.result (parsed c.args.self _ words (Ok c.in_ok-matches.matches) c.in_ok-command.ensures c.in_ok-matches.ensures)
    c.wanted_in.ensures c.value.ensures c.options_of.ensures
