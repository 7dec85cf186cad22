use Rattle.std.proofs.Common.{◌≡◌, refl, rules, subst}
use Rattle.nut_client.specs.inside.Reading.{options_view}
use Rattle.nut_client.specs.Script.{script}
use Rattle.nut_client.specs.Tool.{EndsOver, asks}
use Rattle.nut_client.proofs.tool.run_options.Goals as goal

pub returns : goal.returns
returns g c =
    let ups : c.new-ups.result ≡ (options_view c.args.options).ups = search rules in
    asks (options_view c.args.options) refl c.ask_server-printed.result
    (subst (λ u. EndsOver g.S.Stream.remaining g.S.Stream.taken g.S.Stream.has_ended c.args.stream.now c.ask_server-printed.new.stream (script u c.args.options.wanted) c.ask_server-printed.result) ups (c.ask_server-printed.ensures.ends, c.ask_server-printed.ensures.lost))
    c.tell.ensures
