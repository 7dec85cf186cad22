use Rattle.std.proofs.Common.{rules, ◌<◌, ◌-◌, ◌^◌, sym, ◌∙◌, ap, subst}
use Rattle.nut_server_loop.specs.Record.{is_reload, tells_next}
use Rattle.nut_server_loop.proofs.Arrivals.{reload_waits}
use Rattle.nut_server_loop.proofs.Steps.{at_err}
use Rattle.nut_server_loop.proofs.serving.turn.Goals as goal

pub hand_on-requires : goal.hand_on-requires
hand_on-requires g c = λ _ within. (within, (subst (λ n. n < 2 ^ 64 - 1) (sym c.in_ok-next.ensures.counted) c.requires.1.0, (search rules, (c.in_ok-next.ensures.none_late, (_, c.requires.1.1.0, c.in_ok-next.ensures.ok)))))

pub returns-in_ok-reload-in-Reload-clause-goes : goal.returns-in_ok-reload-in-Reload-clause-goes
returns-in_ok-reload-in-Reload-clause-goes g c =
    let goes = c.in_ok-reload-in-Reload.ensures.goes (record { first = g.since.first; start = c.args.world.now })
    (_, c.requires.1.1.0, c.in_ok-next.ensures.ok ∙ ap (λ n. tells_next n c.next.new.piece.items (g.W.World.log c.args.world.now)) c.in-Reload.is)
    (reload_waits _ c.next.new.piece.items (ap is_reload c.in-Reload.is) c.in_ok-next.ensures.awaits)
    in
    record {
      ok = goes.ok;
      err = search rules;
      counted = goes.counted ∙ c.in_ok-next.ensures.counted;
      reached = g.met.W.World.reached_on _ _ _ c.requires.1.1.1.0 goes.reached;
    }

pub returns-in_err-reload-in-Reload-clause-goes : goal.returns-in_err-reload-in-Reload-clause-goes
returns-in_err-reload-in-Reload-clause-goes g c =
    let goes = c.in_err-reload-in-Reload.ensures.goes (record { first = g.since.first; start = c.args.world.now })
    (_, c.requires.1.1.0, c.in_ok-next.ensures.ok ∙ ap (λ n. tells_next n c.next.new.piece.items (g.W.World.log c.args.world.now)) c.in-Reload.is)
    (reload_waits _ c.next.new.piece.items (ap is_reload c.in-Reload.is) c.in_ok-next.ensures.awaits)
    in
    record {
      ok = search rules;
      err = at_err _ g.since.first _ _ _ goes.err.1;
      counted = search rules;
      reached = g.met.W.World.reached_on _ _ _ c.requires.1.1.1.0 goes.reached;
    }

pub returns-in_ok-hand_on-in_default-clause-goes : goal.returns-in_ok-hand_on-in_default-clause-goes
returns-in_ok-hand_on-in_default-clause-goes g c =
    let goes = c.in_ok-hand_on-in_default.ensures.goes c.args.world.now c.in_ok-next.ensures.awaits in
    record {
      ok = goes.ok;
      err = search rules;
      counted = goes.counted ∙ c.in_ok-next.ensures.counted;
      reached = g.met.W.World.reached_on _ _ _ c.requires.1.1.1.0 goes.reached;
    }

pub returns-in_err-hand_on-in_default-clause-goes : goal.returns-in_err-hand_on-in_default-clause-goes
returns-in_err-hand_on-in_default-clause-goes g c =
    let goes = c.in_err-hand_on-in_default.ensures.goes c.args.world.now c.in_ok-next.ensures.awaits in
    record {
      ok = search rules;
      err = at_err _ g.since.first _ _ _ goes.err.1;
      counted = search rules;
      reached = g.met.W.World.reached_on _ _ _ c.requires.1.1.1.0 goes.reached;
    }
