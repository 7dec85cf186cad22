use Rattle.std.proofs.Common.{rules, arith, [], refl, sym, ◌∙◌, ap, subst}
use Rattle.std.proofs.lemmas.List.{at_drop_all}
use Rattle.nut_server_loop.specs.Served.{to_close}
use Rattle.nut_server_loop.specs.inside.Going.{Serving}
use Rattle.nut_server_loop.proofs.Steps.{at_err, stays}
use Rattle.nut_server_loop.proofs.Writes.{closed_next}
use Rattle.nut_server_loop.proofs.serving.close_ended.Goals as goal

pub loop-u-preserved : goal.loop-u-preserved
loop-u-preserved g c = record {
  same_count = c.in_ok-close_driver.ensures.step.counted ∙ c.loop-u.invariant.same_count;
  served = λ first s before. closed_next first _ _ _ _ s (λ us. to_close us c.args.ended.now.connections.items) _ _ c.loop-u.u-index c.loop-u-test.true refl (c.loop-u.invariant.served first s before) c.in_ok-close_driver.ensures.step.ok c.in_ok-close_driver.ensures.late;
  reached = g.met.W.World.reached_on _ _ _ c.loop-u.invariant.reached c.in_ok-close_driver.ensures.step.reached;
}

pub loop-c-preserved : goal.loop-c-preserved
loop-c-preserved g c = record {
  same_count = c.in_ok-close.ensures.step.counted ∙ c.loop-c.invariant.same_count;
  served = λ first s before. closed_next first _ _ _ _ s (to_close []) _ _ c.loop-c.c-index c.loop-c-test.true refl (c.loop-c.invariant.served first s before) c.in_ok-close.ensures.step.ok c.in_ok-close.ensures.late;
  reached = g.met.W.World.reached_on _ _ _ c.loop-c.invariant.reached c.in_ok-close.ensures.step.reached;
}

pub returns-in_err-close_driver : goal.returns-in_err-close_driver
returns-in_err-close_driver g c = record {
  goes = λ since s ready.
      record {
        ok = search rules;
        err = at_err _ since.first _ _ _ (stays since.first _ _ _ _ c.in_err-close_driver.ensures.step.err (c.loop-u.invariant.served since.first s ready.served).served);
        counted = search rules;
        reached = g.met.W.World.reached_on _ _ _ ready.reached (g.met.W.World.reached_on _ _ _ c.loop-u.invariant.reached c.in_err-close_driver.ensures.step.reached);
      };
}

pub returns-in_err-close : goal.returns-in_err-close
returns-in_err-close g c = record {
  goes = λ since s ready.
      record {
        ok = search rules;
        err = at_err _ since.first _ _ _ (stays since.first _ _ _ _ c.in_err-close.ensures.step.err (c.loop-c.invariant.served since.first s ready.served).served);
        counted = search rules;
        reached = g.met.W.World.reached_on _ _ _ ready.reached (g.met.W.World.reached_on _ _ _ c.loop-c.invariant.reached c.in_err-close.ensures.step.reached);
      };
}

pub loop-c-init : goal.loop-c-init
loop-c-init g c = record {
  same_count = c.loop-u.invariant.same_count;
  served = λ first s before.
      subst (λ peers. Serving first (g.W.World.log c.loop-u.world) (g.W.World.late c.loop-u.world) s peers)
      (at_drop_all (λ us. to_close us c.args.ended.now.connections.items) _ c.loop-u.u-index (omega (arith, c.loop-u-test.false))
      ∙ ap (λ cs. to_close [] cs) (sym c.as_slice-c-items.ensures.value))
      (c.loop-u.invariant.served first s before);
  reached = c.loop-u.invariant.reached;
}

pub returns : goal.returns
returns g c = record {
  goes = λ since s ready.
      record {
        ok = subst (λ peers. Serving since.first (g.W.World.log c.loop-c.world) (g.W.World.late c.loop-c.world) s peers)
            (at_drop_all (λ cs. to_close [] cs) _ c.loop-c.c-index (omega (arith, c.loop-c-test.false)))
            (c.loop-c.invariant.served since.first s ready.served);
        err = search rules;
        counted = c.loop-c.invariant.same_count;
        reached = g.met.W.World.reached_on _ _ _ ready.reached c.loop-c.invariant.reached;
      };
}
