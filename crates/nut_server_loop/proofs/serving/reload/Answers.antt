use Rattle.std.proofs.Common.{rules, [], refl, sym, ◌∙◌, ap}
use Rattle.nut_server_spec.specs.Reloading.{drivers_ended, connections_ended}
use Rattle.nut_server_loop.specs.declared.types.Next.TheVariants as next
use Rattle.nut_server_loop.proofs.Steps.{goes_then, nobody_late, stays}
use Rattle.nut_server_loop.proofs.Arrivals.{reload_taken, reload_refused}
use Rattle.nut_server_loop.proofs.serving.reload.Goals as goal

pub returns-then-is_err : goal.returns-then-is_err
returns-then-is_err g c = record {
  goes = λ since before awaits.
      record {
        ok = nobody_late since.first _ _ _ _ (λ p. c.told.ensures.late p ∙ c.requires.none_late p) (stays since.first _ _ _ _ c.told.ensures.log
            (reload_refused since.first _ _ _ (next.Reload c.args.config) [] c.args.config.value _ before refl c.arrive-reloaded.ensures.answered c.arrive-reloaded.ensures.stands
            (sym c.is_err.ensures.value ∙ c.if-is_err.true)));
        err = search rules;
        counted = search rules;
        reached = c.told.ensures.reached _ awaits;
      };
}

pub returns : goal.returns
returns g c = record {
  goes = λ since before awaits.
      let closed = c.close_ended-closed.ensures.goes (record { first = since.first; start = c.args.world.now }) _ (record {
        few = c.requires.few;
        served = nobody_late since.first _ _ _ _ c.requires.none_late (reload_taken since.first _ _ _ (next.Reload c.args.config) [] c.args.config.value _ _ _ before refl c.arrive-reloaded.ensures.answered c.arrive-reloaded.ensures.stands
            (sym c.is_err.ensures.value ∙ c.if-is_err.false)
            (c.ended_by-ended.ensures.drivers ∙ ap (λ k. drivers_ended k c.args.server.now) c.deref.ensures)
            (c.ended_by-ended.ensures.connections ∙ ap (λ k. connections_ended k c.args.server.now) c.deref.ensures));
        reached = g.met.W.World.reached_self _;
      }) in
      goes_then _ _ _ _ _ _ _ _ _ _ _ _ refl closed c.told-2.ensures.log c.told-2.ensures.late c.told-2.ensures.counted refl (c.told-2.ensures.reached _ (g.met.W.World.awaits_on _ _ _ awaits closed.reached));
}
