use Rattle.std.proofs.Common.{refl, ◌∙◌}
use Rattle.nut_client.proofs.Hearings.{answered, asking_on, awaits_first, listens_first, unanswered_so, unsent}
use Rattle.nut_client.proofs.conversation.ask_over.Goals as goal

pub returns-in-Err-clause-goes : goal.returns-in-Err-clause-goes
returns-in-Err-clause-goes g c = unsent c.args.request.now c.in-Err.failure c.send.new.link _ _ c.in-Err.ensures.sends refl c.send.ensures.remaining

pub loop-outcome-init : goal.loop-outcome-init
loop-outcome-init g c =
    let sent = c.in_default.ensures.sends in
    record {
      awaits = awaits_first c.args.request.now c.send.new.link sent.1;
      asking = listens_first c.args.request.now c.send.new.link _ _ sent.0 sent.1 refl c.send.ensures.remaining sent.2;
      asked = sent.2;
    }

pub returns-in-Ok-Some-clause-goes : goal.returns-in-Ok-Some-clause-goes
returns-in-Ok-Some-clause-goes g c =
    answered c.args.request.now c.loop-outcome.link c.hear.new.link c.loop-outcome.length c.hear.new.length c.in-Ok-Some.field-0 c.in-Ok-Some.outcome _ _ _
    c.in-Ok-Some.field-0-is c.loop-outcome.invariant.awaits c.loop-outcome.invariant.asking c.in-Ok-Some.ensures.hears

pub loop-outcome-preserved : goal.loop-outcome-preserved
loop-outcome-preserved g c =
    let more = asking_on c.args.request.now c.loop-outcome.link c.hear.new.link c.loop-outcome.length c.hear.new.length c.in-Ok-None.field-0 _ _ _ c.in-Ok-None.field-0-is c.loop-outcome.invariant.awaits c.loop-outcome.invariant.asking c.in-Ok-None.ensures.hears in
    record { awaits = more.1; asking = more.0; asked = c.hear.ensures.hears.taken ∙ c.loop-outcome.invariant.asked }

pub returns-in-Err-hear-clause-goes : goal.returns-in-Err-hear-clause-goes
returns-in-Err-hear-clause-goes g c =
    unanswered_so c.args.request.now c.loop-outcome.link c.hear.new.link c.loop-outcome.length c.hear.new.length c.in-Err-hear.failure _ _ _
    c.loop-outcome.invariant.awaits c.loop-outcome.invariant.asking c.in-Err-hear.ensures.hears
