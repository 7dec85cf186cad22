use Rattle.std.proofs.Common.{ap, sym, ◌∙◌, length, take, is_some, arith, length-drop}
use Rattle.nut_server_spec.specs.Acceptance.{session_of, waiting_of}
use Rattle.nut_server_spec.specs.Content.{Content}
use Rattle.nut_server_spec.specs.Event.{Took}
use Rattle.nut_server_spec.specs.machine.Machine.{advance}
use Rattle.nut_server_spec.proofs.Others.{advance-took}
use Rattle.nut_fleet.specs.machine.Going.{put_on}
use Rattle.nut_play.proofs.Takes.{took-twice, took-none, still-open, one-more, put-none}
use Rattle.nut_play.proofs.link.take_some.Goals as goal

pub loop-moved-init : goal.loop-moved-init
loop-moved-init c = record {
  within = omega arith;
  server = sym (took-none c.args.server.now c.args.c);
  pipe = sym (put-none c.args.linked c.args.pipe.now.items);
}

pub take_front-requires-clause-up : goal.take_front-requires-clause-up
take_front-requires-clause-up c =
    ap (λ (s : Content). is_some (session_of c.args.c s.sessions)) c.loop-moved.invariant.server
    ∙ still-open c.args.server.now c.args.c c.loop-moved.moved ∙ c.requires.up

pub take_front-requires-clause-within : goal.take_front-requires-clause-within
take_front-requires-clause-within c =
    let left = ap (λ (s : Content). length (waiting_of c.args.c s.sessions)) c.loop-moved.invariant.server
    ∙ ap length (advance-took c.args.server.now c.args.c c.loop-moved.moved)
    ∙ length-drop c.loop-moved.moved (waiting_of c.args.c c.args.server.now.sessions) in
    let all = c.requires.within in
    omega (arith, left, all)

pub loop-moved-preserved : goal.loop-moved-preserved
loop-moved-preserved c =
    let k = c.in_ok-moved.field-0 in
    record {
      within = let few = c.in_ok-moved.ensures.few in let less = c.loop-moved-test.true in omega (arith, few, less);
      server = c.in_ok-moved.ensures.server ∙ ap (λ s. advance s (Took c.args.c c.in_ok-moved.field-0)) c.loop-moved.invariant.server
          ∙ took-twice c.args.server.now c.args.c c.loop-moved.moved k;
      pipe = c.in_ok-moved.ensures.pipe
          ∙ ap (put_on c.args.linked (take c.in_ok-moved.field-0 (waiting_of c.args.c c.loop-moved.server.sessions))) c.loop-moved.invariant.pipe
          ∙ ap (λ (s : Content). put_on c.args.linked (take c.in_ok-moved.field-0 (waiting_of c.args.c s.sessions)) (put_on c.args.linked (take c.loop-moved.moved (waiting_of c.args.c c.args.server.now.sessions)) c.args.pipe.now.items)) c.loop-moved.invariant.server
          ∙ ap (λ ws. put_on c.args.linked (take c.in_ok-moved.field-0 ws) (put_on c.args.linked (take c.loop-moved.moved (waiting_of c.args.c c.args.server.now.sessions)) c.args.pipe.now.items)) (advance-took c.args.server.now c.args.c c.loop-moved.moved)
          ∙ one-more c.args.linked c.loop-moved.moved k (waiting_of c.args.c c.args.server.now.sessions) c.args.pipe.now.items;
    }
