use Rattle.nut_poll.specs.inside.TurnLaws.{turns_self}
use Rattle.nut_upsmon.proofs.guarded_world.MioMonWorldGuardGuardedWorld.change.Goals as goal

pub returns-clause-turns : goal.returns-clause-turns
returns-clause-turns g c = turns_self c.args.self.now.links.rounds
