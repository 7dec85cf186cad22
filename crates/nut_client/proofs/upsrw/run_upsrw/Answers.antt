use Rattle.nut_client.proofs.upsrw.run_upsrw.Goals as goal

pub returns-in-Some : goal.returns-in-Some
returns-in-Some g c = rw c.in-Some.is c.run.ensures

pub returns-in-None : goal.returns-in-None
returns-in-None g c = rw c.in-None.is c.run_alone.ensures
