use Rattle.nut_conf.proofs.AddedUps.{no-shown}
use Rattle.nut_conf.proofs.ups.UpsConf.new.Goals as goal

pub returns-clause-shown : goal.returns-clause-shown
returns-clause-shown c = no-shown c.new.result.by_name.entries c.new.ensures
