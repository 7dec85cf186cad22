use Rattle.nut_server.proofs.FromFiles.{ups-there}
use Rattle.nut_server.proofs.config.Config.ups_at.Goals as goal

pub returns : goal.returns
returns c = rw (← c.self.view_is) (
    ups-there c.self.inside.ups.ups.by_name.entries c.args.u c.in-Some.name.now.bytes.items c.as_bytes.result.now c.driver.result.now c.desc.result.now c.in-Some-get.entry.now
    c.in-Some.ensures c.in-Some-get.ensures c.as_bytes.ensures.value c.driver.ensures.value c.desc.ensures.value)
