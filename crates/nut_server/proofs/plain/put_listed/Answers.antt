use Rattle.nut_server.proofs.KeptRows.{list_told}
use Rattle.nut_server.proofs.plain.put_listed.Goals as goal

pub returns : goal.returns
returns c =
    list_told c.args.ups.now c.args.device.now.device c.args.out.now.items c.put_mark.new.out.items c.put_variables.new.out.items c.put_mark-2.new.out.items
    c.in_ok-put_mark.ensures c.in_ok-put_variables.ensures c.in_ok-put_mark-2.ensures
