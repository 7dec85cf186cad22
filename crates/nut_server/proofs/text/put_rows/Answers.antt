use Rattle.std.proofs.lemmas.List.Folds.{flat_map-map}
use Rattle.nut_server.proofs.RowTexts.{writable_rows, client_rows}
use Rattle.nut_server.proofs.text.put_rows.Goals as goal

pub returns-in-Upses : goal.returns-in-Upses
returns-in-Upses c = rw (c.in-Upses.is, flat_map-map) c.put_upses.ensures

pub returns-in-Variables : goal.returns-in-Variables
returns-in-Variables c = rw (c.in-Variables.is, flat_map-map) c.put_variables.ensures

pub returns-in-Writable : goal.returns-in-Writable
returns-in-Writable c =
    let d = c.in-Writable.device.now.device in
    rw (c.in-Writable.is, ← writable_rows c.in-Writable.ups.now d d.table.variables) c.put_writables.ensures

pub returns-in-Commands : goal.returns-in-Commands
returns-in-Commands c = rw (c.in-Commands.is, flat_map-map) c.put_commands.ensures

pub returns-in-Enums : goal.returns-in-Enums
returns-in-Enums c = rw (c.in-Enums.is, flat_map-map) c.put_enums.ensures

pub returns-in-Ranges : goal.returns-in-Ranges
returns-in-Ranges c = rw (c.in-Ranges.is, flat_map-map) c.put_ranges.ensures

pub returns-in-Clients : goal.returns-in-Clients
returns-in-Clients c =
    rw (c.in-Clients.is, ← client_rows c.in-Clients.ups.now c.in-Clients.u c.in-Clients.connections.now) c.put_clients.ensures
