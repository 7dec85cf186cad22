use Rattle.nut_server.proofs.Arrives.{fits_of}
use Rattle.nut_server.proofs.server.Server.next_unsettled.Goals as goal

pub returns-clause-fits : goal.returns-clause-fits
returns-clause-fits c =
    let parts = c.self-inside.inside.0.0 in
    fits_of parts.opened c.args.least parts.connections c.first_unsettled.result c.self-inside.invariant.up_to c.self-inside.invariant.few c.first_unsettled.ensures
