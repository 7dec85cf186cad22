use Rattle.nut_monitor_spec.proofs.Writables.{query_writable}
use Rattle.nut_monitor.proofs.query.request.Goals as goal

pub returns-in-Username-clause-writable : goal.returns-in-Username-clause-writable
returns-in-Username-clause-writable c = query_writable c.args.line.now c.args.query

pub returns-in-Password-clause-writable : goal.returns-in-Password-clause-writable
returns-in-Password-clause-writable c = query_writable c.args.line.now c.args.query

pub returns-in-Login-clause-writable : goal.returns-in-Login-clause-writable
returns-in-Login-clause-writable c = query_writable c.args.line.now c.args.query

pub returns-in-Primary-clause-writable : goal.returns-in-Primary-clause-writable
returns-in-Primary-clause-writable c = query_writable c.args.line.now c.args.query

pub returns-in-Status-clause-writable : goal.returns-in-Status-clause-writable
returns-in-Status-clause-writable c = query_writable c.args.line.now c.args.query

pub returns-in-Fsd-clause-writable : goal.returns-in-Fsd-clause-writable
returns-in-Fsd-clause-writable c = query_writable c.args.line.now c.args.query

pub returns-in-NumLogins-clause-writable : goal.returns-in-NumLogins-clause-writable
returns-in-NumLogins-clause-writable c = query_writable c.args.line.now c.args.query
