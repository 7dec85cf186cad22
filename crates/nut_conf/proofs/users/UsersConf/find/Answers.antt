use Rattle.std.proofs.Common.{sym}
use Rattle.nut_conf.specs.Sections.{is_named}
use Rattle.nut_conf.proofs.NameLookup.{is_named-no, lookup-no}
use Rattle.nut_conf.proofs.users.UsersConf.find.Goals as goal

pub returns-in-Err : goal.returns-in-Err
returns-in-Err c =
    let word = c.args.name.now in
    sym (lookup-no (is_named word) c.args.self.now.users.by_name.entries (is_named-no word c.in-Err.field-0 (c.in-Err.ensures.reads)))
