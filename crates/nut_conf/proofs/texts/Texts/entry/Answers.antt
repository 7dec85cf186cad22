use Rattle.std.proofs.Common.{sym}
use Rattle.std.specs.Str.{bytes_eq}
use Rattle.nut_words.specs.declared.limits.TheConstants.{NAME_MAX}
use Rattle.nut_conf.proofs.NameLookup.{is_no_name, lookup-no}
use Rattle.nut_conf.proofs.texts.Texts.entry.Goals as goal

pub returns-in-Err : goal.returns-in-Err
returns-in-Err c =
    let word = c.args.name.now in
    sym (lookup-no (λ n. bytes_eq word n.bytes.items) c.args.self.now.by_name.entries (is_no_name NAME_MAX word c.in-Err.field-0 (c.in-Err.ensures.reads)))
