use Rattle.std.specs.Str.{bytes_eq}
use Rattle.indexmap.specs.IndexMap.{keys}
use Rattle.nut_words.specs.declared.limits.TheConstants.{UPS_NAME_MAX}
use Rattle.nut_conf.specs.declared.text.Name.{Name}
use Rattle.nut_conf.proofs.DistinctMap.{distinct_parts}
use Rattle.nut_conf.proofs.ups.UpsConf.names_are_distinct.Goals as goal

pub returns : goal.returns
returns c = distinct_parts (λ (n : Name UPS_NAME_MAX). n.bytes.items) bytes_eq (keys c.args.self.now.ups.by_name) c.len-len.ensures.unique
