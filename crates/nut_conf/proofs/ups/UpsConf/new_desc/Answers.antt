use Rattle.std.proofs.Common.{◌≡◌, Ok, sym, ◌∙◌, subst, arith}
use Rattle.std.proofs.lemmas.Grind.{common_steps}
use Rattle.nut_conf.specs.Faults.{Reads}
use Rattle.nut_words.specs.declared.limits.TheConstants.{UPS_NAME_MAX}
use Rattle.nut_conf.specs.Values.{text, name as read_name}
use Rattle.nut_conf.specs.Ups.{shown, shown_in, with_ups}
use Rattle.nut_conf.specs.inside.Upses.{and_ups}
use Rattle.nut_conf.specs.declared.limits.TheConstants.{DESCRIPTION_MAX}
use Rattle.nut_conf.proofs.SlotLemmas.{length-map}
use Rattle.nut_conf.proofs.AddedUps.{text-short, any-is, with_ups-repeated, with_ups-unreadable, with_ups-ok, reads-made, on-ok}
use Rattle.nut_conf.proofs.NameLookup.{reads_named}
use Rattle.nut_conf.proofs.ups.UpsConf.new_desc.Goals as goal

pub returns-then-desc-gt-DESCRIPTION_MAX-clause-reads : goal.returns-then-desc-gt-DESCRIPTION_MAX-clause-reads
returns-then-desc-gt-DESCRIPTION_MAX-clause-reads c =
    let name = c.args.name.now in
    let named : read_name UPS_NAME_MAX name.bytes.items ≡ Ok name.bytes.items = reads_named UPS_NAME_MAX name.bytes.items name.named in
    grind (arith, common_steps)

pub returns-then-contains_key-clause-reads : goal.returns-then-contains_key-clause-reads
returns-then-contains_key-clause-reads c =
    let map = c.args.self.now.ups.by_name in
    let name = c.args.name.now in
    let desc = c.args.desc.now in
    with_ups-repeated (shown_in c.args.self.now) name.bytes.items name.bytes.items desc desc (reads_named UPS_NAME_MAX name.bytes.items name.named) (text-short desc (omega arith)) (omega (arith, length-map shown map.entries, c.len.ensures.len))
    (sym (c.if-contains_key.ensures {u = tt} ∙ any-is map name))

pub returns-then-not-are_printing-clause-reads : goal.returns-then-not-are_printing-clause-reads
returns-then-not-are_printing-clause-reads c =
    let map = c.args.self.now.ups.by_name in
    let name = c.args.name.now in
    let desc = c.args.desc.now in
    with_ups-unreadable (shown_in c.args.self.now) name.bytes.items name.bytes.items desc desc (reads_named UPS_NAME_MAX name.bytes.items name.named) (text-short desc (omega arith)) (omega (arith, length-map shown map.entries, c.len.ensures.len))
    (sym (c.if-contains_key.ensures {u = tt} ∙ any-is map name)) (sym (c.if-not-are_printing.ensures {u = tt}))

pub returns-clause-reads : goal.returns-clause-reads
returns-clause-reads c =
    let before = shown_in c.args.self.now in
    let map = c.args.self.now.ups.by_name in
    let name = c.args.name.now in
    let desc = c.args.desc.now in
    let short : text 0 DESCRIPTION_MAX desc ≡ Ok desc = text-short desc (omega arith) in
    reads-made (and_ups before name.bytes.items) (with_ups before name.bytes.items desc) desc c.read.result (subst (Reads (λ t. t.bytes.items) c.read.result) short c.read.ensures.reads)
    (with_ups-ok before name.bytes.items name.bytes.items desc desc (reads_named UPS_NAME_MAX name.bytes.items name.named) short (omega (arith, length-map shown map.entries, c.len.ensures.len))
    (sym (c.if-contains_key.ensures {u = tt} ∙ any-is map name)) (sym (c.if-not-are_printing.ensures {u = tt})))

pub returns-clause-room : goal.returns-clause-room
returns-clause-room c = on-ok c.read.result (omega (arith, c.len.ensures.len))

pub returns-clause-unnamed : goal.returns-clause-unnamed
returns-clause-unnamed c = on-ok c.read.result (sym (c.if-contains_key.ensures {u = tt} ∙ any-is c.args.self.now.ups.by_name c.args.name.now))
