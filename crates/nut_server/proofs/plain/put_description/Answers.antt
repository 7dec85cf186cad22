use Rattle.std.proofs.Common.{◌++◌, ap, ◌∙◌}
use Rattle.nut_words.specs.Quoting.{quoted}
use Rattle.nut_server.proofs.KeptRows.{described_told}
use Rattle.nut_server.proofs.plain.put_description.Goals as goal

pub returns : goal.returns
returns c =
    described_told c.args.ups.now c.args.found c.in-Some.found c.args.out.now.items c.put_front.new.out.items c.append_quoted.new.out.items c.push.new.self.items
    c.in-Some.is c.in_ok-put_front.ensures (c.in_ok-append_quoted.ensures.ok ∙ ap (λ text. c.put_front.new.out.items ++ text) (ap quoted (ap (λ u. u.description) c.found.view_is))) c.in_ok-push.ensures.items
