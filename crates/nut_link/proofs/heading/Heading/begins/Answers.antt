use Rattle.std.proofs.Common.{rules, ◌≡◌, ◌<◌, false, length, get_or, [], bytes_eq, sym, ap, ◌∙◌, arith}
use Rattle.std.proofs.lemmas.Bool.{not-true}
use Rattle.nut_link.proofs.Headings.{begins_short, begins_other}
use Rattle.nut_link.proofs.heading.Heading.begins.Goals as goal

pub returns-then-len : goal.returns-then-len
returns-then-len c = begins_short c.args.self.now c.args.words.now (search rules)

pub returns-then-ne : goal.returns-then-ne
returns-then-ne c =
    let i = c.loop-name.name-index in
    let name = c.name-item.result in
    let word = c.get.result.now in
    let here : i < length c.args.self.now = search rules in
    let there : i < length c.args.words.now = omega (arith, here, c.if-len.false, c.len.ensures, c.len-2.ensures) in
    let is : name ≡ get_or c.args.self.now i name = search rules in
    let was : word ≡ get_or c.args.words.now i [] = c.get.ensures ∙ ap (λ n. get_or c.args.words.now n []) c.loop-name.invariant.place in
    let other : bytes_eq name word ≡ false = ap (λ n. bytes_eq n word) (sym c.as_bytes.ensures) ∙ not-true _ (sym c.ne.ensures ∙ c.if-ne.true) in
    begins_other c.args.self.now c.args.words.now i name word here there is was other ∙ sym c.loop-name.invariant.so_far
