use Rattle.std.proofs.Common.{◌≡◌, Some, slice_get, nat_eq, true, false, ◌&&◌, arith, below_more, refl, sym, ap, ◌∙◌}
use Rattle.std.specs.Str.{bytes_eq}
use Rattle.std.proofs.lemmas.Bool.{eq-eqb}
use Rattle.std.proofs.lemmas.Option.{slice_get_read, slice_get_within}
use Rattle.std.proofs.lemmas.Slice.Eq.{bytes_eq-Decides}
use Rattle.nut_conf.specs.declared.monitor.Monitored.{Monitored}
use Rattle.nut_upsmon.proofs.changes.line_of.Goals as goal

pub loop-other-preserved : goal.loop-other-preserved
loop-other-preserved c =
    below_more _ _ c.loop-other.invariant (λ other at same.
    let found : slice_get c.args.lines.now c.loop-other.other-index ≡ Some c.other-item.result =
    slice_get_read c.args.lines.now _ c.loop-other.other-index c.other-item.result refl
    (omega (arith, c.loop-other-test.true, c.loop-other.auto.other-index-end)) c.other-item.is in
    let is : other ≡ c.other-item.result = cc in
    let a = c.other-item.result.target in
    let b = c.args.line.now.target in
    let both : a ≡ b = sym (ap (λ (m : Monitored). m.target) is) ∙ same in
    let ups : bytes_eq a.ups.bytes.items b.ups.bytes.items ≡ true = (bytes_eq-Decides _ _).1 (ap (λ t. t.ups.bytes.items) both) in
    let host : bytes_eq a.host.bytes.items b.host.bytes.items ≡ true = (bytes_eq-Decides _ _).1 (ap (λ t. t.host.bytes.items) both) in
    let port : nat_eq a.port.number b.port.number ≡ true = eq-eqb _ _ (ap (λ t. t.port.number) both) in
    let all : (bytes_eq a.ups.bytes.items b.ups.bytes.items && (bytes_eq a.host.bytes.items b.host.bytes.items && nat_eq a.port.number b.port.number)) ≡ true =
    rw (ups, host, port) refl in
    let never : false ≡ true = sym c.if-eq.false ∙ c.eq.ensures ∙ all in
    absurd (cc))

pub returns : goal.returns
returns c = λ none i other at same.
    c.loop-other.invariant i
    (omega (arith, slice_get_within c.args.lines.now i other at, c.loop-other-test.false, c.loop-other.auto.other-index-end)) other at same
