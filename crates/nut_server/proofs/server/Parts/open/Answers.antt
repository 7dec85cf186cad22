use Rattle.std.proofs.Common.{◌+◌, [], ◌∷◌, length, subst, sym, ap, arith, length-append}
use Rattle.nut_server_spec.specs.laws.Laws.{IsUpTo}
use Rattle.nut_server.specs.inside.Inside.{numbers_of}
use Rattle.nut_server.proofs.Orderly.{IsUpTo-push}
use Rattle.nut_server.proofs.Arrives.{numbers-length}
use Rattle.nut_server.proofs.server.Parts.open.Goals as goal

pub add-requires-clause-above : goal.add-requires-clause-above
add-requires-clause-above c = (c.self.inside.opened, c.self.invariant.up_to, omega (arith, ap (λ k. k.number) c.new.ensures))

pub invariant_of-self : goal.invariant_of-self
invariant_of-self c =
    let more = IsUpTo-push c.self.inside.opened c.new.result c.self.inside.connections c.self.invariant.up_to (ap (λ k. k.number) c.new.ensures) in
    record {
      up_to = subst (λ ks. IsUpTo (c.self.inside.opened + 1) (numbers_of ks)) (sym c.add.ensures) more;
      few = omega (arith, c.if-self-ge-OPENED_MAX.false);
      within = omega (arith, numbers-length c.add.new.self, ap length c.add.ensures, length-append c.self.inside.connections (c.new.result ∷ []), c.if-len-most_connections.false, c.len.ensures.length, c.most_connections.ensures.value, c.most_connections.ensures.most);
      limits = c.self.invariant.limits;
      placed = c.self.invariant.placed;
      places = c.self.invariant.places;
    }
