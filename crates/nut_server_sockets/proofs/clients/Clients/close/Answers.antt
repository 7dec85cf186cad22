use Rattle.std.proofs.Common.{◌≡◌, get_or, sym, subst}
use Rattle.std.proofs.lemmas.List.{get_or_read}
use Rattle.nut_server_sockets.specs.inside.Keys.{AreApart, AreNamed}
use Rattle.nut_server_sockets.proofs.SeatLemmas.{named_left, apart_left}
use Rattle.nut_server_sockets.proofs.clients.Clients.close.Goals as goal

pub invariant_of-self-in-Break-branch-3 : goal.invariant_of-self-in-Break-branch-3
invariant_of-self-in-Break-branch-3 c =
    let old = c.args.self.now in
    let keys = old.keys.items in
    let new = c.try_remove.new.self in
    let at = c.in_ok-place.place in
    let entry = c.remove-key.result in
    let within = c.in_ok-place.ensures.within in
    let is : entry ≡ get_or keys at (0, 0) = get_or_read keys at entry within c.remove-key.ensures.value (0, 0) in
    record {
      named = subst (λ left. AreNamed left new) (sym c.remove-key.ensures.items) (named_left keys old.sockets new at entry old.named old.apart within is c.try_remove.ensures.updates);
      apart = subst AreApart (sym c.remove-key.ensures.items) (apart_left keys at old.apart within);
    }

pub invariant_of-self-2 : goal.invariant_of-self-2
invariant_of-self-2 c =
    let old = c.args.self.now in
    let keys = old.keys.items in
    let new = c.try_remove.new.self in
    let at = c.in_ok-place.place in
    let entry = c.remove-key.result in
    let within = c.in_ok-place.ensures.within in
    let is : entry ≡ get_or keys at (0, 0) = get_or_read keys at entry within c.remove-key.ensures.value (0, 0) in
    record {
      named = subst (λ left. AreNamed left new) (sym c.remove-key.ensures.items) (named_left keys old.sockets new at entry old.named old.apart within is c.try_remove.ensures.updates);
      apart = subst AreApart (sym c.remove-key.ensures.items) (apart_left keys at old.apart within);
    }
