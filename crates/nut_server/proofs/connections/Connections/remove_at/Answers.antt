use Rattle.std.proofs.Common.{◌-◌, ◌∙◌, arith, subst}
use Rattle.nut_server_spec.specs.laws.Laws.{IsRising}
use Rattle.nut_server.specs.declared.connections.Connections.TheInside.{Inside}
use Rattle.nut_server.specs.inside.Inside.{numbers_of}
use Rattle.nut_server.proofs.Closing.{without_place}
use Rattle.nut_server.proofs.Entries.{as_many, counted_in, entry_read, entry_removed, one_less, sessions_rise}
use Rattle.nut_server.proofs.Searching.{stands_by_read}
use Rattle.nut_server.proofs.connections.Connections.remove_at.Goals as goal

pub remove-key-requires : goal.remove-key-requires
remove-key-requires c = omega (arith, as_many c.self.inside.slots c.self.inside.order.items c.args.self.now c.self.invariant.named c.self.view_is, c.self.inside.order.ok, c.requires)

pub remove-requires : goal.remove-requires
remove-requires c = (entry_read c.self.inside c.args.self.now c.args.place c.remove-key.result c.self.invariant c.self.view_is c.requires c.remove-key.ensures.value).found

pub invariant_of-self : goal.invariant_of-self
invariant_of-self c =
    let old = c.self.inside in
    let new : Inside = record { slots = c.remove.new.self; order = c.remove-key.new.self; unsettled = c.self.inside.unsettled - c.count.result } in
    let key = c.remove-key.result in
    let read = entry_read old c.args.self.now c.args.place key c.self.invariant c.self.view_is c.requires c.remove-key.ensures.value in
    let stands = stands_by_read old c.args.self.now c.args.place key c.self.invariant c.self.view_is read in
    (entry_removed old new c.args.self.now c.args.place key key.number c.self.invariant c.self.view_is stands read
    (record { updates = c.remove.ensures.updates; len = c.remove.ensures.len; capacity = c.remove.ensures.capacity; keys = c.remove-key.ensures.items; unsettled = one_less old new c.args.place key c.self.invariant read c.remove-key.ensures.items (omega (arith, c.count.ensures, counted_in old c.args.place key c.self.invariant read)); room = c.remove-key.ensures.capacity })).entries

pub returns-clause-rising : goal.returns-clause-rising
returns-clause-rising c = subst (λ ks. IsRising (numbers_of ks)) c.self.view_is (sessions_rise c.self.inside.slots c.self.inside.order.items c.self.invariant.named c.self.invariant.rising)

pub returns-clause-items : goal.returns-clause-items
returns-clause-items c =
    let old = c.self.inside in
    let new : Inside = record { slots = c.remove.new.self; order = c.remove-key.new.self; unsettled = c.self.inside.unsettled - c.count.result } in
    let key = c.remove-key.result in
    let read = entry_read old c.args.self.now c.args.place key c.self.invariant c.self.view_is c.requires c.remove-key.ensures.value in
    let stands = stands_by_read old c.args.self.now c.args.place key c.self.invariant c.self.view_is read in
    (entry_removed old new c.args.self.now c.args.place key key.number c.self.invariant c.self.view_is stands read
    (record { updates = c.remove.ensures.updates; len = c.remove.ensures.len; capacity = c.remove.ensures.capacity; keys = c.remove-key.ensures.items; unsettled = one_less old new c.args.place key c.self.invariant read c.remove-key.ensures.items (omega (arith, c.count.ensures, counted_in old c.args.place key c.self.invariant read)); room = c.remove-key.ensures.capacity })).sessions
    ∙ without_place key.number c.args.self.now c.args.place (subst (λ ks. IsRising (numbers_of ks)) c.self.view_is (sessions_rise old.slots old.order.items c.self.invariant.named c.self.invariant.rising)) stands.place
