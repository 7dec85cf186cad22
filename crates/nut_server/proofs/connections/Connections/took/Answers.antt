use Rattle.std.proofs.Common.{arith, refl, ap, ◌∙◌, drop}
use Rattle.slab.specs.Slab.{with_value}
use Rattle.nut_server.specs.declared.connections.Connections.TheInside.{Inside}
use Rattle.nut_server.specs.inside.Inside.{numbers_of}
use Rattle.nut_server.specs.inside.Entries.{sessions_of}
use Rattle.nut_server.proofs.Places.{written}
use Rattle.nut_server.proofs.Entries.{as_many, entry_read, entry_changed, marked_so, numbers-set, session_there}
use Rattle.nut_server.proofs.connections.Connections.took.Goals as goal

pub index-key-requires : goal.index-key-requires
index-key-requires c = omega (arith, as_many c.self.inside.slots c.self.inside.order.items c.args.self.now c.self.invariant.named c.self.view_is, c.self.inside.order.ok, c.requires.within)

pub index_mut-taker-requires : goal.index_mut-taker-requires
index_mut-taker-requires c = (entry_read c.self.inside c.args.self.now c.args.at c.index-key.result.now c.self.invariant c.self.view_is c.requires.within c.index-key.ensures).found

pub took-requires : goal.took-requires
took-requires c = c.requires.waits c.index_mut-taker.result.now (session_there c.self.inside c.args.self.now c.args.at c.index-key.result.now c.index_mut-taker.result.now c.self.invariant c.self.view_is (entry_read c.self.inside c.args.self.now c.args.at c.index-key.result.now c.self.invariant c.self.view_is c.requires.within c.index-key.ensures) c.index_mut-taker.ensures.value)

pub mark-requires-clause-within : goal.mark-requires-clause-within
mark-requires-clause-within c = omega (arith, as_many c.self.inside.slots c.self.inside.order.items c.args.self.now c.self.invariant.named c.self.view_is, c.requires.within)

pub invariant_of-self : goal.invariant_of-self
invariant_of-self c =
    let read = entry_read c.self.inside c.args.self.now c.args.at c.index-key.result.now c.self.invariant c.self.view_is c.requires.within c.index-key.ensures in
    let after : Inside = record { slots = with_value c.self.inside.slots c.index-key.result.now.slot c.took.new.self; order = c.mark.new.order; unsettled = c.mark.new.count } in
    let change = entry_changed c.self.inside after c.args.at c.index-key.result.now c.index_mut-taker.result.now c.took.new.self
    c.self.invariant read c.index_mut-taker.ensures.value (ap (λ k. k.number) c.took.ensures) (marked_so c.self.inside after c.args.at c.index-key.result.now c.took.new.self c.is_unsettled-unsettled.result read refl c.is_unsettled-unsettled.ensures c.mark.ensures.items c.mark.ensures.counted c.mark.ensures.capacity) in
    change.entries

pub returns-clause-items : goal.returns-clause-items
returns-clause-items c =
    let read = entry_read c.self.inside c.args.self.now c.args.at c.index-key.result.now c.self.invariant c.self.view_is c.requires.within c.index-key.ensures in
    let after : Inside = record { slots = with_value c.self.inside.slots c.index-key.result.now.slot c.took.new.self; order = c.mark.new.order; unsettled = c.mark.new.count } in
    let change = entry_changed c.self.inside after c.args.at c.index-key.result.now c.index_mut-taker.result.now c.took.new.self
    c.self.invariant read c.index_mut-taker.ensures.value (ap (λ k. k.number) c.took.ensures) (marked_so c.self.inside after c.args.at c.index-key.result.now c.took.new.self c.is_unsettled-unsettled.result read refl c.is_unsettled-unsettled.ensures c.mark.ensures.items c.mark.ensures.counted c.mark.ensures.capacity) in
    rw (← c.self.view_is) (λ c' stands. change.written ∙ written c' (λ k. record k { waits = drop c.args.n k.waits }) (sessions_of c.self.inside.slots c.self.inside.order.items) c.args.at c.index_mut-taker.result.now c.took.new.self stands change.read c.took.ensures)

pub returns-clause-numbers : goal.returns-clause-numbers
returns-clause-numbers c =
    let read = entry_read c.self.inside c.args.self.now c.args.at c.index-key.result.now c.self.invariant c.self.view_is c.requires.within c.index-key.ensures in
    let after : Inside = record { slots = with_value c.self.inside.slots c.index-key.result.now.slot c.took.new.self; order = c.mark.new.order; unsettled = c.mark.new.count } in
    let change = entry_changed c.self.inside after c.args.at c.index-key.result.now c.index_mut-taker.result.now c.took.new.self
    c.self.invariant read c.index_mut-taker.ensures.value (ap (λ k. k.number) c.took.ensures) (marked_so c.self.inside after c.args.at c.index-key.result.now c.took.new.self c.is_unsettled-unsettled.result read refl c.is_unsettled-unsettled.ensures c.mark.ensures.items c.mark.ensures.counted c.mark.ensures.capacity) in
    rw (← c.self.view_is) (ap numbers_of change.written ∙ numbers-set (sessions_of c.self.inside.slots c.self.inside.order.items) c.args.at c.index_mut-taker.result.now c.took.new.self change.read (ap (λ k. k.number) c.took.ensures))
