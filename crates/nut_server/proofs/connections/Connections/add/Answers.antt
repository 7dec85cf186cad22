use Rattle.std.proofs.Common.{◌+◌, arith, refl, sym, cond}
use Rattle.nut_server.specs.declared.connections.Key.{Key}
use Rattle.nut_server.specs.declared.connections.Connections.TheInside.{Inside}
use Rattle.nut_server.proofs.Entries.{as_many, entry_added, one_more}
use Rattle.nut_server.proofs.connections.Connections.add.Goals as goal

pub insert_reserved-slot-requires : goal.insert_reserved-slot-requires
insert_reserved-slot-requires c = omega (arith, as_many c.self.inside.slots c.self.inside.order.items c.args.self.now c.self.invariant.named c.self.view_is, c.self.invariant.counted, c.self.invariant.room, c.requires.room)

pub push_reserved-requires : goal.push_reserved-requires
push_reserved-requires c = omega (arith, as_many c.self.inside.slots c.self.inside.order.items c.args.self.now c.self.invariant.named c.self.view_is, c.self.inside.order.ok, c.self.invariant.room_for_keys, c.requires.room)

pub invariant_of-self : goal.invariant_of-self
invariant_of-self c =
    let are =
    let key : Key = record { number = c.number-number.result; slot = c.insert_reserved-slot.result; unsettled = c.is_unsettled-unsettled.result } in
    let after : Inside = record { slots = c.insert_reserved-slot.new.self; order = c.push_reserved.new.self; unsettled = c.self.inside.unsettled + cond c.is_unsettled-unsettled.result 1 0 } in
    entry_added c.self.inside after c.args.self.now key c.args.connection c.self.invariant c.self.view_is c.requires.room c.requires.above (sym c.number-number.ensures) (record {
      vacant = c.insert_reserved-slot.ensures.was_vacant;
      updates = c.insert_reserved-slot.ensures.updates;
      len = c.insert_reserved-slot.ensures.len;
      capacity = c.insert_reserved-slot.ensures.capacity;
      keys = c.push_reserved.ensures.items;
      mark = c.is_unsettled-unsettled.ensures;
      unsettled = one_more c.self.inside after key c.self.invariant c.push_reserved.ensures.items refl;
      room = c.push_reserved.ensures.capacity;
    }) in
    rw c.count.ensures are.entries

pub returns : goal.returns
returns c =
    let are =
    let key : Key = record { number = c.number-number.result; slot = c.insert_reserved-slot.result; unsettled = c.is_unsettled-unsettled.result } in
    let after : Inside = record { slots = c.insert_reserved-slot.new.self; order = c.push_reserved.new.self; unsettled = c.self.inside.unsettled + cond c.is_unsettled-unsettled.result 1 0 } in
    entry_added c.self.inside after c.args.self.now key c.args.connection c.self.invariant c.self.view_is c.requires.room c.requires.above (sym c.number-number.ensures) (record {
      vacant = c.insert_reserved-slot.ensures.was_vacant;
      updates = c.insert_reserved-slot.ensures.updates;
      len = c.insert_reserved-slot.ensures.len;
      capacity = c.insert_reserved-slot.ensures.capacity;
      keys = c.push_reserved.ensures.items;
      mark = c.is_unsettled-unsettled.ensures;
      unsettled = one_more c.self.inside after key c.self.invariant c.push_reserved.ensures.items refl;
      room = c.push_reserved.ensures.capacity;
    }) in
    are.sessions
