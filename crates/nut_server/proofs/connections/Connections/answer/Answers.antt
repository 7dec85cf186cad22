use Rattle.std.proofs.Common.{arith, refl, ap, ◌∙◌, ◌++◌, slice_set}
use Rattle.std.proofs.lemmas.List.{set-get_or}
use Rattle.slab.specs.Slab.{with_value}
use Rattle.nut_server.specs.inside.Effects.{affected, said}
use Rattle.nut_server.proofs.Results.{on_ok, if_err}
use Rattle.nut_server.specs.declared.connections.Connections.TheInside.{Inside}
use Rattle.nut_server.specs.inside.Inside.{numbers_of}
use Rattle.nut_server.specs.inside.Entries.{sessions_of}
use Rattle.nut_server.proofs.Places.{written}
use Rattle.nut_server.proofs.Entries.{as_many, entry_read, entry_changed, marked_so, numbers-set}
use Rattle.nut_server.proofs.connections.Connections.answer.Goals as goal

pub index-key-requires : goal.index-key-requires
index-key-requires c = omega (arith, as_many c.self.inside.slots c.self.inside.order.items c.args.self.now c.self.invariant.named c.self.view_is, c.self.inside.order.ok, c.requires)

pub index_mut-connection-requires : goal.index_mut-connection-requires
index_mut-connection-requires c = (entry_read c.self.inside c.args.self.now c.args.at c.index-key.result.now c.self.invariant c.self.view_is c.requires c.index-key.ensures).found

pub mark-requires-clause-within : goal.mark-requires-clause-within
mark-requires-clause-within c = omega (arith, as_many c.self.inside.slots c.self.inside.order.items c.args.self.now c.self.invariant.named c.self.view_is, c.requires)

pub invariant_of-self : goal.invariant_of-self
invariant_of-self c =
    let read = entry_read c.self.inside c.args.self.now c.args.at c.index-key.result.now c.self.invariant c.self.view_is c.requires c.index-key.ensures in
    let after : Inside = record { slots = with_value c.self.inside.slots c.index-key.result.now.slot c.answer-answered.new.self; order = c.mark.new.order; unsettled = c.mark.new.count } in
    let change = entry_changed c.self.inside after c.args.at c.index-key.result.now c.index_mut-connection.result.now c.answer-answered.new.self
    c.self.invariant read c.index_mut-connection.ensures.value (c.answer-answered.ensures.number) (marked_so c.self.inside after c.args.at c.index-key.result.now c.answer-answered.new.self c.is_unsettled-unsettled.result read refl c.is_unsettled-unsettled.ensures c.mark.ensures.items c.mark.ensures.counted c.mark.ensures.capacity) in
    change.entries

pub returns-clause-err : goal.returns-clause-err
returns-clause-err c =
    let read = entry_read c.self.inside c.args.self.now c.args.at c.index-key.result.now c.self.invariant c.self.view_is c.requires c.index-key.ensures in
    let after : Inside = record { slots = with_value c.self.inside.slots c.index-key.result.now.slot c.answer-answered.new.self; order = c.mark.new.order; unsettled = c.mark.new.count } in
    let change = entry_changed c.self.inside after c.args.at c.index-key.result.now c.index_mut-connection.result.now c.answer-answered.new.self
    c.self.invariant read c.index_mut-connection.ensures.value (c.answer-answered.ensures.number) (marked_so c.self.inside after c.args.at c.index-key.result.now c.answer-answered.new.self c.is_unsettled-unsettled.result read refl c.is_unsettled-unsettled.ensures c.mark.ensures.items c.mark.ensures.counted c.mark.ensures.capacity) in
    rw (← c.self.view_is) (if_err c.answer-answered.result _ _ (λ is. change.written ∙ ap (slice_set (sessions_of c.self.inside.slots c.self.inside.order.items) c.args.at) (is ∙ change.read) ∙ set-get_or _ c.args.at c.index_mut-connection.result.now) c.answer-answered.ensures.err)

pub returns-clause-ok : goal.returns-clause-ok
returns-clause-ok c =
    let read = entry_read c.self.inside c.args.self.now c.args.at c.index-key.result.now c.self.invariant c.self.view_is c.requires c.index-key.ensures in
    let after : Inside = record { slots = with_value c.self.inside.slots c.index-key.result.now.slot c.answer-answered.new.self; order = c.mark.new.order; unsettled = c.mark.new.count } in
    let change = entry_changed c.self.inside after c.args.at c.index-key.result.now c.index_mut-connection.result.now c.answer-answered.new.self
    c.self.invariant read c.index_mut-connection.ensures.value (c.answer-answered.ensures.number) (marked_so c.self.inside after c.args.at c.index-key.result.now c.answer-answered.new.self c.is_unsettled-unsettled.result read refl c.is_unsettled-unsettled.ensures c.mark.ensures.items c.mark.ensures.counted c.mark.ensures.capacity) in
    rw (← c.self.view_is) (λ c' stands. on_ok c.answer-answered.result _ _ (λ is. change.written ∙ written c' (λ k. affected c.args.effect.now (said (c.args.front.now ++ c.args.end.now) k)) (sessions_of c.self.inside.slots c.self.inside.order.items) c.args.at c.index_mut-connection.result.now c.answer-answered.new.self stands change.read is) c.answer-answered.ensures.ok)

pub returns-clause-numbers : goal.returns-clause-numbers
returns-clause-numbers c =
    let read = entry_read c.self.inside c.args.self.now c.args.at c.index-key.result.now c.self.invariant c.self.view_is c.requires c.index-key.ensures in
    let after : Inside = record { slots = with_value c.self.inside.slots c.index-key.result.now.slot c.answer-answered.new.self; order = c.mark.new.order; unsettled = c.mark.new.count } in
    let change = entry_changed c.self.inside after c.args.at c.index-key.result.now c.index_mut-connection.result.now c.answer-answered.new.self
    c.self.invariant read c.index_mut-connection.ensures.value (c.answer-answered.ensures.number) (marked_so c.self.inside after c.args.at c.index-key.result.now c.answer-answered.new.self c.is_unsettled-unsettled.result read refl c.is_unsettled-unsettled.ensures c.mark.ensures.items c.mark.ensures.counted c.mark.ensures.capacity) in
    rw (← c.self.view_is) (ap numbers_of change.written ∙ numbers-set (sessions_of c.self.inside.slots c.self.inside.order.items) c.args.at c.index_mut-connection.result.now c.answer-answered.new.self change.read (c.answer-answered.ensures.number))
