use Rattle.std.proofs.Common.{arith, ap, ◌≡◌, ◌∙◌, sym, [], Some}
use Rattle.nut_words.specs.Lines.{Text}
use Rattle.nut_server_spec.specs.machine.Machine.{with_rest}
use Rattle.nut_server.specs.Settling.{is_unsettled}
use Rattle.nut_server.specs.inside.Inside.{numbers_of}
use Rattle.nut_server.specs.inside.Entries.{sessions_of}
use Rattle.nut_server.proofs.Places.{written}
use Rattle.nut_server.proofs.Entries.{as_many, entry_read, entry_kept, numbers-set, session_there}
use Rattle.nut_server.proofs.connections.Connections.take_cutter.Goals as goal

pub index-key-requires : goal.index-key-requires
index-key-requires c = omega (arith, as_many c.self.inside.slots c.self.inside.order.items c.args.self.now c.self.invariant.named c.self.view_is, c.self.inside.order.ok, c.requires)

pub index_mut-requires : goal.index_mut-requires
index_mut-requires c = (entry_read c.self.inside c.args.self.now c.args.at c.index-key.result.now c.self.invariant c.self.view_is c.requires c.index-key.ensures).found

pub returns-clause-taken : goal.returns-clause-taken
returns-clause-taken c k there =
    let one : Some c.index_mut.result.now ≡ Some k = sym (session_there c.self.inside c.args.self.now c.args.at c.index-key.result.now c.index_mut.result.now c.self.invariant c.self.view_is (entry_read c.self.inside c.args.self.now c.args.at c.index-key.result.now c.self.invariant c.self.view_is c.requires c.index-key.ensures) c.index_mut.ensures.value) ∙ there in
    let same : c.index_mut.result.now ≡ k = cc in
    c.take_cutter.ensures.taken ∙ ap (λ k. k.rest) same

pub invariant_of-self : goal.invariant_of-self
invariant_of-self c = (entry_kept c.self.inside c.args.at c.index-key.result.now c.index_mut.result.now c.take_cutter.new.self c.self.invariant (entry_read c.self.inside c.args.self.now c.args.at c.index-key.result.now c.self.invariant c.self.view_is c.requires c.index-key.ensures) c.index_mut.ensures.value (ap (λ k. k.number) c.take_cutter.ensures.left) (sym (ap (λ k. is_unsettled (Some k)) c.take_cutter.ensures.left))).entries

pub returns-clause-left : goal.returns-clause-left
returns-clause-left c =
    let change = entry_kept c.self.inside c.args.at c.index-key.result.now c.index_mut.result.now c.take_cutter.new.self c.self.invariant (entry_read c.self.inside c.args.self.now c.args.at c.index-key.result.now c.self.invariant c.self.view_is c.requires c.index-key.ensures) c.index_mut.ensures.value (ap (λ k. k.number) c.take_cutter.ensures.left) (sym (ap (λ k. is_unsettled (Some k)) c.take_cutter.ensures.left)) in
    rw (← c.self.view_is) (λ c' stands. change.written ∙ written c' (with_rest (Text [])) (sessions_of c.self.inside.slots c.self.inside.order.items) c.args.at c.index_mut.result.now c.take_cutter.new.self stands change.read c.take_cutter.ensures.left)

pub returns-clause-numbers : goal.returns-clause-numbers
returns-clause-numbers c =
    let change = entry_kept c.self.inside c.args.at c.index-key.result.now c.index_mut.result.now c.take_cutter.new.self c.self.invariant (entry_read c.self.inside c.args.self.now c.args.at c.index-key.result.now c.self.invariant c.self.view_is c.requires c.index-key.ensures) c.index_mut.ensures.value (ap (λ k. k.number) c.take_cutter.ensures.left) (sym (ap (λ k. is_unsettled (Some k)) c.take_cutter.ensures.left)) in
    rw (← c.self.view_is) (ap numbers_of change.written ∙ numbers-set (sessions_of c.self.inside.slots c.self.inside.order.items) c.args.at c.index_mut.result.now c.take_cutter.new.self change.read (ap (λ k. k.number) c.take_cutter.ensures.left))
