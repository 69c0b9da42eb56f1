use Rattle.std.proofs.Common.{◌<◌, arith, rules, length, map, refl, sym, ap, ◌∙◌}
use Rattle.chord_world.specs.View.{state_of}
use Rattle.chord_world.specs.State.{WorldState}
use Rattle.chord_world.proofs.Handing.{is_zero}
use Rattle.chord_world.proofs.Posting.{not_zero}
use Rattle.chord_world.proofs.Keeping.{none_in, founded_items, founded_fates, founded_at, founded_answer, founded_step, founded_keeps, limit_first}
use Rattle.chord_world.proofs.Acting.{not_founded}
use Rattle.chord_world.proofs.world.World.create.Goals as goal

pub invariant_of-self-in-Ok : goal.invariant_of-self-in-Ok
invariant_of-self-in-Ok g c =
    let view : WorldState = state_of c.self.inside in
    let none = none_in view.world.nodes (let zero = is_zero _ c.if-not-is_empty.ensures in omega arith) in
    let nodes = founded_items c.args.id _ view _ _ c.in-Ok.node none c.add_node.ensures.nodes c.room_for_node.ensures.nodes c.in-Ok.ensures.ok in
    let flags = founded_fates view _ _ c.self.invariant none c.add_node.ensures.fates c.room_for_node.ensures.fates in
    founded_at c.args.id _ view _ _ (search rules) none c.self.invariant nodes flags

pub returns-in-Ok : goal.returns-in-Ok
returns-in-Ok g c =
    let view : WorldState = state_of c.self.inside in
    let none = none_in view.world.nodes (let zero = is_zero _ c.if-not-is_empty.ensures in omega arith) in
    let nodes = founded_items c.args.id _ view _ _ c.in-Ok.node none c.add_node.ensures.nodes c.room_for_node.ensures.nodes c.in-Ok.ensures.ok in
    let flags = founded_fates view _ _ c.self.invariant none c.add_node.ensures.fates c.room_for_node.ensures.fates in
    let some : 0 < length c.args.stores.now.items = (let many = not_zero _ c.if-is_empty.ensures in omega arith) in record {
      answer = founded_answer c.args.id _ _ view _ _ _ c.self.view_is none (limit_first g.S.EntryStore.limit c.args.stores.now.items c.remove-store.result some c.remove-store.ensures.value) nodes flags;
      step = founded_step c.args.id _ view _ _ c.add_node.new.fates.items c.self.view_is (search rules) none nodes;
      ring = founded_keeps view _ _ _ c.self.view_is c.self.invariant none;
      stores = search rules;
    }

pub returns-then-is_err : goal.returns-then-is_err
returns-then-is_err g c =
    let kept = not_founded g.S.EntryStore.limit c.args.stores.now.items (state_of c.self.inside) c.args.self.now _ _ c.self.view_is
    (let zero = is_zero _ c.if-not-is_empty.ensures in omega arith) (let many = not_zero _ c.if-is_empty.ensures in omega arith) c.room_for_node.ensures.nodes c.room_for_node.ensures.fates in
    record { answer = kept.answer; step = kept.step; ring = kept.ring; stores = search rules }

pub returns-in-Err : goal.returns-in-Err
returns-in-Err g c =
    let kept = not_founded g.S.EntryStore.limit c.args.stores.now.items (state_of c.self.inside) c.args.self.now _ _ c.self.view_is
    (let zero = is_zero _ c.if-not-is_empty.ensures in omega arith) (let many = not_zero _ c.if-is_empty.ensures in omega arith) c.room_for_node.ensures.nodes c.room_for_node.ensures.fates in
    record { answer = kept.answer; step = kept.step; ring = kept.ring; stores = search rules }

pub returns-then-is_empty-clause-answer : goal.returns-then-is_empty-clause-answer
returns-then-is_empty-clause-answer g c =
    let view : WorldState = state_of c.self.inside in
    let none = none_in view.world.nodes (let zero = is_zero _ c.if-not-is_empty.ensures in omega arith) in
    let empty = none_in c.args.stores.now.items (let zero = is_zero _ c.if-is_empty.ensures in omega arith) in
    ((ap (λ (w : WorldState). w.world.nodes) (sym c.self.view_is) ∙ none, ap (map g.S.EntryStore.limit) empty), refl)
