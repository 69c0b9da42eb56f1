use Rattle.std.proofs.Common.{◌∷◌, ◌++◌, [], map, refl, sym, ◌∙◌, ap, arith, rules}
use Rattle.chord_world.specs.declared.fate.Fate.TheVariants.{Well}
use Rattle.chord_world.specs.View.{state_of}
use Rattle.chord_world.specs.State.{WorldState}
use Rattle.chord_world.proofs.Keeping.{limit_first, some_first, no_room}
use Rattle.chord_world.proofs.Acting.{keeps_all, keeps_same}
use Rattle.chord_world.proofs.Handing.{advances_not}
use Rattle.chord_world.proofs.Upkeeping.{can_join_at, join_refused}
use Rattle.chord_world.proofs.Rooms.{of_ok}
use Rattle.chord_world.proofs.world.World.join.Goals as goal

pub returns-in_err-links-clause-answer : goal.returns-in_err-links-clause-answer
returns-in_err-links-clause-answer g c =
    join_refused c.args.id c.args.behind (map g.S.EntryStore.limit c.args.stores.now.items) c.args.self.now c.in_err-links.field-0.0 c.from_residual.result c.in_err-links.ensures c.from_residual.ensures.1

pub returns-in_err-links-clause-step : goal.returns-in_err-links-clause-step
returns-in_err-links-clause-step g c = advances_not c.args.self.now c.args.self.now _ c.from_residual.result c.from_residual.ensures.1 refl

pub returns-in_err-links-clause-ring : goal.returns-in_err-links-clause-ring
returns-in_err-links-clause-ring g c = keeps_all c.args.self.now

pub returns-then-is_err : goal.returns-then-is_err
returns-then-is_err g c =
    let view : WorldState = state_of c.self.inside in
    let can = c.in_ok-links.ensures in
    let same = no_room view c.args.self.now _ _ c.self.view_is c.room_for_node.ensures.nodes c.room_for_node.ensures.fates in record {
      answer = (((can.pred, can.may.is_its, can.may.is_unused, can.may.is_between), can.stocked), same);
      step = same;
      ring = keeps_same view c.args.self.now _ c.self.view_is c.room_for_node.ensures.nodes c.room_for_node.ensures.fates;
      stores = refl;
    }

pub invariant_of-self-2 : goal.invariant_of-self-2
invariant_of-self-2 g c =
    let view : WorldState = state_of c.self.inside in
    let pushed = c.add_node.ensures.nodes ∙ ap (λ ns. ns ++ c.newborn-node.result ∷ []) c.room_for_node.ensures.nodes ∙ ap (λ n. view.world.nodes ++ n ∷ []) c.newborn-node.ensures in
    let flagged = c.add_node.ensures.fates ∙ ap (λ fs. fs ++ Well ∷ []) c.room_for_node.ensures.fates in
    (can_join_at c.args.id c.args.behind _ (map g.S.EntryStore.limit c.args.stores.now.items) c.len-number.result c.in_ok-links.links view c.args.self.now _ _ c.self.view_is c.self.invariant c.in_ok-links.ensures (omega arith) pushed flagged).after.world

pub returns : goal.returns
returns g c =
    let view : WorldState = state_of c.self.inside in
    let pushed = c.add_node.ensures.nodes ∙ ap (λ ns. ns ++ c.newborn-node.result ∷ []) c.room_for_node.ensures.nodes ∙ ap (λ n. view.world.nodes ++ n ∷ []) c.newborn-node.ensures in
    let flagged = c.add_node.ensures.fates ∙ ap (λ fs. fs ++ Well ∷ []) c.room_for_node.ensures.fates in
    let after = can_join_at c.args.id c.args.behind _ (map g.S.EntryStore.limit c.args.stores.now.items) c.len-number.result c.in_ok-links.links view c.args.self.now _ _ c.self.view_is c.self.invariant c.in_ok-links.ensures (omega arith) pushed flagged in
    let some = some_first g.S.EntryStore.limit c.args.stores.now.items c.in_ok-links.ensures.stocked in record {
      answer = (g.S.EntryStore.limit c.remove-store.result, limit_first g.S.EntryStore.limit c.args.stores.now.items c.remove-store.result some c.remove-store.ensures.value, after.joins);
      step = after.after.step;
      ring = after.after.ring;
      stores = search rules;
    }

pub remove-store-requires : goal.remove-store-requires
remove-store-requires g c =
    let some = some_first g.S.EntryStore.limit c.args.stores.now.items c.in_ok-links.ensures.stocked in
    omega arith

pub add_node-requires-clause-nodes_room : goal.add_node-requires-clause-nodes_room
add_node-requires-clause-nodes_room g c = of_ok c.room_for_node.result (sym c.is_err.ensures.value ∙ c.if-is_err.false) c.room_for_node.ensures.nodes_room

pub add_node-requires-clause-fates_room : goal.add_node-requires-clause-fates_room
add_node-requires-clause-fates_room g c = of_ok c.room_for_node.result (sym c.is_err.ensures.value ∙ c.if-is_err.false) c.room_for_node.ensures.fates_room
