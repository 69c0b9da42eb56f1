use Rattle.std.proofs.Common.{◌≡◌, ◌<◌, ℕ, leb, eqb, true, List, length, take, slice_index_or, sym, subst, ◌∙◌, arith}
use Rattle.std.specs.HashMap.{get, keys}
use Rattle.std.proofs.lemmas.List.{take_more, take_all}
use Rattle.chord_tree_store.proofs.Moving.{IsMoved, moved_one, filter_passes, lower_is, upper_is}
use Rattle.chord_tree_store.proofs.shard.move_upper.Goals as goal

pub loop-id-preserved : goal.loop-id-preserved
loop-id-preserved c =
    let inv = c.loop-id.invariant in
    let items = c.deref-id-items.result.now in
    let within = c.loop-id-test.true in
    let high = subst (λ (ys : List ℕ). leb c.args.half (slice_index_or ys c.loop-id.id-index 0) ≡ true) (sym inv.0) (filter_passes (leb c.args.half) (keys c.args.slots.now) 0 c.loop-id.id-index (subst (λ (ys : List ℕ). c.loop-id.id-index < length ys) inv.0 within)) in (
      inv.0,
      subst (IsMoved (get eqb c.args.slots.now) (get eqb c.move_one.new.from) (get eqb c.move_one.new.to) c.args.half) (sym (take_more items c.loop-id.id-index 0 within))
          (moved_one (get eqb c.args.slots.now) (get eqb c.loop-id.slots) (get eqb c.loop-id.upper) (get eqb c.move_one.new.from) (get eqb c.move_one.new.to) c.args.half (take c.loop-id.id-index items) _ high
          c.move_one.ensures.out c.move_one.ensures.stay c.move_one.ensures.came c.move_one.ensures.others inv.1),
      omega (arith, inv.2, c.move_one.ensures.room),
    )

pub returns-clause-lower : goal.returns-clause-lower
returns-clause-lower c =
    let inv = c.loop-id.invariant in
    lower_is c.args.slots.now.entries (get eqb c.loop-id.slots) (get eqb c.loop-id.upper) c.args.half
    (subst (IsMoved (get eqb c.args.slots.now) (get eqb c.loop-id.slots) (get eqb c.loop-id.upper) c.args.half) (take_all c.loop-id.id-index c.deref-id-items.result.now c.loop-id-test.false ∙ inv.0) inv.1)

pub returns-clause-upper : goal.returns-clause-upper
returns-clause-upper c =
    let inv = c.loop-id.invariant in
    upper_is c.args.slots.now.entries (get eqb c.loop-id.slots) (get eqb c.loop-id.upper) c.args.half
    (subst (IsMoved (get eqb c.args.slots.now) (get eqb c.loop-id.slots) (get eqb c.loop-id.upper) c.args.half) (take_all c.loop-id.id-index c.deref-id-items.result.now c.loop-id-test.false ∙ inv.0) inv.1)
