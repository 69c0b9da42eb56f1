use Rattle.std.proofs.Common.{◌≡◌, ◌≤◌, ℕ, List, [], Vec, Global, slice_index_or, refl, ◌<◌, ◌+◌, length, sym, ap, subst, ◌∙◌}
use Rattle.chord_tree_store.specs.declared.shard.Shard.{Shard}
use Rattle.chord_tree_store.specs.Shelf.{slots_of}
use Rattle.chord_tree_store.specs.Slots.{ArePlaced, entries_inside}
use Rattle.chord_tree_store.proofs.Touched.{IsLeft, left_all, left_dropped, left_idle, left_placed}
use Rattle.chord_tree_store.proofs.shelf.drop_among.Goals as goal
use Rattle.chord_tree_store.proofs.shelf.drop_among.Goals.{then-is_touched, else-is_touched}

pub is_touched-requires-clause-placed : goal.is_touched-requires-clause-placed
is_touched-requires-clause-placed c =
    subst (λ (xs : List Shard). ArePlaced (slots_of xs)) (sym c.as_slice.ensures.value)
    (left_placed c.args.span.now c.args.shards.now.items c.loop-place.shards.items c.loop-place.place c.loop-place.invariant c.requires.placed)

pub loop-place-preserved : goal.loop-place-preserved
loop-place-preserved c =
    let left = c.loop-place.invariant in
    let old = c.args.shards.now.items in
    let now = c.loop-place.shards.items in
    let place = c.loop-place.place in
    let span = c.args.span.now in
    let within : place < length now = subst (λ (n : ℕ). place < n) (ap (λ (xs : List Shard). length xs) c.as_slice-place-end.ensures.value ∙ sym left.long) c.loop-place-test.true in
    elim c.if-is_touched.branch [
      | then-is_touched w ↦
          let shard = w.index_mut-shard.result.now in
          let thin : Shard = record { first = shard.first; slots = w.drop_inside.new.slots } in
          subst (λ (v : Vec Shard Global). IsLeft span old v.items (place + 1)) (sym w.shards-is)
          (left_dropped span old now place left within shard thin w.index_mut-shard.ensures.value refl w.drop_inside.ensures)
      | else-is_touched w ↦
          subst (λ (v : Vec Shard Global). IsLeft span old v.items (place + 1)) (sym w.shards-is)
          (left_idle span old now place left (λ d.
          subst (λ (xs : List Shard). entries_inside span (slice_index_or xs place d).slots.entries ≡ []) c.as_slice.ensures.value
          (c.is_touched.ensures.apart d w.if-is_touched.false)))
    ]

pub returns-clause-outside : goal.returns-clause-outside
returns-clause-outside c =
    left_all c.args.span.now c.args.shards.now.items c.loop-place.shards.items c.loop-place.place c.loop-place.invariant
    (subst (λ (n : ℕ). n ≤ c.loop-place.place) (ap (λ (xs : List Shard). length xs) c.as_slice-place-end.ensures.value ∙ sym c.loop-place.invariant.long) c.loop-place-test.false)
