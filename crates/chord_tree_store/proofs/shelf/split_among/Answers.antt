use Rattle.std.proofs.Common.{◌≤◌, ◌<◌, ◌+◌, ◌-◌, List, length, slice_index_or, refl, sym, ap, subst, ◌∙◌, arith}
use Rattle.chord_tree_store.specs.declared.shard.Shard.{Shard}
use Rattle.chord_tree_store.specs.Shelf.{first_of, InPlace, slots_of}
use Rattle.chord_tree_store.proofs.Splitting.{idle_in_place, idle_same, split_in_place, split_same}
use Rattle.chord_tree_store.proofs.shelf.split_among.Goals as goal

pub returns-in_err-slots : goal.returns-in_err-slots
returns-in_err-slots c =
    let shard = c.index_mut-shard.result.now in
    let new : Shard = record { first = shard.first; slots = c.move_upper.new.slots } in
    let items = c.in_ok-reserve.ensures.items in
    let place = c.count_up_to-behind.result - 1 in
    let bound = subst (λ (s : List Shard). c.count_up_to-behind.result ≤ length s) (c.as_slice.ensures.value ∙ sym items) c.count_up_to-behind.ensures.bound in
    let within : place < length c.reserve.new.self.items = omega (arith, bound, c.if-behind-eq0.false) in
    record {
      in_place = idle_in_place c.reserve.new.self.items (subst InPlace (sym items) c.requires) place within shard new new c.index_mut-shard.ensures.value refl c.in_err-slots.ensures.stays;
      same = idle_same c.reserve.new.self.items (subst InPlace (sym items) c.requires) place within shard new new c.index_mut-shard.ensures.value refl c.in_err-slots.ensures.stays
          ∙ ap slots_of items;
    }

pub returns : goal.returns
returns c =
    let shard = c.index_mut-shard.result.now in
    let low : Shard = record { first = shard.first; slots = c.move_upper.new.slots } in
    let up : Shard = record { first = c.middle-half.result; slots = c.in_ok-slots.slots } in
    let items = c.in_ok-reserve.ensures.items in
    let place = c.count_up_to-behind.result - 1 in
    let bound = subst (λ (s : List Shard). c.count_up_to-behind.result ≤ length s) (c.as_slice.ensures.value ∙ sym items) c.count_up_to-behind.ensures.bound in
    let within : place < length c.reserve.new.self.items = omega (arith, bound, c.if-behind-eq0.false) in
    let middle = c.as_slice-2.ensures.value ∙ sym items in
    let from = subst (λ (s : List Shard). first_of (slice_index_or s place shard) ≤ c.middle-half.result) middle (c.middle-half.ensures.from shard) in
    let to = subst (λ (s : List Shard). (d : Shard) → place + 1 < length s → c.middle-half.result ≤ first_of (slice_index_or s (place + 1) d)) middle c.middle-half.ensures.to in
    record {
      in_place = subst InPlace (sym c.in_ok-insert.ensures.items)
          (split_in_place c.reserve.new.self.items (subst InPlace (sym items) c.requires) place within shard low up c.index_mut-shard.ensures.value refl
          (subst (λ (x : Shard). first_of x ≤ c.middle-half.result) (sym c.index_mut-shard.ensures.value) from) to c.in_ok-slots.ensures.lower c.in_ok-slots.ensures.upper);
      same = ap slots_of c.in_ok-insert.ensures.items
          ∙ split_same c.reserve.new.self.items (subst InPlace (sym items) c.requires) place within shard low up c.index_mut-shard.ensures.value refl
          (subst (λ (x : Shard). first_of x ≤ c.middle-half.result) (sym c.index_mut-shard.ensures.value) from) to c.in_ok-slots.ensures.lower c.in_ok-slots.ensures.upper
          ∙ ap slots_of items;
    }
