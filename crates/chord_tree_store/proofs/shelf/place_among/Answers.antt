use Rattle.std.proofs.Common.{List, ℕ, refl, sym, ap, ◌∙◌}
use Rattle.std.specs.FinMap.{get, from_entries}
use Rattle.std.specs.Ordering.{nat_cmp}
use Rattle.chord_tree_store.specs.declared.slot.Slot.{Slot}
use Rattle.chord_tree_store.specs.Slot.{pairs_at}
use Rattle.chord_map.proofs.MapLemmas.{pair_of}
use Rattle.chord_tree_store.proofs.Added.{refused_add, vacant_adds}
use Rattle.chord_tree_store.proofs.Shelving.{changed, adds_moved}
use Rattle.chord_tree_store.proofs.shelf.place_among.Goals as goal

pub returns-in_err-at-clause-here : goal.returns-in_err-at-clause-here
returns-in_err-at-clause-here c =
    let absent = c.in_err-at.ensures.absent in
    refused_add (pair_of c.args.key.now c.args.value.now) _ _ _ c.from_residual.result c.from_residual.ensures.1 (vacant_adds c.args.key.now c.args.value.now _ absent)
    (ap (λ (es : List (ℕ × Slot)). pairs_at (get (from_entries {R = nat_cmp} es) c.args.id)) c.in_err-at.ensures.same)

pub returns : goal.returns
returns c =
    let shard = c.index_mut-shard.result.now in
    let change = changed c.home.new.shards.items c.in_ok-at.ensures.in_place c.args.id c.in_ok-at.at c.in_ok-at.ensures.home shard (record { first = shard.first; slots = c.place_in.new.slots }) c.index_mut-shard.ensures.value refl c.place_in.ensures.others in
    let same = λ (q : ℕ). ap (λ (es : List (ℕ × Slot)). get (from_entries {R = nat_cmp} es) q) c.in_ok-at.ensures.same in
    record {
      in_place = change.in_place;
      here = adds_moved (pair_of c.args.key.now c.args.value.now) _ _ _ _ c.place_in.result (sym (same c.args.id) ∙ change.before) change.now c.place_in.ensures.here;
      others = λ q differ. change.others q differ ∙ same q;
    }
