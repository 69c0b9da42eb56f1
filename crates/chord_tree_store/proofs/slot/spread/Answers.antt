use Rattle.std.proofs.Common.{[], ◌∙◌}
use Rattle.chord_map.specs.Map.{insert_pair, put_all}
use Rattle.chord_map.proofs.MapLemmas.{pair_of}
use Rattle.chord_tree_store.specs.Slot.{pairs_under}
use Rattle.chord_tree_store.proofs.Under.{put_under}
use Rattle.chord_tree_store.proofs.slot.spread.Goals as goal

pub returns : goal.returns
returns c =
    let own = c.in_ok-list.ensures ∙ (λ i. put_all (pairs_under (c.as_slice.ensures i) (c.as_slice-2.ensures i)) []) ∙ put_under c.args.own.now c.args.set.now in
    c.in_ok-new.ensures.ok ∙ c.in_ok-insert.ensures.ok ∙ (λ i. insert_pair (pair_of (c.as_slice-3.ensures i) (c.as_slice-4.ensures i)) (own i))
