use Rattle.std.proofs.Common.{List, ℕ, [], sym, ap, ◌∙◌}
use Rattle.std.proofs.lemmas.List.{take_all}
use Rattle.chord_map.specs.Map.{insert_pair, put_all}
use Rattle.chord_map.proofs.MapLemmas.{pair_of}
use Rattle.chord_tree_store.specs.Slot.{pairs_under}
use Rattle.chord_tree_store.proofs.Under.{put_under-more}
use Rattle.chord_tree_store.proofs.slot.listed.Goals as goal

pub loop-value-init : goal.loop-value-init
unfolding put_all
loop-value-init c = c.new-list.ensures

pub loop-value-preserved : goal.loop-value-preserved
loop-value-preserved c =
    c.in_ok-insert.ensures.ok
    ∙ ap (λ (v : List ℕ). insert_pair (pair_of c.args.key.now v) c.loop-value.list) (c.as_slice.ensures ∙ c.value-item.is)
    ∙ ap (insert_pair (pair_of c.args.key.now _)) c.loop-value.invariant
    ∙ sym (put_under-more c.args.key.now c.args.values.now c.loop-value.value-index c.value-item.result c.loop-value-test.true)

pub returns : goal.returns
returns c = c.loop-value.invariant ∙ ap (λ (vs : List (List ℕ)). put_all (pairs_under c.args.key.now vs) []) (take_all c.loop-value.value-index c.args.values.now c.loop-value-test.false)
