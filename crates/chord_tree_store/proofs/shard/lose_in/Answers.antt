use Rattle.std.proofs.Common.{◌≡◌, [], ◌∷◌, None, cond, not, rules, eqb, refl, ap, sym, ◌∙◌}
use Rattle.std.specs.HashMap.{get}
use Rattle.chord_map.specs.Map.{remove_pair}
use Rattle.chord_map.proofs.MapLemmas.{is_same, pair_of}
use Rattle.chord_tree_store.specs.Slot.{pairs_at}
use Rattle.chord_tree_store.proofs.shard.lose_in.Goals as goal

pub returns-then-is_only-clause-here : goal.returns-then-is_only-clause-here
unfolding remove_pair
returns-then-is_only-clause-here c =
    let pair = pair_of c.args.key.now c.args.value.now in
    ap pairs_at c.remove.ensures.updates.1 ∙ ap (λ b. cond (not b) (pair ∷ []) []) (sym (is_same pair pair refl)) ∙ ap (remove_pair pair) (sym (c.is_only.ensures.0 c.if-is_only.true))

pub returns-in-None-clause-here : goal.returns-in-None-clause-here
unfolding remove_pair
returns-in-None-clause-here c =
    let absent : get eqb c.args.slots.now c.args.id ≡ None = search rules in
    let same : get eqb c.get_mut.follows.lender-at-none c.args.id ≡ get eqb c.args.slots.now c.args.id = search rules in
    ap pairs_at (same ∙ absent) ∙ ap (λ o. remove_pair (pair_of c.args.key.now c.args.value.now) (pairs_at o)) (sym absent)
