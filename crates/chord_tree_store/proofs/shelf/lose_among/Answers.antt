use Rattle.std.proofs.Common.{◌≤◌, ◌-◌, List, length, refl, sym, ap, subst, ◌∙◌, arith}
use Rattle.chord_tree_store.specs.declared.shard.Shard.{Shard}
use Rattle.chord_map.specs.Map.{has_pair, remove_pair}
use Rattle.chord_map.proofs.MapLemmas.{pair_of}
use Rattle.chord_tree_store.specs.Slot.{pairs_at}
use Rattle.chord_tree_store.proofs.Shelving.{changed, home_from, no_home, IsBehind}
use Rattle.chord_tree_store.proofs.shelf.lose_among.Goals as goal

pub returns-then-behind-eq0-clause-was_there : goal.returns-then-behind-eq0-clause-was_there
returns-then-behind-eq0-clause-was_there c =
    let items = c.as_slice.ensures.value in
    let counted = c.count_up_to-behind in
    let none = no_home c.args.shards.now.items c.requires c.args.id counted.result (subst (λ (s : List Shard). counted.result ≤ length s) items counted.ensures.bound) c.if-behind-eq0.true (subst (λ s. IsBehind s c.args.id counted.result) items counted.ensures.behind) in
    ap (λ o. has_pair (pair_of c.args.key.now c.args.value.now) (pairs_at o)) (sym none)

pub returns-then-behind-eq0-clause-here : goal.returns-then-behind-eq0-clause-here
unfolding remove_pair
returns-then-behind-eq0-clause-here c =
    let items = c.as_slice.ensures.value in
    let counted = c.count_up_to-behind in
    let none = no_home c.args.shards.now.items c.requires c.args.id counted.result (subst (λ (s : List Shard). counted.result ≤ length s) items counted.ensures.bound) c.if-behind-eq0.true (subst (λ s. IsBehind s c.args.id counted.result) items counted.ensures.behind) in
    ap pairs_at none ∙ ap (λ o. remove_pair (pair_of c.args.key.now c.args.value.now) (pairs_at o)) (sym none)

pub returns : goal.returns
returns c =
    let items = c.as_slice.ensures.value in
    let counted = c.count_up_to-behind in
    let shard = c.index_mut-shard.result.now in
    let home = home_from c.args.shards.now.items c.args.id counted.result (subst (λ (s : List Shard). counted.result ≤ length s) items counted.ensures.bound) (omega (arith, c.if-behind-eq0.false)) (subst (λ s. IsBehind s c.args.id counted.result) items counted.ensures.behind) in
    let change = changed c.args.shards.now.items c.requires c.args.id (counted.result - 1) home shard (record { first = shard.first; slots = c.lose_in.new.slots }) c.index_mut-shard.ensures.value refl c.lose_in.ensures.others in
    record {
      in_place = change.in_place;
      was_there = c.lose_in.ensures.was_there ∙ ap (λ o. has_pair (pair_of c.args.key.now c.args.value.now) (pairs_at o)) (sym change.before);
      here = ap pairs_at change.now ∙ c.lose_in.ensures.here ∙ ap (λ o. remove_pair (pair_of c.args.key.now c.args.value.now) (pairs_at o)) (sym change.before);
      others = change.others;
    }
