use Rattle.std.proofs.Common.{◌≤◌, ◌-◌, List, length, refl, sym, subst, ◌∙◌, arith}
use Rattle.chord_tree_store.specs.declared.shard.Shard.{Shard}
use Rattle.chord_tree_store.proofs.Shelving.{changed, home_from, no_home, IsBehind}
use Rattle.chord_tree_store.proofs.shelf.take_among.Goals as goal

pub returns-then-behind-eq0-clause-value : goal.returns-then-behind-eq0-clause-value
returns-then-behind-eq0-clause-value c =
    let items = c.as_slice.ensures.value in
    let counted = c.count_up_to-behind in
    sym (no_home c.args.shards.now.items c.requires c.args.id counted.result (subst (λ (s : List Shard). counted.result ≤ length s) items counted.ensures.bound) c.if-behind-eq0.true (subst (λ s. IsBehind s c.args.id counted.result) items counted.ensures.behind))

pub returns-then-behind-eq0-clause-here : goal.returns-then-behind-eq0-clause-here
returns-then-behind-eq0-clause-here c =
    let items = c.as_slice.ensures.value in
    let counted = c.count_up_to-behind in
    no_home c.args.shards.now.items c.requires c.args.id counted.result (subst (λ (s : List Shard). counted.result ≤ length s) items counted.ensures.bound) c.if-behind-eq0.true (subst (λ s. IsBehind s c.args.id counted.result) items counted.ensures.behind)

pub returns : goal.returns
returns c =
    let items = c.as_slice.ensures.value in
    let counted = c.count_up_to-behind in
    let shard = c.index_mut-shard.result.now in
    let home = home_from c.args.shards.now.items c.args.id counted.result (subst (λ (s : List Shard). counted.result ≤ length s) items counted.ensures.bound) (omega (arith, c.if-behind-eq0.false)) (subst (λ s. IsBehind s c.args.id counted.result) items counted.ensures.behind) in
    let change = changed c.args.shards.now.items c.requires c.args.id (counted.result - 1) home shard (record { first = shard.first; slots = c.remove.new.self }) c.index_mut-shard.ensures.value refl c.remove.ensures.updates.2 in
    record {
      in_place = change.in_place;
      value = c.remove.ensures.value ∙ sym change.before;
      here = change.now ∙ c.remove.ensures.updates.1;
      others = change.others;
    }
