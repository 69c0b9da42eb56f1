use Rattle.std.proofs.Common.{List, ℕ, rules, nat_cmp}
use Rattle.std.specs.Cmp.Lexicographic.{slice_cmp}
use Rattle.std.proofs.lemmas.Fn.{always_returns_same}
use Rattle.chord_tree_store.proofs.ValueOrder.{searched}
use Rattle.chord_tree_store.proofs.value_set.place_of.Goals as goal

pub returns : goal.returns
returns c =
    let facts = c.binary_search_by.ensures in
    let by_value = facts.position (λ (other : List ℕ). slice_cmp nat_cmp other c.args.value.now) (always_returns_same _ _ _ (λ a r g called. (search rules, search rules))) in
    searched c.args.values.now c.requires c.args.value.now c.binary_search_by.result facts.bound by_value
