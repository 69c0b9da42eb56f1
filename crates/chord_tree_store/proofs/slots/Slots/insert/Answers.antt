use Rattle.std.proofs.Common.{List, ◌+◌, length, sym, ap, subst, ◌∙◌}
use Rattle.chord_map.specs.declared.pair.Pair.{Pair}
use Rattle.chord_map.specs.Pairs.{IsRising}
use Rattle.chord_map.proofs.MapLemmas.{pair_of}
use Rattle.chord_store.specs.Store.{reply_for}
use Rattle.chord_tree_store.specs.Slots.{pairs_in}
use Rattle.chord_tree_store.proofs.Added.{count_added, stays}
use Rattle.chord_tree_store.proofs.Gathered.{rising-in}
use Rattle.chord_tree_store.proofs.slots.Slots.insert.Goals as goal

pub returns-in_err-did-clause-rising : goal.returns-in_err-did-clause-rising
returns-in_err-did-clause-rising c = subst IsRising c.self.view_is (rising-in c.self.inside.shelf)

pub returns-in-Added-clause-rising : goal.returns-in-Added-clause-rising
returns-in-Added-clause-rising c = subst IsRising c.self.view_is (rising-in c.self.inside.shelf)

pub returns-in_default-clause-rising : goal.returns-in_default-clause-rising
returns-in_default-clause-rising c = subst IsRising c.self.view_is (rising-in c.self.inside.shelf)

pub invariant_of-self-in-Added : goal.invariant_of-self-in-Added
invariant_of-self-in-Added c =
    let old = pairs_in c.self.inside.shelf in
    let due = c.in_ok-did.ensures.answer.0 ∙ ap reply_for c.in-Added.is in
    (c.in_ok-did.ensures.placed, ap (λ n. n + 1) c.self.invariant.1 ∙ sym (count_added (pair_of c.args.key.now c.args.value.now) old (pairs_in c.put.new.shelf) due c.in_ok-did.ensures.answer.1))

pub invariant_of-self-in_default : goal.invariant_of-self-in_default
invariant_of-self-in_default c =
    let same = stays (pair_of c.args.key.now c.args.value.now) (pairs_in c.self.inside.shelf) (pairs_in c.put.new.shelf) c.in_ok-did.did c.in_default.not-Added c.in_ok-did.ensures.answer.0 c.in_ok-did.ensures.answer.1 in
    (c.in_ok-did.ensures.placed, c.self.invariant.1 ∙ sym (ap (λ (ps : List Pair). length ps) same))
