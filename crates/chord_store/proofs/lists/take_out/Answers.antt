use Rattle.std.proofs.Common.{not, rules, subst, sym}
use Rattle.std.proofs.lemmas.Fn.{filter_same}
use Rattle.chord_map.specs.declared.pair.Pair.{Pair}
use Rattle.chord_store.specs.Inside.{pairs_outside}
use Rattle.chord_store.specs.Store.{HasFew}
use Rattle.chord_store.proofs.Few.{few-outside}
use Rattle.chord_store.proofs.Puts.{lies_in}
use Rattle.chord_store.proofs.lists.take_out.Goals as goal

pub returns-clause-change : goal.returns-clause-change
unfolding pairs_outside
returns-clause-change c =
    filter_same _ (λ (p : Pair). not (lies_in c.args.span.now p)) _ (λ x b f called. (search rules, search rules)) _ _ c.retain.ensures

pub returns-clause-few : goal.returns-clause-few
unfolding pairs_outside
returns-clause-few c = λ few.
    let change = filter_same _ (λ (p : Pair). not (lies_in c.args.span.now p)) _ (λ x b f called. (search rules, search rules)) _ _ c.retain.ensures in
    subst HasFew (sym change) (few-outside c.args.span.now c.args.pairs.now few)
