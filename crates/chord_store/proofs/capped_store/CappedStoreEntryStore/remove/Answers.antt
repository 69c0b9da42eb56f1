use Rattle.std.proofs.Common.{subst, sym}
use Rattle.chord_map.specs.declared.pair.Pair.{Pair}
use Rattle.chord_store.specs.Store.{HasFew}
use Rattle.chord_store.proofs.Few.{few-remove}
use Rattle.chord_store.proofs.capped_store.CappedStoreEntryStore.remove.Goals as goal

pub invariant_of-self : goal.invariant_of-self
invariant_of-self c =
    let pair : Pair = record { key = c.as_slice.result.now; value = c.args.value.now } in
    subst HasFew (sym c.remove.ensures.change) (few-remove pair c.self.inside.pairs c.self.invariant)
