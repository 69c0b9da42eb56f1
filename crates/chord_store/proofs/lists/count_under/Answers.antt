use Rattle.std.proofs.Common.{◌∙◌, sym, ap, length, bytes_eq}
use Rattle.std.specs.List.{filter}
use Rattle.std.proofs.lemmas.List.{length-map}
use Rattle.chord_map.specs.declared.pair.Pair.{Pair}
use Rattle.chord_store.proofs.lists.count_under.Goals as goal

pub returns : goal.returns
returns c = ap length c.run_of.ensures ∙ sym (length-map (filter (λ (p : Pair). bytes_eq p.key c.args.key.now) c.args.pairs.now) (λ (p : Pair). p.value))
