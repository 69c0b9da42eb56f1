use Rattle.std.proofs.Common.{◌≡◌, ◌∷◌, [], List, Bool, length, sym, ap, ◌∙◌, refl, arith}
use Rattle.std.specs.Prelude.{IsTrue, ◌↔◌}
use Rattle.chord_map.specs.declared.pair.Pair.{Pair}
use Rattle.chord_map.specs.Map.{has_pair, same_pair}
use Rattle.chord_map.proofs.MapLemmas.{is_same, same_is, pair_of}
use Rattle.chord_tree_store.specs.Slot.{pairs_of}
use Rattle.chord_tree_store.proofs.Gathered.{or_nothing}
use Rattle.chord_tree_store.proofs.slot.Slot.has_only.Goals as goal

only : (ps : List Pair) (p : Pair) (b : Bool) → length ps ≡ 1 → b ≡ has_pair p ps → (IsTrue b ↔ (ps ≡ p ∷ []))
only [] p b one is = absurd (omega (arith, one))
only (x ∷ []) p b one is = (
  λ t. ap (λ (y : Pair). y ∷ []) (sym (same_is p x (sym (or_nothing (same_pair p x)) ∙ sym is ∙ t))),
  λ e. is ∙ ap (has_pair p) e ∙ or_nothing (same_pair p p) ∙ is_same p p refl,
)
only (x ∷ (y ∷ ps)) p b one is = absurd (omega (arith, one))

pub returns-then-len-eq1 : goal.returns-then-len-eq1
returns-then-len-eq1 c = only (pairs_of c.args.self.now) (pair_of c.args.key.now c.args.value.now) c.contains.result (sym c.len.ensures ∙ c.if-len-eq1.true) c.contains.ensures
