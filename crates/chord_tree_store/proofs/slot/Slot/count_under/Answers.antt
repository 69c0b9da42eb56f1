use Rattle.std.proofs.Common.{List, ℕ, length, sym, ap, ◌∙◌}
use Rattle.chord_tree_store.proofs.Under.{own_values, no_values}
use Rattle.chord_tree_store.proofs.slot.Slot.count_under.Goals as goal

pub returns-then-eq : goal.returns-then-eq
returns-then-eq c =
    c.len.ensures ∙ ap (λ (vs : List (List ℕ)). length vs) (sym (own_values c.args.self.now c.in-One.own c.in-One.set c.in-One.is c.args.key.now c.args.key.now (sym c.eq.ensures ∙ c.if-eq.true)))

pub returns-else-eq : goal.returns-else-eq
returns-else-eq c = ap (λ (vs : List (List ℕ)). length vs) (sym (no_values c.args.self.now c.in-One.own c.in-One.set c.in-One.is c.args.key.now c.args.key.now (sym c.eq.ensures ∙ c.if-eq.false)))
