use Rattle.std.proofs.Common.{sym, ◌∙◌}
use Rattle.chord_tree_store.proofs.Under.{has_if, has_not}
use Rattle.chord_tree_store.proofs.slot.Slot.contains.Goals as goal

pub returns-then-eq : goal.returns-then-eq
returns-then-eq c = c.contains.ensures ∙ sym (has_if c.args.self.now c.in-One.own c.in-One.set c.in-One.is c.args.key.now c.args.value.now (sym c.eq.ensures ∙ c.if-eq.true))

pub returns-else-eq : goal.returns-else-eq
returns-else-eq c = c.if-eq.false ∙ sym (has_not c.args.self.now c.in-One.own c.in-One.set c.in-One.is c.args.key.now c.args.value.now (sym c.eq.ensures ∙ c.if-eq.false))
