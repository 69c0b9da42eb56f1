use Rattle.std.proofs.Common.{sym, ◌∙◌}
use Rattle.chord_tree_store.proofs.Under.{has_if, has_not, own_loses, none_lost}
use Rattle.chord_tree_store.proofs.slot.Slot.remove.Goals as goal

pub returns-then-eq : goal.returns-then-eq
returns-then-eq c =
    let own = sym c.eq.ensures ∙ c.if-eq.true in record {
      was_there = c.remove.ensures.was_there ∙ sym (has_if c.args.self.now c.in-One.own c.in-One.set c.in-One.is c.args.key.now c.args.value.now own);
      change = own_loses c.args.self.now c.in-One.own c.in-One.set c.in-One.is c.args.key.now c.args.value.now own c.remove.new.self c.remove.ensures.change;
    }

pub returns-else-eq : goal.returns-else-eq
returns-else-eq c =
    let other = sym c.eq.ensures ∙ c.if-eq.false in record {
      was_there = c.if-eq.false ∙ sym (has_not c.args.self.now c.in-One.own c.in-One.set c.in-One.is c.args.key.now c.args.value.now other);
      change = none_lost c.args.self.now c.in-One.own c.in-One.set c.in-One.is c.args.key.now c.args.value.now other;
    }
