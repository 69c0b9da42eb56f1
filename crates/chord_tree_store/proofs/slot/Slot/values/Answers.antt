use Rattle.std.proofs.Common.{sym, ◌∙◌, Result, Ok, Err, IfOk}
use Rattle.chord_tree_store.proofs.Under.{own_values, no_values}
use Rattle.chord_tree_store.proofs.slot.Slot.values.Goals as goal

if_ok_map : {T E : Type 0} {P Q : T → Type 0} (r : Result T E) → ((v : T) → P v → Q v) → IfOk r P → IfOk r Q
if_ok_map (Ok v) f p = f v p
if_ok_map (Err e) f p = tt

pub returns-then-eq-clause-copy : goal.returns-then-eq-clause-copy
returns-then-eq-clause-copy c =
    let own = own_values c.args.self.now c.in-One.own c.in-One.set c.in-One.is c.args.key.now c.args.key.now (sym c.eq.ensures ∙ c.if-eq.true) in
    if_ok_map c.try_copy.result (λ v e. e ∙ sym own) c.try_copy.ensures.copy

pub returns-else-eq-clause-copy : goal.returns-else-eq-clause-copy
returns-else-eq-clause-copy c =
    c.new.ensures ∙ sym (no_values c.args.self.now c.in-One.own c.in-One.set c.in-One.is c.args.key.now c.args.key.now (sym c.eq.ensures ∙ c.if-eq.false))
