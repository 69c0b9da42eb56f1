use Rattle.std.proofs.Common.{sym, ap, subst, ◌∙◌, Result, Ok, Err, IfOk}
use Rattle.std.specs.Option.{option_copied}
use Rattle.chord_map.specs.Copies.{AreFew}
use Rattle.chord_map.specs.Map.{values_at}
use Rattle.chord_tree_store.specs.Slot.{pairs_at}
use Rattle.chord_tree_store.proofs.Placing.{values-in}
use Rattle.chord_tree_store.proofs.slots.values_of.Goals as goal

if_ok_map : {T E : Type 0} {P Q : T → Type 0} (r : Result T E) → ((v : T) → P v → Q v) → IfOk r P → IfOk r Q
if_ok_map (Ok v) f p = f v p
if_ok_map (Err e) f p = tt

pub returns-in-Some-clause-copy : goal.returns-in-Some-clause-copy
returns-in-Some-clause-copy c =
    let held = sym c.get.ensures ∙ ap option_copied c.in-Some.is in
    let found = values-in c.args.shelf.now c.requires.placed c.args.key.now c.args.id c.requires.id ∙ ap (λ o. values_at c.args.key.now (pairs_at o)) held in
    if_ok_map c.values.result (λ v e. e ∙ sym found) c.values.ensures.copy

pub returns-in-Some-clause-few : goal.returns-in-Some-clause-few
returns-in-Some-clause-few c =
    let held = sym c.get.ensures ∙ ap option_copied c.in-Some.is in
    let found = values-in c.args.shelf.now c.requires.placed c.args.key.now c.args.id c.requires.id ∙ ap (λ o. values_at c.args.key.now (pairs_at o)) held in
    λ few. c.values.ensures.few (subst AreFew found few)

pub returns-in-None-clause-copy : goal.returns-in-None-clause-copy
returns-in-None-clause-copy c =
    let held = sym c.get.ensures ∙ ap option_copied c.in-None.is in
    let found = values-in c.args.shelf.now c.requires.placed c.args.key.now c.args.id c.requires.id ∙ ap (λ o. values_at c.args.key.now (pairs_at o)) held in
    c.new.ensures ∙ sym found
