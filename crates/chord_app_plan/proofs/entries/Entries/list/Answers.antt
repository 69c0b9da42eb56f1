use Rattle.std.proofs.Common.{List, Some, sym, ap, ◌∙◌}
use Rattle.toml.specs.declared.value.Value.{Value}
use Rattle.toml.specs.View.{items_view}
use Rattle.toml.proofs.Views.{table_get}
use Rattle.chord_app_plan.specs.Plan.{list_of}
use Rattle.chord_app_plan.proofs.entries.Entries.list.Goals as goal

pub returns-in_default-clause-value : goal.returns-in_default-clause-value
returns-in_default-clause-value c =
    let found = table_get c.get.result c.args.key.now c.args.self.now.table.now.entries c.get.ensures.value in
    ap list_of (sym (rw c.in_default.is at found))

pub returns-in-Some-as_array-clause-value : goal.returns-in-Some-as_array-clause-value
returns-in-Some-as_array-clause-value c =
    let found = table_get c.get.result c.args.key.now c.args.self.now.table.now.entries c.get.ensures.value in
    let array = rw c.in-Some-as_array.is at c.as_array.ensures in
    ap list_of (sym (rw c.in-Some.is at found)) ∙ sym array ∙ ap (λ (values : List Value). Some (items_view values)) (sym c.as_slice.ensures.value)

pub returns-in-None-clause-accepts : goal.returns-in-None-clause-accepts
returns-in-None-clause-accepts c =
    let found = table_get c.get.result c.args.key.now c.args.self.now.table.now.entries c.get.ensures.value in
    let none = rw c.in-None.is at c.as_array.ensures in
    λ some. rw (ap list_of (sym (rw c.in-Some.is at found)) ∙ sym none) at some
