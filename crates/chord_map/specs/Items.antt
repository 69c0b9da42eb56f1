-- How the values under a key are stored.
use Rattle.std.specs.Prelude.{ℕ, ◌≤◌, List, [], ◌∷◌, length}
use Rattle.chord_map.specs.declared.values.Items.{Items}
use Rattle.std.specs.Arc.{arc_value}
use Rattle.chord_map.specs.declared.values.Items.TheVariants.{Empty, One, Many}
use Rattle.chord_map.specs.declared.shared_values.SharedItems.{SharedItems}
use Rattle.chord_map.specs.declared.shared_values.SharedItems.TheVariants as shared

-- the values, however they are stored
abbrev pub values_of : Items → List (List ℕ)
values_of Empty = []
values_of (One value) = value ∷ []
values_of (Many values) = values.items

-- a vector has two values or more: a single value is stored inline
abbrev pub FewInside : Items → Type 0
FewInside Empty = Unit {0}
FewInside (One value) = Unit {0}
FewInside (Many values) = 2 ≤ length values.items

-- the values of a reply, however they are stored
abbrev pub shared_values_of : SharedItems → List (List ℕ)
shared_values_of shared.Empty = []
shared_values_of (shared.One value) = value ∷ []
shared_values_of (shared.Many values) = arc_value values
