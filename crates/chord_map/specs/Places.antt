-- Indices in sorted lists.
use Rattle.std.specs.Prelude.{◌≡◌, ℕ, ◌<◌, ◌≤◌, List, length, slice_index_or}
use Rattle.std.specs.declared.cmp.Ordering.{Ordering}
use Rattle.std.specs.declared.cmp.Ordering.TheVariants.{Less}

-- the element is at this index
pub record IsAt {A : Type 0} (xs : List A) (x : A) (place : ℕ) : Type 0 where
  pub in_range : place < length xs
  pub is_element : (d : A) → slice_index_or xs place d ≡ x

-- inserting the element at this index keeps the list sorted
pub record IsGapFor {A : Type 0} (compare : A → A → Ordering) (xs : List A) (x : A) (place : ℕ) : Type 0 where
  pub in_range : place ≤ length xs
  pub smaller_before : (k : ℕ) (d : A) → k < place → compare (slice_index_or xs k d) x ≡ Less
  pub greater_after : (k : ℕ) (d : A) → place ≤ k → k < length xs → compare x (slice_index_or xs k d) ≡ Less
