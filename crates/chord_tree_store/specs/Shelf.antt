-- What shards of slots have. Source: our own.
use Rattle.std.specs.Prelude.{◌≡◌, ◌<◌, ◌≤◌, ℕ, List, [], ◌∷◌, ◌++◌, ◌+◌, leb, eqb, Bool, true, false, Option, None, Some, IsSome, length, slice_index_or}
use Rattle.std.specs.List.{list_any}
use Rattle.std.specs.List.Sorted.{IsNonDecreasingBy, IsPartitionPoint}
use Rattle.std.specs.Ordering.{nat_cmp}
use Rattle.std.specs.FinMap.{FinMap, find, from_entries}
use Rattle.chord_ident.specs.Circle.{key_id}
use Rattle.chord_map.specs.declared.pair.Pair.{Pair}
use Rattle.chord_tree_store.specs.declared.slot.Slot.{Slot}
use Rattle.chord_tree_store.specs.declared.shard.Shard.{Shard}

abbrev pub first_of : Shard → ℕ
first_of shard = shard.first

-- the entries of all shards, one shard after another
abbrev pub entries_of : List Shard → List (ℕ × Slot)
entries_of [] = []
entries_of (shard ∷ rest) = shard.slots.entries ++ entries_of rest

-- the first of the two that is there
abbrev pub or_find : {X : Type 0} → Option X → Option X → Option X
or_find (Some x) o = Some x
or_find None o = o

-- whether the shard has a slot of the identifier
abbrev pub Has : Shard → ℕ → Type 0
Has shard id = IsSome (find nat_cmp id shard.slots.entries)

-- The shards rise by their firsts, and each has identifiers from its first up to the later ones
-- alone.
pub record InPlace (shards : List Shard) : Type 0 where
  pub rises : IsNonDecreasingBy first_of shards
  pub from : (i : ℕ) (d : Shard) (id : ℕ) → i < length shards → Has (slice_index_or shards i d) id → first_of (slice_index_or shards i d) ≤ id
  pub below : (i j : ℕ) (d : Shard) (id : ℕ) → i < j → j < length shards → Has (slice_index_or shards i d) id → id < first_of (slice_index_or shards j d)

-- the slots of all shards by identifier
abbrev pub slots_of : List Shard → FinMap nat_cmp Slot
slots_of shards = from_entries (entries_of shards)

-- the shard at the place is the last that begins at the identifier or below it
abbrev pub IsHome : List Shard → ℕ → ℕ → Type 0
IsHome shards id place = (place < length shards) × IsPartitionPoint (λ s. leb (first_of s) id ≡ true) (λ s. leb (first_of s) id ≡ false) shards (place + 1)

-- whether one of the pairs' keys has the identifier
abbrev pub has_id : ℕ → List Pair → Bool
has_id id pairs = list_any (λ (pair : Pair). eqb (key_id pair.key) id) pairs
