-- What slots by identifier have. Source: our own.
use Rattle.std.specs.Prelude.{◌≡◌, ◌<◌, ◌^◌, ℕ, List, [], ◌∷◌, ◌++◌, true, Some, filter, not}
use Rattle.std.specs.Ordering.{nat_cmp}
use Rattle.std.specs.FinMap.{FinMap, entries, get}
use Rattle.chord_ident.specs.Circle.{in_span, key_id}
use Rattle.chord_ident.specs.declared.span.Span.{Span}
use Rattle.chord_map.specs.declared.pair.Pair.{Pair}
use Rattle.chord_map.specs.Map.{has_pair, put_all}
use Rattle.chord_map.specs.Pairs.{IsRising}
use Rattle.chord_store.specs.Store.{HasFew}
use Rattle.chord_tree_store.specs.declared.slot.Slot.{Slot}
use Rattle.chord_tree_store.specs.Slot.{pairs_of}

-- the pairs of all slots, one slot after another
abbrev pub pairs_of_slots : List (ℕ × Slot) → List Pair
pairs_of_slots [] = []
pairs_of_slots (e ∷ rest) = pairs_of e.1 ++ pairs_of_slots rest

-- the same pairs in the order of their keys
abbrev pub pairs_in : FinMap nat_cmp Slot → List Pair
pairs_in slots = put_all (pairs_of_slots (entries slots)) []

-- the entries whose identifiers lie in the span
abbrev pub entries_inside : Span → List (ℕ × Slot) → List (ℕ × Slot)
entries_inside span entries = filter (λ (e : ℕ × Slot). in_span span e.0) entries

-- the entries whose identifiers lie outside the span
abbrev pub entries_outside : Span → List (ℕ × Slot) → List (ℕ × Slot)
entries_outside span entries = filter (λ (e : ℕ × Slot). not (in_span span e.0)) entries

-- the pairs are a map's, of keys with this identifier
pub record IsSlot (id : ℕ) (pairs : List Pair) : Type 0 where
  pub small : id < 2 ^ 128
  pub rises : IsRising pairs
  pub few : HasFew pairs
  pub keyed : (q : Pair) → has_pair q pairs ≡ true → key_id q.key ≡ id

-- each slot has pairs of its identifier alone
abbrev pub ArePlaced : FinMap nat_cmp Slot → Type 0
ArePlaced slots = (id : ℕ) (slot : Slot) → get slots id ≡ Some slot → IsSlot id (pairs_of slot)
