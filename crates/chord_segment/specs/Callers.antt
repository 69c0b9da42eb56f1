-- A segment's floors and kept calls, grouped by caller.
use Rattle.std.specs.Prelude.{◌≡◌, ℕ, ◌<◌, ◌≤◌, Bool, true, false, if◌then◌else◌, Option, None, Some, List, [], ◌∷◌, length, take, drop, flat_map, slice_index_or, ◌⊎◌}
use Rattle.std.specs.List.{AllByRecursion}
use Rattle.chord_map.specs.declared.done.Done.{Done}
use Rattle.chord_map.specs.History.{done_at}
use Rattle.chord_segment.specs.declared.mark.Mark.{Mark}
use Rattle.chord_segment.specs.Marks.{mark_of}
use Rattle.chord_segment.specs.Segment.{dones_inside}
use Rattle.chord_ident.specs.declared.span.Span.{Span}

-- a caller's floor, its kept calls above it, whether the floor is among the segment's, and for how
-- many more calls its memory has room
pub record OfCaller : Type 0 where
  pub caller : ℕ
  pub floor : ℕ
  pub kept : List Done
  pub shown : Bool
  pub room : ℕ

abbrev pub mark_in : OfCaller → List Mark
mark_in own = if own.shown then record { owner = own.caller; number = own.floor } ∷ [] else []

abbrev pub marks_in : List OfCaller → List Mark
marks_in callers = flat_map mark_in callers

abbrev pub calls_in : List OfCaller → List Done
calls_in callers = flat_map (λ (own : OfCaller). own.kept) callers

-- the entry keeps calls of its own caller alone; one that is not shown has floor 0 and no calls
pub record IsOwn (own : OfCaller) : Type 0 where
  pub own_calls : AllByRecursion (λ (done : Done). done.caller ≡ own.caller) own.kept
  pub no_floor : own.shown ≡ false → own.floor ≡ 0
  pub no_calls : own.shown ≡ false → own.kept ≡ []

-- each entry keeps calls of its own caller alone, and the entries are sorted by caller
abbrev pub IsGrouped : List OfCaller → Type 0
IsGrouped [] = Unit {0}
IsGrouped (own ∷ callers) = IsOwn own × AllByRecursion (λ (other : OfCaller). own.caller < other.caller) callers × IsGrouped callers

-- the caller has an entry, with room for at least `count` more calls
abbrev pub HasRoom : ℕ → ℕ → List OfCaller → Type 0
HasRoom caller count [] = ⊥
HasRoom caller count (own ∷ callers) = ((own.caller ≡ caller) × (count ≤ own.room)) ⊎ HasRoom caller count callers

-- if a caller is named, it has room for one more call
abbrev pub IsReadied : Option ℕ → List OfCaller → Type 0
IsReadied None callers = Unit {0}
IsReadied (Some caller) callers = HasRoom caller 1 callers

-- the caller's entry is at this index
pub record IsOwnAt (caller : ℕ) (callers : List OfCaller) (place : ℕ) : Type 0 where
  pub in_range : place < length callers
  pub is_own : (d : OfCaller) → (slice_index_or callers place d).caller ≡ caller

-- the index at which the caller's entry would be inserted
pub record IsGapAt (caller : ℕ) (callers : List OfCaller) (place : ℕ) : Type 0 where
  pub in_range : place ≤ length callers
  pub before : AllByRecursion (λ (own : OfCaller). own.caller < caller) (take place callers)
  pub behind : AllByRecursion (λ (own : OfCaller). caller < own.caller) (drop place callers)

-- a lookup of this caller finds its floor and calls in this entry, or it has no entry
abbrev pub IsEntry : ℕ → Option OfCaller → List OfCaller → Type 0
IsEntry caller None callers =
    (mark_of caller (marks_in callers) ≡ 0) × ((number : ℕ) → done_at caller number (calls_in callers) ≡ None)
IsEntry caller (Some own) callers =
    (mark_of caller (marks_in callers) ≡ own.floor) × ((number : ℕ) → done_at caller number (calls_in callers) ≡ done_at caller number own.kept)

-- the entry with its room set to 0
abbrev pub without_room : OfCaller → OfCaller
without_room own = record { caller = own.caller; floor = own.floor; kept = own.kept; shown = own.shown; room = 0 }

-- the entry with only its calls in the span, and room 0
abbrev pub part_in : Span → OfCaller → OfCaller
part_in span own = record { caller = own.caller; floor = own.floor; kept = dones_inside span own.kept; shown = own.shown; room = 0 }

-- each of these callers has an entry with room for all of its calls
abbrev pub HasRoomFor : List OfCaller → List OfCaller → Type 0
HasRoomFor more callers = AllByRecursion (λ (own : OfCaller). HasRoom own.caller (length own.kept) callers) more

-- each call is above its caller's floor
abbrev pub AreAbove : List OfCaller → Type 0
AreAbove callers = AllByRecursion (λ (done : Done). mark_of done.caller (marks_in callers) < done.number) (calls_in callers)

-- the index of the first entry from `from` on that is shown, or the end; those skipped show nothing
pub record IsNextShown (callers : List OfCaller) (from place : ℕ) : Type 0 where
  pub behind : from ≤ place
  pub in_range : place ≤ length callers
  pub marks : marks_in (drop from callers) ≡ marks_in (drop place callers)
  pub calls : calls_in (drop from callers) ≡ calls_in (drop place callers)
  pub is_shown : place < length callers → (d : OfCaller) → (slice_index_or callers place d).shown ≡ true

-- both have the same marks and the same calls
pub record IsAlike (first second : List OfCaller) : Type 0 where
  pub marks : marks_in first ≡ marks_in second
  pub calls : calls_in first ≡ calls_in second

-- both entries have the same caller, floor and calls
pub record IsTwin (first second : OfCaller) : Type 0 where
  pub caller : first.caller ≡ second.caller
  pub floor : first.floor ≡ second.floor
  pub kept : first.kept ≡ second.kept
