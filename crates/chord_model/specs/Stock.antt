-- Statement 14 of 15: what a node holds, and which entries lie in it.
use Rattle.std.specs.Prelude.{◌≡◌, ◌<◌, ◌≤◌, ◌^◌, ℕ, Bool, true, false, List, length}
use Rattle.std.specs.List.{AllByRecursion, list_any}
use Rattle.chord_ident.specs.declared.span.Span.{Span}
use Rattle.chord_ident.specs.Circle.{in_span, key_id}
use Rattle.chord_map.specs.declared.pair.Pair.{Pair}
use Rattle.chord_map.specs.Map.{values_at}
use Rattle.chord_map.specs.Pairs.{IsRising}
use Rattle.chord_segment.specs.Segment.{Segment}

-- both ends of the span are on the circle
abbrev pub IsOnCircle : Span → Type 0
IsOnCircle span = (span.after.number < 2 ^ 128) × (span.upto.number < 2 ^ 128)

-- whether a held segment contains the identifier
abbrev pub holds : ℕ → List Segment → Bool
holds x held = list_any (λ (segment : Segment). in_span segment.span x) held

-- a held segment contains the pair's key
abbrev pub IsHeld : List Segment → Pair → Type 0
IsHeld held pair = holds (key_id pair.key) held ≡ true

-- some identifier of the span is held
abbrev pub IsClash : Span → List Segment → Type 0
IsClash span held = (x : ℕ) × (x < 2 ^ 128) × (in_span span x ≡ true) × (holds x held ≡ true)

-- no identifier of the span is held
abbrev pub IsClear : Span → List Segment → Type 0
IsClear span held = (x : ℕ) → x < 2 ^ 128 → in_span span x ≡ true → holds x held ≡ false

-- the pairs are sorted, at most 1,000 for each key, and lie in held spans
pub record IsStocked (held : List Segment) (pairs : List Pair) : Type 0 where
  pub rising : IsRising pairs
  pub few : (key : List ℕ) → length (values_at key pairs) ≤ 1000
  pub placed : AllByRecursion (IsHeld held) pairs
