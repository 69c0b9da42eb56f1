-- Which identifier a node gets that joins without one. Source: our own.
use Rattle.std.specs.Prelude.{ℕ, ◌≡◌, ◌≤◌, ◌<◌, ◌+◌, ◌^◌, ◌/◌, List, All, Any, Contains, min}
use Rattle.chord_ident.specs.Circle.{distance}
use Rattle.chord_ident.specs.declared.id.Id.{Id}
use Rattle.chord_app_serve.specs.declared.gap.Gap.{Gap}

-- the identifier lies in the gap
abbrev pub IsInGap : Gap → ℕ → Type 0
IsInGap gap x = (1 ≤ distance gap.after.number x) × (distance gap.after.number x ≤ gap.width)

-- none of these identifiers lies in the gap
abbrev pub IsFree : List Id → Gap → Type 0
IsFree ids gap = All (λ (id : Id). ¬ IsInGap gap id.number) ids

-- no gap behind this identifier that is free of these is wider
abbrev pub IsBound : List Id → ℕ → Id → Type 0
IsBound ids most after = (width : ℕ) → width < 2 ^ 128 → IsFree ids (record { after = after; width = width }) → width ≤ most

-- the gap begins at one of these, is free of them, and none behind any of them is wider
abbrev pub IsWidest : List Id → Gap → Type 0
IsWidest ids gap = IsFree ids gap × Contains ids gap.after × All (IsBound ids gap.width) ids

-- how far behind the gap's start the identifier is that a draw picks: in its second half, close to
-- its middle
abbrev pub place_in : Gap → ℕ → ℕ
place_in gap draw = 1 + gap.width / 2 + min draw (gap.width / 8)

-- the identifier that a draw picks of the widest gap
abbrev pub IsByMiddle : List Id → ℕ → Id → Type 0
IsByMiddle ids draw id = (gap : Gap) × IsWidest ids gap × (distance gap.after.number id.number ≡ place_in gap draw)

-- these, which are below 2 ^ 128 as each identifier is, are the whole circle
abbrev pub AreAll : List Id → Type 0
AreAll ids = All (λ (id : Id). id.number < 2 ^ 128) ids → (x : ℕ) → x < 2 ^ 128 → Any (λ (id : Id). id.number ≡ x) ids
