-- Where a node's pairs are cut by their number. Source: our own.
use Rattle.std.specs.Prelude.{◌≡◌, ◌≤◌, ℕ, true, Option, None, Some, List, length}
use Rattle.chord_ident.specs.Circle.{cuts}
use Rattle.chord_ident.specs.declared.id.Id.{Id}
use Rattle.chord_ident.specs.declared.span.Span.{Span}
use Rattle.chord_map.specs.declared.pair.Pair.{Pair}
use Rattle.chord_store.specs.Cut.{CutsLeaveFewer, IsShort, part_up_to}
use Rattle.chord_store.specs.Inside.{pairs_inside}

-- a cut of the span leaves at least n pairs before it, if a cut does; and at most `most`, or else
-- it is the first one that leaves n
abbrev pub CutAfterIs : Span → ℕ → ℕ → List Pair → Option Id → Type 0
CutAfterIs span n most pairs None = CutsLeaveFewer span n pairs
CutAfterIs span n most pairs (Some at) =
    (cuts span at ≡ true) × (n ≤ length (pairs_inside (part_up_to span at) pairs)) × IsShort (part_up_to span at) n most pairs
