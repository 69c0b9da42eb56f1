-- How a node gives a segment in pieces, so that its lock is held for a moment only. Source: our
-- own.
use Rattle.std.specs.Prelude.{◌≡◌, ℕ, ◌<◌, ◌+◌, ◌/◌, ◌==◌, Bool, true, false, Option, None, Some, List, length, Result, Ok, Err, slice_get}
use Rattle.std.specs.declared.alloc.AllocError.{AllocError}
use Rattle.chord_handover.specs.Handover.{Item}
use Rattle.chord_ident.specs.declared.id.Id.{Id}
use Rattle.chord_model.specs.Node.{Node, NodeStep, cut_held}
use Rattle.chord_node.specs.Moves.{with_held}
use Rattle.chord_node.specs.Pieces.{CutAfterIs}
use Rattle.chord_segment.specs.Segment.{Segment}
use Rattle.chord_store.specs.Cut.{CutsLeaveFewer}

-- a piece has more than half of the pairs that it may have
abbrev pub fewest_of : ℕ → ℕ
fewest_of most = most / 2 + 1

-- the held segment at this index is to be cut here: before the cut is a piece of at most `most`
-- pairs, or no earlier cut leaves enough for a piece
abbrev pub IsTrimmedAt : ℕ → ℕ → Node → Segment → Id → Type 0
IsTrimmedAt place most old segment at =
    (slice_get old.held place ≡ Some segment) × CutAfterIs segment.span (fewest_of most) most old.entries (Some at)

-- the held segment at this index is cut so, if a cut leaves enough for a piece; out of memory
-- can only come in place of a cut
abbrev pub TrimIs : ℕ → ℕ → Node → Result Bool AllocError → Node → Type 0
TrimIs place most old (Ok true) new =
    (segment : Segment) × (at : Id) × IsTrimmedAt place most old segment at × (new ≡ with_held (cut_held place segment at old.held) old)
TrimIs place most old (Ok false) new =
    ((segment : Segment) → slice_get old.held place ≡ Some segment → CutsLeaveFewer segment.span (fewest_of most) old.entries) × (new ≡ old)
TrimIs place most old (Err fault) new = (segment : Segment) × (at : Id) × IsTrimmedAt place most old segment at × (new ≡ old)

-- a cut is one step of the node, and nothing else changes it
abbrev pub TrimSteps : Node → Result Bool AllocError → Node → Type 0
TrimSteps old (Ok true) new = NodeStep old None new None None
TrimSteps old result new = new ≡ old

-- whether an item, if there is one, goes to a node
abbrev pub goes_to : ℕ → Option Item → Bool
goes_to to None = false
goes_to to (Some item) = item.to == to

-- the items of an outbox before this index do not go to a node
abbrev pub NoneGoesTo : ℕ → List Item → ℕ → Type 0
NoneGoesTo to outbox upto = (k : ℕ) → k < upto → goes_to to (slice_get outbox k) ≡ false

-- whether an item of the outbox goes to a node
abbrev pub GivesToIs : ℕ → List Item → Bool → Type 0
GivesToIs to outbox true = (k : ℕ) × (goes_to to (slice_get outbox k) ≡ true)
GivesToIs to outbox false = NoneGoesTo to outbox (length outbox)
