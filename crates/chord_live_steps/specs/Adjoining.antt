-- How a node joins held segments of its own that adjoin. Source: our own.
use Rattle.std.specs.Prelude.{◌≡◌, ◌≢◌, ◌⊎◌, ℕ, ◌<◌, ◌^◌, ◌-◌, true, false, Bool, not, ◌&&◌, ◌==◌, None, Some, List, Result, Ok, Err, slice_get}
use Rattle.std.specs.declared.alloc.AllocError.{AllocError}
use Rattle.chord_ident.specs.declared.id.Id.{Id}
use Rattle.chord_ident.specs.declared.span.Span.{Span}
use Rattle.chord_live_steps.specs.Tidy.{is_inside, own_span}
use Rattle.chord_model.specs.Node.{Node, NodeStep}
use Rattle.chord_node.specs.Moves.{MergeIs}
use Rattle.chord_node.specs.declared.fault.MergeFault.{MergeFault}
use Rattle.chord_node.specs.declared.fault.MergeFault.TheVariants as merge
use Rattle.chord_segment.specs.Segment.{Segment}

-- the span begins where another one ends, and lies inside the node's own
abbrev pub is_next : Span → Id → Span → Bool
is_next own end span = (span.after.number == end.number) && is_inside own span

-- the segment at the index `other` begins where the one at `place` ends, and lies inside
abbrev pub goes_on : Span → ℕ → Id → ℕ → Span → Bool
goes_on own place end other span = not (other == place) && is_next own end span

-- none of the held segments before an index goes on behind the one at `place`
abbrev pub NoneGoesOn : Span → ℕ → Id → List Segment → ℕ → Type 0
NoneGoesOn own place end held upto =
    (k : ℕ) → k < upto → (segment : Segment) → slice_get held k ≡ Some segment → goes_on own place end k segment.span ≡ false

-- no two held segments inside the node's own span adjoin, of those whose first stands before an
-- index
abbrev pub NoneAdjoin : Span → List Segment → ℕ → Type 0
NoneAdjoin own held upto =
    (k : ℕ) → k < upto → (segment : Segment) → slice_get held k ≡ Some segment → is_inside own segment.span ≡ true
    → NoneGoesOn own k segment.span.upto held (2 ^ 64 - 1)

-- two held segments inside the node's own span, of which the second begins where the first ends
abbrev pub Adjoin : Span → List Segment → ℕ → ℕ → Type 0
Adjoin own held place other =
    (first : Segment) × (second : Segment) × (slice_get held place ≡ Some first) × (slice_get held other ≡ Some second)
    × (is_inside own first.span ≡ true) × (goes_on own place first.span.upto other second.span ≡ true)

-- two such segments are joined, if there are any and the join is not refused
abbrev pub JoinIs : Id → Node → Result Bool AllocError → Node → Type 0
JoinIs p old (Ok true) new =
    (place : ℕ) × (other : ℕ) × (done : Unit {0}) × Adjoin (own_span p old) old.held place other × MergeIs place other old (Ok done) new
JoinIs p old (Ok false) new =
    (NoneAdjoin (own_span p old) old.held (2 ^ 64 - 1)
    ⊎ ((place : ℕ) × (other : ℕ) × (fault : MergeFault) × Adjoin (own_span p old) old.held place other × (fault ≢ merge.Memory) × MergeIs place other old (Err fault) new))
    × (new ≡ old)
JoinIs p old (Err fault) new =
    (place : ℕ) × (other : ℕ) × Adjoin (own_span p old) old.held place other × MergeIs place other old (Err merge.Memory) new

-- a join is one step of the node, and nothing else changes it
abbrev pub JoinSteps : Node → Result Bool AllocError → Node → Type 0
JoinSteps old (Ok true) new = NodeStep old None new None None
JoinSteps old result new = new ≡ old
