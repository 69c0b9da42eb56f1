-- How a node tidies: it holds only what is its own.
use Rattle.std.specs.Prelude.{◌≡◌, ◌≢◌, ◌⊎◌, ℕ, ◌<◌, ◌^◌, ◌-◌, true, false, Bool, not, ◌&&◌, ◌||◌, ◌==◌, None, Some, List, Result, Ok, Err, slice_get}
use Rattle.std.specs.declared.alloc.AllocError.{AllocError}
use Rattle.chord_ident.specs.Circle.{in_span, cuts}
use Rattle.chord_ident.specs.declared.id.Id.{Id}
use Rattle.chord_ident.specs.declared.span.Span.{Span}
use Rattle.chord_live_steps.specs.declared.tidying.Tidied.{Tidied}
use Rattle.chord_live_steps.specs.declared.tidying.Tidied.TheVariants as tidied
use Rattle.chord_node.specs.Moves.{with_held}
use Rattle.chord_model.specs.Node.{Node, NodeStep, cut_held}
use Rattle.chord_model.specs.declared.phase.Phase.TheVariants.{Staying}
use Rattle.chord_segment.specs.Segment.{Segment}

-- the span lies inside another: its own end lies there, and neither end of the other cuts it
abbrev pub is_inside : Span → Span → Bool
is_inside own span = (own.after.number == own.upto.number) || (not (cuts span own.after) && (not (cuts span own.upto) && in_span own span.upto.number))

-- the spans of the held segments before this index are inside
abbrev pub AreInside : Span → List Segment → ℕ → Type 0
AreInside own held place = (k : ℕ) → k < place → (segment : Segment) → slice_get held k ≡ Some segment → is_inside own segment.span ≡ true

-- the identifiers between a predecessor and the node
abbrev pub own_span : Id → Node → Span
own_span p node = record { after = p; upto = node.links.me.id }

-- the segment at this index is the first that is not inside the node's own span
abbrev pub IsOutside : Id → Node → ℕ → Segment → Type 0
IsOutside p node place segment =
    (slice_get node.held place ≡ Some segment) × (is_inside (own_span p node) segment.span ≡ false) × AreInside (own_span p node) node.held place

-- the first held segment that is not inside is cut at p, else at the node; if neither cuts it, it
-- is to be given; out of memory can only come in place of a cut
abbrev pub TidyIs : Id → Node → Result Tidied AllocError → Node → Type 0
TidyIs p old (Ok tidied.Nothing) new = ((old.phase ≢ Staying) ⊎ AreInside (own_span p old) old.held (2 ^ 64 - 1)) × (new ≡ old)
TidyIs p old (Ok tidied.Cut) new =
    (place : ℕ) × (segment : Segment) × IsOutside p old place segment × (old.phase ≡ Staying)
    × (((cuts segment.span p ≡ true) × (new ≡ with_held (cut_held place segment p old.held) old))
    ⊎ ((cuts segment.span p ≡ false) × (cuts segment.span old.links.me.id ≡ true) × (new ≡ with_held (cut_held place segment old.links.me.id old.held) old)))
TidyIs p old (Ok (tidied.Give place)) new =
    (segment : Segment) × IsOutside p old place segment × (old.phase ≡ Staying)
    × (cuts segment.span p ≡ false) × (cuts segment.span old.links.me.id ≡ false) × (new ≡ old)
TidyIs p old (Err fault) new =
    (place : ℕ) × (segment : Segment) × IsOutside p old place segment × (old.phase ≡ Staying)
    × ((cuts segment.span p ≡ true) ⊎ (cuts segment.span old.links.me.id ≡ true)) × (new ≡ old)

-- a cut is one step of the node, and nothing else changes it
abbrev pub TidySteps : Node → Result Tidied AllocError → Node → Type 0
TidySteps old (Ok tidied.Cut) new = NodeStep old None new None None
TidySteps old result new = new ≡ old
