-- Calls split by a test.
use Rattle.std.proofs.Common.{◌≡◌, true, List}
use Rattle.chord_ident.specs.declared.span.Span.{Span}
use Rattle.chord_ident.specs.Circle.{in_span}
use Rattle.chord_map.proofs.Each.{Each-filter, Each_filter_with}
use Rattle.chord_map.specs.declared.done.Done.{Done}
use Rattle.chord_segment.specs.declared.mark.Mark.{Mark}
use Rattle.chord_segment.specs.Segment.{Segment, id_of, dones_inside, part_of}
use Rattle.chord_segment.specs.Rules.{IsSegment}
use Rattle.chord_segment.proofs.SegmentRules.{EachOnce-filter}

-- a part of a segment is a segment
pub part_of-rules : (span : Span) (segment : Segment) → IsSegment segment → IsSegment (part_of span segment)
unfolding dones_inside
part_of-rules span segment h = record {
  inside = Each_filter_with (λ (d : Done). in_span segment.span (id_of d.request) ≡ true) (λ (d : Done). in_span span (id_of d.request) ≡ true) _ (λ d old test. test) segment.kept h.inside;
  near = Each-filter _ _ segment.kept h.near;
  once = EachOnce-filter _ segment.kept h.once;
}

-- a segment consists of its parts
pub segment_is : (span span' : Span) (floors floors' : List Mark) (kept kept' : List Done) → span ≡ span' → floors ≡ floors' → kept ≡ kept'
    → ◌≡◌ {A = Segment} (record { span = span; floors = floors; kept = kept }) (record { span = span'; floors = floors'; kept = kept' })
segment_is span span' floors floors' kept kept' d e f = cc
