use Rattle.std.proofs.Common.{◌≡◌, refl, ap, sym, subst, ◌∙◌}
use Rattle.chord_segment.specs.Rules.{IsSegment}
use Rattle.chord_segment.specs.Segment.{Segment, dones_inside}
use Rattle.chord_segment.specs.Callers.{marks_in, calls_in}
use Rattle.chord_segment.proofs.Parting.{segment_is, part_of-rules}
use Rattle.chord_segment.proofs.segment.Segment.split_off.Goals as goal

pub invariant_of-result : goal.invariant_of-result
invariant_of-result c =
    let old = c.self.inside.callers in
    let new = c.keep_inside.new.self in
    let span = c.in-Ok.second in
    let was : Segment = record { span = c.self.inside.span; floors = marks_in old; kept = calls_in old } in
    let floors : marks_in new ≡ marks_in old = c.keep_inside.ensures.floors ∙ c.in_ok-callers.ensures.floors in
    let calls : calls_in new ≡ dones_inside span (calls_in old) = c.keep_inside.ensures.calls ∙ ap (dones_inside c.in-Ok.second) c.in_ok-callers.ensures.calls in
    record {
      rules = subst IsSegment (sym (segment_is span span _ _ _ _ refl floors calls)) (part_of-rules span was c.self.invariant.rules);
      readied = tt;
    }

pub invariant_of-self : goal.invariant_of-self
invariant_of-self c =
    let old = c.self.inside.callers in
    let new = c.keep_inside-2.new.self in
    let span = c.in-Ok.first in
    let was : Segment = record { span = c.self.inside.span; floors = marks_in old; kept = calls_in old } in
    let floors : marks_in new ≡ marks_in old = c.keep_inside-2.ensures.floors in
    let calls : calls_in new ≡ dones_inside span (calls_in old) = c.keep_inside-2.ensures.calls in
    record {
      rules = subst IsSegment (sym (segment_is span span _ _ _ _ refl floors calls)) (part_of-rules span was c.self.invariant.rules);
      readied = tt;
    }
