use Rattle.std.proofs.Common.{◌≡◌, true, List, refl, ap, ap₂, sym, subst, ◌∙◌}
use Rattle.chord_ident.specs.declared.span.Span.{Span}
use Rattle.chord_map.specs.declared.done.Done.{Done}
use Rattle.chord_segment.specs.declared.mark.Mark.{Mark}
use Rattle.chord_segment.specs.Marks.{lift_all}
use Rattle.chord_segment.specs.Rules.{IsSegment}
use Rattle.chord_segment.specs.Segment.{Segment, RoomySegment, calls_above, joined_segment, insert_calls}
use Rattle.chord_segment.specs.Callers.{OfCaller, marks_in, calls_in}
use Rattle.chord_segment.proofs.Parting.{segment_is}
use Rattle.chord_segment.proofs.Readied.{still_ruled, rules_above, rules_same}
use Rattle.chord_segment.proofs.segment.Segment.absorb.Goals as goal
use Rattle.chord_ident.specs.Circle.{cuts}
use Rattle.chord_segment.proofs.Joining.{joined-rules, join_is}
use Rattle.std.proofs.Common.{Ok, rules}

-- both spans, the greater floors, and the calls above them
joined_is : (one two : Span) (old mid other new : List OfCaller) → marks_in mid ≡ marks_in old → calls_in mid ≡ calls_in old → marks_in new ≡ lift_all (marks_in other) (marks_in mid)
    → calls_in new ≡ calls_above (marks_in new) (insert_calls (calls_in other) (calls_in mid))
    → ◌≡◌ {A = Segment} (record { span = record { after = one.after; upto = two.upto }; floors = marks_in new; kept = calls_in new })
    (joined_segment (record { span = one; floors = marks_in old; kept = calls_in old }) (record { span = two; floors = marks_in other; kept = calls_in other }))
unfolding joined_segment
joined_is one two old mid other new marks calls lifted kept =
    let floors = lifted ∙ ap (lift_all (marks_in other)) marks in
    segment_is (record { after = one.after; upto = two.upto }) (record { after = one.after; upto = two.upto }) _ _ _ _ refl floors
    (kept ∙ ap₂ (λ (ms : List Mark) (ds : List Done). calls_above ms (insert_calls (calls_in other) ds)) floors calls)

pub invariant_of-self : goal.invariant_of-self
invariant_of-self c =
    let still = still_ruled c.self.inside.span c.self.inside.readied c.self.inside.callers c.ready.new.self c.ready.ensures.floors c.ready.ensures.calls c.ready.ensures.keeps c.self.invariant.rules c.self.invariant.readied in
    record { rules = still.rules; readied = still.readied }

pub take_all-requires-clause-above : goal.take_all-requires-clause-above
take_all-requires-clause-above c = rules_above c.self.inside.span c.ready.new.self (rules_same c.self.inside.span c.self.inside.callers c.ready.new.self c.ready.ensures.floors c.ready.ensures.calls c.self.invariant.rules)

pub invariant_of-self-2 : goal.invariant_of-self-2
invariant_of-self-2 c =
    let is = joined_is c.self.inside.span c.next.inside.span c.self.inside.callers c.ready.new.self c.next.inside.callers c.take_all.new.self c.ready.ensures.floors c.ready.ensures.calls c.take_all.ensures.floors c.take_all.ensures.calls in
    let next : c.self.inside.span.upto ≡ c.next.inside.span.after = search rules in
    record { rules = subst IsSegment (sym is) (joined-rules _ _ c.self.invariant.rules c.next.invariant.rules c.in-Ok.ensures.split next (sym c.any_twice.ensures ∙ c.if-any_twice.false)); readied = tt }

pub returns-clause-answer : goal.returns-clause-answer
returns-clause-answer c =
    let is = joined_is c.self.inside.span c.next.inside.span c.self.inside.callers c.ready.new.self c.next.inside.callers c.take_all.new.self c.ready.ensures.floors c.ready.ensures.calls c.take_all.ensures.floors c.take_all.ensures.calls in
    let next : c.self.inside.span.upto ≡ c.next.inside.span.after = search rules in
    let apart : cuts (record { after = c.self.inside.span.after; upto = c.next.inside.span.upto }) c.self.inside.span.upto ≡ true = search rules in
    join_is _ _ c.args.self.now.segment c.args.next.now.segment (ap (λ (s : RoomySegment). s.segment) c.self.view_is) (ap (λ (s : RoomySegment). s.segment) c.next.view_is)
    (Ok tt) _ (next, apart, sym c.any_twice.ensures ∙ c.if-any_twice.false, is)
