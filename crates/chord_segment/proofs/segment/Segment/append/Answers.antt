use Rattle.std.proofs.Common.{◌≡◌, ℕ, List, refl, ap, ap₂, sym, subst, ◌∙◌}
use Rattle.chord_map.specs.declared.done.Done.{Done}
use Rattle.chord_segment.specs.declared.mark.Mark.{Mark}
use Rattle.chord_segment.specs.Marks.{lift}
use Rattle.chord_segment.specs.Rules.{IsSegment}
use Rattle.chord_segment.specs.Segment.{Segment, RoomySegment, append, calls_above, insert_call}
use Rattle.chord_ident.specs.declared.span.Span.{Span}
use Rattle.chord_segment.specs.Callers.{OfCaller, marks_in, calls_in}
use Rattle.chord_segment.proofs.SegmentRules.{append-rules}
use Rattle.chord_segment.proofs.Parting.{segment_is}
use Rattle.chord_segment.proofs.Readied.{still_ruled, rules_above, rules_same}
use Rattle.chord_segment.proofs.segment.Segment.append.Goals as goal

-- the floors are lifted, and the call stands among the others
appended_is : (span : Span) (done : Done) (floor : ℕ) (old mid new : List OfCaller) → marks_in mid ≡ marks_in old → calls_in mid ≡ calls_in old → marks_in new ≡ lift done.caller floor (marks_in mid)
    → calls_in new ≡ calls_above (lift done.caller floor (marks_in mid)) (insert_call done (calls_in mid))
    → ◌≡◌ {A = Segment} (record { span = span; floors = marks_in new; kept = calls_in new }) (append done floor (record { span = span; floors = marks_in old; kept = calls_in old }))
unfolding append
appended_is span done floor old mid new marks calls lifted kept =
    segment_is span span _ _ _ _ refl (lifted ∙ ap (lift done.caller floor) marks)
    (kept ∙ ap₂ (λ (ms : List Mark) (ds : List Done). calls_above (lift done.caller floor ms) (insert_call done ds)) marks calls)

pub invariant_of-self : goal.invariant_of-self
invariant_of-self c =
    let still = still_ruled c.self.inside.span c.self.inside.readied c.self.inside.callers c.reserve.new.self c.reserve.ensures.floors c.reserve.ensures.calls c.reserve.ensures.keeps c.self.invariant.rules c.self.invariant.readied in
    record { rules = still.rules; readied = still.readied }

pub keep-requires-clause-above : goal.keep-requires-clause-above
keep-requires-clause-above c = rules_above c.self.inside.span c.reserve.new.self (rules_same c.self.inside.span c.self.inside.callers c.reserve.new.self c.reserve.ensures.floors c.reserve.ensures.calls c.self.invariant.rules)

pub invariant_of-self-2 : goal.invariant_of-self-2
invariant_of-self-2 c =
    let is = appended_is c.self.inside.span c.args.done c.args.floor c.self.inside.callers c.reserve.new.self c.keep.new.self c.reserve.ensures.floors c.reserve.ensures.calls c.keep.ensures.floors c.keep.ensures.calls in
    let known = ap (λ (s : RoomySegment). s.segment) c.self.view_is in
    record {
      rules = subst IsSegment (sym is) (subst (λ (s : Segment). IsSegment (append c.args.done c.args.floor s)) (sym known)
          (append-rules c.args.done c.args.floor c.args.self.now.segment (subst IsSegment known c.self.invariant.rules) c.requires.key c.requires.new c.requires.near));
      readied = tt;
    }

pub returns-clause-ok : goal.returns-clause-ok
returns-clause-ok c =
    appended_is c.self.inside.span c.args.done c.args.floor c.self.inside.callers c.reserve.new.self c.keep.new.self c.reserve.ensures.floors c.reserve.ensures.calls c.keep.ensures.floors c.keep.ensures.calls
    ∙ ap (append c.args.done c.args.floor) (ap (λ (s : RoomySegment). s.segment) c.self.view_is)
