use Rattle.std.proofs.Common.{◌≡◌, ◌≢◌, ℕ, ◌<◌, List, length, set, get_or, Ok, Err, refl, subst, ap, sym, ◌∙◌, arith, rules}
use Rattle.std.proofs.Math.ListN.{length-set}
use Rattle.chord_ident.specs.declared.span.Span.{Span}
use Rattle.chord_segment.specs.Segment.{RoomySegment}
use Rattle.chord_segment.specs.Join.{JoinIs}
use Rattle.chord_model.specs.Stock.{IsOnCircle}
use Rattle.chord_node.specs.View.{segments_of}
use Rattle.chord_node.proofs.Covering.{on_at, merge_covers}
use Rattle.chord_node.proofs.Merging.{Read, merged, unmerged, refused}
use Rattle.chord_node.proofs.Moving.{segments_get}
use Rattle.chord_node.proofs.handovers.held.merge_segments.Goals as goal

-- both segments are read, the second before it is taken out
read_both : {held : List RoomySegment} {place other : ℕ} {dest first second : RoomySegment} → place ≢ other → first ≡ get_or (set held other dest) place first → second ≡ get_or held other second
    → place < length held → other < length held → Read held place other dest first second
read_both apart first_is second_is inside there = record { apart = apart; first_in = simp length-set inside; second_in = there; first_is = first_is; second_is = second_is }

pub returns-then-ne-clause-answer : goal.returns-then-ne-clause-answer
returns-then-ne-clause-answer c =
    let held = c.args.held.now.items in
    let inside : c.args.place < length held = omega arith in
    let other : c.args.other < length held = omega arith in
    let apart : c.span-span.result.upto ≢ c.span-behind.result.after = search rules in (
      (
        c.index.result.now.segment,
        c.index-2.result.now.segment,
        segments_get held c.args.place c.index.result.now inside c.index.ensures,
        segments_get held c.args.other c.index-2.result.now other c.index-2.ensures,
        c.if-place-other.false,
        λ e. apart (ap (λ (s : Span). s.upto) c.span-span.ensures.value ∙ e ∙ sym (ap (λ (s : Span). s.after) c.span-behind.ensures.value)),
      ),
      refl,
    )

pub returns-in-Ok-clause-answer : goal.returns-in-Ok-clause-answer
returns-in-Ok-clause-answer c =
    let held = c.args.held.now.items in
    let read = read_both {held = held} {dest = c.replace-next.new.dest} c.if-place-other.false c.index_mut-first.ensures.value c.index_mut.ensures.value (omega arith) (omega arith) in
    let P : RoomySegment → Type 0 = λ s. JoinIs c.index_mut-first.result.now.segment s.segment (Ok tt) c.absorb.new.self.segment in
    merged held c.remove.new.self.items c.args.place c.args.other c.replace-next.new.dest c.index_mut-first.result.now c.index_mut.result.now c.absorb.new.self read
    (subst P c.replace-next.ensures.value c.in-Ok.ensures.answer) c.remove.ensures.items

pub returns-in-Err-clause-answer : goal.returns-in-Err-clause-answer
returns-in-Err-clause-answer c =
    let held = c.args.held.now.items in
    let read = read_both {held = held} {dest = c.replace-next.new.dest} c.if-place-other.false c.index_mut-first.ensures.value c.index_mut.ensures.value (omega arith) (omega arith) in
    let P : RoomySegment → Type 0 = λ s. JoinIs c.index_mut-first.result.now.segment s.segment (Err c.in-Err.fault) c.absorb.new.self.segment in
    let answer = subst P c.replace-next.ensures.value c.in-Err.ensures.answer in
    refused held (set (set (set held c.args.other c.replace-next.new.dest) c.args.place c.absorb.new.self) c.args.other c.absorb.new.next) c.args.place c.args.other
    c.replace-next.new.dest c.index_mut-first.result.now c.index_mut.result.now c.absorb.new.self.segment c.in-Err.fault c.merge_fault.result read answer
    (unmerged held c.args.place c.args.other c.replace-next.new.dest c.index_mut-first.result.now c.index_mut.result.now c.absorb.new.self c.absorb.new.next c.in-Err.fault read
    answer (c.in-Err.ensures.err ∙ ap (λ (s : RoomySegment). s.segment) c.replace-next.ensures.value)) c.merge_fault.ensures

pub returns-in-Ok-clause-covers : goal.returns-in-Ok-clause-covers
returns-in-Ok-clause-covers c =
    let held = c.args.held.now.items in
    let inside : c.args.place < length held = omega arith in
    let other : c.args.other < length held = omega arith in
    merge_covers c.args.place c.args.other (segments_of held) _ (Ok tt)
    (on_at (segments_of held) c.args.place c.index.result.now.segment (segments_get held c.args.place c.index.result.now inside c.index.ensures) (subst IsOnCircle c.span-span.ensures.value c.span-span.ensures.circle))
    (on_at (segments_of held) c.args.other c.index-2.result.now.segment (segments_get held c.args.other c.index-2.result.now other c.index-2.ensures) (subst IsOnCircle c.span-behind.ensures.value c.span-behind.ensures.circle))
    (returns-in-Ok-clause-answer c)

pub returns-in-Err-clause-covers : goal.returns-in-Err-clause-covers
returns-in-Err-clause-covers c =
    let held = c.args.held.now.items in
    let inside : c.args.place < length held = omega arith in
    let other : c.args.other < length held = omega arith in
    merge_covers c.args.place c.args.other (segments_of held) _ (Err c.merge_fault.result)
    (on_at (segments_of held) c.args.place c.index.result.now.segment (segments_get held c.args.place c.index.result.now inside c.index.ensures) (subst IsOnCircle c.span-span.ensures.value c.span-span.ensures.circle))
    (on_at (segments_of held) c.args.other c.index-2.result.now.segment (segments_get held c.args.other c.index-2.result.now other c.index-2.ensures) (subst IsOnCircle c.span-behind.ensures.value c.span-behind.ensures.circle))
    (returns-in-Err-clause-answer c)
