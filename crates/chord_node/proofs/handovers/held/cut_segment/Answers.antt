use Rattle.std.proofs.Common.{◌≡◌, ◌<◌, ◌^◌, List, length, true, Ok, Err, sym, ap, ◌∙◌, rules, arith, subst}
use Rattle.chord_ident.specs.Circle.{cuts}
use Rattle.chord_segment.specs.Segment.{Segment, RoomySegment}
use Rattle.chord_node.specs.declared.fault.CutAtFault.TheVariants.{Memory}
use Rattle.chord_model.specs.Stock.{IsOnCircle}
use Rattle.chord_node.specs.View.{segments_of}
use Rattle.chord_model.specs.Node.{cut_held}
use Rattle.chord_node.proofs.Asking.{put_same}
use Rattle.chord_node.proofs.Covering.{on_at, cut_covers}
use Rattle.chord_node.proofs.Moving.{segments_get, cut_knowns, same_at}
use Rattle.chord_node.proofs.handovers.held.cut_segment.Goals as goal

pub returns-in_default-clause-answer : goal.returns-in_default-clause-answer
returns-in_default-clause-answer c =
    let held = c.args.held.now.items in
    let r = c.reserve.ensures.items in
    let inside : c.args.place < length held = omega arith in
    let inside' : c.args.place < length c.reserve.new.self.items = let l = ap (λ (hs : List RoomySegment). length hs) r in omega arith in
    let same = same_at held c.reserve.new.self.items c.args.place c.index.result.now c.index_mut-segment.result.now inside r c.index.ensures c.index_mut-segment.ensures.value in
    let cut : cuts c.index.result.now.segment.span c.args.at ≡ true = search rules in (
      c.index.result.now.segment,
      segments_get held c.args.place c.index.result.now inside c.index.ensures,
      cut,
      put_same c.reserve.new.self.items c.args.place c.index_mut-segment.result.now c.split_off.new.self inside' (c.in_default.ensures.answer.1 ∙ ap (λ (s : RoomySegment). s.segment) c.index_mut-segment.ensures.value) ∙ ap segments_of r,
    )

pub returns-clause-answer : goal.returns-clause-answer
returns-clause-answer c =
    let held = c.args.held.now.items in
    let r = c.reserve.ensures.items in
    let inside : c.args.place < length held = omega arith in
    let same = same_at held c.reserve.new.self.items c.args.place c.index.result.now c.index_mut-segment.result.now inside r c.index.ensures c.index_mut-segment.ensures.value in
    let cut : cuts c.index.result.now.segment.span c.args.at ≡ true = search rules in (
      c.index.result.now.segment,
      segments_get held c.args.place c.index.result.now inside c.index.ensures,
      cut,
      cut_knowns c.reserve.new.self.items c.insert.new.self.items c.args.place c.index_mut-segment.result.now c.split_off.new.self c.in-Ok.second c.args.at c.in-Ok-insert.ensures.items c.in-Ok.ensures.answer.1 c.in-Ok.ensures.answer.2
          ∙ ap (λ (s : Segment). cut_held c.args.place s c.args.at (segments_of c.reserve.new.self.items)) (sym same)
          ∙ ap (λ (hs : List RoomySegment). cut_held c.args.place c.index.result.now.segment c.args.at (segments_of hs)) r,
    )

pub returns-in_default-clause-covers : goal.returns-in_default-clause-covers
returns-in_default-clause-covers c =
    let held = c.args.held.now.items in
    let inside : c.args.place < length held = omega arith in
    let circle : c.args.at.number < 2 ^ 128 = search rules in
    cut_covers c.args.place c.args.at (segments_of held) _ (Err Memory)
    (on_at (segments_of held) c.args.place c.index.result.now.segment (segments_get held c.args.place c.index.result.now inside c.index.ensures) (subst IsOnCircle c.span-span.ensures.value c.span-span.ensures.circle))
    circle (returns-in_default-clause-answer c)

pub returns-clause-covers : goal.returns-clause-covers
returns-clause-covers c =
    let held = c.args.held.now.items in
    let inside : c.args.place < length held = omega arith in
    let circle : c.args.at.number < 2 ^ 128 = search rules in
    cut_covers c.args.place c.args.at (segments_of held) _ (Ok tt)
    (on_at (segments_of held) c.args.place c.index.result.now.segment (segments_get held c.args.place c.index.result.now inside c.index.ensures) (subst IsOnCircle c.span-span.ensures.value c.span-span.ensures.circle))
    circle (returns-clause-answer c)
