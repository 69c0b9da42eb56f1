use Rattle.std.proofs.Common.{List, [], ◌∷◌, ◌++◌, sym, ap, subst, arith}
use Rattle.chord_handover.specs.Handover.{Part}
use Rattle.chord_handover.specs.Taken.{Taken}
use Rattle.chord_map.specs.declared.pair.Pair.{Pair}
use Rattle.chord_segment.specs.Marks.{mark_of}
use Rattle.chord_segment.specs.Segment.{Segment}
use Rattle.chord_model.specs.Stock.{IsStocked}
use Rattle.chord_node.specs.View.{segments_of}
use Rattle.chord_node.proofs.Moving.{held_more}
use Rattle.chord_model.proofs.Stocking.{stocked_more}
use Rattle.chord_node.proofs.handovers.take_in.take_whole.Goals as goal

pub mark-requires-clause-more : goal.mark-requires-clause-more
mark-requires-clause-more g c =
    let from = ap (λ (part : Part). part.from) c.part.view_is in
    let same = ap (λ (taken : Taken). mark_of c.part.inside.from taken.last) c.reserve.ensures.same in
    let named = ap (λ n. mark_of n c.args.taken.now.taken.last) from in
    let next = c.requires.next in
    let fits = c.requires.fits in
    omega arith

pub returns-clause-stocked : goal.returns-clause-stocked
returns-clause-stocked g c =
    let held = c.args.held.now.items in
    let put = c.in-Ok.ensures.answer in
    let more = held_more held _ c.push_reserved.new.self.items _ c.args.payload.segment c.push_reserved.ensures.items c.in-Ok.ensures.held c.into_parts-segment.ensures.segment in
    let stock = stocked_more (segments_of held) c.args.payload (g.S.EntryStore.content c.args.store.now) c.in-Ok.ensures.payload put.0 c.requires.stocked in
    subst (λ (hs : List Segment). IsStocked hs (g.S.EntryStore.content c.make_held.new.store)) (sym more) (subst (λ (ps : List Pair). IsStocked (segments_of held ++ c.args.payload.segment ∷ []) ps) (sym put.2) stock)
