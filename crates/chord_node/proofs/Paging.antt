-- A page of a node, from the held segment at an index and its store.
use Rattle.std.proofs.Common.{◌≡◌, ◌<◌, ℕ, false, Option, None, Some, List, [], length, get_or, refl, sym, ◌∙◌, ap, subst}
use Rattle.std.specs.Prelude.{position, is_some}
use Rattle.std.proofs.lemmas.Bool.{true≢false}
use Rattle.chord_ident.specs.declared.id.Id.{Id}
use Rattle.chord_ident.specs.declared.span.Span.{Span}
use Rattle.chord_map.specs.declared.pair.Pair.{Pair}
use Rattle.chord_segment.specs.Segment.{Segment, RoomySegment}
use Rattle.chord_model.specs.Node.{Node, segment_with}
use Rattle.chord_node.specs.declared.pages.PairsPage.{PairsPage}
use Rattle.chord_node.specs.Pages.{IsPageOf, PairsFromIs, rest_from}
use Rattle.chord_node.specs.View.{segments_of}
use Rattle.chord_store.specs.Cut.{CutsLeaveFewer, part_up_to}
use Rattle.chord_store.specs.Inside.{pairs_inside}
use Rattle.chord_node.proofs.Asking.{IsPlace, has, holds_at, with_here}

none_of : (o : Option Segment) → is_some o ≡ false → o ≡ None
none_of None e = refl
none_of (Some s) e = absurd (true≢false e)

pub some_none : {A : Type 0} (s : Segment) (o : Option Segment) → o ≡ Some s → o ≡ None → A
some_none s o some none = absurd (true≢false (ap is_some (sym some ∙ none)))

-- the node holds no segment with the identifier
pub held_elsewhere : (x : ℕ) (view old : Node) → view ≡ old → (held : List RoomySegment) → view.held ≡ segments_of held → position (has x) held ≡ None → segment_with x old.held ≡ None
held_elsewhere x view old same held held_is none =
    subst (λ (n : Node). segment_with x n.held ≡ None) same
    (none_of (segment_with x view.held) (ap (λ (hs : List Segment). is_some (segment_with x hs)) held_is ∙ sym (holds_at x held) ∙ ap is_some none))

-- the held segment at this index is the one with the identifier
pub held_here : (x : ℕ) (view old : Node) → view ≡ old → (held : List RoomySegment) (i : ℕ) (s : RoomySegment)
    → view.held ≡ segments_of held → IsPlace x held i s → s ≡ get_or held i s → segment_with x old.held ≡ Some s.segment
held_here x view old same held i s held_is place here =
    subst (λ (n : Node). segment_with x n.held ≡ Some s.segment) same
    (ap (segment_with x) held_is ∙ with_here x held i s place ∙ ap (λ (a : RoomySegment). Some a.segment) (sym here))

pub told_here : (first : Id) (limit : ℕ) (view old : Node) → view ≡ old → (held : List RoomySegment) (i : ℕ) (s : RoomySegment) (span rest : Span) (pairs : List Pair) (page : PairsPage)
    → view.held ≡ segments_of held → IsPlace first.number held i s → s ≡ get_or held i s → span ≡ s.segment.span → rest ≡ rest_from first span → pairs ≡ view.entries
    → IsPageOf rest limit pairs page → PairsFromIs first limit old (Some page)
told_here first limit view old same held i s span rest pairs page held_is place here span_is rest_is pairs_are told =
    let its : IsPageOf rest limit old.entries page = subst (λ (ps : List Pair). IsPageOf rest limit ps page) (pairs_are ∙ ap (λ (n : Node). n.entries) same) told in
    let at : rest ≡ rest_from first s.segment.span = rest_is ∙ ap (rest_from first) span_is in
    (s.segment, held_here first.number view old same held i s held_is place here, subst (λ (r : Span). IsPageOf r limit old.entries page) at its)

-- with no pairs, each cut leaves fewer than one before it
pub fewer_of_none : (span : Span) (n : ℕ) (pairs : List Pair) → [] ≡ pairs → 0 < n → CutsLeaveFewer span n pairs
unfolding pairs_inside
fewer_of_none span n pairs none some = λ at on_circle cut. subst (λ (ps : List Pair). length (pairs_inside (part_up_to span at) ps) < n) none some
