-- A node after it begins a handover, from its parts after it.
use Rattle.std.proofs.Common.{◌≡◌, ℕ, ◌+◌, ◌^◌, ◌<◌, ◌≤◌, Result, Ok, Err, List, [], ◌∷◌, ◌++◌, length, get_or, refl, sym, ◌∙◌, ap, subst, arith}
use Rattle.std.specs.Prelude.{slice_get, remove}
use Rattle.chord_handover.specs.Handover.{Part, Item, part_at}
use Rattle.chord_handover.specs.Outbox.{Outbox, with_item}
use Rattle.chord_handover.specs.Payload.{Payload, IsPayload, handover_of_payload}
use Rattle.chord_ident.specs.declared.span.Span.{Span}
use Rattle.chord_map.specs.declared.pair.Pair.{Pair}
use Rattle.chord_node.proofs.Moving.{segments_get, segments_length, segments_remove, same_at}
use Rattle.chord_model.proofs.Stocking.{stocked_less, payload_taken}
use Rattle.chord_node.specs.declared.fault.GiveFault.{GiveFault}
use Rattle.chord_node.specs.declared.fault.GiveFault.TheVariants as give
use Rattle.chord_node.specs.Moves.{GiveIs, SendSteps}
use Rattle.chord_model.specs.Node.{Node}
use Rattle.chord_model.specs.Node.NodeStep.{Gives}
use Rattle.chord_model.specs.Stock.{IsStocked}
use Rattle.chord_node.specs.View.{segments_of}
use Rattle.chord_segment.specs.declared.mark.Mark.{Mark}
use Rattle.chord_segment.specs.Marks.{mark_of, raise}
use Rattle.chord_segment.specs.Segment.{Segment, RoomySegment}
use Rattle.chord_store.specs.Inside.{pairs_inside, pairs_outside}

same_fields : (view : Node) (h h' : List Segment) (e e' : List Pair) (l : ℕ) (g g' : List Mark) (o o' : List Item)
    → h ≡ h' → e ≡ e' → l ≡ view.limit → g ≡ g' → o ≡ o'
    → ◌≡◌ {A = Node} (record view { held = h; entries = e; limit = l; given = g; outbox = o }) (record view { held = h'; entries = e'; given = g'; outbox = o' })
same_fields view h h' e e' l g g' o o' p q r s t = rw (p, q, r, s, t) refl

-- stated over the view of the fields, which equals the old value
pub gave_at : (place to number : ℕ) (view old : Node) → view ≡ old → (held new_held : List RoomySegment) (a b : RoomySegment) (outbox outbox' : Outbox) (entries pairs : List Pair) (limit : ℕ) (part : Part) (span : Span)
    → view.held ≡ segments_of held → view.given ≡ outbox.given → view.outbox ≡ outbox.items → place < length held → a ≡ get_or held place a → b ≡ get_or held place b
    → number ≡ mark_of to outbox.given + 1 → number < 2 ^ 64
    → part ≡ part_at (handover_of_payload (record { from = view.number; to = to; number = number }) (record { segment = a.segment; pairs = pairs_inside a.segment.span view.entries })) 1
    → pairs ≡ pairs_inside a.segment.span view.entries → new_held ≡ remove held place → span ≡ b.segment.span
    → entries ≡ pairs_outside span view.entries → limit ≡ view.limit → outbox' ≡ with_item to (record { segment = b.segment; pairs = pairs }) outbox
    → GiveIs place to old (Ok part) (record view { held = segments_of new_held; entries = entries; limit = limit; given = outbox'.given; outbox = outbox'.items })
gave_at place to number view old e held new_held a b outbox outbox' entries pairs limit part span v w x inside at at' is_number left is_part is_pairs is_held is_span is_entries is_limit is_outbox =
    let P : Node → Type 0 = λ node. GiveIs place to node (Ok part) (record view { held = segments_of new_held; entries = entries; limit = limit; given = outbox'.given; outbox = outbox'.items }) in
    let same = same_at held held place a b inside refl at at' in
    let next : ℕ = mark_of to view.given + 1 in
    let item : Segment → List Pair → Item = λ s ps. record { to = to; number = next; segment = s; pairs = ps } in
    let is_next : mark_of to outbox.given + 1 ≡ next = ap (λ (marks : List Mark). mark_of to marks + 1) (sym w) in
    let items : outbox'.items ≡ view.outbox ++ item b.segment pairs ∷ [] =
    ap (λ (o : Outbox). o.items) is_outbox ∙ ap (λ (n : ℕ). outbox.items ++ record { to = to; number = n; segment = b.segment; pairs = pairs } ∷ []) is_next
    ∙ ap (λ (its : List Item). its ++ item b.segment pairs ∷ []) (sym x) in
    subst P e (
      a.segment,
      ap (λ (hs : List Segment). slice_get hs place) v ∙ segments_get held place a inside at,
      subst (λ (n : ℕ). n < 2 ^ 64) (is_number ∙ is_next) left,
      is_part ∙ ap (λ (n : ℕ). part_at (handover_of_payload (record { from = view.number; to = to; number = n }) (record { segment = a.segment; pairs = pairs_inside a.segment.span view.entries })) 1) (is_number ∙ is_next),
      same_fields view _ _ _ _ limit _ _ _ _
          (ap segments_of is_held ∙ segments_remove held place ∙ ap (λ (hs : List Segment). remove hs place) (sym v))
          (is_entries ∙ ap (λ (s : Span). pairs_outside s view.entries) is_span ∙ ap (λ (s : Segment). pairs_outside s.span view.entries) (sym same))
          is_limit
          (ap (λ (o : Outbox). o.given) is_outbox ∙ ap (λ (n : ℕ). raise to n outbox.given) is_next ∙ ap (raise to next) (sym w))
          (items ∙ ap (λ (s : Segment). view.outbox ++ item s pairs ∷ []) (sym same) ∙ ap (λ (ps : List Pair). view.outbox ++ item a.segment ps ∷ []) is_pairs),
    )

-- no number is left for the receiver
pub spent_at : (place to : ℕ) (view old : Node) → view ≡ old → (held : List RoomySegment) → view.held ≡ segments_of held → place < length held → 2 ^ 64 ≤ mark_of to view.given + 1
    → GiveIs place to old (Err give.NumbersSpent) old
spent_at place to view old e held v inside spent =
    subst (λ (node : Node). GiveIs place to node (Err give.NumbersSpent) node) e
    (let same : length view.held ≡ length held = ap (λ (hs : List Segment). length hs) v ∙ segments_length held in omega arith, spent, refl)

pub give_steps : (place to : ℕ) (old : Node) (result : Result Part GiveFault) (new : Node) → GiveIs place to old result new → SendSteps old result new
give_steps place to old (Ok part) new h = rw (h.3, h.4) (Gives place h.0 to h.1)
give_steps place to old (Err fault) new h = tt

pub give_stocked : (place to : ℕ) (old : Node) (part : Part) (new : Node) → GiveIs place to old (Ok part) new → IsStocked old.held old.entries → IsStocked new.held new.entries
give_stocked place to old part new h stock = subst (λ (n : Node). IsStocked n.held n.entries) (sym h.4) (stocked_less old.held place h.0 old.entries h.1 stock)

-- a given segment with its pairs is a payload
pub gives_payload : (held : List Segment) (entries pairs : List Pair) (a b : Segment) → a ≡ b → IsStocked held entries → pairs ≡ pairs_inside a.span entries
    → IsPayload (record { segment = b; pairs = pairs })
gives_payload held entries pairs a b same stock is =
    let payload : Segment → List Pair → Payload = λ s ps. record { segment = s; pairs = ps } in
    subst (λ (ps : List Pair). IsPayload (payload b ps)) (sym (is ∙ ap (λ (s : Segment). pairs_inside s.span entries) same)) (payload_taken held b entries stock)
