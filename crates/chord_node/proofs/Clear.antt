-- Spans that overlap held ones.
use Rattle.std.proofs.Common.{◌≡◌, ℕ, ◌||◌, inl, inr, Bool, true, false, List, [], ◌∷◌, refl, sym, ◌∙◌, ap, Any}
use Rattle.std.proofs.lemmas.Bool.{true≢false}
use Rattle.chord_ident.proofs.Spans.{in_span_is}
use Rattle.chord_ident.specs.declared.span.Span.{Span}
use Rattle.chord_ident.specs.Circle.{in_span, Meet}
use Rattle.chord_map.proofs.Lists.{Has, by_test, has_contained, contains_has}
use Rattle.chord_model.specs.Stock.{holds, IsClash, IsClear}
use Rattle.chord_node.specs.View.{segments_of}
use Rattle.chord_segment.specs.Segment.{RoomySegment}

-- the span overlaps that of the segment
abbrev pub Meets : Span → RoomySegment → Type 0
Meets span segment = Meet span.after.number span.upto.number segment.segment.span.after.number segment.segment.span.upto.number

holds_has : (x : ℕ) (held : List RoomySegment) (segment : RoomySegment) → Has held segment → in_span segment.segment.span x ≡ true → holds x (segments_of held) ≡ true
holds_has x [] segment h here = absurd h
holds_has x (first ∷ held) segment (inl same) here =
    ap (λ b. b || holds x (segments_of held)) (ap (λ (s : RoomySegment). in_span s.segment.span x) same ∙ here)
holds_has x (first ∷ held) segment (inr h) here = or_true (in_span first.segment.span x) (holds x (segments_of held)) (holds_has x held segment h here)
  where
    or_true : (a b : Bool) → b ≡ true → (a || b) ≡ true
    or_true true b e = refl
    or_true false b e = e

has_holds : (x : ℕ) (held : List RoomySegment) → holds x (segments_of held) ≡ true → (segment : RoomySegment) × Has held segment × (in_span segment.segment.span x ≡ true)
has_holds x [] e = absurd (true≢false (sym e))
has_holds x (first ∷ held) e =
    by_test (in_span first.segment.span x)
    (λ here. (first, inl refl, here))
    (λ away. let more = has_holds x held (sym (ap (λ b. b || holds x (segments_of held)) away) ∙ e) in (more.0, inr more.1, more.2))

-- if the span overlaps a held one, some identifier of it is held
pub clash_is : (span : Span) (held : List RoomySegment) → Any (Meets span) held → IsClash span (segments_of held)
clash_is span held a =
    let meet = a.4 in
    let has = has_contained held a.1 (a.0, a.2, a.3) in
    (meet.0, meet.1, (in_span_is span meet.0).1 meet.2, holds_has meet.0 held a.1 has ((in_span_is (a.1).segment.span meet.0).1 meet.3))

-- the span overlaps none, so no identifier of it is held
pub clear_is : (span : Span) (held : List RoomySegment) → (Any (Meets span) held → ⊥) → IsClear span (segments_of held)
clear_is span held none x x_in inside =
    by_test (holds x (segments_of held))
    (λ here.
    let found = has_holds x held here in
    let there = contains_has held found.0 found.1 in
    absurd (none (there.0, found.0, there.1, there.2, (x, x_in, (in_span_is span x).0 inside, (in_span_is (found.0).segment.span x).0 found.2))))
    (λ away. away)
