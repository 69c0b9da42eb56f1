use Rattle.std.proofs.Common.{◌≡◌, ℕ, Less, bytes_eq, true, false, refl, sym, ◌∙◌, ap, ap₂, Option, Bor}
use Rattle.std.specs.Option.{option_copied}
use Rattle.chord_ident.specs.declared.span.Span.{Span}
use Rattle.chord_map.specs.declared.pair.Pair.{Pair}
use Rattle.chord_ident.specs.Circle.{in_span, key_id}
use Rattle.chord_map.specs.Map.{pair_cmp}
use Rattle.chord_handover.proofs.PassRules.{first_goes, apart_goes, along_goes, not_above, too_many, keys_apart, keys_alike}
use Rattle.chord_handover.proofs.pair_scan.PairScan.step.Goals as goal

pub returns-in_default : goal.returns-in_default
returns-in_default c = λ passed has.
    let inside : in_span c.args.segment.now.segment.span (key_id c.args.pair.now.key) ≡ true =
    sym (c.contains.ensures.test ∙ ap₂ (λ (s : Span) (n : ℕ). in_span s n) c.span.ensures.value (c.of_bytes.ensures ∙ ap key_id c.as_slice.ensures)) ∙ c.if-not-contains.false in
    first_goes c.args.segment.now.segment passed c.args.pair.now c.args.self _ has inside (ap (λ (o : Option (Bor Pair)). option_copied o) c.in_default.is) refl refl

pub returns-in_default-compare : goal.returns-in_default-compare
returns-in_default-compare c = λ passed has.
    not_above c.args.segment.now.segment passed c.args.pair.now c.in-Some.last.now c.args.self has (ap (λ (o : Option (Bor Pair)). option_copied o) c.in-Some.is) (λ less. c.in_default-compare.not-Less (c.compare.ensures ∙ less))

pub returns-then-ne : goal.returns-then-ne
returns-then-ne c = λ passed has.
    let inside : in_span c.args.segment.now.segment.span (key_id c.args.pair.now.key) ≡ true =
    sym (c.contains.ensures.test ∙ ap₂ (λ (s : Span) (n : ℕ). in_span s n) c.span.ensures.value (c.of_bytes.ensures ∙ ap key_id c.as_slice.ensures)) ∙ c.if-not-contains.false in
    let less : pair_cmp c.in-Some.last.now c.args.pair.now ≡ Less = sym c.compare.ensures ∙ c.in-Less.is in
    let apart : bytes_eq c.in-Some.last.now.key c.args.pair.now.key ≡ false = keys_apart c.in-Some.last.now.key c.args.pair.now.key (sym c.if-ne.true ∙ c.ne.ensures) in
    apart_goes c.args.segment.now.segment passed c.args.pair.now c.in-Some.last.now c.args.self _ has inside (ap (λ (o : Option (Bor Pair)). option_copied o) c.in-Some.is) less apart refl refl

pub returns-then-self-ge-SET_VALUES : goal.returns-then-self-ge-SET_VALUES
returns-then-self-ge-SET_VALUES c = λ passed has.
    let same : c.in-Some.last.now.key ≡ c.args.pair.now.key = keys_alike c.in-Some.last.now.key c.args.pair.now.key (sym c.if-ne.false ∙ c.ne.ensures) in
    too_many c.args.segment.now.segment passed c.args.pair.now c.in-Some.last.now c.args.self has (ap (λ (o : Option (Bor Pair)). option_copied o) c.in-Some.is) same c.if-self-ge-SET_VALUES.true

pub returns : goal.returns
returns c = λ passed has.
    let inside : in_span c.args.segment.now.segment.span (key_id c.args.pair.now.key) ≡ true =
    sym (c.contains.ensures.test ∙ ap₂ (λ (s : Span) (n : ℕ). in_span s n) c.span.ensures.value (c.of_bytes.ensures ∙ ap key_id c.as_slice.ensures)) ∙ c.if-not-contains.false in
    let less : pair_cmp c.in-Some.last.now c.args.pair.now ≡ Less = sym c.compare.ensures ∙ c.in-Less.is in
    let same : c.in-Some.last.now.key ≡ c.args.pair.now.key = keys_alike c.in-Some.last.now.key c.args.pair.now.key (sym c.if-ne.false ∙ c.ne.ensures) in
    along_goes c.args.segment.now.segment passed c.args.pair.now c.in-Some.last.now c.args.self _ has inside (ap (λ (o : Option (Bor Pair)). option_copied o) c.in-Some.is) less same c.if-self-ge-SET_VALUES.false refl refl
