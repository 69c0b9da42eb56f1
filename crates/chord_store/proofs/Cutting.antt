-- How many pairs a cut of a span leaves before it.
use Rattle.std.proofs.Common.{◌≡◌, ◌≢◌, ◌≤◌, ◌<◌, ◌+◌, ◌%◌, ◌^◌, ℕ, zero, suc, Bool, true, false, cond, not, leb, eqb, ◌&&◌, List, [], ◌∷◌, length, refl, sym, ap, ◌∙◌, subst, arith}
use Rattle.std.proofs.lemmas.Bool.{true≢false, and_parts}
use Rattle.chord_ident.specs.Circle.{cuts, in_span, key_id, walk}
use Rattle.chord_ident.specs.declared.id.Id.{Id}
use Rattle.chord_ident.specs.declared.span.Span.{Span}
use Rattle.chord_ident.proofs.Digest.{key_id-below}
use Rattle.chord_ident.proofs.Spans.{le_from_test, ne_from_test, test_from_le}
use Rattle.chord_ident.proofs.Walks.{walk-goes}
use Rattle.chord_map.specs.declared.pair.Pair.{Pair}
use Rattle.chord_map.proofs.Lists.{by_test}
use Rattle.chord_store.specs.Cut.{CutsLeaveFewer, pairs_within, part_up_to}
use Rattle.chord_store.specs.Inside.{pairs_inside}

-- the identifier `steps` steps on is that many steps away
pub walk_steps : (after steps at : ℕ) → after < 2 ^ 128 → 0 < steps → steps < 2 ^ 128 → at ≡ (after + steps) % 2 ^ 128 → walk after at ≡ steps
walk_steps after steps at after_in some steps_in is =
    let at_in : at < 2 ^ 128 = omega (arith, is) in
    let goes = walk-goes after at after_in at_in in
    omega (arith, is, after_in, some, steps_in, goes)

walk_some : (after x : ℕ) → after < 2 ^ 128 → x < 2 ^ 128 → 0 < walk after x
walk_some after x after_in x_in = let goes = walk-goes after x after_in x_in in omega (arith, goes, after_in, x_in)

walk_same : (after x y : ℕ) → after < 2 ^ 128 → x < 2 ^ 128 → y < 2 ^ 128 → walk after x ≡ walk after y → x ≡ y
walk_same after x y after_in x_in y_in same =
    let to_x = walk-goes after x after_in x_in in
    let to_y = walk-goes after y after_in y_in in
    omega (arith, to_x, to_y, same, after_in, x_in, y_in)

-- more steps meet no fewer pairs

leb_more : (w a b : ℕ) → a ≤ b → leb w a ≡ true → leb w b ≡ true
leb_more w a b le t = test_from_le w b (let low = le_from_test w a t in omega (arith, low, le))

one_more : (p q : Bool) (x : Pair) (xs ys : List Pair) → (p ≡ true → q ≡ true) → length xs ≤ length ys → length (cond p (x ∷ xs) xs) ≤ length (cond q (x ∷ ys) ys)
one_more true true x xs ys more le = omega (arith, le)
one_more true false x xs ys more le = absurd (true≢false (sym (more refl)))
one_more false true x xs ys more le = omega (arith, le)
one_more false false x xs ys more le = le

pub within_le : (after a b : ℕ) (pairs : List Pair) → a ≤ b → length (pairs_within after a pairs) ≤ length (pairs_within after b pairs)
within_le after a b [] le = omega arith
within_le after a b (p ∷ ps) le =
    one_more (leb (walk after (key_id p.key)) a) (leb (walk after (key_id p.key)) b) p (pairs_within after a ps) (pairs_within after b ps)
    (leb_more (walk after (key_id p.key)) a b le) (within_le after a b ps le)

-- no step meets no pair
pub within_none : (after : ℕ) (pairs : List Pair) → after < 2 ^ 128 → ((p : Pair) → key_id p.key < 2 ^ 128) → length (pairs_within after 0 pairs) ≡ 0
within_none after [] after_in small = refl
within_none after (p ∷ ps) after_in small =
    let some = walk_some after (key_id p.key) after_in (small p) in
    ap (λ b. length (cond b (p ∷ pairs_within after 0 ps) (pairs_within after 0 ps)))
    (by_test (leb (walk after (key_id p.key)) 0) (λ t. let low = le_from_test (walk after (key_id p.key)) 0 t in absurd (omega (arith, low, some))) (λ f. f))
    ∙ within_none after ps after_in small

-- the pairs of a part are those within its steps
pub part_within : (span : Span) (at : Id) (pairs : List Pair) → pairs_inside (part_up_to span at) pairs ≡ pairs_within span.after.number (walk span.after.number at.number) pairs
unfolding pairs_inside in_span
part_within span at pairs = refl

-- a cut lies before the end
cut_before : (span : Span) (at : Id) → span.after.number < 2 ^ 128 → span.upto.number < 2 ^ 128 → at.number < 2 ^ 128 → cuts span at ≡ true → walk span.after.number at.number < walk span.after.number span.upto.number
unfolding cuts in_span
cut_before span at after_in upto_in at_in cut =
    let parts = and_parts (leb (walk span.after.number at.number) (walk span.after.number span.upto.number)) (not (eqb at.number span.upto.number)) cut in
    let le = le_from_test (walk span.after.number at.number) (walk span.after.number span.upto.number) parts.0 in
    let apart = ne_from_test at.number span.upto.number parts.1 in
    let differ : walk span.after.number at.number ≢ walk span.after.number span.upto.number = λ same. apart (walk_same span.after.number at.number span.upto.number after_in at_in upto_in same) in
    omega (arith, le, differ)

pub cuts_at : (span : Span) (at : Id) → walk span.after.number at.number < walk span.after.number span.upto.number → cuts span at ≡ true
unfolding cuts in_span
cuts_at span at less =
    (λ i. test_from_le (walk span.after.number at.number) (walk span.after.number span.upto.number) (omega (arith, less)) i
    && not (apart (by_test (eqb at.number span.upto.number) (λ t. absurd (same t)) (λ f. f)) i))
  where
    same : eqb at.number span.upto.number ≡ true → ⊥
    same t = let e : at.number ≡ span.upto.number = grind (arith, t) in let w = ap (walk span.after.number) e in omega (arith, less, w)

    apart : eqb at.number span.upto.number ≡ false → eqb at.number span.upto.number ≡ false
    apart e = e

-- each cut of a span leaves fewer, if the steps before its end do
pub cuts_leave : (span : Span) (n : ℕ) (pairs : List Pair) → span.after.number < 2 ^ 128 → span.upto.number < 2 ^ 128 → ((steps : ℕ) → steps < walk span.after.number span.upto.number → length (pairs_within span.after.number steps pairs) < n)
    → CutsLeaveFewer span n pairs
cuts_leave span n pairs after_in upto_in fewer at at_in cut =
    subst (λ (ps : List Pair). length ps < n) (sym (part_within span at pairs))
    (fewer (walk span.after.number at.number) (cut_before span at after_in upto_in at_in cut))

pub leave_by : (span : Span) (n most : ℕ) (pairs : List Pair) → span.after.number < 2 ^ 128 → span.upto.number < 2 ^ 128 → most + 1 ≡ walk span.after.number span.upto.number → length (pairs_within span.after.number most pairs) < n → CutsLeaveFewer span n pairs
leave_by span n most pairs after_in upto_in whole few =
    cuts_leave span n pairs after_in upto_in (λ steps less. let le = within_le span.after.number steps most pairs (omega (arith, less, whole)) in omega (arith, le, few))

-- what meets a pair takes a step
pub steps_some : (after most n : ℕ) (pairs : List Pair) → after < 2 ^ 128 → 0 < n → n ≤ length (pairs_within after most pairs) → 0 < most
steps_some after zero n pairs after_in some enough = let none = within_none after pairs after_in (λ p. key_id-below p.key) in absurd (omega (arith, none, some, enough))
steps_some after (suc most) n pairs after_in some enough = omega arith
