-- Each pair lies inside a span or outside.
use Rattle.std.proofs.Common.{◌≡◌, ℕ, ◌+◌, Bool, true, false, cond, not, List, [], ◌∷◌, length, filter, refl, arith}
use Rattle.chord_ident.specs.declared.span.Span.{Span}
use Rattle.chord_map.specs.declared.pair.Pair.{Pair}
use Rattle.chord_store.specs.Inside.{pairs_inside, pairs_outside}
use Rattle.chord_store.proofs.Puts.{lies_in}

split_step : (b : Bool) (x : Pair) (inside outside : List Pair) (n : ℕ) → length inside + length outside ≡ n
    → length (cond b (x ∷ inside) inside) + length (cond (not b) (x ∷ outside) outside) ≡ n + 1
split_step true x inside outside n e = omega arith
split_step false x inside outside n e = omega arith

-- each pair lies inside or outside
pub split_length : (span : Span) (pairs : List Pair) → length (pairs_inside span pairs) + length (pairs_outside span pairs) ≡ length pairs
unfolding pairs_inside pairs_outside
split_length span [] = refl
split_length span (x ∷ pairs) =
    let more = split_step (lies_in span x) x (filter (lies_in span) pairs) (filter (λ (p : Pair). not (lies_in span p)) pairs) (length pairs) (split_length span pairs) in
    omega arith
