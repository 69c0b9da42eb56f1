-- Counting in a text that grows.
use Rattle.std.proofs.Common.{◌≡◌, ℕ, ◌+◌, ◌-◌, ◌^◌, min, cond, Bool, List, ◌++◌, arith}
use Rattle.std.proofs.lemmas.List.Sums.{sum_by-append}
use Rattle.std.specs.List.{count_by}
use Rattle.chord_app_ring.specs.Dumping.{is_end, counted_lines}

count_append : {X : Type 0} (p : X → Bool) (xs ys : List X) → count_by p (xs ++ ys) ≡ count_by p xs + count_by p ys
count_append p xs ys = sum_by-append (λ x. cond (p x) 1 0) xs ys

-- one more text is counted, up to the greatest number
pub counted_more : (lines more : List ℕ) (before now : ℕ) → before ≡ counted_lines lines → now ≡ min (before + count_by is_end more) (2 ^ 64 - 1) → now ≡ counted_lines (lines ++ more)
counted_more lines more before now was added =
    let all = count_append is_end lines more in
    omega (arith, was, added, all)
