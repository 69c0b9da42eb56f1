-- Reading rising values one after the other, as a loop does.
use Rattle.std.proofs.Common.{◌≡◌, ℕ, suc, ◌-◌, ◌+◌, ◌≤◌, ◌<◌, List, [], ◌∷◌, ◌++◌, Option, Some, Result, Ok, Err, refl, sym, ap, ◌∙◌, append_assoc, arith}
use Rattle.std.proofs.lemmas.List.{append-nil}
use Rattle.chord_wire.specs.declared.fault.WireFault.{WireFault}
use Rattle.chord_wire.specs.Reading.{◌>>=◌}
use Rattle.chord_wire.specs.ReadingReplies.{value_above, rising_at}

-- the values read so far, and those still to read
abbrev pub with_front : List (List ℕ) → Result (List (List ℕ) × List ℕ) WireFault → Result (List (List ℕ) × List ℕ) WireFault
with_front front read = read >>= λ x. Ok (front ++ x.0, x.1)

regroup : (front : List (List ℕ)) (value : List ℕ) (read : Result (List (List ℕ) × List ℕ) WireFault) → with_front front (read >>= λ x. Ok (value ∷ x.0, x.1)) ≡ with_front (front ++ value ∷ []) read
regroup front value (Ok x) = ap (λ (vs : List (List ℕ)). Ok (vs, x.1)) (simp append_assoc)
regroup front value (Err f) = refl

pub goes_on : (front : List (List ℕ)) (number count i : ℕ) (before : Option (List ℕ)) (bytes value after : List ℕ) (total : Result (List (List ℕ) × List ℕ) WireFault) → i < count → value_above number before bytes ≡ Ok (value, after)
    → with_front front (rising_at number before (count - i) bytes) ≡ total → with_front (front ++ value ∷ []) (rising_at number (Some value) (count - (i + 1)) after) ≡ total
unfolding rising_at
goes_on front number count i before bytes value after total lt h so_far =
    let k : count - i ≡ suc (count - (i + 1)) = omega arith in
    let one : with_front front (rising_at number before (count - i) bytes) ≡ with_front (front ++ value ∷ []) (rising_at number (Some value) (count - (i + 1)) after) = rw (k, h) (regroup front value (rising_at number (Some value) (count - (i + 1)) after)) in
    sym one ∙ so_far

pub fails : (e : WireFault) (front : List (List ℕ)) (number count i : ℕ) (before : Option (List ℕ)) (bytes : List ℕ) (total : Result (List (List ℕ) × List ℕ) WireFault) → i < count → value_above number before bytes ≡ Err e
    → with_front front (rising_at number before (count - i) bytes) ≡ total → total ≡ Err e
unfolding rising_at
fails e front number count i before bytes total lt h so_far =
    let k : count - i ≡ suc (count - (i + 1)) = omega arith in
    let one : with_front front (rising_at number before (count - i) bytes) ≡ Err e = rw (k, h) refl in
    sym so_far ∙ one

pub is_done : (front : List (List ℕ)) (number count i : ℕ) (before : Option (List ℕ)) (bytes : List ℕ) (total : Result (List (List ℕ) × List ℕ) WireFault) → count ≤ i → with_front front (rising_at number before (count - i) bytes) ≡ total → total ≡ Ok (front, bytes)
unfolding rising_at
is_done front number count i before bytes total le so_far =
    let k : count - i ≡ 0 = omega arith in
    let one : with_front front (rising_at number before (count - i) bytes) ≡ Ok (front, bytes) = rw k (ap (λ (vs : List (List ℕ)). Ok (vs, bytes)) (append-nil front)) in
    sym so_far ∙ one
