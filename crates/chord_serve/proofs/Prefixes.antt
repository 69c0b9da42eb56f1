-- Writing some bytes part by part.
use Rattle.std.proofs.Common.{◌≡◌, ℕ, ◌+◌, ◌-◌, List, ◌++◌, length, take, drop, Option, sym, ap, subst, ◌∙◌, arith}
use Rattle.std.specs.Io.KnownBytes.{Appends, Keeps}
use Rattle.std.proofs.KnownBytes.{Appends-trans, Appends-kept}
use Rattle.std.proofs.lemmas.List.{take-append-drop, take-take, drop-take, take_all, length-drop}
use Rattle.chord_serve.specs.Writes.{WritesPrefix}

take-add : (i n : ℕ) (xs : List ℕ) → take (i + n) xs ≡ take i xs ++ take n (drop i xs)
take-add i n xs =
    sym (take-append-drop i (take (i + n) xs)) ∙ ap (λ (ys : List ℕ). ys ++ drop i (take (i + n) xs)) (take-take i (i + n) xs (omega arith)) ∙ ap (λ (ys : List ℕ). take i xs ++ ys) (drop-take i n xs)

pub prefix_of : (a b : Option (List ℕ)) (bytes : List ℕ) (at : ℕ) → Appends a b (take at bytes) → WritesPrefix a b bytes
prefix_of a b bytes at p = record { prefix = take at bytes; rest = drop at bytes; parts = sym (take-append-drop at bytes); appends = p }

-- n more of the bytes were written
pub grows : (a b c : Option (List ℕ)) (bytes : List ℕ) (at n : ℕ) → Appends a b (take at bytes) → Appends b c (take n (take (length bytes - at) (drop at bytes))) → Appends a c (take (at + n) bytes)
grows a b c bytes at n p q =
    let rest : take (length bytes - at) (drop at bytes) ≡ drop at bytes = take_all (length bytes - at) (drop at bytes) (omega (arith, length-drop at bytes)) in
    let more = subst (λ (ys : List ℕ). Appends b c (take n ys)) rest q in
    subst (Appends a c) (sym (take-add at n bytes)) (Appends-trans a b c (take at bytes) (take n (drop at bytes)) p more)

pub stays : (a b c : Option (List ℕ)) (bytes : List ℕ) (at : ℕ) → Appends a b (take at bytes) → Keeps b c → WritesPrefix a c bytes
stays a b c bytes at p q = prefix_of a c bytes at (Appends-kept a b c (take at bytes) p q)
