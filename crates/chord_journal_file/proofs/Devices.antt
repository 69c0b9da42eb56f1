-- Adding bytes part by part, and cutting a file back.
use Rattle.std.proofs.Common.{◌≡◌, ℕ, ◌+◌, ◌-◌, List, ◌++◌, length, take, drop, Option, None, Some, refl, sym, ap, subst, ◌∙◌, append_assoc, arith, length-append}
use Rattle.std.specs.Option.{option_map}
use Rattle.std.specs.Io.KnownBytes.{append_known}
use Rattle.std.proofs.lemmas.List.{take-append-drop, take-take, drop-take, take_all, take_at, length-drop}
use Rattle.std.proofs.lemmas.Option.{same_Some}
use Rattle.chord_journal_file.specs.Devices.{CutTo, HasLength}

take-add : (i n : ℕ) (xs : List ℕ) → take (i + n) xs ≡ take i xs ++ take n (drop i xs)
take-add i n xs =
    sym (take-append-drop i (take (i + n) xs)) ∙ ap (λ (ys : List ℕ). ys ++ drop i (take (i + n) xs)) (take-take i (i + n) xs (omega arith)) ∙ ap (λ (ys : List ℕ). take i xs ++ ys) (drop-take i n xs)

joined : (a : Option (List ℕ)) (xs ys : List ℕ) → append_known (append_known a xs) ys ≡ append_known a (xs ++ ys)
joined None xs ys = refl
joined (Some zs) xs ys = ap Some (append_assoc zs xs ys)

-- the rest of the bytes, as a loop names it
rest_of : (bytes : List ℕ) (at : ℕ) → take (length bytes - at) (drop at bytes) ≡ drop at bytes
rest_of bytes at = take_all (length bytes - at) (drop at bytes) (omega (arith, length-drop at bytes))

-- n more of the bytes were added
pub grows : (a b c : Option (List ℕ)) (bytes : List ℕ) (at n : ℕ) → b ≡ append_known a (take at bytes) → c ≡ append_known b (take n (take (length bytes - at) (drop at bytes)))
    → c ≡ append_known a (take (at + n) bytes)
grows a b c bytes at n p q =
    q ∙ ap (λ (xs : List ℕ). append_known b (take n xs)) (rest_of bytes at)
    ∙ ap (λ (o : Option (List ℕ)). append_known o (take n (drop at bytes))) p
    ∙ joined a (take at bytes) (take n (drop at bytes))
    ∙ ap (append_known a) (sym (take-add at n bytes))

pub fails : (a b c : Option (List ℕ)) (bytes : List ℕ) (at : ℕ) → b ≡ append_known a (take at bytes) → ((some : List ℕ) × (c ≡ append_known b some))
    → ((some : List ℕ) × (c ≡ append_known a some))
fails a b c bytes at p q = (take at bytes ++ q.0, q.1 ∙ ap (λ (o : Option (List ℕ)). append_known o q.0) p ∙ joined a (take at bytes) q.0)

-- bytes that were added are counted
known_counted : (a : Option (List ℕ)) (bytes : List ℕ) (n m : ℕ) → m ≡ n + length bytes → HasLength a n → HasLength (append_known a bytes) m
known_counted None bytes n m e is = refl
known_counted (Some xs) bytes n m e is =
    ap Some (length-append xs bytes ∙ ap (λ (k : ℕ). k + length bytes) (same_Some (length xs) n is) ∙ sym e)

pub counted : (a b : Option (List ℕ)) (bytes : List ℕ) (n m : ℕ) → b ≡ append_known a bytes → m ≡ n + length bytes → HasLength a n → HasLength b m
counted a b bytes n m p e is = subst (λ (o : Option (List ℕ)). HasLength o m) (sym p) (known_counted a bytes n m e is)

known_restored : (a : Option (List ℕ)) (some : List ℕ) (n : ℕ) → HasLength a n → option_map (take n) (append_known a some) ≡ a
known_restored None some n is = refl
known_restored (Some xs) some n is = ap Some (take_at xs some n (same_Some (length xs) n is))

-- a file that is cut to the length that it had has what it had
pub restored : (a b c : Option (List ℕ)) (some : List ℕ) (n : ℕ) → HasLength a n → b ≡ append_known a some → CutTo b c n → c ≡ a
restored a b c some n is p cut = cut ∙ ap (option_map (take n)) p ∙ known_restored a some n is
