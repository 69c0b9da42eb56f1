-- Byte strings in order.
use Rattle.std.proofs.Common.{◌≡◌, ◌≢◌, ◌<◌, ◌≤◌, ◌+◌, zero, suc, [], ◌∷◌, Ok, Err, OnOk, OnErr, arith, ℕ, Bool, List, Result, IfOk, IfErr, Equal, length, not, nat_cmp, is_eq, sym, ap, ◌∙◌, bytes_eq, refl, true, false, ◌&&◌}
use Rattle.std.specs.Cmp.Lexicographic.{slice_cmp}
use Rattle.std.specs.List.{filter, insert as insert_at, remove as remove_at}
use Rattle.std.specs.List.Sorted.{IsStrictlySortedBy, IsSearchInRange, IsBinarySearchResult}
use Rattle.std.proofs.lemmas.Map.Text.{is_eq-slice_cmp}
use Rattle.std.proofs.lemmas.Slice.Eq.{bytes_eq-Decides}
use Rattle.std.proofs.lemmas.List.Kept.{IsStrictlySortedBy-filter}
use Rattle.chord_map.specs.Places.{IsAt, IsGapFor}
use Rattle.chord_map.proofs.MapLemmas.{values_total, bytes_same}
use Rattle.chord_map.proofs.Ordered as ordered
use Rattle.chord_map.proofs.Ordered.{rises_from_rising, rising_from_rises}
use Rattle.chord_tree_store.specs.ValueSet.{has_value, Gains, Loses}

abbrev Rising : List (List ℕ) → Type 0
Rising values = IsStrictlySortedBy (slice_cmp nat_cmp) values

pub bytes_tied : (x y : List ℕ) → slice_cmp nat_cmp x y ≡ Equal → x ≡ y
bytes_tied x y e = bytes_same x y (sym (is_eq-slice_cmp x y) ∙ ap is_eq e)

pub searched : (xs : List (List ℕ)) → Rising xs → (e : List ℕ) (r : Result ℕ ℕ) → IsSearchInRange r (length xs) → IsBinarySearchResult (λ x. slice_cmp nat_cmp x e) xs r
    → record { found : IfOk r (IsAt xs e); absent : IfErr r (IsGapFor (slice_cmp nat_cmp) xs e) }
searched = ordered.searched (slice_cmp nat_cmp) values_total bytes_tied bytes_eq bytes_eq-Decides

pub has_at_place : (xs : List (List ℕ)) (e : List ℕ) (place : ℕ) → IsAt xs e place → has_value e xs ≡ true
has_at_place = ordered.has_at_place (slice_cmp nat_cmp) values_total bytes_tied bytes_eq bytes_eq-Decides

pub has_not_in_gap : (xs : List (List ℕ)) (e : List ℕ) (place : ℕ) → IsGapFor (slice_cmp nat_cmp) xs e place → has_value e xs ≡ false
has_not_in_gap = ordered.has_not_in_gap (slice_cmp nat_cmp) values_total bytes_tied bytes_eq bytes_eq-Decides

pub rising_at_gap : (xs : List (List ℕ)) (e : List ℕ) (place : ℕ) → IsGapFor (slice_cmp nat_cmp) xs e place → Rising xs → Rising (insert_at xs place e)
rising_at_gap xs e place gap rises =
    rising_from_rises (slice_cmp nat_cmp) (insert_at xs place e)
    (ordered.rises_at_gap (slice_cmp nat_cmp) values_total bytes_tied bytes_eq bytes_eq-Decides xs e place gap (rises_from_rising (slice_cmp nat_cmp) xs rises))

pub gains_at_gap : (xs ys : List (List ℕ)) (e : List ℕ) (place : ℕ) → ys ≡ insert_at xs place e → Gains e xs ys
gains_at_gap xs ys e place made =
    record { each = λ other. ap (has_value other) made ∙ ordered.has_after_insert (slice_cmp nat_cmp) values_total bytes_tied bytes_eq bytes_eq-Decides xs place e other }

pub remove_at_place : (xs : List (List ℕ)) (e : List ℕ) (place : ℕ) → Rising xs → IsAt xs e place → remove_at xs place ≡ filter (λ (x : List ℕ). not (bytes_eq e x)) xs
remove_at_place = ordered.remove_at_place (slice_cmp nat_cmp) values_total bytes_tied bytes_eq bytes_eq-Decides

pub rising_removed : (xs : List (List ℕ)) (e : List ℕ) (place : ℕ) → Rising xs → IsAt xs e place → Rising (remove_at xs place)
rising_removed xs e place rises at = rw (remove_at_place xs e place rises at) (IsStrictlySortedBy-filter (slice_cmp nat_cmp) (λ (x : List ℕ). not (bytes_eq e x)) xs rises)

pub loses_at_place : (xs ys : List (List ℕ)) (e : List ℕ) (place : ℕ) → Rising xs → IsAt xs e place → ys ≡ remove_at xs place → Loses e xs ys
loses_at_place xs ys e place rises at made =
    record { each = λ other. ap (has_value other) (made ∙ remove_at_place xs e place rises at) ∙ ordered.has_among_others (slice_cmp nat_cmp) values_total bytes_tied bytes_eq bytes_eq-Decides e other xs }

without : (e other : List ℕ) (xs : List (List ℕ)) → has_value e xs ≡ false → (b : Bool) → bytes_eq other e ≡ b → has_value other xs ≡ (not b && has_value other xs)
without e other xs none true is = ap (λ (v : List ℕ). has_value v xs) (bytes_same other e is) ∙ none
without e other xs none false is = refl

-- removing a value that is not there changes nothing
pub loses_nothing : (xs : List (List ℕ)) (e : List ℕ) → has_value e xs ≡ false → Loses e xs xs
loses_nothing xs e none = record { each = λ other. without e other xs none (bytes_eq other e) refl }

-- a list that has the value, and not only that, has another one
pub others_at : (xs : List (List ℕ)) (e : List ℕ) (place : ℕ) → IsAt xs e place → xs ≢ e ∷ [] → 1 < length xs
others_at [] e place at more = absurd (let lt = at.in_range in omega arith)
others_at (x ∷ []) e zero at more = absurd (more (ap (λ (y : List ℕ). y ∷ []) (at.is_element x)))
others_at (x ∷ []) e (suc place) at more = absurd (let lt = at.in_range in omega arith)
others_at (x ∷ (y ∷ ys)) e place at more = omega arith

-- a list with one value more, or unchanged
pub one_more : {T E : Type 0} (r : Result T E) (xs ys zs : List (List ℕ)) → OnOk r (ys ≡ zs) → OnErr r (ys ≡ xs) → length zs ≡ length xs + 1 → 0 < length xs → length xs < 1000 → (0 < length ys) × (length ys ≤ 1000)
one_more (Ok v) xs ys zs made same longer some few = let e = ap length made in (omega (arith, e, longer), omega (arith, e, longer))
one_more (Err v) xs ys zs made same longer some few = let e = ap length same in (omega (arith, e), omega (arith, e))
