-- What shards of slots have after one of them was halved.
use Rattle.std.proofs.Common.{◌≡◌, ◌≤◌, ℕ, suc, zero, ◌+◌, ◌-◌, length, arith, ◌<◌, Bool, true, false, cond, leb, eqb, List, [], ◌∷◌, ◌++◌, slice_index_or, slice_set, Option, None, Some, IsSome, refl, sym, ap, ◌∙◌, subst, nat_cmp}
use Rattle.std.specs.List.{insert}
use Rattle.std.specs.Map.{lookup}
use Rattle.std.specs.FinMap.{find, from_entries, same_map, nat_cmp-IsAntisymmetric}
use Rattle.std.specs.Cmp.{nat_cmp_total}
use Rattle.std.proofs.lemmas.Bool.{true≢false}
use Rattle.std.proofs.lemmas.List.{get_or_default, get_or-set_other, length-set}
use Rattle.std.proofs.lemmas.List.Edits.{length-insert, get_or-insert_below, get_or-insert_at, get_or-insert_above}
use Rattle.std.proofs.lemmas.List.Sorted.{IsNonDecreasingBy-insert}
use Rattle.std.proofs.lemmas.Grind.{get_or-set_at}
use Rattle.chord_map.proofs.Lists.{by_test}
use Rattle.chord_map.proofs.Equal.{eqb_same}
use Rattle.chord_tree_store.specs.declared.slot.Slot.{Slot}
use Rattle.chord_tree_store.specs.declared.shard.Shard.{Shard}
use Rattle.chord_tree_store.specs.Shelf.{first_of, entries_of, or_find, Has, InPlace}
use Rattle.chord_tree_store.proofs.Shelving.{find-append, find-changed, same_test, get_of, leb_true, leb_false, thinned_in_place}

by_place : {P : Type 0} (k n : ℕ) → (k < n → P) → (k ≡ n → P) → (n < k → P) → P
by_place k n low at high =
    by_test (leb k n)
    (λ t. by_test (leb n k) (λ u. at (omega (arith, leb_true k n t, leb_true n k u))) (λ f. low (leb_false n k f)))
    (λ f. high (leb_false k n f))

-- a shard more
module _ (xs : List Shard) (n : ℕ) (bound : n ≤ length xs) (y : Shard) where
  below_at : (k : ℕ) (d : Shard) → k < n → slice_index_or (insert xs n y) k d ≡ slice_index_or xs k d
  below_at k d w = get_or-insert_below xs n y d k w bound

  at_at : (k : ℕ) (d : Shard) → k ≡ n → slice_index_or (insert xs n y) k d ≡ y
  at_at k d e = ap (λ (j : ℕ). slice_index_or (insert xs n y) j d) e ∙ get_or-insert_at xs n y d bound

  above_at : (k : ℕ) (d : Shard) → n < k → slice_index_or (insert xs n y) k d ≡ slice_index_or xs (k - 1) d
  above_at k d w =
      let e : k ≡ (k - 1) + 1 = omega (arith, w) in
      ap (λ (j : ℕ). slice_index_or (insert xs n y) j d) e ∙ get_or-insert_above xs n y d (k - 1) (omega (arith, w)) bound

  pub inserted_in_place : InPlace xs → ((q : ℕ) → Has y q → first_of y ≤ q) → ((k : ℕ) (d : Shard) → k < n → first_of (slice_index_or xs k d) ≤ first_of y)
      → ((k : ℕ) (d : Shard) → n ≤ k → k < length xs → first_of y ≤ first_of (slice_index_or xs k d))
      → ((k : ℕ) (d : Shard) (q : ℕ) → k < n → Has (slice_index_or xs k d) q → q < first_of y)
      → ((k : ℕ) (d : Shard) (q : ℕ) → n ≤ k → k < length xs → Has y q → q < first_of (slice_index_or xs k d))
      → InPlace (insert xs n y)
  inserted_in_place ok own under over lower upper = record {
    rises = IsNonDecreasingBy-insert first_of xs n y ok.rises bound under over;
    from = λ k d q inside has.
        by_place k n
        (λ w. let e = below_at k d w in subst (λ (x : Shard). first_of x ≤ q) (sym e) (ok.from k d q (omega (arith, w, bound)) (subst (λ (x : Shard). Has x q) e has)))
        (λ w. let e = at_at k d w in subst (λ (x : Shard). first_of x ≤ q) (sym e) (own q (subst (λ (x : Shard). Has x q) e has)))
        (λ w. let e = above_at k d w in subst (λ (x : Shard). first_of x ≤ q) (sym e) (ok.from (k - 1) d q (omega (arith, w, inside, length-insert xs n y bound)) (subst (λ (x : Shard). Has x q) e has)));
    below = λ j k d q less inside has.
        by_place k n
        (λ w.
        let e = below_at k d w in
        let f = below_at j d (omega (arith, w, less)) in
        subst (λ (x : Shard). q < first_of x) (sym e) (ok.below j k d q less (omega (arith, w, bound)) (subst (λ (x : Shard). Has x q) f has)))
        (λ w.
        let e = at_at k d w in
        let f = below_at j d (omega (arith, w, less)) in
        subst (λ (x : Shard). q < first_of x) (sym e) (lower j d q (omega (arith, w, less)) (subst (λ (x : Shard). Has x q) f has)))
        (λ w.
        let e = above_at k d w in
        let there : k - 1 < length xs = omega (arith, w, inside, length-insert xs n y bound) in
        subst (λ (x : Shard). q < first_of x) (sym e)
        (by_place j n
        (λ v. ok.below j (k - 1) d q (omega (arith, v, w)) there (subst (λ (x : Shard). Has x q) (below_at j d v) has))
        (λ v. upper (k - 1) d q (omega (arith, w)) there (subst (λ (x : Shard). Has x q) (at_at j d v) has))
        (λ v. ok.below (j - 1) (k - 1) d q (omega (arith, v, less)) there (subst (λ (x : Shard). Has x q) (above_at j d v) has))));
  }

or_both : (a b c : Option Slot) → or_find a (or_find b c) ≡ or_find (or_find a b) c
or_both None b c = refl
or_both (Some x) b c = refl

find-split : (q : ℕ) (shards : List Shard) (i : ℕ) (low up : Shard) → i < length shards
    → or_find (find nat_cmp q low.slots.entries) (find nat_cmp q up.slots.entries) ≡ find nat_cmp q (slice_index_or shards i low).slots.entries
    → find nat_cmp q (entries_of (insert (slice_set shards i low) (suc i) up)) ≡ find nat_cmp q (entries_of shards)
find-split q [] i low up within same = absurd (omega (arith, within))
find-split q (t ∷ rest) zero low up within same =
    find-append q low.slots.entries (up.slots.entries ++ entries_of rest)
    ∙ ap (or_find (find nat_cmp q low.slots.entries)) (find-append q up.slots.entries (entries_of rest))
    ∙ or_both (find nat_cmp q low.slots.entries) (find nat_cmp q up.slots.entries) (find nat_cmp q (entries_of rest))
    ∙ ap (λ o. or_find o (find nat_cmp q (entries_of rest))) same
    ∙ sym (find-append q t.slots.entries (entries_of rest))
find-split q (t ∷ rest) (suc i) low up within same =
    find-append q t.slots.entries (entries_of (insert (slice_set rest i low) (suc i) up))
    ∙ ap (or_find (find nat_cmp q t.slots.entries)) (find-split q rest i low up (omega (arith, within)) same)
    ∙ sym (find-append q t.slots.entries (entries_of rest))

pub same_slots : (xs ys : List Shard) → ((q : ℕ) → find nat_cmp q (entries_of xs) ≡ find nat_cmp q (entries_of ys)) → from_entries {R = nat_cmp} (entries_of xs) ≡ from_entries {R = nat_cmp} (entries_of ys)
same_slots xs ys same = same_map nat_cmp_total nat_cmp-IsAntisymmetric _ _ (λ q. get_of xs q ∙ same q ∙ sym (get_of ys q))

joined : (b : Bool) (o : Option Slot) → or_find (cond b None o) (cond b o None) ≡ o
joined true o = refl
joined false None = refl
joined false (Some x) = refl

-- a shard halved at the first of the new one
module _ (shards : List Shard) (ok : InPlace shards) (i : ℕ) (within : i < length shards) (old low up : Shard) (at : old ≡ slice_index_or shards i old) (first : low.first ≡ old.first) where
  any : (d : Shard) → slice_index_or shards i d ≡ old
  any d = get_or_default shards i d old within ∙ sym at

  first_same : (k : ℕ) (d : Shard) → first_of (slice_index_or (slice_set shards i low) k d) ≡ first_of (slice_index_or shards k d)
  first_same k d =
      by_test (eqb k i)
      (λ t. let e : k ≡ i = grind (arith, t) in
      ap first_of (get_or-set_at shards i k low d e within) ∙ first ∙ sym (ap first_of (ap (λ (n : ℕ). slice_index_or shards n d) e ∙ any d)))
      (λ f. ap first_of (get_or-set_other shards i k low d (λ e. absurd (true≢false (sym (eqb_same k i e) ∙ f)))))

  -- the same slots in the lower shard alone, where nothing was moved
  module _ (lows : (q : ℕ) → lookup (eqb q) low.slots.entries ≡ lookup (eqb q) old.slots.entries) where
    idle_find : (q : ℕ) → find nat_cmp q low.slots.entries ≡ find nat_cmp q old.slots.entries
    idle_find q = sym (same_test q low.slots.entries) ∙ lows q ∙ same_test q old.slots.entries

    pub idle_in_place : InPlace (slice_set shards i low)
    idle_in_place = thinned_in_place shards ok i within old low at first (λ q has. subst IsSome (idle_find q) has)

    pub idle_same : from_entries {R = nat_cmp} (entries_of (slice_set shards i low)) ≡ from_entries {R = nat_cmp} (entries_of shards)
    idle_same = same_slots (slice_set shards i low) shards (λ q. find-changed q shards i low within (idle_find q ∙ sym (ap (λ (x : Shard). find nat_cmp q x.slots.entries) (any low))))

  module _ (from : old.first ≤ up.first) (to : (d : Shard) → i + 1 < length shards → up.first ≤ first_of (slice_index_or shards (i + 1) d))
      (lows : (q : ℕ) → lookup (eqb q) low.slots.entries ≡ cond (leb up.first q) None (lookup (eqb q) old.slots.entries))
      (ups : (q : ℕ) → lookup (eqb q) up.slots.entries ≡ cond (leb up.first q) (lookup (eqb q) old.slots.entries) None) where
    low_find : (q : ℕ) → find nat_cmp q low.slots.entries ≡ cond (leb up.first q) None (find nat_cmp q old.slots.entries)
    low_find q = sym (same_test q low.slots.entries) ∙ lows q ∙ ap (cond (leb up.first q) None) (same_test q old.slots.entries)

    up_find : (q : ℕ) → find nat_cmp q up.slots.entries ≡ cond (leb up.first q) (find nat_cmp q old.slots.entries) None
    up_find q = sym (same_test q up.slots.entries) ∙ ups q ∙ ap (λ o. cond (leb up.first q) o None) (same_test q old.slots.entries)

    low_has : (q : ℕ) → Has low q → Has old q × (q < up.first)
    low_has q has =
        by_test (leb up.first q)
        (λ t. absurd (true≢false (sym (subst IsSome (low_find q ∙ ap (λ b. cond b None (find nat_cmp q old.slots.entries)) t) has))))
        (λ f. (subst IsSome (low_find q ∙ ap (λ b. cond b None (find nat_cmp q old.slots.entries)) f) has, leb_false up.first q f))

    up_has : (q : ℕ) → Has up q → Has old q × (up.first ≤ q)
    up_has q has =
        by_test (leb up.first q)
        (λ t. (subst IsSome (up_find q ∙ ap (λ b. cond b (find nat_cmp q old.slots.entries) None) t) has, leb_true up.first q t))
        (λ f. absurd (true≢false (sym (subst IsSome (up_find q ∙ ap (λ b. cond b (find nat_cmp q old.slots.entries) None) f) has))))

    held_at : (d : Shard) (q : ℕ) → Has old q → Has (slice_index_or shards i d) q
    held_at d q has = subst (λ (x : Shard). Has x q) (sym (any d)) has

    pub split_in_place : InPlace (insert (slice_set shards i low) (i + 1) up)
    split_in_place =
        let size = length-set shards i low in
        inserted_in_place (slice_set shards i low) (i + 1) (omega (arith, size, within)) up
        (thinned_in_place shards ok i within old low at first (λ q has. (low_has q has).0))
        (λ q has. (up_has q has).1)
        (λ k d w.
        let rise = ok.rises k i d (omega (arith, w)) within in
        let here = ap first_of (any d) in
        let same = first_same k d in
        omega (arith, rise, here, same, from))
        (λ k d low_k inside.
        let next = to d (omega (arith, low_k, inside, size)) in
        let rise = ok.rises (i + 1) k d low_k (omega (arith, inside, size)) in
        let same = first_same k d in
        omega (arith, next, rise, same))
        (λ k d q w has.
        by_test (eqb k i)
        (λ t.
        let e : k ≡ i = grind (arith, t) in
        (low_has q (subst (λ (x : Shard). Has x q) (get_or-set_at shards i k low d e within) has)).1)
        (λ f.
        let apart : k ≡ i → ⊥ = (λ e. absurd (true≢false (sym (eqb_same k i e) ∙ f))) in
        let under = ok.below k i d q (by_place k i (λ v. v) (λ v. absurd (apart v)) (λ v. absurd (omega (arith, v, w)))) within (subst (λ (x : Shard). Has x q) (get_or-set_other shards i k low d apart) has) in
        let here = ap first_of (any d) in
        omega (arith, under, here, from)))
        (λ k d q low_k inside has.
        let under = ok.below i k d q (omega (arith, low_k)) (omega (arith, inside, size)) (held_at d q (up_has q has).0) in
        let same = first_same k d in
        omega (arith, under, same))

    pub split_same : from_entries {R = nat_cmp} (entries_of (insert (slice_set shards i low) (i + 1) up)) ≡ from_entries {R = nat_cmp} (entries_of shards)
    split_same =
        let next : i + 1 ≡ suc i = omega arith in
        same_slots (insert (slice_set shards i low) (i + 1) up) shards (λ q.
        ap (λ (n : ℕ). find nat_cmp q (entries_of (insert (slice_set shards i low) n up))) next
        ∙ find-split q shards i low up within
        ((λ j. or_find (low_find q j) (up_find q j)) ∙ joined (leb up.first q) (find nat_cmp q old.slots.entries) ∙ sym (ap (λ (x : Shard). find nat_cmp q x.slots.entries) (any low))))
