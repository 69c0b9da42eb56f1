-- What shards of slots have, before and after a change of one shard.
use Rattle.std.proofs.Common.{◌≡◌, ◌≢◌, ◌≤◌, ℕ, suc, zero, ◌+◌, ◌-◌, length, arith, ◌<◌, Bool, true, false, cond, leb, eqb, List, [], ◌∷◌, ◌++◌, slice_index_or, slice_set, ◌&&◌, Option, None, Some, IsSome, Ordering, Less, Equal, Greater, Result, Ok, Err, OnErr, refl, sym, ap, ◌∙◌, subst, nat_cmp, is_eq}
use Rattle.std.specs.Map.{lookup}
use Rattle.std.specs.Ordering.{MatchOrdering}
use Rattle.std.specs.List.Sorted.{IsPartitionPoint}
use Rattle.std.specs.FinMap.{find, get, from_entries, get-from_entries}
use Rattle.std.specs.Cmp.{nat_cmp_total}
use Rattle.std.proofs.lemmas.Cmp.{tied_itself, ranked}
use Rattle.std.proofs.lemmas.Bool.{true≢false}
use Rattle.std.proofs.lemmas.List.{get_or_default, get_or-set_same, get_or-set_other, length-set}
use Rattle.std.proofs.lemmas.Grind.{get_or-set_at}
use Rattle.chord_map.proofs.Equal.{eqb_same}
use Rattle.chord_map.proofs.Lists.{by_test}
use Rattle.chord_tree_store.specs.declared.slot.Slot.{Slot}
use Rattle.chord_tree_store.specs.declared.shard.Shard.{Shard}
use Rattle.chord_tree_store.specs.Shelf.{first_of, entries_of, or_find, Has, InPlace, IsHome}
use Rattle.chord_map.specs.declared.pair.Pair.{Pair}
use Rattle.chord_store.specs.declared.outcome.Inserted.{Inserted}
use Rattle.chord_store.specs.Store.{AddIs}
use Rattle.chord_tree_store.specs.Slot.{pairs_at}

pub same_number : (a b : ℕ) → is_eq (nat_cmp a b) ≡ true → a ≡ b
same_number a b e = by_rank (nat_cmp a b) (ranked a b (nat_cmp a b) refl) e
  where
    by_rank : (r : Ordering) → MatchOrdering r (a < b) (a ≡ b) (b < a) → is_eq r ≡ true → a ≡ b
    by_rank Less m t = absurd (true≢false (sym t))
    by_rank Equal m t = m
    by_rank Greater m t = absurd (true≢false (sym t))

or_none : {X : Type 0} (o : Option X) → or_find o None ≡ o
or_none (Some x) = refl
or_none None = refl

none_of : {X : Type 0} (o : Option X) → (IsSome o → ⊥) → o ≡ None
none_of (Some x) h = absurd (h refl)
none_of None h = refl

pub find-append : (q : ℕ) (es fs : List (ℕ × Slot)) → find nat_cmp q (es ++ fs) ≡ or_find (find nat_cmp q es) (find nat_cmp q fs)
find-append q [] fs = refl
find-append q (e ∷ es) fs = elim (is_eq (nat_cmp q e.0)) as (λ b. cond b (Some e.1) (find nat_cmp q (es ++ fs)) ≡ or_find (cond b (Some e.1) (find nat_cmp q es)) (find nat_cmp q fs)) [ true ↦ refl | false ↦ find-append q es fs ]

-- a look-up by a test of equality is a look-up by comparison
pub find_from_lookup : (test : ℕ → Bool) (q : ℕ) → ((k : ℕ) → test k ≡ is_eq (nat_cmp q k)) → (es : List (ℕ × Slot)) → lookup test es ≡ find nat_cmp q es
find_from_lookup test q same [] = refl
find_from_lookup test q same (e ∷ es) = λ i. cond (same e.0 i) (Some e.1) (find_from_lookup test q same es i)

pub find-nowhere : (q : ℕ) (d : Shard) (shards : List Shard) → ((j : ℕ) → j < length shards → find nat_cmp q (slice_index_or shards j d).slots.entries ≡ None) → find nat_cmp q (entries_of shards) ≡ None
find-nowhere q d [] none = refl
find-nowhere q d (s ∷ rest) none =
    find-append q s.slots.entries (entries_of rest)
    ∙ ap (λ o. or_find o (find nat_cmp q (entries_of rest))) (none 0 (omega arith))
    ∙ find-nowhere q d rest (λ j within. none (suc j) (omega (arith, within)))

-- an identifier that one shard alone may have
pub find-there : (q : ℕ) (d : Shard) (shards : List Shard) (i : ℕ) → i < length shards → ((j : ℕ) → j < length shards → j ≢ i → find nat_cmp q (slice_index_or shards j d).slots.entries ≡ None)
    → find nat_cmp q (entries_of shards) ≡ find nat_cmp q (slice_index_or shards i d).slots.entries
find-there q d [] i within none = absurd (omega (arith, within))
find-there q d (s ∷ rest) zero within none =
    find-append q s.slots.entries (entries_of rest)
    ∙ ap (or_find (find nat_cmp q s.slots.entries)) (find-nowhere q d rest (λ j w. none (suc j) (omega (arith, w)) (λ e. omega (arith, e))))
    ∙ or_none (find nat_cmp q s.slots.entries)
find-there q d (s ∷ rest) (suc i) within none =
    find-append q s.slots.entries (entries_of rest)
    ∙ ap (λ o. or_find o (find nat_cmp q (entries_of rest))) (none 0 (omega arith) (λ e. omega (arith, e)))
    ∙ find-there q d rest i (omega (arith, within)) (λ j w apart. none (suc j) (omega (arith, w)) (λ e. apart (omega (arith, e))))

abbrev pub IsBehind : List Shard → ℕ → ℕ → Type 0
IsBehind shards id place = IsPartitionPoint (λ s. leb (first_of s) id ≡ true) (λ s. leb (first_of s) id ≡ false) shards place

pub leb_true : (a b : ℕ) → leb a b ≡ true → a ≤ b
leb_true a b e = grind (arith, e)

pub leb_false : (a b : ℕ) → leb a b ≡ false → b < a
leb_false a b e = grind (arith, e)

-- no shard but the last that begins at the identifier or below it has the identifier
pub none_elsewhere : (shards : List Shard) → InPlace shards → (id place : ℕ) → place ≤ length shards → IsBehind shards id place → (d : Shard) (j : ℕ) → j < length shards → j + 1 ≢ place
    → find nat_cmp id (slice_index_or shards j d).slots.entries ≡ None
none_elsewhere shards ok id place bound behind d j within apart =
    none_of (find nat_cmp id (slice_index_or shards j d).slots.entries) (λ has.
    by_test (leb place j)
    (λ t.
    let low = ok.from j d id within has in
    let high = leb_false _ _ (behind.1 j d (leb_true place j t) within) in
    omega (arith, low, high))
    (λ f.
    let under : j < place = leb_false place j f in
    let high = ok.below j (place - 1) d id (omega (arith, under, λ (e : j + 1 ≡ place). apart e)) (omega (arith, under, bound)) has in
    let low = leb_true _ _ (behind.0 (place - 1) d (omega arith) (omega (arith, under))) in
    omega (arith, low, high)))

pub found_in : (shards : List Shard) → InPlace shards → (id place : ℕ) → place ≤ length shards → 0 < place → IsBehind shards id place → (d : Shard)
    → find nat_cmp id (entries_of shards) ≡ find nat_cmp id (slice_index_or shards (place - 1) d).slots.entries
found_in shards ok id place bound some behind d =
    find-there id d shards (place - 1) (omega (arith, some, bound)) (λ j within apart. none_elsewhere shards ok id place bound behind d j within (λ e. apart (omega (arith, e))))

pub found_nowhere : (shards : List Shard) → InPlace shards → (id place : ℕ) → place ≤ length shards → place ≡ 0 → IsBehind shards id place → (d : Shard) → find nat_cmp id (entries_of shards) ≡ None
found_nowhere shards ok id place bound none behind d =
    find-nowhere id d shards (λ j within. none_elsewhere shards ok id place bound behind d j within (λ e. omega (arith, e, none)))

-- with no shard at all there is none to stand for the others
pub empty_shelf : (shards : List Shard) → InPlace shards → (id place : ℕ) → place ≤ length shards → place ≡ 0 → IsBehind shards id place → find nat_cmp id (entries_of shards) ≡ None
empty_shelf [] ok id place bound none behind = refl
empty_shelf (s ∷ rest) ok id place bound none behind = found_nowhere (s ∷ rest) ok id place bound none behind s

pub eqb-cmp : (a b : ℕ) → eqb a b ≡ is_eq (nat_cmp a b)
eqb-cmp a b =
    by_test (is_eq (nat_cmp a b))
    (λ t. (let e = same_number a b t in grind (arith, e)) ∙ sym t)
    (λ f.
    by_test (eqb a b)
    (λ t.
    let e : a ≡ b = grind (arith, t) in
    absurd (true≢false (sym (ap is_eq (tied_itself nat_cmp_total a)) ∙ ap (λ (n : ℕ). is_eq (nat_cmp a n)) e ∙ f)))
    (λ d. d ∙ sym f))

-- what the shard that a search finds has at the identifier is what all have
pub found_get : (shards : List Shard) → InPlace shards → (id place : ℕ) → place ≤ length shards → 0 < place → IsBehind shards id place → (s : Shard) → s ≡ slice_index_or shards (place - 1) s
    → lookup (eqb id) s.slots.entries ≡ get (from_entries {R = nat_cmp} (entries_of shards)) id
found_get shards ok id place bound some behind s at =
    find_from_lookup (eqb id) id (eqb-cmp id) s.slots.entries
    ∙ ap (λ (x : Shard). find nat_cmp id x.slots.entries) at
    ∙ sym (found_in shards ok id place bound some behind s)
    ∙ sym (get-from_entries nat_cmp_total (entries_of shards) id)

-- a look-up at an identifier in all shards is a look-up by equality in its home
pub same_test : (q : ℕ) (es : List (ℕ × Slot)) → lookup (eqb q) es ≡ find nat_cmp q es
same_test q es = find_from_lookup (eqb q) q (eqb-cmp q) es

pub get_of : (shards : List Shard) (q : ℕ) → get (from_entries {R = nat_cmp} (entries_of shards)) q ≡ find nat_cmp q (entries_of shards)
get_of shards q = get-from_entries nat_cmp_total (entries_of shards) q

pub home_get : (shards : List Shard) → InPlace shards → (id i : ℕ) → IsHome shards id i → (s : Shard) → s ≡ slice_index_or shards i s → get (from_entries {R = nat_cmp} (entries_of shards)) id ≡ lookup (eqb id) s.slots.entries
home_get shards ok id i home s at =
    sym (found_get shards ok id (i + 1) (omega (arith, home.0)) (omega arith) home.1 s (at ∙ ap (λ (j : ℕ). slice_index_or shards j s) (omega arith)))

-- other entries of one shard
pub find-changed : (q : ℕ) (shards : List Shard) (i : ℕ) (s : Shard) → i < length shards → find nat_cmp q s.slots.entries ≡ find nat_cmp q (slice_index_or shards i s).slots.entries
    → find nat_cmp q (entries_of (slice_set shards i s)) ≡ find nat_cmp q (entries_of shards)
find-changed q [] i s within same = absurd (omega (arith, within))
find-changed q (t ∷ rest) zero s within same =
    find-append q s.slots.entries (entries_of rest) ∙ ap (λ o. or_find o (find nat_cmp q (entries_of rest))) same ∙ sym (find-append q t.slots.entries (entries_of rest))
find-changed q (t ∷ rest) (suc i) s within same =
    find-append q t.slots.entries (entries_of (slice_set rest i s)) ∙ ap (or_find (find nat_cmp q t.slots.entries)) (find-changed q rest i s (omega (arith, within)) same) ∙ sym (find-append q t.slots.entries (entries_of rest))

-- other shards after a change at an identifier, which had o there and now has o'
pub record Changed (old new : List Shard) (id : ℕ) (o o' : Option Slot) : Type 0 where
  pub in_place : InPlace new
  pub before : get (from_entries {R = nat_cmp} (entries_of old)) id ≡ o
  pub now : get (from_entries {R = nat_cmp} (entries_of new)) id ≡ o'
  pub others : (q : ℕ) → eqb id q ≡ false → get (from_entries {R = nat_cmp} (entries_of new)) q ≡ get (from_entries {R = nat_cmp} (entries_of old)) q

-- a change at an identifier in its home
module _ (shards : List Shard) (ok : InPlace shards) (id i : ℕ) (home : IsHome shards id i) (old new : Shard) (at : old ≡ slice_index_or shards i old) (first : new.first ≡ old.first)
    (others : (q : ℕ) → eqb id q ≡ false → lookup (eqb q) new.slots.entries ≡ lookup (eqb q) old.slots.entries) where
  after : List Shard
  after = slice_set shards i new

  at_any : (d : Shard) → slice_index_or shards i d ≡ old
  at_any d = get_or_default shards i d old home.0 ∙ sym at

  others_find : (q : ℕ) → eqb id q ≡ false → find nat_cmp q new.slots.entries ≡ find nat_cmp q old.slots.entries
  others_find q differ = sym (same_test q new.slots.entries) ∙ others q differ ∙ same_test q old.slots.entries

  first_same : (k : ℕ) (d : Shard) → first_of (slice_index_or (slice_set shards i new) k d) ≡ first_of (slice_index_or shards k d)
  first_same k d =
      by_test (eqb k i)
      (λ t. let e : k ≡ i = grind (arith, t) in
      ap first_of (get_or-set_at shards i k new d e home.0) ∙ first ∙ sym (ap first_of (ap (λ (n : ℕ). slice_index_or shards n d) e ∙ at_any d)))
      (λ f. ap first_of (get_or-set_other shards i k new d (λ e. absurd (true≢false (sym (eqb_same k i e) ∙ f)))))

  -- what the shard at a place has now it had before, or it is the one
  had : (k : ℕ) (d : Shard) (q : ℕ) → Has (slice_index_or (slice_set shards i new) k d) q → (q ≡ id → k ≡ i → ⊥) → Has (slice_index_or shards k d) q
  had k d q has apart =
      by_test (eqb k i)
      (λ t. let e : k ≡ i = grind (arith, t) in
      by_test (eqb id q)
      (λ s. absurd (apart (grind (arith, s)) e))
      (λ f.
      subst (λ (x : Shard). Has x q) (sym (ap (λ (n : ℕ). slice_index_or shards n d) e ∙ at_any d))
      (subst IsSome (others_find q f) (subst (λ (x : Shard). Has x q) (get_or-set_at shards i k new d e home.0) has))))
      (λ f. subst (λ (x : Shard). Has x q) (get_or-set_other shards i k new d (λ e. absurd (true≢false (sym (eqb_same k i e) ∙ f)))) has)

  still_in_place : InPlace (slice_set shards i new)
  still_in_place = record {
    rises = λ j k d le within. subst (λ (n : ℕ). n ≤ first_of (slice_index_or (slice_set shards i new) k d)) (sym (first_same j d)) (subst (λ (n : ℕ). first_of (slice_index_or shards j d) ≤ n) (sym (first_same k d))
        (ok.rises j k d le (subst (λ (n : ℕ). k < n) (length-set shards i new) within)));
    from = λ k d q within has.
        let inside = subst (λ (n : ℕ). k < n) (length-set shards i new) within in
        subst (λ (n : ℕ). n ≤ q) (sym (first_same k d))
        (by_test (eqb k i && eqb q id)
        (λ t.
        let e : k ≡ i = grind (arith, t) in
        let g : q ≡ id = grind (arith, t) in
        let low = leb_true _ _ (home.1.0 k d (omega arith) (omega (arith, e))) in
        omega (arith, low, g))
        (λ f. ok.from k d q inside (had k d q has (λ g e. absurd (true≢false (sym (both k i q id e g) ∙ f))))));
    below = λ j k d q less within has.
        let inside = subst (λ (n : ℕ). k < n) (length-set shards i new) within in
        subst (λ (n : ℕ). q < n) (sym (first_same k d))
        (by_test (eqb j i && eqb q id)
        (λ t.
        let e : j ≡ i = grind (arith, t) in
        let g : q ≡ id = grind (arith, t) in
        let high = leb_false _ _ (home.1.1 k d (omega (arith, e, less)) inside) in
        omega (arith, high, g))
        (λ f. ok.below j k d q less inside (had j d q has (λ g e. absurd (true≢false (sym (both j i q id e g) ∙ f))))));
  }
    where
      both : (a b x y : ℕ) → a ≡ b → x ≡ y → (eqb a b && eqb x y) ≡ true
      both a b x y e g = (λ n. eqb_same a b e n && eqb_same x y g n)

  still_home : IsHome (slice_set shards i new) id i
  still_home = (
    subst (λ (n : ℕ). i < n) (sym (length-set shards i new)) home.0,
    (
      λ k d low high. ap (λ (n : ℕ). leb n id) (first_same k d) ∙ home.1.0 k d low high,
      λ k d low high. ap (λ (n : ℕ). leb n id) (first_same k d) ∙ home.1.1 k d low (subst (λ (n : ℕ). k < n) (length-set shards i new) high),
    ),
  )

  here_before : get (from_entries {R = nat_cmp} (entries_of shards)) id ≡ lookup (eqb id) old.slots.entries
  here_before = home_get shards ok id i home old at

  here_after : get (from_entries {R = nat_cmp} (entries_of (slice_set shards i new))) id ≡ lookup (eqb id) new.slots.entries
  here_after = home_get (slice_set shards i new) still_in_place id i still_home new (sym (get_or-set_same shards i new new home.0))

  others_after : (q : ℕ) → eqb id q ≡ false → get (from_entries {R = nat_cmp} (entries_of (slice_set shards i new))) q ≡ get (from_entries {R = nat_cmp} (entries_of shards)) q
  others_after q differ =
      get_of (slice_set shards i new) q
      ∙ find-changed q shards i new home.0 (others_find q differ ∙ sym (ap (λ (x : Shard). find nat_cmp q x.slots.entries) (at_any new)))
      ∙ sym (get_of shards q)

  pub changed : Changed shards (slice_set shards i new) id (lookup (eqb id) old.slots.entries) (lookup (eqb id) new.slots.entries)
  changed = record { in_place = still_in_place; before = here_before; now = here_after; others = others_after }

-- where no shard begins so low, none has the identifier
pub no_home : (shards : List Shard) → InPlace shards → (id place : ℕ) → place ≤ length shards → place ≡ 0 → IsBehind shards id place → get (from_entries {R = nat_cmp} (entries_of shards)) id ≡ None
no_home shards ok id place bound none behind = get_of shards id ∙ empty_shelf shards ok id place bound none behind

pub adds_moved : {E : Type 0} (pair : Pair) (o p o' p' : Option Slot) (r : Result Inserted E) → o ≡ p → o' ≡ p' → AddIs pair (pairs_at p) r (pairs_at p') → AddIs pair (pairs_at o) r (pairs_at o')
adds_moved pair o p o' p' r e e' is = subst (λ x. AddIs pair (pairs_at x) r (pairs_at o')) (sym e) (subst (λ x. AddIs pair (pairs_at p) r (pairs_at x)) (sym e') is)

pub on_err : {T E P : Type 0} (r : Result T E) → P → OnErr r P
on_err (Ok v) p = tt
on_err (Err e) p = p

pub home_from : (shards : List Shard) (id place : ℕ) → place ≤ length shards → 0 < place → IsBehind shards id place → IsHome shards id (place - 1)
home_from shards id place bound some behind = (omega (arith, bound, some), subst (IsBehind shards id) (omega (arith, some)) behind)

-- a shard with fewer identifiers
pub thinned_in_place : (shards : List Shard) → InPlace shards → (i : ℕ) → i < length shards → (old new : Shard) → old ≡ slice_index_or shards i old → new.first ≡ old.first → ((q : ℕ) → Has new q → Has old q) → InPlace (slice_set shards i new)
thinned_in_place shards ok i within old new at first fewer = record {
  rises = λ j k d le inside. subst (λ (n : ℕ). n ≤ first_of (slice_index_or (slice_set shards i new) k d)) (sym (same j d)) (subst (λ (n : ℕ). first_of (slice_index_or shards j d) ≤ n) (sym (same k d))
      (ok.rises j k d le (subst (λ (n : ℕ). k < n) (length-set shards i new) inside)));
  from = λ k d q inside has. subst (λ (n : ℕ). n ≤ q) (sym (same k d)) (ok.from k d q (subst (λ (n : ℕ). k < n) (length-set shards i new) inside) (had k d q has));
  below = λ j k d q less inside has. subst (λ (n : ℕ). q < n) (sym (same k d)) (ok.below j k d q less (subst (λ (n : ℕ). k < n) (length-set shards i new) inside) (had j d q has));
}
  where
    any : (d : Shard) → slice_index_or shards i d ≡ old
    any d = get_or_default shards i d old within ∙ sym at

    same : (k : ℕ) (d : Shard) → first_of (slice_index_or (slice_set shards i new) k d) ≡ first_of (slice_index_or shards k d)
    same k d =
        by_test (eqb k i)
        (λ t. let e : k ≡ i = grind (arith, t) in
        ap first_of (get_or-set_at shards i k new d e within) ∙ first ∙ sym (ap first_of (ap (λ (n : ℕ). slice_index_or shards n d) e ∙ any d)))
        (λ f. ap first_of (get_or-set_other shards i k new d (λ e. absurd (true≢false (sym (eqb_same k i e) ∙ f)))))

    had : (k : ℕ) (d : Shard) (q : ℕ) → Has (slice_index_or (slice_set shards i new) k d) q → Has (slice_index_or shards k d) q
    had k d q has =
        by_test (eqb k i)
        (λ t. let e : k ≡ i = grind (arith, t) in
        subst (λ (x : Shard). Has x q) (sym (ap (λ (n : ℕ). slice_index_or shards n d) e ∙ any d)) (fewer q (subst (λ (x : Shard). Has x q) (get_or-set_at shards i k new d e within) has)))
        (λ f. subst (λ (x : Shard). Has x q) (get_or-set_other shards i k new d (λ e. absurd (true≢false (sym (eqb_same k i e) ∙ f)))) has)
