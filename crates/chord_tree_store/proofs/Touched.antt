-- Shards that a span touches, and what is left after the span's slots were dropped.
use Rattle.std.proofs.Common.{◌≡◌, ◌≤◌, ◌<◌, ◌+◌, ◌-◌, ◌%◌, ◌^◌, ℕ, zero, suc, Bool, true, false, cond, not, eqb, leb, List, [], ◌∷◌, ◌++◌, length, take, slice_index_or, slice_set, Option, None, Some, IsSome, ⊎_elim, refl, sym, ap, ◌∙◌, subst, arith, inl, inr, nat_cmp, is_eq}
use Rattle.std.specs.Cmp.{nat_cmp_total}
use Rattle.std.specs.FinMap.{get, find}
use Rattle.std.specs.List.{IsDistinct}
use Rattle.std.specs.Map.{keys_of}
use Rattle.std.proofs.lemmas.Bool.{true≢false}
use Rattle.std.proofs.lemmas.Cmp.{tied_itself}
use Rattle.std.proofs.lemmas.List.{get_or_default, get_or-set_other, length-set}
use Rattle.std.proofs.lemmas.Grind.{get_or-set_at}
use Rattle.chord_ident.specs.Circle.{in_span, walk, Meet}
use Rattle.chord_ident.specs.declared.span.Span.{Span}
use Rattle.chord_ident.proofs.Spans.{in_span_is}
use Rattle.chord_ident.proofs.Walks.{walk-goes}
use Rattle.chord_map.proofs.Equal.{eqb_same, eqb_is, eqb_other}
use Rattle.chord_map.proofs.Lists.{by_test, by_option, has_cases}
use Rattle.chord_map.proofs.Lists as lists
use Rattle.chord_tree_store.specs.declared.slot.Slot.{Slot}
use Rattle.chord_tree_store.specs.declared.shard.Shard.{Shard}
use Rattle.chord_tree_store.specs.Shelf.{first_of, entries_of, or_find, Has, InPlace, slots_of}
use Rattle.chord_tree_store.specs.Slots.{ArePlaced, entries_inside, entries_outside}
use Rattle.chord_tree_store.proofs.Gathered.{distinct-append, entries-more}
use Rattle.chord_tree_store.proofs.Shelving.{same_number, find-append, find-changed, find-nowhere, get_of, leb_true, leb_false, thinned_in_place}

-- the identifiers of a shard

find_behind : (b : Bool) (s : Slot) (o : Option Slot) → IsSome o → IsSome (cond b (Some s) o)
find_behind true s o has = refl
find_behind false s o has = has

pub has_entry : (es : List (ℕ × Slot)) (e : ℕ × Slot) → lists.Has es e → IsSome (find nat_cmp e.0 es)
has_entry [] e h = absurd h
has_entry (x ∷ es) e (inl same) =
    subst (λ (k : ℕ). IsSome (cond (is_eq (nat_cmp k x.0)) (Some x.1) (find nat_cmp k es))) (ap (λ (y : ℕ × Slot). y.0) same)
    (subst (λ b. IsSome (cond b (Some x.1) (find nat_cmp x.0 es))) (sym (ap is_eq (tied_itself nat_cmp_total x.0))) refl)
has_entry (x ∷ es) e (inr h) = find_behind (is_eq (nat_cmp e.0 x.0)) x.1 (find nat_cmp e.0 es) (has_entry es e h)

or_left : (a b : Option Slot) → IsSome a → IsSome (or_find a b)
or_left (Some s) b has = refl
or_left None b has = absurd (true≢false (sym has))

or_right : (a b : Option Slot) → IsSome b → IsSome (or_find a b)
or_right (Some s) b has = refl
or_right None b has = has

somewhere : (shards : List Shard) (i : ℕ) (d : Shard) (q : ℕ) → i < length shards → Has (slice_index_or shards i d) q → IsSome (find nat_cmp q (entries_of shards))
somewhere [] i d q within has = absurd (omega (arith, within))
somewhere (s ∷ rest) zero d q within has = subst IsSome (sym (find-append q s.slots.entries (entries_of rest))) (or_left (find nat_cmp q s.slots.entries) (find nat_cmp q (entries_of rest)) has)
somewhere (s ∷ rest) (suc i) d q within has =
    subst IsSome (sym (find-append q s.slots.entries (entries_of rest)))
    (or_right (find nat_cmp q s.slots.entries) (find nat_cmp q (entries_of rest)) (somewhere rest i d q (omega (arith, within)) has))

by_some : {P : Type 0} (o : Option Slot) → IsSome o → ((s : Slot) → o ≡ Some s → P) → P
by_some (Some s) has then = then s refl
by_some None has then = absurd (true≢false (sym has))

small : (shards : List Shard) → ArePlaced (slots_of shards) → (i : ℕ) (d : Shard) (q : ℕ) → i < length shards → Has (slice_index_or shards i d) q → q < 2 ^ 128
small shards placed i d q within has =
    by_some (get (slots_of shards) q) (subst IsSome (sym (get_of shards q)) (somewhere shards i d q within has))
    (λ s held. (placed q s held).small)

filter_none : (span : Span) (es : List (ℕ × Slot)) → ((e : ℕ × Slot) → lists.Has es e → in_span span e.0 ≡ false) → entries_inside span es ≡ []
filter_none span [] apart = refl
filter_none span (x ∷ es) apart = ap (λ b. cond b (x ∷ entries_inside span es) (entries_inside span es)) (apart x (inl refl)) ∙ filter_none span es (λ e h. apart e (inr h))

-- walking from just before the first identifier one comes to each up to the end before the end
reaches : (first a id end : ℕ) → a ≡ (first + (2 ^ 128 - 1)) % 2 ^ 128 → first ≤ id → id ≤ end → end < 2 ^ 128 → walk a id ≤ walk a end
reaches first a id end is low high small =
    let a_in : a < 2 ^ 128 = omega (arith, is) in
    let to_id = walk-goes a id a_in (omega (arith, high, small)) in
    let to_end = walk-goes a end a_in small in
    omega (arith, is, low, high, small, to_id, to_end)

-- a shard whose range the span does not meet has no identifier in it
pub untouched : (span : Span) (shards : List Shard) → InPlace shards → ArePlaced (slots_of shards) → (place : ℕ) (d : Shard) → place < length shards → (a end : ℕ)
    → a ≡ (first_of (slice_index_or shards place d) + (2 ^ 128 - 1)) % 2 ^ 128 → (place + 1 < length shards → end ≡ first_of (slice_index_or shards (place + 1) d)) → (length shards ≤ place + 1 → end ≡ 2 ^ 128 - 1) → end < 2 ^ 128
    → (Meet a end span.after.number span.upto.number → ⊥) → entries_inside span (slice_index_or shards place d).slots.entries ≡ []
untouched span shards ok placed place d within a end is next last end_in apart =
    filter_none span (slice_index_or shards place d).slots.entries (λ e h.
    let has = has_entry (slice_index_or shards place d).slots.entries e h in
    let low = ok.from place d e.0 within has in
    let inside = small shards placed place d e.0 within has in
    let high : e.0 ≤ end = by_test (leb (place + 2) (length shards))
    (λ t. let more : place + 1 < length shards = grind (arith, t) in let under = ok.below place (place + 1) d e.0 (omega arith) more has in let ends = next more in omega (arith, under, ends))
    (λ f. let final : length shards ≤ place + 1 = grind (arith, f) in let ends = last final in omega (arith, ends, inside)) in
    by_test (in_span span e.0)
    (λ t. absurd (apart (e.0, inside, reaches (first_of (slice_index_or shards place d)) a e.0 end is low high end_in, (in_span_is span e.0).0 t)))
    (λ f. f))

-- the identifiers of the first shards are not in the next

has_key : (es : List (ℕ × Slot)) (k : ℕ) → lists.Has (keys_of es) k → IsSome (find nat_cmp k es)
has_key [] k h = absurd h
has_key (x ∷ es) k (inl same) =
    subst (λ (n : ℕ). IsSome (cond (is_eq (nat_cmp n x.0)) (Some x.1) (find nat_cmp n es))) same
    (subst (λ b. IsSome (cond b (Some x.1) (find nat_cmp x.0 es))) (sym (ap is_eq (tied_itself nat_cmp_total x.0))) refl)
has_key (x ∷ es) k (inr h) = find_behind (is_eq (nat_cmp k x.0)) x.1 (find nat_cmp k es) (has_key es k h)

keys-append : (xs ys : List (ℕ × Slot)) → keys_of (xs ++ ys) ≡ keys_of xs ++ keys_of ys
keys-append [] ys = refl
keys-append (x ∷ xs) ys = ap (λ (ks : List ℕ). x.0 ∷ ks) (keys-append xs ys)

in_front : (shards : List Shard) (i : ℕ) (d : Shard) (k : ℕ) → i ≤ length shards → lists.Has (keys_of (entries_of (take i shards))) k → (j : ℕ) × (j < i) × Has (slice_index_or shards j d) k
in_front [] zero d k bound h = absurd h
in_front [] (suc i) d k bound h = absurd h
in_front (s ∷ rest) zero d k bound h = absurd h
in_front (s ∷ rest) (suc i) d k bound h =
    ⊎_elim
    (λ here. (0, omega arith, has_key s.slots.entries k here))
    (λ more. let r = in_front rest i d k (omega (arith, bound)) more in (suc r.0, omega (arith, r.1), r.2))
    (has_cases (keys_of s.slots.entries) (keys_of (entries_of (take i rest))) k (subst (λ (ks : List ℕ). lists.Has ks k) (keys-append s.slots.entries (entries_of (take i rest))) h))

pub distinct-more : (shards : List Shard) → InPlace shards → (i : ℕ) (d : Shard) → i < length shards → IsDistinct eqb (keys_of (entries_of (take i shards))) → IsDistinct eqb (keys_of (slice_index_or shards i d).slots.entries)
    → IsDistinct eqb (keys_of (entries_of (take (i + 1) shards)))
distinct-more shards ok i d within front own =
    subst (λ (es : List (ℕ × Slot)). IsDistinct eqb (keys_of es)) (sym (entries-more shards i d within))
    (subst (IsDistinct eqb) (sym (keys-append (entries_of (take i shards)) (slice_index_or shards i d).slots.entries))
    (distinct-append eqb (keys_of (entries_of (take i shards))) (keys_of (slice_index_or shards i d).slots.entries) front own (λ x y hx hy.
    let r = in_front shards i d x (omega (arith, within)) hx in
    let low = ok.below r.0 i d x r.1 within r.2 in
    let high = ok.from i d y within (has_key (slice_index_or shards i d).slots.entries y hy) in
    eqb_other x y (λ e. omega (arith, low, high, e)))))

-- one shard without the span's slots

pub find-outside : (span : Span) (q : ℕ) (es : List (ℕ × Slot)) → find nat_cmp q (entries_outside span es) ≡ cond (in_span span q) None (find nat_cmp q es)
find-outside span q [] = elim (in_span span q) as (λ b. ◌≡◌ {A = Option Slot} None (cond b None None)) [ true ↦ refl | false ↦ refl ]
find-outside span q (e ∷ es) =
    by_test (is_eq (nat_cmp q e.0))
    (λ t.
    let same = same_number q e.0 t in
    by_test (in_span span q)
    (λ i.
    ap (λ b. find nat_cmp q (cond (not b) (e ∷ entries_outside span es) (entries_outside span es))) (ap (in_span span) (sym same) ∙ i)
    ∙ find-outside span q es ∙ ap (λ b. cond b None (find nat_cmp q es)) i
    ∙ ap (λ b. cond b None (find nat_cmp q (e ∷ es))) (sym i))
    (λ o.
    ap (λ b. find nat_cmp q (cond (not b) (e ∷ entries_outside span es) (entries_outside span es))) (ap (in_span span) (sym same) ∙ o)
    ∙ ap (λ b. cond b (Some e.1) (find nat_cmp q (entries_outside span es))) t
    ∙ ap (λ b. cond b (Some e.1) (find nat_cmp q es)) (sym t)
    ∙ ap (λ b. cond b None (find nat_cmp q (e ∷ es))) (sym o)))
    (λ f.
    (elim (in_span span e.0) as (λ b. find nat_cmp q (cond (not b) (e ∷ entries_outside span es) (entries_outside span es)) ≡ find nat_cmp q (entries_outside span es)) [
      | true ↦ refl
      | false ↦ ap (λ b. cond b (Some e.1) (find nat_cmp q (entries_outside span es))) f
    ])
    ∙ find-outside span q es
    ∙ ap (λ o. cond (in_span span q) None o) (ap (λ b. cond b (Some e.1) (find nat_cmp q es)) (sym f)))

pub find_none_inside : (span : Span) (q : ℕ) (es : List (ℕ × Slot)) → entries_inside span es ≡ [] → in_span span q ≡ true → find nat_cmp q es ≡ None
find_none_inside span q [] none inside = refl
find_none_inside span q (e ∷ es) none inside =
    by_test (in_span span e.0)
    (λ t. let some : e ∷ entries_inside span es ≡ [] = sym (ap (λ b. cond b (e ∷ entries_inside span es) (entries_inside span es)) t) ∙ none in absurd (cc))
    (λ f.
    ap (λ b. cond b (Some e.1) (find nat_cmp q es))
    (by_test (is_eq (nat_cmp q e.0)) (λ t. absurd (true≢false (sym inside ∙ ap (in_span span) (same_number q e.0 t) ∙ f))) (λ g. g))
    ∙ find_none_inside span q es (sym (ap (λ b. cond b (e ∷ entries_inside span es) (entries_inside span es)) f) ∙ none) inside)

-- what is left while the shards are gone through
pub record IsLeft (span : Span) (old new : List Shard) (place : ℕ) : Type 0 where
  pub in_place : InPlace new
  pub long : length new ≡ length old
  pub less : (q : ℕ) (s : Slot) → get (slots_of new) q ≡ Some s → get (slots_of old) q ≡ Some s
  pub kept : (q : ℕ) → in_span span q ≡ false → get (slots_of new) q ≡ get (slots_of old) q
  pub gone : (k : ℕ) (d : Shard) (q : ℕ) → k < place → k < length new → in_span span q ≡ true → find nat_cmp q (slice_index_or new k d).slots.entries ≡ None

pub left_start : (span : Span) (shards : List Shard) → InPlace shards → IsLeft span shards shards 0
left_start span shards ok = record {
  in_place = ok;
  long = refl;
  less = λ q s held. held;
  kept = λ q out. refl;
  gone = λ k d q less within inside. absurd (omega (arith, less));
}

pub left_placed : (span : Span) (old new : List Shard) (place : ℕ) → IsLeft span old new place → ArePlaced (slots_of old) → ArePlaced (slots_of new)
left_placed span old new place left placed q s held = placed q s (left.less q s held)

pub left_idle : (span : Span) (old new : List Shard) (place : ℕ) → IsLeft span old new place → ((d : Shard) → entries_inside span (slice_index_or new place d).slots.entries ≡ []) → IsLeft span old new (place + 1)
left_idle span old new place left none = record {
  in_place = left.in_place;
  long = left.long;
  less = left.less;
  kept = left.kept;
  gone = λ k d q less within inside.
      by_test (eqb k place)
      (λ t. find_none_inside span q (slice_index_or new k d).slots.entries (ap (λ (n : ℕ). entries_inside span (slice_index_or new n d).slots.entries) (eqb_is k place t) ∙ none d) inside)
      (λ f. left.gone k d q (omega (arith, less, λ (e : k ≡ place). true≢false (sym (eqb_same k place e) ∙ f))) within inside);
}

none_left : (b : Bool) (o : Option Slot) → IsSome (cond b None o) → IsSome o
none_left true o has = absurd (true≢false (sym has))
none_left false o has = has

none_of : (o : Option Slot) → (IsSome o → ⊥) → o ≡ None
none_of None without = refl
none_of (Some s) without = absurd (without refl)

-- an identifier is in one shard alone
alone : (shards : List Shard) → InPlace shards → (i : ℕ) (d : Shard) (q : ℕ) → i < length shards → Has (slice_index_or shards i d) q → (j : ℕ) → j < length shards → (j ≡ i → ⊥) → find nat_cmp q (slice_index_or shards j d).slots.entries ≡ None
alone shards ok i d q within has j inside apart =
    none_of (find nat_cmp q (slice_index_or shards j d).slots.entries) (λ other.
    by_test (leb j i)
    (λ t.
    let before : j < i = omega (arith, leb_true j i t, λ (e : j ≡ i). apart e) in
    let high = ok.below j i d q before within other in
    let low = ok.from i d q within has in
    omega (arith, low, high))
    (λ f.
    let behind : i < j = leb_false j i f in
    let high = ok.below i j d q behind inside has in
    let low = ok.from j d q inside other in
    omega (arith, low, high)))

module _ (span : Span) (old new : List Shard) (place : ℕ) (left : IsLeft span old new place) (within : place < length new)
    (shard thin : Shard) (at : shard ≡ slice_index_or new place shard) (first : thin.first ≡ shard.first) (outside : thin.slots.entries ≡ entries_outside span shard.slots.entries) where
  any : (d : Shard) → slice_index_or new place d ≡ shard
  any d = get_or_default new place d shard within ∙ sym at

  thin_find : (q : ℕ) → find nat_cmp q thin.slots.entries ≡ cond (in_span span q) None (find nat_cmp q shard.slots.entries)
  thin_find q = ap (find nat_cmp q) outside ∙ find-outside span q shard.slots.entries

  others : (k : ℕ) (d : Shard) → (k ≡ place → ⊥) → slice_index_or (slice_set new place thin) k d ≡ slice_index_or new k d
  others k d apart = get_or-set_other new place k thin d apart

  own : (k : ℕ) (d : Shard) → k ≡ place → slice_index_or (slice_set new place thin) k d ≡ thin
  own k d is = get_or-set_at new place k thin d is within

  same_find : (q : ℕ) → find nat_cmp q thin.slots.entries ≡ find nat_cmp q shard.slots.entries → find nat_cmp q (entries_of (slice_set new place thin)) ≡ find nat_cmp q (entries_of new)
  same_find q same = find-changed q new place thin within (same ∙ sym (ap (λ (x : Shard). find nat_cmp q x.slots.entries) (any thin)))

  dropped : (q : ℕ) → in_span span q ≡ true → Has shard q → find nat_cmp q (entries_of (slice_set new place thin)) ≡ None
  dropped q inside has =
      find-nowhere q thin (slice_set new place thin) (λ j w.
      by_test (eqb j place)
      (λ t. ap (λ (x : Shard). find nat_cmp q x.slots.entries) (own j thin (eqb_is j place t)) ∙ thin_find q ∙ ap (λ b. cond b None (find nat_cmp q shard.slots.entries)) inside)
      (λ f.
      let apart : j ≡ place → ⊥ = λ e. true≢false (sym (eqb_same j place e) ∙ f) in
      ap (λ (x : Shard). find nat_cmp q x.slots.entries) (others j thin apart)
      ∙ alone new left.in_place place thin q within (subst (λ (x : Shard). Has x q) (sym (any thin)) has) j (subst (λ (n : ℕ). j < n) (length-set new place thin) w) apart))

  less_step : (q : ℕ) (s : Slot) → find nat_cmp q (entries_of (slice_set new place thin)) ≡ Some s → find nat_cmp q (entries_of new) ≡ Some s
  less_step q s held =
      by_test (in_span span q)
      (λ t.
      by_option (find nat_cmp q shard.slots.entries)
      (λ none. sym (same_find q (thin_find q ∙ ap (λ b. cond b None (find nat_cmp q shard.slots.entries)) t ∙ sym none)) ∙ held)
      (λ x some. absurd (true≢false (sym (subst IsSome (sym (sym (dropped q t (subst IsSome (sym some) refl)) ∙ held)) refl)))))
      (λ f. sym (same_find q (thin_find q ∙ ap (λ b. cond b None (find nat_cmp q shard.slots.entries)) f)) ∙ held)

  pub left_dropped : IsLeft span old (slice_set new place thin) (place + 1)
  left_dropped = record {
    in_place = thinned_in_place new left.in_place place within shard thin at first (λ q has. none_left (in_span span q) (find nat_cmp q shard.slots.entries) (subst IsSome (thin_find q) has));
    long = length-set new place thin ∙ left.long;
    less = λ q s held. left.less q s (get_of new q ∙ less_step q s (sym (get_of (slice_set new place thin) q) ∙ held));
    kept = λ q out.
        get_of (slice_set new place thin) q
        ∙ same_find q (thin_find q ∙ ap (λ b. cond b None (find nat_cmp q shard.slots.entries)) out)
        ∙ sym (get_of new q) ∙ left.kept q out;
    gone = λ k d q less inside in_it.
        by_test (eqb k place)
        (λ t. ap (λ (x : Shard). find nat_cmp q x.slots.entries) (own k d (eqb_is k place t)) ∙ thin_find q ∙ ap (λ b. cond b None (find nat_cmp q shard.slots.entries)) in_it)
        (λ f.
        let apart : k ≡ place → ⊥ = λ e. true≢false (sym (eqb_same k place e) ∙ f) in
        ap (λ (x : Shard). find nat_cmp q x.slots.entries) (others k d apart)
        ∙ left.gone k d q (omega (arith, less, λ (e : k ≡ place). apart e)) (subst (λ (n : ℕ). k < n) (length-set new place thin) inside) in_it);
  }

nowhere_all : (q : ℕ) (shards : List Shard) → ((k : ℕ) (d : Shard) → k < length shards → find nat_cmp q (slice_index_or shards k d).slots.entries ≡ None) → find nat_cmp q (entries_of shards) ≡ None
nowhere_all q [] none = refl
nowhere_all q (s ∷ rest) none = find-nowhere q s (s ∷ rest) (λ j w. none j s w)

-- after all shards
pub left_all : (span : Span) (old new : List Shard) (place : ℕ) → IsLeft span old new place → length new ≤ place → (q : ℕ) → get (slots_of new) q ≡ cond (in_span span q) None (get (slots_of old) q)
left_all span old new place left all q =
    by_test (in_span span q)
    (λ t. get_of new q ∙ nowhere_all q new (λ k d w. left.gone k d q (omega (arith, w, all)) w t) ∙ ap (λ b. cond b None (get (slots_of old) q)) (sym t))
    (λ f. left.kept q f ∙ ap (λ b. cond b None (get (slots_of old) q)) (sym f))
